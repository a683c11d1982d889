-- The indices passed stand in the list, one more a turn.
use mathlib.Core.Path.{◌∙◌}
use Rattle.halls.proofs.read.Widening.{Widening-start, Widening-one}
use Rattle.halls.proofs.read.widen.put_widened.Goals as goal

pub loop-i-init : goal.loop-i-init
loop-i-init c = Widening-start _ _ _ _ c.requires

pub loop-i-preserved : goal.loop-i-preserved
loop-i-preserved c =
    let w = c.loop-i.invariant in
    Widening-one w c.loop-i-test.true (c.from.ensures ∙ c.u16_at.ensures) c.set_u32.ensures
