-- The indices passed stand in the list, two more a turn.
use native.Mathlib.Omega.{arith}
use Rattle.images.proofs.NarrowLaws.{Narrowing-start, pairs_turn}
use Rattle.images.proofs.indices.put_pairs.Goals as goal

pub loop-i-init : goal.loop-i-init
loop-i-init c = let p = c.requires in Narrowing-start _ _ _ _ (omega (arith, p.0)) (omega (arith, p.1))

pub loop-i-preserved : goal.loop-i-preserved
loop-i-preserved c = pairs_turn c.loop-i.invariant c.loop-i-test.true c.u32_at-first.ensures c.u32_at-second.ensures c.low_halves.ensures c.set_u32.ensures
