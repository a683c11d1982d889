-- The numbers are those of the definitions.
use native.Mathlib.Omega.{arith}
use Rattle.halls.specs.Fronts.{held_at}
use Rattle.halls.proofs.format.front.shape_of.Goals as goal

pub returns : goal.returns
unfolding held_at
returns c =
    let content = c.content_of-content.ensures in
    record { content-is = content.0; held-is = rw (c.saturating_sub.ensures, c.u32_le.ensures, content.0); small = content.1; few = omega arith }
