-- The number of two bytes is the first and 256 times the second.
use Prim.Native.Nat.{◌+◌}
use native.Mathlib.Omega.{arith}
use Rattle.sections.proofs.LeLaws.{le-add, le-one}
use Rattle.halls.proofs.format.fields.u16_at.Goals as goal

pub returns : goal.returns
returns c =
    let s = c.args.b.now in
    let off = c.args.off in
    omega (arith, le-add 1 1 s off (omega arith), le-one s off (omega arith), le-one s (off + 1) (omega arith))
