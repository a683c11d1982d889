-- `with_sign`: the sign moves down, and the bits below it are `encoded`.
use mathlib.Core.Path.{sym}
use Prim.Native.Nat.{◌%◌}
use native.Mathlib.Omega.{arith}
use Rattle.vertices.proofs.HalfEncode.{encoded-fits, f32_is}
use Rattle.vertices.proofs.halves.with_sign.Goals as goal

pub overflow_add-result : goal.overflow_add-result
overflow_add-result c = omega (arith, c.requires, encoded-fits (c.args.bits % 2147483648))

pub overflow_cast-result : goal.overflow_cast-result
overflow_cast-result c = omega (arith, c.requires, encoded-fits (c.args.bits % 2147483648))

pub returns : goal.returns
returns c = f32_is c.args.bits _ (sym c.requires)
