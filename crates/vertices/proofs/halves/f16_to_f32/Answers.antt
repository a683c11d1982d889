-- `f16_to_f32`: the sign moves up, and the bits below it are `decoded`.
use mathlib.Core.Path.{sym, ap, ◌∙◌}
use Prim.Native.Nat.{◌%◌}
use native.Mathlib.Omega.{arith}
use Rattle.vertices.specs.Half.{f16_to_f32}
use Rattle.vertices.proofs.HalfDecode.{decoded-fits, f16_is}
use Rattle.vertices.proofs.halves.f16_to_f32.Goals as goal

pub overflow_add-result : goal.overflow_add-result
overflow_add-result c = omega (arith, c.float_below_sign.ensures, decoded-fits (c.from-bits.result % 32768) (omega arith))

pub returns : goal.returns
returns c = f16_is c.from-bits.result _ (sym c.float_below_sign.ensures) ∙ ap f16_to_f32 c.from-bits.ensures
