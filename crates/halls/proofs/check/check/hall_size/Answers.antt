-- The walk's counts are those of a sound hall; what they come to is below the limit.
use Rattle.std.specs.Prelude.{Err}
use borrow.Author.Rules.{rules}
use mathlib.Core.Path.{◌≡◌, ◌∙◌}
use Prim.Native.Nat.{◌+◌, ◌*◌, ◌/◌, ◌≤◌}
use native.Mathlib.Omega.{arith}
use Rattle.halls.proofs.check.HallSizeLaws.{size-fails, size_low, size-sound}
use Rattle.halls.proofs.check.ToldLaws.{where-sound, where-fails}
use Rattle.halls.proofs.check.check.hall_size.Goals as goal
use Rattle.halls.proofs.check.check.hall_size.Goals.{In_ok-found}

pub returns-in_err-found : goal.returns-in_err-found
returns-in_err-found c =
    let answer : c.from_residual.result ≡ Err c.in_err-found.field-0.0 = search rules in
    answer ∙ size-fails _ _ (where-fails _ c.examine_first.ensures c.in_err-found.was)

low : (c : In_ok-found) → let r = c.in_ok-found.found in 16 * (1 + (r.models + 1) / 2 + r.units) ≤ 67108864
low c =
    let w = where-sound _ c.examine_first.ensures c.in_ok-found.was in
    size_low _ _ _ w.0 w.1 (λ i. (c.type_inv.hall i).fits)

pub overflow_add-result : goal.overflow_add-result
overflow_add-result c = omega (arith, low (goal.at.overflow_add-result c).In_ok-found)

pub overflow_add-result-2 : goal.overflow_add-result-2
overflow_add-result-2 c = omega (arith, low (goal.at.overflow_add-result-2 c).In_ok-found)

pub overflow_mul-result : goal.overflow_mul-result
overflow_mul-result c = omega (arith, low (goal.at.overflow_mul-result c).In_ok-found)

pub returns : goal.returns
returns c =
    let w = where-sound _ c.examine_first.ensures c.in_ok-found.was in
    let pointers : c.div_ceil.result ≡ (c.in_ok-found.found.models + 1) / 2 = omega arith in
    rw pointers (size-sound _ _ _ w.0 w.1)
