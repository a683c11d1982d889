-- Each number is a byte, or one is none.
use native.Mathlib.Omega.{arith}
use Rattle.std.proofs.lemmas.Result.{OkIff-at_err}
use Rattle.exports.proofs.ValueLaws.{bytes-passed, none-passed}
use Rattle.exports.proofs.values.passed_bytes.Goals as goal

pub returns-in-Ok-Ok-Ok-Ok : goal.returns-in-Ok-Ok-Ok-Ok
returns-in-Ok-Ok-Ok-Ok c =
    let i = c.in-Ok-Ok-Ok-Ok in
    let a = i.ensures in
    let b = i.ensures' in
    let d = i.ensures'' in
    let e = i.ensures''' in
    rw (a.1, b.1, d.1, e.1) (bytes-passed _ _ _ _ (omega (arith, a.0)) (omega (arith, b.0)) (omega (arith, d.0)) (omega (arith, e.0)))

pub returns-in_default : goal.returns-in_default
returns-in_default c = none-passed _ _ _ _ (λ p q r s. OkIff-at_err _ _ _ _ c.try_from-4.ensures c.in_default.is-3 (omega (arith, s)))

pub returns-in_default-2 : goal.returns-in_default-2
returns-in_default-2 c = none-passed _ _ _ _ (λ p q r s. OkIff-at_err _ _ _ _ c.try_from-3.ensures c.in_default.is-2 (omega (arith, r)))

pub returns-in_default-3 : goal.returns-in_default-3
returns-in_default-3 c = none-passed _ _ _ _ (λ p q r s. OkIff-at_err _ _ _ _ c.try_from-2.ensures c.in_default.is-1 (omega (arith, q)))

pub returns-in_default-4 : goal.returns-in_default-4
returns-in_default-4 c = none-passed _ _ _ _ (λ p q r s. OkIff-at_err _ _ _ _ c.try_from.ensures c.in_default.is-0 (omega (arith, p)))
