-- Laws of `round_even`: its value by cases, a bound, and that a common factor of n and p does not matter.
use mathlib.Core.Path.{◌≡◌, sym, ap, ◌∙◌, subst}
use mathlib.Core.Logic.{inl, inr}
use Prim.Native.Nat.{ℕ, ◌+◌, ◌*◌, ◌/◌, ◌%◌, ◌≤◌, ◌<◌}
use native.Mathlib.Nat.{add-mul, div-add-mod', div-eq_of_lt, mod-eq_of_lt, mul_assoc, mul-div-mul_right, mul-lt-mul_of_pos_right, mul_right_comm}
use native.Mathlib.Omega.{arith}
use borrow.Author.Tests.{le-ltb, lt-ltb}
use Rattle.vertices.specs.Half.{round_even}
use Rattle.vertices.proofs.HalfSize.{side}

-- a remainder below the half: down
pub round_down : (n p : ℕ) → n % p * 2 < p → round_even n p ≡ n / p
unfolding round_even
round_down n p h = simp (lt-ltb (n % p * 2) p h)

-- a remainder above the half: up
pub round_up : (n p : ℕ) → p < n % p * 2 → round_even n p ≡ n / p + 1
unfolding round_even
round_up n p h = let l : p ≤ n % p * 2 = omega arith in simp (le-ltb (n % p * 2) p l, lt-ltb p (n % p * 2) h)

-- a tie: to the even one
pub round_tie : (n p : ℕ) → n % p * 2 ≡ p → round_even n p ≡ n / p + n / p % 2
unfolding round_even
round_tie n p h =
    let l : p ≤ n % p * 2 = omega arith in
    let k : n % p * 2 ≤ p = omega arith in
    simp (le-ltb (n % p * 2) p l, le-ltb p (n % p * 2) k)

-- what holds of n / p down, up and to the even one holds of n / p rounded
pub round_cases : (P : ℕ → Type 0) (n p : ℕ)
    → (n % p * 2 < p → P (n / p)) → (p < n % p * 2 → P (n / p + 1)) → (n % p * 2 ≡ p → P (n / p + n / p % 2)) → P (round_even n p)
round_cases P n p down up tie =
    elim (side p (n % p * 2)) [
      | inr l ↦ subst P (sym (round_down n p l)) (down l)
      | inl g ↦ elim (side (n % p * 2) p) [
        | inr l ↦ subst P (sym (round_up n p l)) (up l)
        | inl k ↦ let t : n % p * 2 ≡ p = omega arith in subst P (sym (round_tie n p t)) (tie t)
      ]
    ]

-- rounding moves up by 1 at most
pub round_most : (n p : ℕ) → round_even n p ≤ n / p + 1
round_most n p = round_cases (λ (r : ℕ). r ≤ n / p + 1) n p (λ _. omega arith) (λ _. omega arith) (λ _. omega arith)

-- the remainder of multiples by c is the multiple of the remainder
mod_scaled : (n p c : ℕ) → 0 < c → n * c % (p * c) ≡ n % p * c
mod_scaled n p c h =
    let whole : n / p * p * c + n % p * c ≡ n * c = sym (add-mul (n / p * p) (n % p) c) ∙ ap (λ (x : ℕ). x * c) (div-add-mod' n p) in
    let parts : n / p * (p * c) + n * c % (p * c) ≡ n * c = ap (λ (x : ℕ). x * (p * c) + n * c % (p * c)) (sym (mul-div-mul_right n p h)) ∙ div-add-mod' (n * c) (p * c) in
    omega (arith, mul_assoc (n / p) p c)

-- a common factor does not matter
pub round_scaled : (n p c : ℕ) → 0 < c → round_even (n * c) (p * c) ≡ round_even n p
round_scaled n p c h =
    let twice : n * c % (p * c) * 2 ≡ n % p * 2 * c = ap (λ (x : ℕ). x * 2) (mod_scaled n p c h) ∙ mul_right_comm (n % p) c 2 in
    let quotient : n * c / (p * c) ≡ n / p = mul-div-mul_right n p h in
    round_cases (λ (r : ℕ). round_even (n * c) (p * c) ≡ r) n p
    (λ l. round_down (n * c) (p * c) (omega (arith, mul-lt-mul_of_pos_right l h)) ∙ quotient)
    (λ l. round_up (n * c) (p * c) (omega (arith, mul-lt-mul_of_pos_right l h)) ∙ ap (λ (x : ℕ). x + 1) quotient)
    (λ e. round_tie (n * c) (p * c) (twice ∙ ap (λ (x : ℕ). x * c) e) ∙ ap (λ (x : ℕ). x + x % 2) quotient)

-- less than half of p is rounded to 0
pub round-none : (n p : ℕ) → n * 2 < p → round_even n p ≡ 0
round-none n p h =
    let l : n < p = omega arith in
    round_down n p (subst (λ (x : ℕ). x * 2 < p) (sym (mod-eq_of_lt l)) h) ∙ div-eq_of_lt l

-- n / 8,192 by one sum
pub round-sum : (n : ℕ) → (n + 4095 + n / 8192 % 2) / 8192 ≡ round_even n 8192
round-sum n = round_cases (λ (r : ℕ). (n + 4095 + n / 8192 % 2) / 8192 ≡ r) n 8192 (λ h. omega arith) (λ h. omega arith) (λ h. omega arith)
