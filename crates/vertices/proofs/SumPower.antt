-- A float below a power of two, added to it: the sum is the power and the float rounded to a whole multiple of the power's last place.
use mathlib.Core.Path.{◌≡◌, refl, sym, ap, ◌∙◌, subst}
use mathlib.Core.Logic.{◌⊎◌, inl, inr}
use mathlib.Core.Bool.{Bool, false, cond}
use Prim.Native.Nat.{ℕ, suc, ◌+◌, ◌-◌, ◌*◌, ◌/◌, ◌%◌, ◌^◌, ◌≤◌, ◌<◌, compare, Ordering}
use native.Mathlib.Nat.{zero-add, pow-suc, lt_of_le_of_lt, le_trans, le_of_eq, lt_of_lt_of_le, lt_of_not-le, not-le_of_lt, mul_comm, mul_assoc, mul-pos, le-div_iff_mul-le, div-lt_iff_lt-mul, mul-div_cancel, add-mul-div_right, add-mul-mod_self_left, mul-le-mul_right, le_refl, eq-or-lt_of_le}
use native.Mathlib.Omega.{arith}
use lib.Pow.{pow-add, pow_pos, pow_mono, pow-lt, shl_lt}
use lib.Ieee.{Float, nan, inf, fin, binary32, up, down, size, nearest, units, round, to_bits}
use lib.Ieee.Digits.{size-lt, size-le}
use lib.Ieee.Exact.{HasValue, units_val}
use lib.Ieee.Fits.{round_is, down_pos, nearest-le}
use lib.Ieee.Nearest.{closest}

-- ---- digits

size-gt : (n j : ℕ) → 2 ^ j ≤ n → j < size n
size-gt n j h = lt_of_not-le (λ (g : size n ≤ j). not-le_of_lt (lt_of_lt_of_le (size-lt n) (pow_mono g)) h)

size_is : (n j : ℕ) → 2 ^ j ≤ n → n < 2 ^ suc j → size n ≡ suc j
size_is n j l h =
    let a = size-gt n j l in
    let b = size-le n (suc j) h in
    omega arith

-- ---- the unit that `round` chooses in a binade

unit : (num den k : ℕ) → 0 < den → 2 ^ (k + 23) * den ≤ num * 2 ^ 149 → num * 2 ^ 149 < 2 ^ suc (k + 23) * den → size (num * 2 ^ 149 / den) - 24 ≡ k
unit num den k D l h =
    let z : size (num * 2 ^ 149 / den) ≡ suc (k + 23) = size_is (num * 2 ^ 149 / den) (k + 23) ((le-div_iff_mul-le D).1 l) ((div-lt_iff_lt-mul D).1 h) in
    omega arith

binade : (s : Bool) (num den k : ℕ) → 0 < den → 2 ^ (k + 23) * den ≤ num * 2 ^ 149 → num * 2 ^ 149 < 2 ^ suc (k + 23) * den
    → round binary32 s num den ≡ units binary32 s (closest (num * 2 ^ 149) (den * 2 ^ k)) k
binade s num den k D l h =
    round_is binary32 s num den
    ∙ ap (λ (z : ℕ). units binary32 s (closest (num * 2 ^ 149) (den * 2 ^ z)) z) (unit num den k D l h)

-- ---- the power's own part

Nearest-shift : (q : ℕ) (o : Ordering) → nearest (q + 8388608) o ≡ nearest q o + 8388608
Nearest-shift q Ordering.lt = refl
Nearest-shift q Ordering.eq = omega arith
Nearest-shift q Ordering.gt = omega arith

mod_shift : (n c b : ℕ) → (n + c * b) % b ≡ n % b
mod_shift n c b = ap (λ (x : ℕ). (n + x) % b) (mul_comm c b) ∙ add-mul-mod_self_left n b c

Closest-shift : (n b : ℕ) → 0 < b → closest (n + 8388608 * b) b ≡ closest n b + 8388608
Closest-shift n b B =
    ap (λ (x : ℕ). nearest x (compare ((n + 8388608 * b) % b * 2) b)) (add-mul-div_right n 8388608 B)
    ∙ ap (λ (x : ℕ). nearest (n / b + 8388608) (compare (x * 2) b)) (mod_shift n 8388608 b)
    ∙ Nearest-shift (n / b) (compare (n % b * 2) b)

-- ---- the bits of q units of 2^k, where q has 24 digits, or is 2^24

pub scaled : (q k : ℕ) → 8388608 ≤ q → 2 ^ (k + 23) ≤ q * 2 ^ k
scaled q k h = le_trans (le_of_eq (pow-add 2 k 23 ∙ mul_comm (2 ^ k) (2 ^ 23))) (mul-le-mul_right (2 ^ k) h)

below : (q k : ℕ) → q < 16777216 → q * 2 ^ k < 2 ^ suc (k + 23)
below q k h =
    let e : 24 + k ≡ suc (k + 23) = omega arith in
    subst (λ (x : ℕ). q * 2 ^ k < 2 ^ x) e (shl_lt 24 k h)

whole : (q k j : ℕ) → size (q * 2 ^ k) - 24 ≡ j → (size (q * 2 ^ k) - 24) * 8388608 + q * 2 ^ k / 2 ^ (size (q * 2 ^ k) - 24) ≡ j * 8388608 + q * 2 ^ k / 2 ^ j
whole q k j e = ap (λ (x : ℕ). x * 8388608 + q * 2 ^ k / 2 ^ x) e

fields : (q k : ℕ) → 8388608 ≤ q → q ≤ 16777216 → (size (q * 2 ^ k) - 24) * 8388608 + q * 2 ^ k / 2 ^ (size (q * 2 ^ k) - 24) ≡ k * 8388608 + q
fields q k a b = go (eq-or-lt_of_le b)
  where
    last : (k q : ℕ) → q ≡ 16777216 → suc k * 8388608 + 8388608 ≡ k * 8388608 + q
    last k q e = omega arith

    go : (q ≡ 16777216) ⊎ (q < 16777216) → (size (q * 2 ^ k) - 24) * 8388608 + q * 2 ^ k / 2 ^ (size (q * 2 ^ k) - 24) ≡ k * 8388608 + q
    go (inr l) =
        let z : size (q * 2 ^ k) ≡ suc (k + 23) = size_is (q * 2 ^ k) (k + 23) (scaled q k a) (below q k l) in
        let j : size (q * 2 ^ k) - 24 ≡ k = omega arith in
        whole q k k j ∙ ap (λ (x : ℕ). k * 8388608 + x) (mul-div_cancel q (pow_pos k))
    go (inl e) =
        let p : q * 2 ^ k ≡ 8388608 * 2 ^ suc k = ap (λ (x : ℕ). x * 2 ^ k) e ∙ mul_assoc 8388608 2 (2 ^ k) ∙ ap (λ (x : ℕ). 8388608 * x) (mul_comm 2 (2 ^ k) ∙ sym (pow-suc 2 k)) in
        let z : size (8388608 * 2 ^ suc k) ≡ suc (suc k + 23) = size_is (8388608 * 2 ^ suc k) (suc k + 23) (scaled 8388608 (suc k) (le_refl 8388608)) (below 8388608 (suc k) (omega arith)) in
        let y : size (q * 2 ^ k) ≡ suc (suc k + 23) = ap size p ∙ z in
        let j : size (q * 2 ^ k) - 24 ≡ suc k = omega arith in
        whole q k (suc k) j
        ∙ ap (λ (x : ℕ). suc k * 8388608 + x / 2 ^ suc k) p
        ∙ ap (λ (x : ℕ). suc k * 8388608 + x) (mul-div_cancel 8388608 (pow_pos (suc k)))
        ∙ last k q e

value-bits : (v : Float) (q k : ℕ) → HasValue v false (q * 2 ^ k) (2 ^ 149) → 8388608 ≤ q → q ≤ 16777216 → to_bits binary32 v ≡ k * 8388608 + q
unfolding to_bits
value-bits nan q k h a b = absurd h
value-bits (inf s) q k h a b = absurd h
value-bits (fin s m e) q k h a b =
    let n : m * up e * 2 ^ 149 / down e ≡ q * 2 ^ k = ap (λ (x : ℕ). x / down e) h.1 ∙ mul-div_cancel (q * 2 ^ k) (down_pos e) in
    ap (λ (x : ℕ). cond s 2147483648 0 + (size x - 24) * 8388608 + x / 2 ^ (size x - 24)) n
    ∙ ap (λ (t : Bool). cond t 2147483648 0 + (size (q * 2 ^ k) - 24) * 8388608 + q * 2 ^ k / 2 ^ (size (q * 2 ^ k) - 24)) h.0
    ∙ ap (λ (x : ℕ). x + q * 2 ^ k / 2 ^ (size (q * 2 ^ k) - 24)) (zero-add ((size (q * 2 ^ k) - 24) * 8388608))
    ∙ fields q k a b

bounded : (q k : ℕ) → q ≤ 16777216 → k < 253 → q * 2 ^ k < 2 ^ 277
bounded q k b h =
    let e : 24 + k < 277 = omega arith in
    lt_of_le_of_lt (le_trans (mul-le-mul_right (2 ^ k) b) (le_of_eq (sym (pow-add 2 24 k)))) (pow-lt e)

units-bits : (q k : ℕ) → 8388608 ≤ q → q ≤ 16777216 → k < 253 → to_bits binary32 (units binary32 false q k) ≡ k * 8388608 + q
units-bits q k a b h = value-bits (units binary32 false q k) q k (units_val binary32 false q k (bounded q k b h)) a b

-- ---- a fraction that is 2^23 units of 2^k, and n more in units of 2^-149 over den: below as much again

power : (den k : ℕ) → 2 ^ (k + 23) * den ≡ 8388608 * (den * 2 ^ k)
power den k = ap (λ (x : ℕ). x * den) (pow-add 2 k 23 ∙ mul_comm (2 ^ k) (2 ^ 23)) ∙ mul_assoc (2 ^ 23) (2 ^ k) den ∙ ap (λ (x : ℕ). 8388608 * x) (mul_comm (2 ^ k) den)

double : (den k : ℕ) → 2 ^ suc (k + 23) * den ≡ 16777216 * (den * 2 ^ k)
double den k =
    let e : suc (k + 23) ≡ k + 24 = omega arith in
    ap (λ (x : ℕ). 2 ^ x * den) e ∙ ap (λ (x : ℕ). x * den) (pow-add 2 k 24 ∙ mul_comm (2 ^ k) (2 ^ 24)) ∙ mul_assoc (2 ^ 24) (2 ^ k) den ∙ ap (λ (x : ℕ). 16777216 * x) (mul_comm (2 ^ k) den)

module _ (num den k n : ℕ) (D : 0 < den) (h : k < 253) (e : num * 2 ^ 149 ≡ n + 8388608 * (den * 2 ^ k)) (l : n < 8388608 * (den * 2 ^ k)) where
  kept : closest n (den * 2 ^ k) + 8388608 ≤ 16777216
  kept =
      let b = den * 2 ^ k in
      let B : 0 < b = mul-pos D (pow_pos k) in
      let q : n / b < 8388608 = (div-lt_iff_lt-mul B).1 l in
      let c : closest n b ≤ suc (n / b) = nearest-le (n / b) (compare (n % b * 2) b) in
      omega arith

  rounded : round binary32 false num den ≡ units binary32 false (closest n (den * 2 ^ k) + 8388608) k
  rounded =
      let b = den * 2 ^ k in
      let lo : 8388608 * b ≤ num * 2 ^ 149 = subst (λ (x : ℕ). 8388608 * b ≤ x) (sym e) (omega arith) in
      let hi : num * 2 ^ 149 < 16777216 * b = subst (λ (x : ℕ). x < 16777216 * b) (sym e) (omega arith) in
      binade false num den k D (subst (λ (x : ℕ). x ≤ num * 2 ^ 149) (sym (power den k)) lo) (subst (λ (x : ℕ). num * 2 ^ 149 < x) (sym (double den k)) hi)
      ∙ ap (λ (x : ℕ). units binary32 false (closest x b) k) e
      ∙ ap (λ (x : ℕ). units binary32 false x k) (Closest-shift n b (mul-pos D (pow_pos k)))

  -- its bits
  pub sum-bits : to_bits binary32 (round binary32 false num den) ≡ suc k * 8388608 + closest n (den * 2 ^ k)
  sum-bits = ap (to_bits binary32) rounded ∙ units-bits (closest n (den * 2 ^ k) + 8388608) k (omega arith) kept h ∙ joined k (closest n (den * 2 ^ k))
    where
      joined : (k r : ℕ) → k * 8388608 + (r + 8388608) ≡ suc k * 8388608 + r
      joined k r = omega arith

  -- its value
  pub sum-value : HasValue (round binary32 false num den) false ((closest n (den * 2 ^ k) + 8388608) * 2 ^ k) (2 ^ 149)
  sum-value =
      let r = closest n (den * 2 ^ k) + 8388608 in
      subst (λ (v : Float). HasValue v false (r * 2 ^ k) (2 ^ 149)) (sym rounded) (units_val binary32 false r k (bounded r k kept h))
