-- Laws of `magnitude` and `half_size`: their values by cases, and that they grow with the bits.
use mathlib.Core.Path.{◌≡◌, sym, ap, ◌∙◌}
use mathlib.Core.Logic.{◌⊎◌, inl, inr}
use Prim.Native.Nat.{ℕ, ◌+◌, ◌-◌, ◌*◌, ◌/◌, ◌%◌, ◌^◌, ◌≤◌, ◌<◌}
use native.Mathlib.Nat.{add-mul, add-zero, eq-zero-or-pos, le-div_iff_mul-le, le_refl, lt_of_lt_of_le, mod-lt, mul-le-mul_right, mul_left_comm, mul-lt-mul_of_pos_right, mul-mul-mul_comm, pow-succ'}
use native.Mathlib.Decide.{le_ind}
use native.Mathlib.Numerals.{add-one}
use native.Mathlib.Omega.{arith}
use lib.Pow.{high, low, pow-add, pow_pos, split}
use borrow.Author.Tests.{le-ltb, lt-ltb}
use Rattle.vertices.specs.Half.{magnitude}
use Rattle.vertices.specs.Ieee16.{half_size}

-- of two numbers, the second is the first or more, or it is less
pub side : (a b : ℕ) → (a ≤ b) ⊎ (b < a)
side a b = elim (eq-zero-or-pos (a - b)) [ inl e ↦ inl (omega arith) | inr l ↦ inr (omega arith) ]

-- two numbers are equal, or they are not
pub equal_or_not : (a b : ℕ) → (a ≡ b) ⊎ (a ≡ b → ⊥)
equal_or_not a b =
    elim (side a b) [
      | inr l ↦ inr (λ e. omega arith)
      | inl l ↦ elim (side b a) [ inl k ↦ inl (omega arith) | inr k ↦ inr (λ e. omega arith) ]
    ]

-- a product of two powers of 2 is the power of the sum
pub powers : (i j k : ℕ) → i + j ≡ k → 2 ^ i * 2 ^ j ≡ 2 ^ k
powers i j k e = sym (pow-add 2 i j) ∙ ap (λ (n : ℕ). 2 ^ n) e

-- a factor 2 ^ i, moved behind another power
pub regroup : (a x i j : ℕ) → a * 2 ^ i * 2 ^ (x + j) ≡ a * 2 ^ x * 2 ^ (i + j)
regroup a x i j =
    ap (λ (n : ℕ). a * 2 ^ i * n) (pow-add 2 x j) ∙ mul-mul-mul_comm a (2 ^ i) (2 ^ x) (2 ^ j) ∙ ap (λ (n : ℕ). a * 2 ^ x * n) (sym (pow-add 2 i j))

-- a field of 0: the bits are the size
pub magnitude-low : (p m : ℕ) → m < 2 ^ p → magnitude p m ≡ m
unfolding magnitude
magnitude-low p m h = simp (lt-ltb m (2 ^ p) h)

-- the field x + 1 and the fraction t
pub magnitude-at : (p x t : ℕ) → t < 2 ^ p → magnitude p ((x + 1) * 2 ^ p + t) ≡ (2 ^ p + t) * 2 ^ x
unfolding magnitude
magnitude-at p x t h =
    let big : 2 ^ p ≤ (x + 1) * 2 ^ p + t = omega (arith, add-mul x 1 (2 ^ p)) in
    let back : x + 1 - 1 ≡ x = omega arith in
    simp (le-ltb ((x + 1) * 2 ^ p + t) (2 ^ p) big, high (x + 1) p h, low (x + 1) p h, back)

-- under a field of 0 the next float is larger by 1
pub step-low : (p m : ℕ) → m < 2 ^ p → magnitude p (m + 1) ≡ magnitude p m + 1
step-low p m h = go (side (2 ^ p) (m + 1)) ∙ ap (λ (n : ℕ). n + 1) (sym (magnitude-low p m h))
  where
    go : (2 ^ p ≤ m + 1) ⊎ (m + 1 < 2 ^ p) → magnitude p (m + 1) ≡ m + 1
    go (inr l) = magnitude-low p (m + 1) l
    go (inl l) =
        let e : m + 1 ≡ (0 + 1) * 2 ^ p + 0 = omega arith in
        let s : (2 ^ p + 0) * 2 ^ 0 ≡ m + 1 = omega arith in
        ap (magnitude p) e ∙ magnitude-at p 0 0 (pow_pos p) ∙ s

-- under the field x + 1 the next float is larger by 2 ^ x
pub step-at : (p x t : ℕ) → t < 2 ^ p → magnitude p ((x + 1) * 2 ^ p + t + 1) ≡ magnitude p ((x + 1) * 2 ^ p + t) + 2 ^ x
step-at p x t h = go (side (2 ^ p) (t + 1)) ∙ ap (λ (n : ℕ). n + 2 ^ x) (sym (magnitude-at p x t h))
  where
    go : (2 ^ p ≤ t + 1) ⊎ (t + 1 < 2 ^ p) → magnitude p ((x + 1) * 2 ^ p + t + 1) ≡ (2 ^ p + t) * 2 ^ x + 2 ^ x
    go (inr l) =
        let e : (x + 1) * 2 ^ p + t + 1 ≡ (x + 1) * 2 ^ p + (t + 1) = omega arith in
        ap (magnitude p) e ∙ magnitude-at p x (t + 1) l ∙ omega (arith, add-mul (2 ^ p) (t + 1) (2 ^ x), add-mul (2 ^ p) t (2 ^ x), add-mul t 1 (2 ^ x))
    go (inl l) =
        let e : (x + 1) * 2 ^ p + t + 1 ≡ (x + 1 + 1) * 2 ^ p + 0 = omega (arith, add-mul (x + 1) 1 (2 ^ p)) in
        let full : 2 ^ p ≡ t + 1 = omega arith in
        let two : 2 ^ (x + 1) ≡ 2 * 2 ^ x = ap (λ (n : ℕ). 2 ^ n) (add-one x) ∙ pow-succ' 2 x in
        let s : (2 ^ p + 0) * (2 * 2 ^ x) ≡ (2 ^ p + t) * 2 ^ x + 2 ^ x =
        omega (arith, add-mul (2 ^ p) t (2 ^ x), add-mul t 1 (2 ^ x), ap (λ (n : ℕ). n * 2 ^ x) full, mul_left_comm (2 ^ p) 2 (2 ^ x), ap (λ (n : ℕ). n * (2 * 2 ^ x)) (add-zero (2 ^ p))) in
        ap (magnitude p) e ∙ magnitude-at p (x + 1) 0 (pow_pos p) ∙ ap (λ (n : ℕ). (2 ^ p + 0) * n) two ∙ s

-- bits with a field above 0, as that field and the fraction
pub fields : (p m : ℕ) → 2 ^ p ≤ m → m ≡ (m / 2 ^ p - 1 + 1) * 2 ^ p + m % 2 ^ p
fields p m h =
    let l : 1 * 2 ^ p ≤ m = omega arith in
    let k : 1 ≤ m / 2 ^ p = (le-div_iff_mul-le (pow_pos p)).1 l in
    let e : m / 2 ^ p - 1 + 1 ≡ m / 2 ^ p = omega arith in
    sym (ap (λ (n : ℕ). n * 2 ^ p + m % 2 ^ p) e ∙ split m p)

-- the next float is larger
pub magnitude-next : (p m : ℕ) → magnitude p m < magnitude p (m + 1)
magnitude-next p m = go (side (2 ^ p) m)
  where
    go : (2 ^ p ≤ m) ⊎ (m < 2 ^ p) → magnitude p m < magnitude p (m + 1)
    go (inr l) = omega (arith, step-low p m l)
    go (inl l) =
        let x = m / 2 ^ p - 1 in
        let e = fields p m l in
        omega (arith, step-at p x (m % 2 ^ p) (mod-lt m (pow_pos p)), ap (magnitude p) e, ap (λ (n : ℕ). magnitude p (n + 1)) e, pow_pos x)

-- sizes do not fall as the bits grow
pub magnitude-mono : (p a b : ℕ) → a ≤ b → magnitude p a ≤ magnitude p b
magnitude-mono p a b h =
    le_ind (λ (n : ℕ). magnitude p a ≤ magnitude p n) (le_refl (magnitude p a)) (λ m _ ih. omega (arith, magnitude-next p m, ap (magnitude p) (add-one m))) b h

-- of two floats under one sign, the one with the larger bits is the larger
pub magnitude-lt : (p a b : ℕ) → a < b → magnitude p a < magnitude p b
magnitude-lt p a b h = lt_of_lt_of_le (magnitude-next p a) (magnitude-mono p (a + 1) b (omega arith))

-- floats of one size have the same bits below the sign
pub magnitude-one : (p a b : ℕ) → magnitude p a ≡ magnitude p b → a ≡ b
magnitude-one p a b e =
    elim (side a b) [
      | inr l ↦ omega (arith, magnitude-lt p b a l)
      | inl l ↦ elim (side b a) [ inl k ↦ omega arith | inr k ↦ omega (arith, magnitude-lt p a b k) ]
    ]

-- ---- halves in units of 2^-149

-- a half's size does not fall as its bits grow
pub half_size-mono : (a b : ℕ) → a ≤ b → half_size a ≤ half_size b
unfolding half_size
half_size-mono a b h = mul-le-mul_right (2 ^ 125) (magnitude-mono 10 a b h)

-- of two halves under one sign, the one with the larger bits is the larger
pub half_size-lt : (a b : ℕ) → a < b → half_size a < half_size b
unfolding half_size
half_size-lt a b h = mul-lt-mul_of_pos_right (magnitude-lt 10 a b h) (pow_pos 125)

-- a zero and a subnormal half are whole multiples of 2^-24
pub half_size-low : (m : ℕ) → m < 1024 → half_size m ≡ m * 2 ^ 125
unfolding half_size
half_size-low m h = ap (λ (n : ℕ). n * 2 ^ 125) (magnitude-low 10 m h)

-- a normal half, of the field x + 1 and the fraction t, has the size of a float of the field x + 113
pub half_size-at : (x t : ℕ) → t < 1024 → half_size ((x + 1) * 1024 + t) ≡ (1024 + t) * 8192 * 2 ^ (x + 112)
unfolding half_size
half_size-at x t h = ap (λ (n : ℕ). n * 2 ^ 125) (magnitude-at 10 x t h) ∙ sym (regroup (1024 + t) x 13 112)

-- the step from a subnormal half to the next
pub half_step_low : (m : ℕ) → m < 1024 → half_size (m + 1) ≡ half_size m + 2 ^ 125
unfolding half_size
half_step_low m h = ap (λ (n : ℕ). n * 2 ^ 125) (step-low 10 m h) ∙ add-mul (magnitude 10 m) 1 (2 ^ 125)

-- the step from a normal half to the next
pub half_step-at : (x t : ℕ) → t < 1024 → half_size ((x + 1) * 1024 + t + 1) ≡ half_size ((x + 1) * 1024 + t) + 8192 * 2 ^ (x + 112)
unfolding half_size
half_step-at x t h =
    let e : 2 ^ x * 2 ^ 125 ≡ 8192 * 2 ^ (x + 112) = omega (arith, regroup 1 x 13 112) in
    ap (λ (n : ℕ). n * 2 ^ 125) (step-at 10 x t h) ∙ add-mul (magnitude 10 ((x + 1) * 1024 + t)) (2 ^ x) (2 ^ 125)
    ∙ ap (λ (n : ℕ). magnitude 10 ((x + 1) * 1024 + t) * 2 ^ 125 + n) e
