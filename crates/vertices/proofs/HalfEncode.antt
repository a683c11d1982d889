-- Laws of `encoded`: its value by cases, as the code computes it, and its bound.
use mathlib.Core.Path.{◌≡◌, refl, sym, ap, ap₂, ◌∙◌}
use mathlib.Core.Logic.{inl, inr}
use Prim.Native.Nat.{ℕ, ◌+◌, ◌-◌, ◌*◌, ◌/◌, ◌%◌, ◌^◌, ◌≤◌, ◌<◌}
use native.Mathlib.Nat.{lt_of_lt_of_le}
use native.Mathlib.Omega.{arith}
use lib.Pow.{pow_mono, pow_pos, shr_lt}
use borrow.Author.Tests.{le-leb, le-ltb, lt-leb, lt-ltb}
use Rattle.vertices.specs.Half.{magnitude, round_even, encoded, f32_to_f16}
use Rattle.vertices.proofs.HalfSize.{side, powers, magnitude-at, magnitude-lt}
use Rattle.vertices.proofs.HalfRound.{round_most, round-none, round_scaled}

-- the sign's bit and the bits below it
pub f32_is : (b v : ℕ) → encoded (b % 2 ^ 31) ≡ v → b / 2147483648 * 32768 + v ≡ f32_to_f16 b
unfolding f32_to_f16
f32_is b v e = ap (λ (n : ℕ). b / 2147483648 * 32768 + n) (sym e)

-- a NaN keeps its upper ten fraction bits, with the first of them set
pub encoded-nan : (m : ℕ) → 2139095040 < m → encoded m ≡ 32256 + m / 8192 % 512
unfolding encoded
encoded-nan m h = simp (lt-ltb 2139095040 m h) (omega arith)

-- 65,536 and above, and infinity
pub encoded-over : (m : ℕ) → 1199570944 ≤ m → m ≤ 2139095040 → encoded m ≡ 31744
unfolding encoded
encoded-over m h l = simp (le-ltb 2139095040 m l, le-leb 1199570944 m h)

-- what is rounded to a normal half
pub encoded-normal : (m : ℕ) → 947912704 ≤ m → m < 1199570944 → encoded m ≡ round_even (m - 939524096) 8192
unfolding encoded
encoded-normal m h l =
    let k : m ≤ 2139095040 = omega arith in
    simp (le-ltb 2139095040 m k, lt-leb 1199570944 m l, le-leb 947912704 m h)

-- below a half's least normal number
pub encoded-low : (m : ℕ) → m < 947912704 → encoded m ≡ round_even (magnitude 23 m) (2 ^ 125)
unfolding encoded
encoded-low m h =
    let k : m ≤ 2139095040 = omega arith in
    let l : m < 1199570944 = omega arith in
    simp (le-ltb 2139095040 m k, lt-leb 1199570944 m l, lt-leb 947912704 m h)

-- the field x + 1 and the fraction t, where the k lowest of the digits are rounded away
shift_out : (x t k : ℕ) → k + x ≡ 125 → t < 2 ^ 23 → round_even (magnitude 23 ((x + 1) * 2 ^ 23 + t)) (2 ^ 125) ≡ round_even (2 ^ 23 + t) (2 ^ k)
shift_out x t k e h = ap₂ round_even (magnitude-at 23 x t h) (sym (powers k x 125 e)) ∙ round_scaled (2 ^ 23 + t) (2 ^ k) (2 ^ x) (pow_pos x)

-- between half of a half's least number and its least normal number
pub encoded-subnormal : (m : ℕ) → 855638016 ≤ m → m < 947912704 → encoded m ≡ round_even (8388608 + m % 8388608) (2 ^ (126 - m / 8388608))
encoded-subnormal m h l =
    let x = m / 8388608 - 1 in
    let e : m ≡ (x + 1) * 2 ^ 23 + m % 8388608 = omega arith in
    encoded-low m l ∙ ap (λ (n : ℕ). round_even (magnitude 23 n) (2 ^ 125)) e ∙ shift_out x (m % 8388608) (126 - m / 8388608) (omega arith) (omega arith)

half_of_least : magnitude 23 855638016 ≡ 2 ^ 124
unfolding magnitude
half_of_least = refl

-- below half of a half's least number
pub encoded-none : (m : ℕ) → m < 855638016 → encoded m ≡ 0
encoded-none m h =
    let l : m < 947912704 = omega arith in
    encoded-low m l ∙ round-none (magnitude 23 m) (2 ^ 125) (omega (arith, half_of_least, magnitude-lt 23 m 855638016 h))

-- ---- bounds

-- 24 digits of which 14 or more are rounded away give 1,024 at most
pub round_few : (s k : ℕ) → s < 2 ^ 24 → 14 ≤ k → round_even s (2 ^ k) ≤ 1024
round_few s k h l =
    let e : 24 ≤ 10 + k = omega arith in
    omega (arith, round_most s (2 ^ k), shr_lt 10 k (lt_of_lt_of_le h (pow_mono e)))

-- what is not a NaN gives no NaN
pub encoded-number : (m : ℕ) → m ≤ 2139095040 → encoded m ≤ 31744
encoded-number m h =
    elim (side 855638016 m) [
      | inr l ↦ omega (arith, encoded-none m l)
      | inl g ↦ elim (side 947912704 m) [
        | inr l ↦ omega (arith, encoded-subnormal m g l, round_few (8388608 + m % 8388608) (126 - m / 8388608) (omega arith) (omega arith))
        | inl g' ↦ elim (side 1199570944 m) [
          | inr l ↦ omega (arith, encoded-normal m g' l, round_most (m - 939524096) 8192)
          | inl o ↦ omega (arith, encoded-over m o h)
        ]
      ]
    ]

-- the bits stay below the sign's
pub encoded-fits : (m : ℕ) → encoded m < 32768
encoded-fits m = elim (side m 2139095040) [ inl l ↦ omega (arith, encoded-number m l) | inr g ↦ omega (arith, encoded-nan m g) ]
