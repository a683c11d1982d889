-- Laws of `decoded`: its value by cases, as the code computes it, and its size.
use mathlib.Core.Path.{◌≡◌, refl, sym, ap, ◌∙◌}
use mathlib.Core.Logic.{inl, inr}
use Prim.Native.Nat.{ℕ, suc, ◌+◌, ◌-◌, ◌*◌, ◌/◌, ◌%◌, ◌^◌, ◌≤◌, ◌<◌}
use native.Mathlib.Nat.{mul_assoc, mul-le-mul_right, mul-lt-mul_of_pos_right}
use native.Mathlib.Omega.{arith}
use lib.Count.{count_leading_zeros, leading_top}
use lib.Pow.{pow_pos}
use borrow.Author.Tests.{eq-eqb, le-ltb, lt-ltb, ne_eqb}
use Rattle.vertices.specs.Half.{magnitude, normalised, decoded, f16_to_f32}
use Rattle.vertices.specs.Ieee16.{half_size}
use Rattle.vertices.proofs.HalfSize.{side, powers, magnitude-at, half_size-at, half_size-low}

-- the sign's bit and the bits below it
pub f16_is : (h v : ℕ) → decoded (h % 2 ^ 15) ≡ v → h / 32768 * 2147483648 + v ≡ f16_to_f32 h
unfolding f16_to_f32
f16_is h v e = ap (λ (n : ℕ). h / 32768 * 2147483648 + n) (sym e)

-- a zero's bits
pub decoded-zero : (m : ℕ) → m ≡ 0 → decoded m ≡ 0
unfolding decoded
decoded-zero m e = simp (eq-eqb m 0 e)

-- a normal half's bits move up by 13 places, and the exponent's field gains 112
pub decoded-normal : (m : ℕ) → 1024 ≤ m → m < 31744 → decoded m ≡ m * 8192 + 939524096
unfolding decoded
decoded-normal m h l = simp (ne_eqb m 0 (λ e. omega arith), le-ltb m 1024 h, lt-ltb m 31744 l) (omega arith)

-- an infinity's and a NaN's fraction bits move up by 13 places
pub decoded-special : (m : ℕ) → 31744 ≤ m → decoded m ≡ m % 1024 * 8192 + 2139095040
unfolding decoded
decoded-special m h =
    let k : 1024 ≤ m = omega arith in
    simp (ne_eqb m 0 (λ e. omega arith), le-ltb m 1024 k, le-ltb m 31744 h) (omega arith)

-- a subnormal half's leading digit stands at `place`, and moved to place 10 it is `moved`
pub record Subnormal (m : ℕ) : Type 0 where
  pub place : ℕ
  pub low : place < 10
  pub least : 1024 ≤ m * 2 ^ (10 - place)
  pub most : m * 2 ^ (10 - place) < 2048
  pub bits : decoded m ≡ (102 + place) * 8388608 + m * 2 ^ (10 - place) * 8192

decoded-small : (m : ℕ) → 0 < m → m < 1024 → decoded m ≡ normalised m (count_leading_zeros 10 m + 1)
unfolding decoded
decoded-small m h l = simp (ne_eqb m 0 (λ e. omega arith), lt-ltb m 1024 l)

normalised-at : (m k j : ℕ) → k ≡ 10 - j → j < 10 → 1024 ≤ m * 2 ^ (10 - j) → m * 2 ^ (10 - j) < 2048
    → normalised m k ≡ (102 + j) * 8388608 + m * 2 ^ (10 - j) * 8192
unfolding normalised
normalised-at m k j e l lo hi = ap (normalised m) e ∙ omega arith

-- every half between zero and the normal ones has such a digit
pub subnormal : (m : ℕ) → 0 < m → m < 1024 → Subnormal m
subnormal m h l =
    let t = leading_top 10 m h l in
    let j = t.0 in
    let e : count_leading_zeros 10 m + suc j ≡ 10 = t.1 in
    let k : j < 10 = omega arith in
    let lo : 1024 ≤ m * 2 ^ (10 - j) = omega (arith, powers j (10 - j) 10 (omega arith), mul-le-mul_right (2 ^ (10 - j)) t.2) in
    let hi : m * 2 ^ (10 - j) < 2048 = omega (arith, powers (suc j) (10 - j) 11 (omega arith), mul-lt-mul_of_pos_right t.3 (pow_pos (10 - j))) in
    record {
      place = j;
      low = k;
      least = lo;
      most = hi;
      bits = decoded-small m h l ∙ normalised-at m (count_leading_zeros 10 m + 1) j (omega arith) k lo hi;
    }

-- ---- the size

same_normal : (m x t : ℕ) → m ≡ (x + 1) * 1024 + t → t < 1024 → magnitude 23 (m * 8192 + 939524096) ≡ half_size m
same_normal m x t e l =
    let b : m * 8192 + 939524096 ≡ (x + 112 + 1) * 2 ^ 23 + t * 8192 = omega arith in
    let f : 2 ^ 23 + t * 8192 ≡ (1024 + t) * 8192 = omega arith in
    ap (magnitude 23) b ∙ magnitude-at 23 (x + 112) (t * 8192) (omega arith) ∙ ap (λ (n : ℕ). n * 2 ^ (x + 112)) f ∙ sym (ap half_size e ∙ half_size-at x t l)

same_subnormal : (m : ℕ) → m < 1024 → (s : Subnormal m) → magnitude 23 (decoded m) ≡ half_size m
same_subnormal m l s =
    let j = s.place in
    let d = m * 2 ^ (10 - j) in
    let b : decoded m ≡ (102 + j + 1) * 2 ^ 23 + (d - 1024) * 8192 = omega arith in
    let f : 2 ^ 23 + (d - 1024) * 8192 ≡ d * 2 ^ 13 = omega arith in
    ap (magnitude 23) b ∙ magnitude-at 23 (102 + j) ((d - 1024) * 8192) (omega arith) ∙ ap (λ (n : ℕ). n * 2 ^ (102 + j)) f
    ∙ mul_assoc d (2 ^ 13) (2 ^ (102 + j)) ∙ ap (λ (n : ℕ). d * n) (powers 13 (102 + j) (13 + (102 + j)) refl) ∙ mul_assoc m (2 ^ (10 - j)) (2 ^ (13 + (102 + j)))
    ∙ ap (λ (n : ℕ). m * n) (powers (10 - j) (13 + (102 + j)) 125 (omega arith)) ∙ sym (half_size-low m l)

zero-size : magnitude 23 0 ≡ half_size 0
unfolding magnitude half_size
zero-size = refl

-- a finite half and its float have the same size
pub decoded-same : (m : ℕ) → m < 31744 → magnitude 23 (decoded m) ≡ half_size m
decoded-same m h =
    elim (side 1 m) [
      | inr z ↦ let e : m ≡ 0 = omega arith in ap (magnitude 23) (decoded-zero m e) ∙ zero-size ∙ ap half_size (sym e)
      | inl p ↦ elim (side 1024 m) [
        | inr l ↦ same_subnormal m l (subnormal m p l)
        | inl g ↦ ap (magnitude 23) (decoded-normal m g h) ∙ same_normal m (m / 1024 - 1) (m % 1024) (omega arith) (omega arith)
      ]
    ]

-- a finite half gives a finite float
pub decoded-finite : (m : ℕ) → m < 31744 → decoded m < 2139095040
decoded-finite m h =
    elim (side 1 m) [
      | inr z ↦ omega (arith, decoded-zero m (omega arith))
      | inl p ↦ elim (side 1024 m) [ inr l ↦ let s = subnormal m p l in omega arith | inl g ↦ omega (arith, decoded-normal m g h) ]
    ]

-- the bits stay below the sign's
pub decoded-fits : (m : ℕ) → m < 32768 → decoded m < 2147483648
decoded-fits m h = elim (side 31744 m) [ inr l ↦ omega (arith, decoded-finite m l) | inl g ↦ omega (arith, decoded-special m g) ]
