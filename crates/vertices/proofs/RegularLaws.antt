-- Laws of `irregular`, and the conversions of what is regular, free of branches but for zero.
use Rattle.std.proofs.Common.{◌≡◌, ℕ, ◌+◌, ◌-◌, ◌*◌, ◌/◌, ◌%◌, ◌<◌, ◌≤◌, ◌⊎◌, sym, ap, ◌∙◌, inl, inr, arith, le-ltb, lt-ltb, eq-eqb, ne_eqb}
use Rattle.vertices.specs.Half.{encoded, f16_to_f32, f32_to_f16, round_even}
use Rattle.vertices.specs.Regular.{irregular, irregular_half, irregular_float}
use Rattle.vertices.proofs.HalfSize.{equal_or_not, side}
use Rattle.vertices.proofs.HalfRound.{round_cases, round-none}
use Rattle.vertices.proofs.HalfDecode.{decoded-normal, f16_is}
use Rattle.vertices.proofs.HalfEncode.{encoded-none, encoded-normal, f32_is}

-- ---- its value by cases

module _ (least limit m : ℕ) where
  -- zero
  pub irregular-zero : m ≡ 0 → irregular least limit m ≡ 0
  unfolding irregular
  irregular-zero e = simp (eq-eqb m 0 e)

  -- too small
  pub irregular-small : (m ≡ 0 → ⊥) → m < least → irregular least limit m ≡ 1
  unfolding irregular
  irregular-small n h = simp (ne_eqb m 0 n, lt-ltb m least h)

  -- between
  pub irregular-between : (m ≡ 0 → ⊥) → least ≤ m → m < limit → irregular least limit m ≡ 0
  unfolding irregular
  irregular-between n h l = simp (ne_eqb m 0 n, le-ltb m least h, lt-ltb m limit l)

  -- too large
  pub irregular-large : (m ≡ 0 → ⊥) → least ≤ m → limit ≤ m → irregular least limit m ≡ 1
  unfolding irregular
  irregular-large n h l = simp (ne_eqb m 0 n, le-ltb m least h, le-ltb m limit l)

  -- what is regular is between, where it is not zero
  pub regular-between : irregular least limit m ≤ 0 → (m ≡ 0 → ⊥) → (least ≤ m) × (m < limit)
  regular-between h n =
      elim (side least m) [
        | inr l ↦ absurd (omega (arith, irregular-small n l))
        | inl g ↦ elim (side limit m) [
          | inl o ↦ absurd (omega (arith, irregular-large n g o))
          | inr l ↦ (g, l)
        ]
      ]

-- ---- halves

-- a regular half that is not zero
pub regular-half : (h : ℕ) → irregular_half h ≤ 0 → (h % 32768 ≡ 0 → ⊥) → h / 32768 * 2147483648 + (h % 32768 * 8192 + 939524096) ≡ f16_to_f32 h
regular-half h r n =
    let b = regular-between 1024 31744 (h % 32768) r n in
    f16_is h (h % 32768 * 8192 + 939524096) (decoded-normal (h % 32768) b.0 b.1)

-- ---- floats

-- n / 8,192 to the nearest, ties to even, by one sum
pub round-sum : (n : ℕ) → (n + 4095 + n / 8192 % 2) / 8192 ≡ round_even n 8192
round-sum n = round_cases (λ (r : ℕ). (n + 4095 + n / 8192 % 2) / 8192 ≡ r) n 8192 (λ h. omega arith) (λ h. omega arith) (λ h. omega arith)

-- a regular float: what is left of its bits with a half's exponent, n, is rounded
pub regular-float : (b n : ℕ) → irregular_float b ≤ 0 → n ≡ b % 2147483648 - 939524096 → b / 2147483648 * 32768 + (n + 4095 + n / 8192 % 2) / 8192 ≡ f32_to_f16 b
regular-float b n r e = f32_is b _ (at (equal_or_not m 0) ∙ sym (round-sum n))
  where
    m : ℕ
    m = b % 2147483648

    at : (m ≡ 0) ⊎ (m ≡ 0 → ⊥) → encoded m ≡ round_even n 8192
    at (inl z) =
        let o : n ≡ 0 = omega arith in
        encoded-none m (omega arith) ∙ sym (ap (λ (x : ℕ). round_even x 8192) o ∙ round-none 0 8192 (omega arith))
    at (inr z) = let w = regular-between 947912704 1199570944 m r z in encoded-normal m w.0 w.1 ∙ ap (λ (x : ℕ). round_even x 8192) (sym e)
