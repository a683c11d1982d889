-- What holds of `f16_to_f32` and `f32_to_f16` at every half h < 2 ^ 16 and every float b < 2 ^ 32: they are IEEE 754's conversions as `specs/Ieee16.antt` states them.
use mathlib.Core.Path.{◌≡◌, refl, sym, ap, ◌∙◌, subst}
use mathlib.Core.Logic.{inl, inr}
use Prim.Native.Nat.{ℕ, ◌+◌, ◌*◌, ◌/◌, ◌%◌, ◌^◌, ◌≤◌, ◌<◌}
use native.Mathlib.Omega.{arith}
use borrow.Author.Tests.{eq-eqb, ne_eqb}
use Rattle.vertices.specs.Half.{magnitude, decoded, encoded, f16_to_f32, f32_to_f16}
use Rattle.vertices.specs.Ieee16.{infinity16, infinity32, half_size, gap, distance, Decoded, HalfNumber, Nearest, Encoded}
use Rattle.vertices.proofs.HalfSize.{equal_or_not, magnitude-one, side}
use Rattle.vertices.proofs.HalfDecode.{decoded-finite, decoded-fits, decoded-same, decoded-special, decoded-zero}
use Rattle.vertices.proofs.HalfEncode.{encoded-fits, encoded-nan, encoded-none, encoded-over}
use Rattle.vertices.proofs.HalfNearest.{Closest, encoded-closest, exact, one-closest}

-- ---- the parts of the results

f16_sign : (h : ℕ) → f16_to_f32 h / 2 ^ 31 ≡ h / 2 ^ 15
unfolding f16_to_f32
f16_sign h = omega (arith, decoded-fits (h % 32768) (omega arith))

f16-rest : (h : ℕ) → f16_to_f32 h % 2 ^ 31 ≡ decoded (h % 2 ^ 15)
unfolding f16_to_f32
f16-rest h = omega (arith, decoded-fits (h % 32768) (omega arith))

f32_sign : (b : ℕ) → f32_to_f16 b / 2 ^ 15 ≡ b / 2 ^ 31
unfolding f32_to_f16
f32_sign b = omega (arith, encoded-fits (b % 2147483648))

f32-rest : (b : ℕ) → f32_to_f16 b % 2 ^ 15 ≡ encoded (b % 2 ^ 31)
unfolding f32_to_f16
f32-rest b = omega (arith, encoded-fits (b % 2147483648))

-- the float's bits are 32
pub f16-fits : (h : ℕ) → h < 2 ^ 16 → f16_to_f32 h < 2 ^ 32
f16-fits h l = omega (arith, f16_sign h)

-- the half's bits are 16
pub f32-fits : (b : ℕ) → b < 2 ^ 32 → f32_to_f16 b < 2 ^ 16
f32-fits b l = omega (arith, f32_sign b)

-- A half decodes to the same number, infinity or NaN, with the same sign.
pub decodes : (h : ℕ) → h < 2 ^ 16 → Decoded h (f16_to_f32 h)
decodes h w =
    let m = h % 32768 in
    let rest = f16-rest h in
    record {
      sign = f16_sign h;
      zero = λ e. rest ∙ decoded-zero m e;
      finite = λ l. omega (arith, decoded-finite m l);
      same = λ l. ap (magnitude 23) rest ∙ decoded-same m l;
      infinite = λ e. omega (arith, decoded-special m (omega arith));
      nan = λ g. omega (arith, decoded-special m (omega arith));
      quiet = λ g. omega (arith, decoded-special m (omega arith));
    }

-- Exactly one float is what a half decodes to.
pub one-decoding : (h r s : ℕ) → Decoded h r → Decoded h s → r ≡ s
one-decoding h r s x y = omega (arith, rest, x.sign, y.sign)
  where
    rest : r % 2 ^ 31 ≡ s % 2 ^ 31
    rest =
        elim (side infinity16 (h % 2 ^ 15)) [
          | inr l ↦ magnitude-one 23 (r % 2 ^ 31) (s % 2 ^ 31) (x.same l ∙ sym (y.same l))
          | inl g ↦ elim (side (h % 2 ^ 15) infinity16) [
            | inr l ↦ x.nan l ∙ sym (y.nan l)
            | inl k ↦ let e : h % 2 ^ 15 ≡ infinity16 = omega arith in x.infinite e ∙ sym (y.infinite e)
          ]
        ]

-- ---- the nearest of the halves of both signs

zero-size : half_size 0 ≡ 0
unfolding magnitude half_size
zero-size = refl

same_sign : (b k : ℕ) → b / 2 ^ 31 ≡ k / 2 ^ 15 → distance b k ≡ gap (magnitude 23 (b % 2 ^ 31)) (half_size (k % 2 ^ 15))
unfolding distance
same_sign b k e = simp (eq-eqb (b / 2 ^ 31) (k / 2 ^ 15) e)

other_sign : (b k : ℕ) → (b / 2 ^ 31 ≡ k / 2 ^ 15 → ⊥) → distance b k ≡ magnitude 23 (b % 2 ^ 31) + half_size (k % 2 ^ 15)
unfolding distance
other_sign b k e = simp (ne_eqb (b / 2 ^ 31) (k / 2 ^ 15) e)

-- nearest among the halves of the float's sign is nearest among all: those of the other sign are no nearer than zero
across : (b r : ℕ) → b < 2 ^ 32 → r / 2 ^ 15 ≡ b / 2 ^ 31 → Closest (magnitude 23 (b % 2 ^ 31)) (r % 2 ^ 15) → Nearest b r
across b r w s z =
    let here = same_sign b r (sym s) in
    let none = z.least 0 (omega arith) in
    record {
      half = record { width = omega arith; number = z.number };
      least = λ k h.
          elim (equal_or_not (b / 2 ^ 31) (k / 2 ^ 15)) [
            | inl e ↦ omega (arith, same_sign b k e, z.least (k % 2 ^ 15) h.number)
            | inr n ↦ omega (arith, other_sign b k n, zero-size)
          ];
      even = λ k h ne tie.
          elim (equal_or_not (b / 2 ^ 31) (k / 2 ^ 15)) [
            | inl e ↦
                let last : r % 2 ^ 15 % 2 ≡ 0 = z.even (k % 2 ^ 15) h.number (λ q. ne (omega arith)) (omega (arith, same_sign b k e)) in
                omega arith
            | inr n ↦ elim (equal_or_not 0 (r % 2 ^ 15)) [
              | inl q ↦ omega arith
              | inr q ↦ let last : r % 2 ^ 15 % 2 ≡ 0 = z.even 0 (omega arith) q (omega (arith, other_sign b k n, zero-size)) in omega arith
            ]
          ];
    }

-- the half with the float's sign and the bits k below it
signed : ℕ → ℕ → ℕ
signed b k = b / 2 ^ 31 * 2 ^ 15 + k

-- and back: what is nearest among all is nearest among those of the float's sign
module _ (b r : ℕ) (w : b < 2 ^ 32) (z : Nearest b r) where
  at : (k : ℕ) → k ≤ 31744 → distance b (signed b k) ≡ gap (magnitude 23 (b % 2 ^ 31)) (half_size k)
  unfolding signed
  at k h =
      let e : signed b k % 2 ^ 15 ≡ k = omega arith in
      same_sign b (signed b k) (omega arith) ∙ ap (λ (n : ℕ). gap (magnitude 23 (b % 2 ^ 31)) (half_size n)) e

  signed-half : (k : ℕ) → k ≤ 31744 → HalfNumber (signed b k)
  unfolding signed
  signed-half k h = record { width = omega arith; number = omega arith }

  -- where r has the other sign it is a zero
  own : distance b r ≡ gap (magnitude 23 (b % 2 ^ 31)) (half_size (r % 2 ^ 15))
  own =
      elim (equal_or_not (b / 2 ^ 31) (r / 2 ^ 15)) [
        | inl e ↦ same_sign b r e
        | inr n ↦
            let l : distance b r ≤ distance b (signed b 0) = z.least (signed b 0) (signed-half 0 (omega arith)) in
            omega (arith, other_sign b r n, at 0 (omega arith), zero-size)
      ]

  one-sign : Closest (magnitude 23 (b % 2 ^ 31)) (r % 2 ^ 15)
  unfolding signed
  one-sign =
      record {
        number = z.half.number;
        least = λ k h. omega (arith, own, at k h, z.least (signed b k) (signed-half k h));
        even = λ k h ne tie.
            let last : r % 2 ≡ 0 = z.even (signed b k) (signed-half k h) (λ e. ne (omega arith)) (at k h ∙ tie ∙ sym own) in
            omega arith;
      }

-- A float is rounded to the nearest of all halves, at a tie to the one whose last bit is 0, with its sign; an infinity stays one; a NaN
-- keeps its upper ten fraction bits and is quiet.
pub encodes : (b : ℕ) → b < 2 ^ 32 → Encoded b (f32_to_f16 b)
encodes b w =
    let m = b % 2147483648 in
    let rest = f32-rest b in
    record {
      sign = f32_sign b;
      zero = λ e. rest ∙ encoded-none m (omega arith);
      nearest = λ l. across b (f32_to_f16 b) w (f32_sign b) (subst (Closest (magnitude 23 m)) (sym rest) (encoded-closest m (omega arith)));
      infinite = λ e. rest ∙ encoded-over m (omega arith) (omega arith);
      nan = λ g. omega (arith, encoded-nan m g);
    }

-- All nearest halves have the same bits below the sign: the rule for ties leaves one.
pub one-nearest : (b r s : ℕ) → b < 2 ^ 32 → Nearest b r → Nearest b s → r % 2 ^ 15 ≡ s % 2 ^ 15
one-nearest b r s w x y = one-closest (magnitude 23 (b % 2 ^ 31)) (r % 2 ^ 15) (s % 2 ^ 15) (one-sign b r w x) (one-sign b s w y)

-- Exactly one half is what a float is rounded to.
pub one-encoding : (b r s : ℕ) → b < 2 ^ 32 → Encoded b r → Encoded b s → r ≡ s
one-encoding b r s w x y = omega (arith, rest, x.sign, y.sign)
  where
    rest : r % 2 ^ 15 ≡ s % 2 ^ 15
    rest =
        elim (side infinity32 (b % 2 ^ 31)) [
          | inr l ↦ one-nearest b r s w (x.nearest l) (y.nearest l)
          | inl g ↦ elim (side (b % 2 ^ 31) infinity32) [
            | inr l ↦ x.nan l ∙ sym (y.nan l)
            | inl k ↦ let e : b % 2 ^ 31 ≡ infinity32 = omega arith in x.infinite e ∙ sym (y.infinite e)
          ]
        ]

-- ---- there and back

-- the bits below the sign come back
back : (m : ℕ) → m ≤ 31744 → encoded (decoded m) ≡ m
back m h =
    elim (side 31744 m) [
      | inr l ↦
          let f : decoded m ≤ 2139095040 = omega (arith, decoded-finite m l) in
          one-closest (half_size m) (encoded (decoded m)) m (subst (λ (u : ℕ). Closest u (encoded (decoded m))) (decoded-same m l) (encoded-closest (decoded m) f)) (exact m h)
      | inl g ↦
          let e : decoded m ≡ 2139095040 = omega (arith, decoded-special m g) in
          encoded-over (decoded m) (omega arith) (omega arith) ∙ omega arith
    ]

-- A half that is no NaN comes back from its float.
pub encode_decode : (h : ℕ) → h < 2 ^ 16 → h % 2 ^ 15 ≤ infinity16 → f32_to_f16 (f16_to_f32 h) ≡ h
encode_decode h w l =
    let b = f16_to_f32 h in
    let rest : f32_to_f16 b % 2 ^ 15 ≡ h % 2 ^ 15 = f32-rest b ∙ ap encoded (f16-rest h) ∙ back (h % 2 ^ 15) l in
    omega (arith, f32_sign b, f16_sign h)
