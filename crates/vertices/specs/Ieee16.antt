-- What IEEE 754 requires of the conversions between halves and floats. `proofs/HalfLaws.antt` proves it of `f16_to_f32` and `f32_to_f16`.
use Rattle.std.specs.Prelude.{◌≡◌, cond, ℕ, ◌+◌, ◌-◌, ◌*◌, ◌/◌, ◌%◌, ◌^◌, ◌≤◌, ◌<◌, eqb}
use Rattle.vertices.specs.Half.{magnitude}

-- the bits of an infinity below its sign, of a half and of a float: those of a finite number are below, those of a NaN above
abbrev pub infinity16 : ℕ
infinity16 = 31 * 2 ^ 10

abbrev pub infinity32 : ℕ
infinity32 = 255 * 2 ^ 23

-- The size of a half whose bits below the sign are m, in units of 2^-149, a float's smallest value: a half's smallest is 2^125 of them.
unfoldable pub half_size : ℕ → ℕ
unfolding magnitude
half_size m = magnitude 10 m * 2 ^ 125

-- r is the float that the half h stands for: the same number, the same infinity, or a NaN with the same sign and payload, as quiet or signalling as h
pub record Decoded (h r : ℕ) : Type 0 where
  pub sign : r / 2 ^ 31 ≡ h / 2 ^ 15
  pub zero : h % 2 ^ 15 ≡ 0 → r % 2 ^ 31 ≡ 0
  pub finite : h % 2 ^ 15 < infinity16 → r % 2 ^ 31 < infinity32
  pub same : h % 2 ^ 15 < infinity16 → magnitude 23 (r % 2 ^ 31) ≡ half_size (h % 2 ^ 15)
  pub infinite : h % 2 ^ 15 ≡ infinity16 → r % 2 ^ 31 ≡ infinity32
  pub nan : infinity16 < h % 2 ^ 15 → r % 2 ^ 31 ≡ infinity32 + h % 2 ^ 10 * 2 ^ 13
  pub quiet : infinity16 < h % 2 ^ 15 → r / 2 ^ 22 % 2 ≡ h / 2 ^ 9 % 2

-- how far two numbers lie apart
abbrev pub gap : ℕ → ℕ → ℕ
gap a c = a - c + (c - a)

-- how far the finite float b and the half k lie apart, in units of 2^-149, an infinite k being 65,536: like signs subtract, unlike ones add
unfoldable pub distance : ℕ → ℕ → ℕ
unfolding magnitude half_size
distance b k =
    cond (eqb (b / 2 ^ 31) (k / 2 ^ 15)) (gap (magnitude 23 (b % 2 ^ 31)) (half_size (k % 2 ^ 15)))
    (magnitude 23 (b % 2 ^ 31) + half_size (k % 2 ^ 15))

-- k is a half of either sign and no NaN: a finite one or an infinity
pub record HalfNumber (k : ℕ) : Type 0 where
  pub width : k < 2 ^ 16
  pub number : k % 2 ^ 15 ≤ infinity16

-- Of all halves none is nearer to the finite float b than r, and where another is as near, r's last bit is 0.
pub record Nearest (b r : ℕ) : Type 0 where
  pub half : HalfNumber r
  pub least : (k : ℕ) → HalfNumber k → distance b r ≤ distance b k
  pub even : (k : ℕ) → HalfNumber k → (k ≡ r → ⊥) → distance b k ≡ distance b r → r % 2 ≡ 0

-- r is the half that the float b is rounded to: with b's sign, the nearest, an infinity for an infinity, a NaN with b's upper ten fraction bits and 0x200
pub record Encoded (b r : ℕ) : Type 0 where
  pub sign : r / 2 ^ 15 ≡ b / 2 ^ 31
  pub zero : b % 2 ^ 31 ≡ 0 → r % 2 ^ 15 ≡ 0
  pub nearest : b % 2 ^ 31 < infinity32 → Nearest b r
  pub infinite : b % 2 ^ 31 ≡ infinity32 → r % 2 ^ 15 ≡ infinity16
  pub nan : infinity32 < b % 2 ^ 31 → r % 2 ^ 15 ≡ infinity16 + (2 ^ 9 + b / 2 ^ 13 % 2 ^ 9)
