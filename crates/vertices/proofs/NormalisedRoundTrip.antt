-- A normalised byte as a float and back, at all 256 bytes: antt computes each. Assumes nothing.
use mathlib.Core.Path.{◌≡◌, refl}
use mathlib.Core.Bool.{Bool, cond}
use Prim.Native.Nat.{ℕ, ◌<◌}
use lib.Dec.{T, eqb, eqb→eq}
use lib.Ieee.{mul, div, lt, of_int, of_bits, to_bits, to_unsigned, to_signed}
use Rattle.vertices.specs.Normalised.{signed_byte, at_least, clamp, snorm8_to_f32, unorm8_to_f32, f32_to_snorm8, f32_to_unorm8, colour_byte}
use Rattle.vertices.proofs.AllBelow.{all_below, each}

-- both -128 and -127 are -1.0
pub minus-one-twice : (snorm8_to_f32 128 ≡ 0xBF800000) × (snorm8_to_f32 129 ≡ 0xBF800000)
unfolding snorm8_to_f32 signed_byte at_least div lt of_int to_bits
minus-one-twice = (refl, refl)

module _ (there back expected : ℕ → ℕ) where
  -- there and back gives what is expected of the byte
  returns : ℕ → Bool
  returns b = eqb (back (there b)) (expected b)

  returns-at : T (all_below returns 256) → (b : ℕ) → b < 256 → back (there b) ≡ expected b
  unfolding returns
  returns-at t b h = eqb→eq (back (there b)) (expected b) (each returns 256 t b h)

-- a signed byte, decoded and encoded, comes back, but for 128, which comes back as 129
pub snorm_round_trip : (b : ℕ) → b < 256 → f32_to_snorm8 (snorm8_to_f32 b) ≡ cond (eqb b 128) 129 b
unfolding returns snorm8_to_f32 signed_byte at_least f32_to_snorm8 clamp mul div lt of_int of_bits to_bits to_signed
snorm_round_trip = returns-at snorm8_to_f32 f32_to_snorm8 (λ b. cond (eqb b 128) 129 b) tt

-- an unsigned byte, decoded and encoded, comes back
pub unorm-round_trip : (b : ℕ) → b < 256 → f32_to_unorm8 (unorm8_to_f32 b) ≡ b
unfolding returns unorm8_to_f32 f32_to_unorm8 colour_byte clamp mul div lt of_int of_bits to_bits to_unsigned
unorm-round_trip = returns-at unorm8_to_f32 f32_to_unorm8 (λ b. b) tt
