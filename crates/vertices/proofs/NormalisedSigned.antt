-- Signed normalised bytes: what each way of `signed_byte`, `snorm8_to_f32` and `f32_to_snorm8` returns. Assumes nothing.
use Rattle.std.proofs.Common.{◌≡◌, ℕ, zero, suc, ◌+◌, ◌-◌, ◌*◌, ◌/◌, ◌%◌, ◌<◌, ◌≤◌, min, true, false, not, T, ltb, ℤ, pos, neg_ℤ, sym, ap, subst, mul_comm, arith, ltb-false, ltb-true, le-ltb, lt-ltb}
use native.Mathlib.Nat.{div-le_of_le-mul, zero-div}
use lib.Ieee.{Float, nan, inf, fin, binary32, up, down, neg, mul, div, lt, is_nan, nan_bits, of_int, of_bits, to_bits, to_unsigned, to_signed}
use Rattle.vertices.specs.Normalised.{number, negative, signed_byte, byte_of, at_least, clamp, snorm8_to_f32, f32_to_snorm8}
use Rattle.vertices.proofs.FloatRounding.{round_neg}
use Rattle.vertices.proofs.FloatNan.{nan_value}
use Rattle.vertices.proofs.FloatOrder.{above_minus_one, below_larger}
use Rattle.vertices.proofs.NormalisedClamp.{clamp-below, clamp-above, clamp-inside}

-- ---- a byte as a float

-- a byte below 128 is its own signed number
pub signed_low : (b : ℕ) → b < 128 → of_int binary32 (pos b) ≡ of_int binary32 (signed_byte b)
unfolding signed_byte
signed_low b h = rw (lt-ltb b 128 h)

-- a byte from 128 on is what it lacks to 256, below zero
pub signed_high : (b : ℕ) → 128 ≤ b → b < 256 → neg (of_int binary32 (pos (256 - b))) ≡ of_int binary32 (signed_byte b)
unfolding of_int signed_byte
signed_high b l h =
    let more : 256 - b ≡ suc (255 - b) = omega arith in
    rw (le-ltb b 128 l, more) (round_neg binary32 (suc (255 - b)) 1)

module _ (b : ℕ) (x : Float) (signed : x ≡ of_int binary32 (signed_byte b)) where
  -- a quotient below -1 becomes -1
  pub snorm_below : lt (div binary32 x (number 127)) (negative 1) ≡ true → to_bits binary32 (negative 1) ≡ snorm8_to_f32 b
  unfolding snorm8_to_f32 at_least
  snorm_below h = rw (← signed, h)

  -- any other stays as it is
  pub snorm-inside : lt (div binary32 x (number 127)) (negative 1) ≡ false → to_bits binary32 (div binary32 x (number 127)) ≡ snorm8_to_f32 b
  unfolding snorm8_to_f32 at_least
  snorm-inside h = rw (← signed, h)

-- ---- a float as a byte

module _ (bits : ℕ) where
  -- a NaN gives 0
  pub snorm_nan : nan_bits binary32 bits ≡ true → 0 ≡ f32_to_snorm8 bits
  unfolding f32_to_snorm8 clamp lt mul to_signed
  snorm_nan h = rw (nan_value bits h)

  abbrev pub product : Float
  product = mul binary32 (of_bits binary32 bits) (number 127)

  clamped : {y : Float} → clamp (negative 127) (number 127) product ≡ y → byte_of (to_signed 7 y) ≡ f32_to_snorm8 bits
  unfolding f32_to_snorm8
  clamped e = sym (ap (λ (y : Float). byte_of (to_signed 7 y)) e)

  -- below -127 the byte is that of -127
  pub cut_below : lt product (negative 127) ≡ true → 129 ≡ f32_to_snorm8 bits
  unfolding to_signed
  cut_below l = clamped (clamp-below (negative 127) (number 127) product l)

  -- above 127 it is 127
  pub cut_above : lt product (negative 127) ≡ false → lt (number 127) product ≡ true → 127 ≡ f32_to_snorm8 bits
  unfolding to_signed
  cut_above l m = clamped (clamp-above (negative 127) (number 127) product l m)

  -- between them it is that of the product, cut
  pub cut_inside : lt product (negative 127) ≡ false → lt (number 127) product ≡ false → byte_of (to_signed 7 product) ≡ f32_to_snorm8 bits
  cut_inside l m = clamped (clamp-inside (negative 127) (number 127) product l m)

-- x lies from 0 to 127, as the code tests it
pub record Magnitude (x : Float) : Type 0 where
  pub real : T (not (is_nan x))
  pub from : lt x (number 0) ≡ false
  pub to : lt (number 127) x ≡ false

-- such a number can be cut to a byte
pub magnitude-in_byte : (x : Float) → Magnitude x → T (lt (negative 1) x) × T (lt x (number 256))
magnitude-in_byte x h = (above_minus_one x h.real h.from, below_larger 127 256 x (omega arith) h.real h.to)

-- what is below 0 and not below -127 has such a magnitude
pub magnitude-neg : (y : Float) → lt y (negative 127) ≡ false → lt y (number 0) ≡ true → Magnitude (neg y)
unfolding lt neg is_nan
magnitude-neg nan l z = absurd (subst T (sym z) tt)
magnitude-neg (inf true) l z = absurd (subst T l tt)
magnitude-neg (inf false) l z = absurd (subst T (sym z) tt)
magnitude-neg (fin true m e) l z = record { real = tt; from = le-ltb (m * up e * 1) (0 * 1 * down e) (omega arith); to = l }
magnitude-neg (fin false m e) l z = absurd (omega (arith, ltb-true (m * up e * 1) (0 * 1 * down e) z))

whole_part : (m : ℕ) (e : ℤ) → ltb (127 * 1 * down e) (m * up e * 1) ≡ false → m * up e / down e ≤ 127
whole_part m e h = div-le_of_le-mul (down e) (omega (arith, mul_comm 127 (down e), ltb-false (127 * 1 * down e) (m * up e * 1) h))

-- from 0 on the signed byte is the number itself
pub byte-from-zero : (y : Float) → Magnitude y → to_unsigned 8 y ≡ byte_of (to_signed 7 y)
unfolding lt is_nan to_unsigned to_signed
byte-from-zero nan h = absurd h.real
byte-from-zero (inf true) h = absurd (subst T h.from tt)
byte-from-zero (inf false) h = absurd (subst T h.to tt)
byte-from-zero (fin false m e) h =
    let q : m * up e / down e ≤ 127 = whole_part m e h.to in
    omega arith
byte-from-zero (fin true m e) h =
    let z : m * up e ≡ 0 = omega (arith, ltb-false 0 (m * up e * 1 + 0 * 1 * down e) h.from) in
    rw (z, zero-div (down e))

two's_complement : (q n r : ℕ) → q ≤ 127 → n ≡ min q 255 → r < 256 → (r + n) % 256 ≡ 0 → r ≡ byte_of (neg_ℤ (pos (min q 128)))
two's_complement zero n r l c h e = omega arith
two's_complement (suc q) n r l c h e =
    let same : min (suc q) 128 ≡ suc q = omega arith in
    rw same (omega arith)

-- below 0 it is what n, the magnitude cut, lacks to 256
pub byte_below-zero : (y : Float) (n r : ℕ) → lt y (number 0) ≡ true → Magnitude (neg y)
    → n ≡ to_unsigned 8 (neg y) → r < 256 → (r + n) % 256 ≡ 0 → r ≡ byte_of (to_signed 7 y)
unfolding lt neg is_nan to_unsigned to_signed
byte_below-zero nan n r z h c l e = absurd h.real
byte_below-zero (inf true) n r z h c l e = absurd (subst T h.to tt)
byte_below-zero (inf false) n r z h c l e = absurd (subst T h.from tt)
byte_below-zero (fin true m d) n r z h c l e = two's_complement (m * up d / down d) n r (whole_part m d h.to) c l e
byte_below-zero (fin false m d) n r z h c l e = absurd (omega (arith, ltb-true (m * up d * 1) (0 * 1 * down d) z))
