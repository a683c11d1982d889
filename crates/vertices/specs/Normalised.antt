-- Normalised bytes and colours of document 01, over the values and the rounded operations of `lib.Ieee`. A float is given and returned as its bits.
use Rattle.std.specs.Prelude.{ℕ, ◌-◌, true, false, cond, ℤ, pos, negsuc, ltb, Float}
use Rattle.std.specs.Float.{fin, binary32}
use Rattle.std.specs.Float.Ieee.{add, mul, div, lt, of_int, of_bits, to_bits, to_unsigned, to_signed}

-- the whole number n as a float
abbrev pub number : ℕ → Float
number n = fin false n (pos 0)

-- the whole number -n as a float
abbrev pub negative : ℕ → Float
negative n = fin true n (pos 0)

-- 0.5
abbrev pub half : Float
half = fin false 1 (negsuc 0)

-- a byte as a signed number, in two's complement
unfoldable pub signed_byte : ℕ → ℤ
signed_byte b = cond (ltb b 128) (pos b) (negsuc (255 - b))

-- the byte of a signed number
abbrev pub byte_of : ℤ → ℕ
byte_of (pos n) = n
byte_of (negsuc n) = 255 - n

-- anything below `least` becomes `least`
unfoldable pub at_least : Float → Float → Float
at_least least x = cond (lt x least) least x

-- clamped to `least`..`most`; a NaN stays a NaN
unfoldable pub clamp : Float → Float → Float → Float
clamp least most x = cond (lt x least) least (cond (lt most x) most x)

-- a signed normalised byte: one division by 127, and anything below -1.0 becomes -1.0
unfoldable pub snorm8_to_f32 : ℕ → ℕ
snorm8_to_f32 b = to_bits binary32 (at_least (negative 1) (div binary32 (of_int binary32 (signed_byte b)) (number 127)))

-- an unsigned normalised byte: one division by 255
unfoldable pub unorm8_to_f32 : ℕ → ℕ
unorm8_to_f32 b = to_bits binary32 (div binary32 (of_int binary32 (pos b)) (number 255))

-- one multiplication by 127, clamped to -127..127, cut towards zero; a NaN gives 0
unfoldable pub f32_to_snorm8 : ℕ → ℕ
f32_to_snorm8 bits = byte_of (to_signed 7 (clamp (negative 127) (number 127) (mul binary32 (of_bits binary32 bits) (number 127))))

-- clamped to 0..1, multiplied by 255, cut towards zero; a NaN gives 0
unfoldable pub colour_byte : Float → ℕ
colour_byte x = to_unsigned 8 (mul binary32 (clamp (number 0) (number 1) x) (number 255))

-- a float as colour
unfoldable pub f32_to_unorm8 : ℕ → ℕ
f32_to_unorm8 bits = colour_byte (of_bits binary32 bits)

-- a signed normalised float a as colour: first a × 0.5 + 0.5, each operation rounded
unfoldable pub snorm_colour8 : ℕ → ℕ
snorm_colour8 bits = colour_byte (add binary32 (mul binary32 (of_bits binary32 bits) half) half)
