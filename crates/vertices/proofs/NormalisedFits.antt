-- The bytes and bits that `specs/Normalised` gives are in range, whatever it is given. Assumes nothing.
use Prim.Native.Nat.{ℕ, ◌^◌, ◌<◌}
use native.Mathlib.Omega.{arith}
use lib.IntN.{ℤ, pos, negsuc}
use lib.Dec.{T}
use lib.Ieee.{Float, binary32, mul, lt, fits, of_bits, to_signed}
use lib.Signed.{mag}
use lib.Ieee.Bits.{to_bits-lt}
use lib.Ieee.Casts.{to_unsigned-lt, to_signed_in}
use lib.Ieee.Fits.{cond-fits, div-fits}
use Rattle.vertices.specs.Normalised.{number, negative, byte_of, at_least, clamp, snorm8_to_f32, unorm8_to_f32, f32_to_snorm8, colour_byte, f32_to_unorm8, snorm_colour8}

at_least-fits : (least x : Float) → T (fits binary32 least) → T (fits binary32 x) → T (fits binary32 (at_least least x))
unfolding at_least
at_least-fits least x l h = cond-fits binary32 (lt x least) least x l h

-- the bits of a decoded signed byte are 32
pub snorm8_to_f32-fits : (b : ℕ) → snorm8_to_f32 b < 2 ^ 32
unfolding snorm8_to_f32 fits
snorm8_to_f32-fits b = to_bits-lt binary32 _ (at_least-fits (negative 1) _ tt (div-fits binary32 _ _))

-- the bits of a decoded unsigned byte are 32
pub unorm8_to_f32-fits : (b : ℕ) → unorm8_to_f32 b < 2 ^ 32
unfolding unorm8_to_f32
unorm8_to_f32-fits b = to_bits-lt binary32 _ (div-fits binary32 _ _)

byte_of-fits : (z : ℤ) → mag z < 128 → byte_of z < 256
byte_of-fits (pos n) h = omega arith
byte_of-fits (negsuc n) h = omega arith

-- an encoded signed byte is a byte
pub f32_to_snorm8-fits : (bits : ℕ) → f32_to_snorm8 bits < 256
unfolding f32_to_snorm8
f32_to_snorm8-fits bits =
    let y = clamp (negative 127) (number 127) (mul binary32 (of_bits binary32 bits) (number 127)) in
    byte_of-fits (to_signed 7 y) (to_signed_in 7 y)

-- a byte of a colour is a byte
pub colour_byte-fits : (x : Float) → colour_byte x < 256
unfolding colour_byte
colour_byte-fits x = to_unsigned-lt 8 _

-- a float as colour is a byte
pub f32_to_unorm8-fits : (bits : ℕ) → f32_to_unorm8 bits < 256
unfolding f32_to_unorm8
f32_to_unorm8-fits bits = colour_byte-fits _

-- a signed normalised float as colour is a byte
pub snorm_colour8-fits : (bits : ℕ) → snorm_colour8 bits < 256
unfolding snorm_colour8
snorm_colour8-fits bits = colour_byte-fits _
