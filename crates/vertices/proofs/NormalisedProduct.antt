-- A signed normalised byte by two products: what `snorm8_to_f32` computes is the quotient by 127, for each of the 256 bytes. Assumes nothing.
use mathlib.Core.Path.{◌≡◌}
use mathlib.Core.Bool.{Bool, ◌&&◌, not}
use lib.IntN.{ℤ}
use Prim.Native.Nat.{ℕ, ◌<◌}
use lib.Dec.{T, eqb, eqb→eq}
use lib.Ieee.{Float, binary32, in_float, is_nan, lt, mul, div, neg, round, of_int, of_bits, to_bits}
use lib.Ieee.Fits.{and_l, and_r}
use Rattle.std.specs.Int.{w8, cast_signed, cast_unsigned}
use Rattle.vertices.specs.Normalised.{negative, at_least, signed_byte, snorm8_to_f32}
use Rattle.vertices.proofs.AllBelow.{all_below, each}

-- a byte as `u8::cast_signed` gives it: a signed byte is held as its bits
abbrev pub as_signed : ℕ → ℤ
as_signed b = cast_signed w8 (cast_unsigned w8 (cast_signed w8 b))

-- the products, of a byte; 31.0 and the float nearest to 1 / 3937 by their bits
abbrev pub products : ℕ → Float
products b = at_least (negative 1) (mul binary32 (mul binary32 (of_int binary32 (as_signed b)) (of_bits binary32 0x41F80000)) (of_bits binary32 0x39852B5F))

-- the cast is exact, the products are no NaN, and their bits are the quotient's
right : ℕ → Bool
right b = in_float binary32 (as_signed b) && (not (is_nan (products b)) && eqb (to_bits binary32 (products b)) (snorm8_to_f32 b))

all_right : T (all_below right 256)
unfolding right in_float is_nan lt mul div neg round of_int of_bits to_bits at_least signed_byte snorm8_to_f32
all_right = tt

-- what holds of the products of a byte
pub record Products (b : ℕ) : Type 0 where
  pub exact : T (in_float binary32 (as_signed b))
  pub number : T (not (is_nan (products b)))
  pub bits : to_bits binary32 (products b) ≡ snorm8_to_f32 b

pub snorm-products : (b : ℕ) → b < 256 → Products b
unfolding right
snorm-products b h =
    let t = each right 256 all_right b h in
    let a = in_float binary32 (as_signed b) in
    let n = not (is_nan (products b)) in
    let e = eqb (to_bits binary32 (products b)) (snorm8_to_f32 b) in
    let u = and_r a (n && e) t in
    record { exact = and_l a (n && e) t; number = and_l n e u; bits = eqb→eq _ _ (and_r n e u) }
