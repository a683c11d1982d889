-- `f32_to_snorm8`: `signed_byte_lem`, of the bits below the sign, or 0 for a NaN's.
use lib.Ieee.{of_bits}
use Prim.Native.Nat.{◌<◌}
use native.Mathlib.Omega.{arith}
use lib.Ieee.Casts.{to_unsigned-lt}
use Rattle.vertices.proofs.NormalisedSize.{SignedByte, signed_byte_lem}
use Rattle.vertices.proofs.normalised.f32_to_snorm8.Goals as goal

pub float_from_bits-or_zero : goal.float_from_bits-or_zero
float_from_bits-or_zero c =
    let known : SignedByte c.args.bits c.or_zero.result = signed_byte_lem c.args.bits (omega arith) c.or_zero.result c.or_zero.ensures in
    known.real

pub cut-size-requires : goal.cut-size-requires
unfolding of_bits
cut-size-requires c =
    let known : SignedByte c.args.bits c.or_zero.result = signed_byte_lem c.args.bits (omega arith) c.or_zero.result c.or_zero.ensures in
    rw c.at_most.ensures known.whole

pub twos_complement-requires : goal.twos_complement-requires
twos_complement-requires c = let small : c.cut-size.result < 256 = rw c.cut-size.ensures (to_unsigned-lt 8 _) in omega arith

pub returns : goal.returns
unfolding of_bits
returns c =
    let known : SignedByte c.args.bits c.or_zero.result = signed_byte_lem c.args.bits (omega arith) c.or_zero.result c.or_zero.ensures in
    rw (c.twos_complement.ensures, c.cut-size.ensures, c.at_most.ensures) known.byte
