-- `snorm8_to_f32` meets its contract: what it computes was computed for each byte.
use lib.Ieee.{nan_bits}
use native.Mathlib.Omega.{arith}
use Rattle.vertices.proofs.NormalisedProduct.{snorm-products}
use Rattle.vertices.proofs.normalised.snorm8_to_f32.Goals as goal

pub float_from_bits-at_least_minus_one : goal.float_from_bits-at_least_minus_one
unfolding nan_bits
float_from_bits-at_least_minus_one c = tt

pub float_to_bits-result : goal.float_to_bits-result
float_to_bits-result c = rw (c.at_least_minus_one.ensures, c.from-signed.ensures, c.cast_signed.ensures) (snorm-products c.args.value (omega arith)).number

pub returns : goal.returns
returns c = rw (c.at_least_minus_one.ensures, c.from-signed.ensures, c.cast_signed.ensures) (snorm-products c.args.value (omega arith)).bits
