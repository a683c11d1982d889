-- `unorm8_to_f32` meets its contract: the code divides as the definition does, and the quotient of a byte by 255 is no NaN.
use Rattle.vertices.specs.Normalised.{unorm8_to_f32}
use mathlib.Core.Path.{refl}
use lib.IntN.{pos}
use lib.Ieee.{binary32, of_bits, to_bits}
use Rattle.vertices.proofs.FloatNan.{of_int_not_nan, div_not_nan}
use Rattle.vertices.proofs.normalised.unorm8_to_f32.Goals as goal

pub float_to_bits-result : goal.float_to_bits-result
unfolding of_bits
float_to_bits-result c = rw c.from.ensures (div_not_nan binary32 255 _ tt (of_int_not_nan binary32 (pos c.args.value)))

pub returns : goal.returns
unfolding unorm8_to_f32 to_bits of_bits
returns c = rw c.from.ensures refl
