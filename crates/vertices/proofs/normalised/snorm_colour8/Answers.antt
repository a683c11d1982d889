-- `snorm_colour8` meets its contract: a NaN gives 0, any other bits go through the definition's two operations, in which an infinity stays
-- one, and `colour_byte` takes every float.
use lib.Ieee.{add, mul, of_bits}
use Rattle.vertices.specs.Normalised.{snorm_colour8, colour_byte}
use Rattle.vertices.proofs.FloatNan.{nan_value}
use Rattle.vertices.proofs.NormalisedColour.{colour_nan}
use Rattle.vertices.proofs.normalised.snorm_colour8.Goals as goal

pub returns-then-is_nan : goal.returns-then-is_nan
unfolding snorm_colour8 add mul
returns-then-is_nan c = rw (nan_value c.args.bits (cc)) colour_nan

pub returns : goal.returns
unfolding snorm_colour8 colour_byte of_bits
returns c = c.colour_byte.ensures
