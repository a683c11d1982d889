-- `f32_to_unorm8` meets its contract: bits that are no NaN's are read as their float, and a NaN gives 0 as the definition does.
use Rattle.vertices.specs.Normalised.{f32_to_unorm8, colour_byte}
use Rattle.vertices.proofs.FloatNan.{nan_value}
use Rattle.vertices.proofs.NormalisedColour.{colour_nan}
use Rattle.vertices.proofs.normalised.f32_to_unorm8.Goals as goal

pub returns-then-is_nan : goal.returns-then-is_nan
unfolding f32_to_unorm8
returns-then-is_nan c = rw (nan_value c.args.bits (cc)) colour_nan

pub returns : goal.returns
unfolding f32_to_unorm8 colour_byte
returns c = c.colour_byte.ensures
