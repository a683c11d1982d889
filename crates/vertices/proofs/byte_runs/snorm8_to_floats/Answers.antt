-- Each number becomes what the conversion makes of it; the bytes needed are below 2^64.
use Rattle.std.proofs.Common.{rules}
use Rattle.vertices.specs.Normalised.{snorm8_to_f32}
use Rattle.vertices.proofs.byte_runs.snorm8_to_floats.Goals as goal

pub returns : goal.returns
returns c = let capped = c.convert_all.ensures snorm8_to_f32 (λ x y p. p) in search rules
