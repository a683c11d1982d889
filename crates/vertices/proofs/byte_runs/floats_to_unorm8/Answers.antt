-- Each number becomes what the conversion makes of it; the bytes needed are below 2^64.
use Rattle.std.proofs.Common.{rules}
use Rattle.vertices.specs.Normalised.{f32_to_unorm8}
use Rattle.vertices.proofs.byte_runs.floats_to_unorm8.Goals as goal

pub returns : goal.returns
returns c = let capped = c.convert_all.ensures f32_to_unorm8 (λ x y p. p) in search rules
