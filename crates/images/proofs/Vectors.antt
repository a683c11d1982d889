-- The test vectors of document 01 (its starred soundings), proved by one computation over the whole list.
use mathlib.Core.List.{List, [], ◌∷◌}
use Prim.Native.Nat.{ℕ}
use lib.Count.{count_leading_zeros}
use lib.Ieee.{div, lt, of_int, to_bits}
use lib.ListN.{length}
use Rattle.sections.specs.Edit.{overwrite}
use Rattle.sections.specs.Le.{le, bytes}
use Rattle.vertices.specs.Types.{component_type_of, semantic_of}
use Rattle.vertices.specs.Declaration.{components_from, components_of}
use Rattle.vertices.specs.Attribute.{all_inside, attributes_of}
use Rattle.vertices.specs.Unified.{vertices_inside}
use Rattle.vertices.specs.Half.{f16_to_f32, f32_to_f16}
use Rattle.vertices.specs.Normalised.{signed_byte, at_least, snorm8_to_f32}
use Rattle.vertices.specs.Runs.{run}
use Rattle.vertices.proofs.Vectors.{Row, row, Right, tested, position_refusal, unify_refusal, vectors}
use Rattle.images.specs.Image.{header_bytes, filled, laid, addresses, image}

-- the bytes of the empty hall's image, and the number that they say: 16 zeros
pub empty_length : ℕ → ℕ
empty_length models = length (image [])

pub empty_number : ℕ → ℕ
empty_number models = le (image [])

pub all_vectors : List Row
all_vectors = row empty_length 0 16 ∷ row empty_number 0 0 ∷ vectors

-- Every vector is right.
pub vectors-right : Right all_vectors
unfolding all_vectors vectors empty_length empty_number image header_bytes filled laid addresses run overwrite bytes le f16_to_f32 f32_to_f16 count_leading_zeros snorm8_to_f32 signed_byte at_least div lt of_int to_bits position_refusal unify_refusal attributes_of vertices_inside all_inside components_of components_from component_type_of semantic_of
vectors-right = tested all_vectors tt
