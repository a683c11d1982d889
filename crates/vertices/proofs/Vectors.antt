-- The test vectors of document 01 (its starred soundings) that are about vertices. `Vectors` of images proves them, with that of the empty
-- hall, by one computation over the whole list.
use mathlib.Core.Path.{◌≡◌}
use mathlib.Core.Bool.{Bool, true, false, cond, ◌&&◌}
use mathlib.Core.List.{List, [], ◌∷◌}
use Prim.Native.Nat.{ℕ, ◌*◌}
use lib.Dec.{T, eqb, eqb→eq}
use lib.ListN.{replicate}
use Rattle.vertices.specs.Declaration.{position_only}
use Rattle.std.specs.Prelude.{Result, Ok, Err}
use Rattle.vertices.specs.Attribute.{attribute_check, attributes_of}
use Rattle.vertices.specs.declared.attribute.VertexAttribute.{VertexAttribute}
use Rattle.vertices.specs.declared.attributes.AttributeError.{AttributeError}
use Rattle.vertices.specs.Unified.{vertices_inside}
use Rattle.vertices.specs.Half.{f16_to_f32, f32_to_f16}
use Rattle.vertices.specs.Normalised.{snorm8_to_f32}

-- a conversion, what it is given, and what it must give
pub data Row : Type 0 where
  row : (ℕ → ℕ) → ℕ → ℕ → Row

-- every row gives what it must
unfoldable pub Right : List Row → Type 0
Right [] = Unit {0}
Right (row convert input output ∷ rows) = (convert input ≡ output) × Right rows

-- the same as a test that antt computes
abbrev pub test : List Row → Bool
test [] = true
test (row convert input output ∷ rows) = eqb (convert input) output && test rows

both : (a b : Bool) → T (a && b) → T a × T b
both true b t = (tt, t)
both false b t = absurd t

-- a list that passes the test is right
pub tested : (rows : List Row) → T (test rows) → Right rows
unfolding Right
tested [] t = tt
tested (row convert input output ∷ rows) t =
    let ts = both (eqb (convert input) output) (test rows) t in
    (eqb→eq (convert input) output ts.0, tested rows ts.1)

-- the check that refuses, 0 where none does
abbrev pub refusal_number : Result (List VertexAttribute) AttributeError → ℕ
refusal_number (Ok list) = 0
refusal_number (Err e) = attribute_check e

-- the check that refuses attribute `index` of two vertices of 11 bytes that have a position alone, 0 where none does
unfoldable pub position_refusal : ℕ → ℕ
position_refusal index = refusal_number (attributes_of (replicate 22 0) 11 2 (position_only 11) index)

-- the check that refuses to unify two such vertices of `stride` bytes, 0 where none does
unfoldable pub unify_refusal : ℕ → ℕ
unify_refusal stride = cond (vertices_inside (position_only stride) (2 * stride) stride 2) 0 9

-- halves to floats, floats to halves, signed normalised bytes to floats; position alone, count 2, stride 11: vertex 0 reads, vertex 1 and
-- unifying refuse 9, and stride 12 unifies
unfoldable pub vectors : List Row
vectors =
    row f16_to_f32 0x0001 0x33800000
    ∷ row f16_to_f32 0x03FF 0x387FC000
    ∷ row f16_to_f32 0x0400 0x38800000
    ∷ row f16_to_f32 0x7C01 0x7F802000
    ∷ row f32_to_f16 0x7F802000 0x7E01
    ∷ row f32_to_f16 0x33000000 0
    ∷ row f32_to_f16 0x33000001 0x0001
    ∷ row f32_to_f16 0x477FEFFF 0x7BFF
    ∷ row f32_to_f16 0x477FF000 0x7C00
    ∷ row f32_to_f16 0x3F801000 0x3C00
    ∷ row snorm8_to_f32 0x80 0xBF800000
    ∷ row snorm8_to_f32 0x81 0xBF800000
    ∷ row position_refusal 0 0
    ∷ row position_refusal 1 9
    ∷ row unify_refusal 11 9
    ∷ row unify_refusal 12 0
    ∷ []
