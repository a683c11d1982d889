-- How the check finds its verdict in one pass: the lowest rank of a check that a geometry fails, and whether a model or a geometry stands at the front of some bytes.
-- Private contracts speak of this; `JudgingLaws` and `WalkLaws` tie it to the verdict.
use Rattle.std.specs.Prelude.{◌≡◌, Bool, cond, ◌&&◌, List, ℕ, ◌+◌, ◌*◌, ◌%◌, eqb, leb, ltb, length}
use Rattle.sections.specs.Edit.{fits}
use Rattle.sections.specs.Le.{field}
use Rattle.vertices.specs.Declaration.{component_of, total_size}
use Rattle.vertices.specs.declared.declaration.VertexDeclaration.{VertexDeclaration}
use Rattle.halls.specs.Checks.{vertex_bytes_exact, strides_agree, has_size, components_inside, vertex_counts_agree, index_counts_agree}
use Rattle.halls.specs.Checks.{indices_in_range, triangles_of, has_three_vertices, triangles_distinct}
use Rattle.halls.specs.Every.{every}
use Rattle.halls.specs.Fronts.{entries_at, content_at, held_at}
use Rattle.halls.specs.Hall.{FullGeometry}
use Rattle.halls.specs.Inner.Order.{passed}
use Rattle.halls.specs.declared.check.geometry.GeometryHead.{GeometryHead}

-- ---- one geometry

-- of checks 14 to 17, and of 14 to 18 and 27, the first that a geometry fails
abbrev pub head_lowest : FullGeometry → ℕ → ℕ
head_lowest g next = cond (strides_agree g) (cond (components_inside g) (cond (vertex_counts_agree g) (cond (index_counts_agree g) next 17) 16) 15) 14

-- of checks 18 and 27
abbrev pub indices_lowest : FullGeometry → ℕ
indices_lowest g = cond (indices_in_range g) (cond (triangles_distinct g) passed 27) 18

-- the same of indices, where the geometry has so many vertices
unfoldable pub indices_lowest_of : ℕ → List ℕ → ℕ
indices_lowest_of limit xs = cond (every (λ (i : ℕ). ltb i limit) xs) (cond (every has_three_vertices (triangles_of xs)) passed 27) 18

-- and of check 17 where a caller lends them
abbrev pub lent_lowest : ℕ → List ℕ → ℕ
lent_lowest limit xs = cond (eqb (length xs % 3) 0 && leb 3 (length xs)) (indices_lowest_of limit xs) 17

unfoldable pub lowest_of : FullGeometry → ℕ
lowest_of g = head_lowest g (indices_lowest g)

-- check 15 by declaration and stride
unfoldable pub inside_stride : VertexDeclaration → ℕ → Bool
inside_stride d stride = has_size (component_of d 0) && leb (total_size d) stride

-- with check 11, where the vertex bytes are given
unfoldable pub given_lowest : FullGeometry → ℕ
given_lowest g = cond (vertex_bytes_exact g) (lowest_of g) 11

-- its numbers, without vertex bytes and indices
abbrev pub head_of : FullGeometry → GeometryHead
head_of g = record {
  numbers = record {
    shader = g.shader;
    index_count = g.index_count;
    triangle_count = g.triangle_count;
    vertex_count = g.vertex_count;
    stride = g.stride;
  };
  declaration = g.declaration;
  layout = g.vertices.layout;
  vertices_stride = g.vertices.stride;
  vertices_count = g.vertices.count;
  indices_count = g.indices.count;
  held = length g.indices.items;
}

-- what a function finds of checks 14 to 17 from the numbers alone
pub record HeadJudged (head : GeometryHead) (r : ℕ) : Type 0 where
  pub lowest : (g : FullGeometry) → head ≡ head_of g → r ≡ head_lowest g passed

-- and of one of them
pub record HeadTested (test : FullGeometry → Bool) (head : GeometryHead) (r : Bool) : Type 0 where
  pub answer : (g : FullGeometry) → head ≡ head_of g → r ≡ test g

-- ---- the records at the front of some bytes

-- at this place a record of this kind begins, with a body of n bytes
unfoldable pub has_record : List ℕ → ℕ → ℕ → ℕ → Bool
has_record s at kind n = fits s at (6 + n) && (eqb (field 4 s at) n && eqb (field 2 s (at + 4)) kind)

unfoldable pub has_model : List ℕ → Bool
has_model s = has_record s 0 1 (6 + 2 * entries_at s)

unfoldable pub has_geometry : List ℕ → Bool
has_geometry s = has_record s 0 2 14 && (has_record s 20 3 16 && (has_record s 42 4 (7 + content_at s) && has_record s (55 + content_at s) 5 (4 + 4 * held_at s)))
