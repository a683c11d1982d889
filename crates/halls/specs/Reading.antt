-- What stands behind the address of a LOD header: a list of models, or the number of the first check that fails (document 01, "Halls" and checks 2 to 6).
use Rattle.std.specs.Prelude.{Option, None, Some, unwrap_or, option_map}
use Rattle.std.specs.Option.{option_or, option_and_then}
use Rattle.std.specs.Prelude.{cond, List, [], ◌∷◌, ℕ, suc, ◌+◌, ◌*◌, min, eqb, ltb, length}
use Rattle.sections.specs.Address.{Sections, range_of, resolved}
use Rattle.sections.specs.Lists.{header_of, header_length}
use Rattle.vertices.specs.Runs.{numbers}
use Rattle.vertices.specs.Buffer.{layout_number, vertex_buffer_at}
use Rattle.vertices.specs.declared.declaration.VertexDeclaration.{VertexDeclaration}
use Rattle.vertices.specs.declared.buffer.VertexBuffer.{VertexBuffer}
use Rattle.halls.specs.List.{Vertices, Indices, Geometry, Model}
use Rattle.halls.specs.Blocks.{ModelBlock, model_block, GeometryBlock, geometry_block, IndexBlock, index_block}

-- a reading: what was read, or the number of the check that failed
pub data Reading (A : Type 0) : Type 0 where
  refused : ℕ → Reading A
  read : A → Reading A

-- what is there goes on, else the check of this number fails
abbrev pub need : {A B : Type 0} → ℕ → Option A → (A → Reading B) → Reading B
need check None f = refused check
need check (Some x) f = f x

abbrev pub and_then : {A B : Type 0} → Reading A → (A → Reading B) → Reading B
and_then (refused check) f = refused check
and_then (read x) f = f x

-- count numbers of width bytes behind a pointer; a list with count 0 or pointer 0 is empty
unfoldable pub list_at : Sections → ℕ → ℕ → ℕ → Option (List ℕ)
list_at s width count pointer = cond (eqb count 0) (Some []) (cond (eqb pointer 0) (Some []) (option_map (numbers width count) (resolved s pointer (count * width))))

abbrev pub or_empty : Option (List ℕ) → List ℕ
or_empty o = unwrap_or o []

-- ---- indices

-- count indices of width bytes behind a pointer, neither of them 0
unfoldable pub indices_at : Sections → ℕ → ℕ → ℕ → Option Indices
indices_at s width count pointer =
    cond (eqb pointer 0) None (cond (eqb count 0) None (option_map (λ b. record { count = count; items = numbers width count b }) (resolved s pointer (count * width))))

-- by the stored size, 2 or 4
unfoldable pub sized_indices : Sections → ℕ → ℕ → ℕ → Option Indices
sized_indices s size count pointer = cond (eqb size 2) (indices_at s 2 count pointer) (cond (eqb size 4) (indices_at s 4 count pointer) None)

-- two-byte indices, else by the stored size, else the count with no indices
unfoldable pub indices_of : Sections → IndexBlock → Indices
indices_of s b =
    unwrap_or
    (option_or (indices_at s 2 b.count b.legacy) (sized_indices s b.size b.count b.sized))
    (record { count = b.count; items = [] })

-- ---- a geometry

abbrev pub stored_in : Option VertexBuffer → Option VertexDeclaration
stored_in b = option_and_then (λ (x : VertexBuffer). x.declaration) b

-- the bytes of a found buffer
abbrev pub content_at : Sections → VertexBuffer → List ℕ
content_at s b = or_empty (range_of s b.«data» (b.vertex_count * b.vertex_stride))

unfoldable pub vertices_of : Sections → VertexBuffer → Vertices
vertices_of s b = record {
  layout = layout_number b.layout;
  stride = b.vertex_stride;
  count = b.vertex_count;
  content = content_at s b;
}

abbrev pub count_in : Option VertexBuffer → ℕ
count_in None = 0
count_in (Some b) = b.vertex_count

-- vertices 0 becomes min(buffer count, 65,535)
unfoldable pub vertex_count_of : ℕ → Option VertexBuffer → ℕ
vertex_count_of stored buffer = cond (eqb stored 0) (min (count_in buffer) 65535) stored

unfoldable pub geometry_with : Sections → ℕ → GeometryBlock → Option VertexBuffer → Geometry
geometry_with s shader b buffer = record {
  shader = shader;
  index_count = b.indices;
  triangle_count = b.triangles;
  vertex_count = vertex_count_of b.vertices buffer;
  stride = b.stride;
  declaration = stored_in buffer;
  vertices = option_map (vertices_of s) buffer;
  indices = option_map (λ raw. indices_of s (index_block raw)) (resolved s b.index_block 0x60);
}

unfoldable pub geometry_of : Sections → ℕ → GeometryBlock → Geometry
geometry_of s shader b = geometry_with s shader b (vertex_buffer_at s b.vertex_block b.inline b.vertices b.stride)

-- ---- the walk

abbrev pub first : List ℕ → ℕ
first [] = 0
first (x ∷ xs) = x

abbrev pub rest : List ℕ → List ℕ
rest [] = []
rest (x ∷ xs) = xs

-- the geometries behind these pointers, of which `before` came earlier in the whole walk (nulls aside); the mapping moves along, so that
-- a shader id is the entry at the original position, 0 if absent
unfoldable pub read_geometries : Sections → ℕ → List ℕ → List ℕ → Reading (List Geometry)
read_geometries s before mapping [] = read []
read_geometries s before mapping (p ∷ ps) =
    cond (eqb p 0) (read_geometries s before (rest mapping) ps)
    (cond (ltb before 16384)
    (need 6 (resolved s p 0x98) (λ b. and_then (read_geometries s (suc before) (rest mapping) ps) (λ gs. read (geometry_of s (first mapping) (geometry_block b) ∷ gs))))
    (refused 5))

-- a mapping that does not resolve is empty
unfoldable pub mapping_of : Sections → ModelBlock → List ℕ
mapping_of s b = or_empty (list_at s 2 b.count b.mapping)

unfoldable pub read_model : Sections → ℕ → ModelBlock → Reading Model
read_model s before b =
    need 4 (list_at s 8 b.count b.geometries) (λ ps. and_then (read_geometries s before (mapping_of s b) ps) (λ gs.
    read (record { binding = b.binding; mask = b.mask; mapping = mapping_of s b; geometries = gs })))

unfoldable pub read_models : Sections → ℕ → List ℕ → Reading (List Model)
read_models s before [] = read []
read_models s before (p ∷ ps) =
    cond (eqb p 0) (read_models s before ps)
    (need 3 (resolved s p 0x30) (λ b. and_then (read_model s before (model_block b)) (λ m. and_then (read_models s (before + length m.geometries) ps) (λ ms. read (m ∷ ms)))))

-- an unresolved header: the empty list
abbrev pub read_header : Sections → Option (List ℕ) → Reading (List Model)
read_header s None = read []
read_header s (Some b) = need 2 (list_at s 8 (header_length (header_of b)) (header_of b).pointer) (read_models s 0)

unfoldable pub read_list : Sections → ℕ → Reading (List Model)
read_list s va = read_header s (resolved s va 16)
