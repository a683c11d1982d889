-- A geometry as numbers and places: what the code carries from its look at the blocks to its two passes. Private contracts speak of it; `ViewLaws` ties it to reading.
use Rattle.std.specs.Prelude.{Option, None, Some, option_map, ◌≡◌, cond, List, [], ◌∷◌, ◌++◌, ℕ, ◌+◌, ◌*◌, ◌^◌, ◌<◌, eqb, length}
use Rattle.std.specs.Option.{option_or, option_and_then, option_map_or}
use Prim.{Unit}
use Rattle.sections.specs.Address.{Sections, located, range_of, resolved}
use Rattle.vertices.specs.Buffer.{layout_number, vertex_buffer_at}
use Rattle.vertices.specs.declared.buffer.VertexBuffer.{VertexBuffer}
use Rattle.vertices.specs.declared.declaration.VertexDeclaration.{VertexDeclaration}
use Rattle.vertices.specs.Runs.{numbers}
use Rattle.halls.specs.List.{Vertices, Indices, Geometry, Model, optional, geometry_record, declaration_record, vertices_record, indices_record}
use Rattle.halls.specs.Blocks.{ModelBlock, model_block, GeometryBlock, geometry_block, IndexBlock, index_block}
use Rattle.halls.specs.Reading.{or_empty, vertex_count_of, vertices_of, geometry_of, list_at, mapping_of}
use Rattle.halls.specs.Inner.Measure.{entries_of, list_bytes}
use Rattle.halls.specs.declared.read.entries.Entry.{Entry}
use Rattle.halls.specs.declared.format.numbers.GeometryNumbers.{GeometryNumbers}
use Rattle.halls.specs.declared.format.record.VertexBytes.{VertexBytes}
use Rattle.halls.specs.declared.read.view.IndexWidth.{IndexWidth}
use Rattle.halls.specs.declared.read.view.IndexWidth.TheVariants.{Two, Four}
use Rattle.halls.specs.declared.read.view.IndexItems.{IndexItems}
use Rattle.halls.specs.declared.read.view.IndexView.{IndexView}
use Rattle.halls.specs.declared.read.view.GeometryView.{GeometryView}

-- ---- indices

abbrev pub index_bytes : IndexWidth → ℕ
index_bytes Two = 2
index_bytes Four = 4

-- of a stored size
abbrev pub width_of : ℕ → Option IndexWidth
width_of size = cond (eqb size 2) (Some Two) (cond (eqb size 4) (Some Four) None)

unfoldable pub view_at : Sections → IndexWidth → ℕ → ℕ → Option IndexItems
view_at s width count pointer =
    cond (eqb pointer 0) None (cond (eqb count 0) None (option_map (λ at. record { width = width; place = at }) (located s pointer (count * index_bytes width))))

unfoldable pub sized_view : Sections → ℕ → ℕ → ℕ → Option IndexItems
sized_view s size count pointer = cond (eqb size 2) (view_at s Two count pointer) (cond (eqb size 4) (view_at s Four count pointer) None)

-- the block's two forms, else its count with no indices
unfoldable pub block_view : Sections → IndexBlock → IndexView
block_view s b = record { count = b.count; items = option_or (view_at s Two b.count b.legacy) (sized_view s b.size b.count b.sized) }

abbrev pub index_view_in : Sections → Option (List ℕ) → Option IndexView
index_view_in s o = option_map (λ raw. block_view s (index_block raw)) o

-- the indices of a view whose bytes are these
unfoldable pub indices_in : IndexView → List ℕ → Indices
indices_in v b = record { count = v.count; items = option_map_or (λ (i : IndexItems). numbers (index_bytes i.width) v.count b) v.items [] }

-- the bytes at a view's place
abbrev pub bytes_seen : Sections → IndexView → List ℕ
bytes_seen s v = or_empty (option_and_then (λ (i : IndexItems). range_of s i.place (v.count * index_bytes i.width)) v.items)

-- the indices there
abbrev pub indices_seen : Sections → IndexView → Indices
indices_seen s v = indices_in v (bytes_seen s v)

abbrev pub held_count : IndexView → ℕ
held_count v = option_map_or (λ (i : IndexItems). v.count) v.items 0

abbrev pub held_bytes : IndexView → ℕ
held_bytes v = option_map_or (λ (i : IndexItems). v.count * index_bytes i.width) v.items 0

-- these are the bytes of a view
pub record HeldIn (v : IndexView) (b : List ℕ) : Type 0 where
  pub long : length b ≡ held_bytes v
  pub few : length b < 2 ^ 30

-- ---- a geometry

unfoldable pub view_with : Sections → ℕ → GeometryBlock → Option VertexBuffer → GeometryView
view_with s shader b buffer = record {
  numbers = record {
    shader = shader;
    index_count = b.indices;
    triangle_count = b.triangles;
    vertex_count = vertex_count_of b.vertices buffer;
    stride = b.stride;
  };
  buffer = buffer;
  indices = index_view_in s (resolved s b.index_block 0x60);
}

unfoldable pub geometry_view : Sections → ℕ → GeometryBlock → GeometryView
geometry_view s shader b = view_with s shader b (vertex_buffer_at s b.vertex_block b.inline b.vertices b.stride)

-- a geometry of these five numbers alone
abbrev pub numbers_seen : GeometryNumbers → Geometry
numbers_seen n = record {
  shader = n.shader;
  index_count = n.index_count;
  triangle_count = n.triangle_count;
  vertex_count = n.vertex_count;
  stride = n.stride;
  declaration = None;
  vertices = None;
  indices = None;
}

-- the vertices that a record is made of
abbrev pub vertices_in : VertexBytes → Vertices
vertices_in v = record { layout = layout_number v.layout; stride = v.stride; count = v.count; content = v.content.now }

-- of a geometry that has all four
unfoldable pub four_records : GeometryNumbers → VertexDeclaration → Vertices → Indices → List ℕ
four_records n d v i = geometry_record (numbers_seen n) ++ (declaration_record d ++ (vertices_record v ++ indices_record i))

-- ---- that its places hold what it says

abbrev pub BufferHeld : Sections → Option VertexBuffer → Type 0
BufferHeld s None = Unit {0}
BufferHeld s (Some b) = (length (vertices_of s b).content ≡ b.vertex_count * b.vertex_stride) × (length (vertices_of s b).content < 2 ^ 31)

abbrev pub IndicesHeld : Sections → Option IndexView → Type 0
IndicesHeld s None = Unit {0}
IndicesHeld s (Some v) = HeldIn v (bytes_seen s v)

pub record ViewHeld (s : Sections) (v : GeometryView) : Type 0 where
  pub buffer : BufferHeld s v.buffer
  pub indices : IndicesHeld s v.indices

-- ---- the bytes of its records

abbrev pub stored_record : Option VertexDeclaration → List ℕ
stored_record d = optional declaration_record d

abbrev pub buffer_records : Sections → Option VertexBuffer → List ℕ
buffer_records s None = []
buffer_records s (Some b) = stored_record b.declaration ++ vertices_record (vertices_of s b)

abbrev pub index_record : Sections → Option IndexView → List ℕ
index_record s None = []
index_record s (Some v) = indices_record (indices_seen s v)

abbrev pub view_records : Sections → GeometryView → List ℕ
view_records s v = geometry_record (numbers_seen v.numbers) ++ (buffer_records s v.buffer ++ index_record s v.indices)

abbrev pub declaration_length : Option VertexDeclaration → ℕ
declaration_length None = 0
declaration_length (Some d) = 22

abbrev pub buffer_length : Option VertexBuffer → ℕ
buffer_length None = 0
buffer_length (Some b) = declaration_length b.declaration + (13 + b.vertex_count * b.vertex_stride)

abbrev pub indices_length : Option IndexView → ℕ
indices_length None = 0
indices_length (Some v) = 10 + 4 * held_count v

unfoldable pub view_length : GeometryView → ℕ
view_length v = 20 + (buffer_length v.buffer + indices_length v.indices)

-- ---- the second pass: what it writes where the first has refused nothing

-- one geometry, or none where its block does not resolve
abbrev pub geometry_in : Sections → ℕ → Option (List ℕ) → List Geometry
geometry_in s shader None = []
geometry_in s shader (Some b) = geometry_of s shader (geometry_block b) ∷ []

-- the geometries behind these entries
unfoldable pub geometries_behind : Sections → List Entry → List Geometry
geometries_behind s [] = []
geometries_behind s (e ∷ es) = geometry_in s e.shader (resolved s e.pointer 0x98) ++ geometries_behind s es

-- the geometries behind these pointers, each with the mapping's entry at its position
abbrev pub geometries_at : Sections → List ℕ → List ℕ → List Geometry
geometries_at s mapping pointers = geometries_behind s (entries_of mapping pointers)

-- these are the bytes of a model's two lists, if the first resolves
pub record ListsOf (s : Sections) (b : ModelBlock) (pointers : Option (List ℕ)) (mapping : List ℕ) : Type 0 where
  pub few : b.count < 65536
  pub pointers_are : pointers ≡ list_bytes s 8 b.count b.geometries
  pub mapping-is : mapping ≡ or_empty (list_bytes s 2 b.count b.mapping)

unfoldable pub model_of : Sections → ModelBlock → Model
model_of s b = record {
  binding = b.binding;
  mask = b.mask;
  mapping = mapping_of s b;
  geometries = geometries_at s (mapping_of s b) (or_empty (list_at s 8 b.count b.geometries));
}

-- one model, or none where its block does not resolve
abbrev pub model_in : Sections → Option (List ℕ) → List Model
model_in s None = []
model_in s (Some b) = model_of s (model_block b) ∷ []

-- the models behind these pointers
unfoldable pub models_at : Sections → List ℕ → List Model
models_at s [] = []
models_at s (p ∷ ps) = model_in s (resolved s p 0x30) ++ models_at s ps
