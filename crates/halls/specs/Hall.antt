-- A hall's list: each geometry has kinds 2 to 5 (document 01, "Halls"). Every number that a record stores is kept, so that counts can disagree; the checks of a hall (`Checks`) judge it.
use Rattle.std.specs.Prelude.{Some}
use Rattle.std.specs.Prelude.{List, map, ℕ, ◌+◌, ◌*◌, ◌^◌, ◌<◌, length}
use Rattle.vertices.specs.Declaration.{InWidth}
use Rattle.vertices.specs.declared.declaration.VertexDeclaration.{VertexDeclaration}
use Rattle.halls.specs.Every.{Each}
use Rattle.halls.specs.List.{Vertices, Indices, Geometry, Model, write}

-- kind 2's five numbers, and kinds 3 to 5
pub record FullGeometry : Type 0 where
  pub shader : ℕ
  pub index_count : ℕ
  pub triangle_count : ℕ
  pub vertex_count : ℕ
  pub stride : ℕ
  pub declaration : VertexDeclaration
  pub vertices : Vertices
  pub indices : Indices

-- kind 1, and the geometries behind it
pub record FullModel : Type 0 where
  pub binding : ℕ
  pub mask : ℕ
  pub mapping : List ℕ
  pub geometries : List FullGeometry

abbrev pub Hall : Type 0
Hall = List FullModel

-- ---- as a list

abbrev pub listed_geometry : FullGeometry → Geometry
listed_geometry g = record {
  shader = g.shader;
  index_count = g.index_count;
  triangle_count = g.triangle_count;
  vertex_count = g.vertex_count;
  stride = g.stride;
  declaration = Some g.declaration;
  vertices = Some g.vertices;
  indices = Some g.indices;
}

abbrev pub listed_model : FullModel → Model
listed_model m = record { binding = m.binding; mask = m.mask; mapping = m.mapping; geometries = map listed_geometry m.geometries }

-- its bytes
unfoldable pub hall_bytes : Hall → List ℕ
hall_bytes h = write (map listed_model h)

-- ---- numbers that fit their fields, the length of each body among them

pub record FullGeometryInWidth (g : FullGeometry) : Type 0 where
  pub shader : g.shader < 2 ^ 16
  pub index_count : g.index_count < 2 ^ 32
  pub triangle_count : g.triangle_count < 2 ^ 32
  pub vertex_count : g.vertex_count < 2 ^ 16
  pub stride : g.stride < 2 ^ 16
  pub declaration : InWidth g.declaration
  pub layout : g.vertices.layout < 2 ^ 8
  pub vertices_stride : g.vertices.stride < 2 ^ 16
  pub vertices_count : g.vertices.count < 2 ^ 32
  pub content : 7 + length g.vertices.content < 2 ^ 32
  pub indices_count : g.indices.count < 2 ^ 32
  pub items : Each (λ (i : ℕ). i < 2 ^ 32) g.indices.items
  pub held : 4 + 4 * length g.indices.items < 2 ^ 32

pub record FullModelInWidth (m : FullModel) : Type 0 where
  pub binding : m.binding < 2 ^ 32
  pub mask : m.mask < 2 ^ 16
  pub entries : Each (λ (i : ℕ). i < 2 ^ 16) m.mapping
  pub mapping : 6 + 2 * length m.mapping < 2 ^ 32
  pub geometries : Each FullGeometryInWidth m.geometries

abbrev pub HallInWidth : Hall → Type 0
HallInWidth h = Each FullModelInWidth h
