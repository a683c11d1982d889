-- The hall list as read, and its bytes (document 01, "The list": records of body length u32, kind u16, body).
use Rattle.std.specs.Prelude.{Option, None, Some}
use Rattle.std.specs.Prelude.{List, [], ◌∷◌, ◌++◌, ℕ, length}
use Rattle.sections.specs.Le.{bytes}
use Rattle.vertices.specs.Declaration.{declaration_bytes}
use Rattle.vertices.specs.Runs.{run}
use Rattle.vertices.specs.declared.declaration.VertexDeclaration.{VertexDeclaration}

-- ---- what a list says

-- kind 4: vertices as they were found
pub record Vertices : Type 0 where
  pub layout : ℕ
  pub stride : ℕ
  pub count : ℕ
  pub content : List ℕ

-- kind 5: the stored count, and the indices held
pub record Indices : Type 0 where
  pub count : ℕ
  pub items : List ℕ

-- a geometry: the five numbers of kind 2, and kinds 3 to 5 where there are any
pub record Geometry : Type 0 where
  pub shader : ℕ
  pub index_count : ℕ
  pub triangle_count : ℕ
  pub vertex_count : ℕ
  pub stride : ℕ
  pub declaration : Option VertexDeclaration
  pub vertices : Option Vertices
  pub indices : Option Indices

-- a model: kind 1, and its geometries
pub record Model : Type 0 where
  pub binding : ℕ
  pub mask : ℕ
  pub mapping : List ℕ
  pub geometries : List Geometry

-- ---- its bytes

unfoldable pub record_bytes : ℕ → List ℕ → List ℕ
record_bytes kind body = bytes 4 (length body) ++ (bytes 2 kind ++ body)

-- a record that may be absent
abbrev pub optional : {A : Type 0} → (A → List ℕ) → Option A → List ℕ
optional f None = []
optional f (Some x) = f x

-- the bytes of some items, one behind the other
unfoldable pub each : {A : Type 0} → (A → List ℕ) → List A → List ℕ
each f [] = []
each f (x ∷ xs) = f x ++ each f xs

-- the bodies of kinds 1, 2, 4 and 5; that of kind 3 is the declaration's 16 bytes

abbrev pub model_body : Model → List ℕ
model_body m = bytes 4 m.binding ++ (bytes 2 m.mask ++ run 2 m.mapping)

abbrev pub geometry_body : Geometry → List ℕ
geometry_body g = bytes 2 g.shader ++ (bytes 4 g.index_count ++ (bytes 4 g.triangle_count ++ (bytes 2 g.vertex_count ++ bytes 2 g.stride)))

abbrev pub vertices_body : Vertices → List ℕ
vertices_body v = bytes 1 v.layout ++ (bytes 2 v.stride ++ (bytes 4 v.count ++ v.content))

abbrev pub indices_body : Indices → List ℕ
indices_body i = bytes 4 i.count ++ run 4 i.items

unfoldable pub model_record : Model → List ℕ
model_record m = record_bytes 1 (model_body m)

-- its first 12 bytes
abbrev pub model_numbers : ℕ → ℕ → ℕ → List ℕ
model_numbers body binding mask = ((bytes 4 body ++ bytes 2 1) ++ bytes 4 binding) ++ bytes 2 mask

unfoldable pub geometry_record : Geometry → List ℕ
geometry_record g = record_bytes 2 (geometry_body g)

unfoldable pub declaration_record : VertexDeclaration → List ℕ
declaration_record d = record_bytes 3 (declaration_bytes d)

unfoldable pub vertices_record : Vertices → List ℕ
vertices_record v = record_bytes 4 (vertices_body v)

unfoldable pub indices_record : Indices → List ℕ
indices_record i = record_bytes 5 (indices_body i)

unfoldable pub write_geometry : Geometry → List ℕ
write_geometry g =
    geometry_record g ++ (optional declaration_record g.declaration ++ (optional vertices_record g.vertices ++ optional indices_record g.indices))

abbrev pub write_geometries : List Geometry → List ℕ
write_geometries gs = each write_geometry gs

unfoldable pub write_model : Model → List ℕ
write_model m = model_record m ++ write_geometries m.geometries

-- the list's bytes, in walk order
abbrev pub write : List Model → List ℕ
write ms = each write_model ms
