-- The abstract state of a hall (document 01, "Hall book"), and the list that it is written as.
use Rattle.std.specs.Prelude.{◌≡◌, List, map, ℕ, ◌+◌, ◌*◌, ◌/◌, ◌^◌, ◌<◌, length}
use Rattle.vertices.specs.Declaration.{InWidth}
use Rattle.vertices.specs.declared.declaration.VertexDeclaration.{VertexDeclaration}
use Rattle.halls.specs.Checks.{verdict}
use Rattle.halls.specs.Every.{sum_of, Each}
use Rattle.halls.specs.Hall.{FullGeometry, FullModel, Hall, hall_bytes}
use Rattle.halls.specs.Verdict.{Sound}

pub record Geometry : Type 0 where
  pub shader : ℕ
  pub declaration : VertexDeclaration
  pub stride : ℕ
  pub content : List ℕ
  pub indices : List ℕ

pub record Model : Type 0 where
  pub binding : ℕ
  pub mask : ℕ
  pub geometries : List Geometry

abbrev pub State : Type 0
State = List Model

-- ---- written out: layout 0, the held stride in kinds 2 and 4, mapping = shader ids, and counts as 11, 16 and 17 want them

abbrev pub vertex_count : Geometry → ℕ
vertex_count g = length g.content / g.stride

abbrev pub full_geometry : Geometry → FullGeometry
full_geometry g = record {
  shader = g.shader;
  index_count = length g.indices;
  triangle_count = length g.indices / 3;
  vertex_count = vertex_count g;
  stride = g.stride;
  declaration = g.declaration;
  vertices = record { layout = 0; stride = g.stride; count = vertex_count g; content = g.content };
  indices = record { count = length g.indices; items = g.indices };
}

abbrev pub full_model : Model → FullModel
full_model m = record { binding = m.binding; mask = m.mask; mapping = map (λ (g : Geometry). g.shader) m.geometries; geometries = map full_geometry m.geometries }

unfoldable pub hall_of : State → Hall
hall_of s = map full_model s

unfoldable pub state_bytes : State → List ℕ
state_bytes s = hall_bytes (hall_of s)

-- their length
abbrev pub geometry_length : Geometry → ℕ
geometry_length g = 65 + length g.content + 4 * length g.indices

abbrev pub model_length : Model → ℕ
model_length m = 12 + 2 * length m.geometries + sum_of geometry_length m.geometries

unfoldable pub state_length : State → ℕ
state_length s = sum_of model_length s

-- ---- a hall's state: what is left when the counts are forgotten

abbrev pub geometry_state : FullGeometry → Geometry
geometry_state g = record { shader = g.shader; declaration = g.declaration; stride = g.stride; content = g.vertices.content; indices = g.indices.items }

abbrev pub model_state : FullModel → Model
model_state m = record { binding = m.binding; mask = m.mask; geometries = map geometry_state m.geometries }

unfoldable pub state_of : Hall → State
state_of h = map model_state h

-- ---- numbers that fit their fields: what the types of a call's arguments say

pub record GeometryInWidth (g : Geometry) : Type 0 where
  pub shader : g.shader < 2 ^ 16
  pub declaration : InWidth g.declaration
  pub stride : g.stride < 2 ^ 16
  pub content : Each (λ (b : ℕ). b < 256) g.content
  pub indices : Each (λ (i : ℕ). i < 2 ^ 32) g.indices

pub record ModelInWidth (m : Model) : Type 0 where
  pub binding : m.binding < 2 ^ 32
  pub mask : m.mask < 2 ^ 16
  pub geometries : Each GeometryInWidth m.geometries

abbrev pub StateInWidth : State → Type 0
StateInWidth s = Each ModelInWidth s

-- ---- bytes that are a state written out, and the checks of a hall pass

pub record IsState (s : List ℕ) (st : State) : Type 0 where
  pub in_width : StateInWidth st
  pub sound : verdict (hall_of st) ≡ Sound
  pub bytes : state_bytes st ≡ s
