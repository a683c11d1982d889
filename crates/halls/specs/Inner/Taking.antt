-- Take in: a reading as a hall's models and geometries, what they come to, and their bytes. Private contracts speak of this; `TakenVerdict` and `TakenBytes` tie it to the hall that `take_in` proposes.
use Rattle.std.specs.Prelude.{Option, None, Some, option_map}
use Rattle.std.specs.Prelude.{List, [], ◌∷◌, ◌++◌, map, ℕ, ◌+◌, ◌*◌, ◌^◌, ◌<◌, min, length}
use Rattle.sections.specs.Address.{Sections}
use Rattle.halls.specs.Calls.{taken_geometry}
use Rattle.halls.specs.Hall.{FullGeometry, listed_geometry}
use Rattle.halls.specs.Inner.Judging.{lowest_of}
use Rattle.halls.specs.Inner.Order.{passed}
use Rattle.halls.specs.List.{Vertices, Indices, Geometry, Model, optional, each, record_bytes, write_geometry}
use Rattle.sections.specs.Le.{bytes}
use Rattle.vertices.specs.Runs.{run}
use Rattle.vertices.specs.Buffer.{or_position_only}
use Rattle.vertices.specs.declared.buffer.VertexBuffer.{VertexBuffer}
use Rattle.halls.specs.Reading.{stored_in, vertices_of}
use Rattle.halls.specs.Inner.View.{indices_seen, held_count}
use Rattle.halls.specs.Inner.Walk.{model_units, geometry_units}
use Rattle.halls.specs.declared.edit.judge_read.Taken.{Taken}
use Rattle.halls.specs.declared.format.numbers.GeometryNumbers.{GeometryNumbers}
use Rattle.halls.specs.declared.read.view.GeometryView.{GeometryView}
use Rattle.halls.specs.declared.read.view.IndexView.{IndexView}

-- ---- the geometry that a view shows

abbrev pub indices_shown : Sections → Option IndexView → Option Indices
indices_shown s v = option_map (indices_seen s) v

unfoldable pub geometry_shown : Sections → GeometryView → Geometry
geometry_shown s v = record {
  shader = v.numbers.shader;
  index_count = v.numbers.index_count;
  triangle_count = v.numbers.triangle_count;
  vertex_count = v.numbers.vertex_count;
  stride = v.numbers.stride;
  declaration = stored_in v.buffer;
  vertices = option_map (vertices_of s) v.buffer;
  indices = indices_shown s v.indices;
}

-- as a hall's, if its vertices and indices are there
abbrev pub as_halls : Geometry → Option FullGeometry
as_halls g = taken_geometry g g.vertices g.indices

-- ---- what they come to

-- the lowest rank of checks 11, 14 to 18 and 27 that fails
abbrev pub lowest_in : Option FullGeometry → ℕ
lowest_in None = 11
lowest_in (Some g) = lowest_of g

abbrev pub content_in : Option Vertices → ℕ
content_in None = 0
content_in (Some v) = length v.content

abbrev pub held_in : Option Indices → ℕ
held_in None = 0
held_in (Some i) = length i.items

unfoldable pub geometry_taken : Geometry → Taken
geometry_taken g = record {
  lowest = lowest_in (as_halls g);
  summary = record { models = 0; geometries = 1; units = geometry_units (content_in g.vertices) (held_in g.indices) };
  «length» = 65 + content_in g.vertices + 4 * held_in g.indices;
}

abbrev pub nothing_taken : Taken
nothing_taken = record { lowest = passed; summary = record { models = 0; geometries = 0; units = 0 }; «length» = 0 }

abbrev pub together : Taken → Taken → Taken
together a b = record {
  lowest = min a.lowest b.lowest;
  summary = record {
    models = a.summary.models + b.summary.models;
    geometries = a.summary.geometries + b.summary.geometries;
    units = a.summary.units + b.summary.units;
  };
  «length» = a.«length» + b.«length»;
}

unfoldable pub all_taken : {A : Type 0} → (A → Taken) → List A → Taken
all_taken f [] = nothing_taken
all_taken f (x ∷ xs) = together (f x) (all_taken f xs)

-- a model's record with so many entries
abbrev pub record_taken : ℕ → Taken
record_taken entries = record { lowest = passed; summary = record { models = 1; geometries = 0; units = model_units entries }; «length» = 12 + 2 * entries }

unfoldable pub model_taken : Model → Taken
model_taken m = together (record_taken (length m.geometries)) (all_taken geometry_taken m.geometries)

-- ---- their bytes

unfoldable pub geometry_bytes : Geometry → List ℕ
geometry_bytes g = optional (λ (f : FullGeometry). write_geometry (listed_geometry f)) (as_halls g)

abbrev pub shader_bytes : Geometry → List ℕ
shader_bytes g = bytes 2 g.shader

unfoldable pub model_bytes : Model → List ℕ
model_bytes m =
    record_bytes 1 (bytes 4 m.binding ++ (bytes 2 m.mask ++ run 2 (map (λ (g : Geometry). g.shader) m.geometries))) ++ each geometry_bytes m.geometries

-- ---- what the pass that judges carries on its way

-- the vertex bytes and the indices of a view
abbrev pub content_seen : Option VertexBuffer → ℕ
content_seen None = 0
content_seen (Some b) = b.vertex_count * b.vertex_stride

abbrev pub held_seen : Option IndexView → ℕ
held_seen None = 0
held_seen (Some v) = held_count v

-- the geometry of a view's numbers and both parts, as a hall's
abbrev pub full_shown : GeometryNumbers → VertexBuffer → List ℕ → Indices → FullGeometry
full_shown n b content i = record {
  shader = n.shader;
  index_count = n.index_count;
  triangle_count = n.triangle_count;
  vertex_count = n.vertex_count;
  stride = n.stride;
  declaration = or_position_only b.declaration b.vertex_stride;
  vertices = record { layout = 0; stride = b.vertex_stride; count = b.vertex_count; content = content };
  indices = i;
}

-- sums that fit their fields
pub record Fitting (t : Taken) : Type 0 where
  pub models : t.summary.models < 2 ^ 64
  pub geometries : t.summary.geometries < 2 ^ 64
  pub image : t.summary.units < 2 ^ 64
  pub long : t.«length» < 2 ^ 64
