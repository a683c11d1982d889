-- The seven hall calls (document 01, "Hall book"), and the hall that each proposes, with the counts and strides given or read.
use Rattle.std.specs.Prelude.{Option, None, Some, unwrap_or, option_map}
use Rattle.std.specs.Prelude.{Bool, true, false, List, [], ◌∷◌, ◌++◌, map, ℕ, suc, ◌+◌, ◌*◌, ◌-◌, ◌/◌, ltb, length, take, drop}
use Rattle.sections.specs.Address.{Sections, within_limit}
use Rattle.sections.specs.Edit.{overwrite}
use Rattle.vertices.specs.Declaration.{component_of, position_only}
use Rattle.vertices.specs.Encode.{has_shape, encoded_bytes}
use Rattle.vertices.specs.declared.attribute.VertexAttributeValue.{VertexAttributeValue}
use Rattle.vertices.specs.declared.declaration.VertexDeclaration.{VertexDeclaration}
use Rattle.halls.specs.Hall.{FullGeometry, FullModel, Hall}
use Rattle.halls.specs.List.{Vertices, Indices}
use Rattle.halls.specs.List as list
use Rattle.halls.specs.Places.{item}
use Rattle.halls.specs.Reading.{Reading, refused, read, need, and_then, read_list}
use Rattle.halls.specs.State.{Geometry, Model, State, vertex_count, full_model, hall_of}
use Rattle.halls.specs.declared.edit.add_geometry.GivenGeometry.{GivenGeometry}

-- an added geometry, as it is given
pub record Given : Type 0 where
  pub shader : ℕ
  pub declaration : VertexDeclaration
  pub stride : ℕ
  pub count : ℕ
  pub content : List ℕ
  pub indices : List ℕ

-- as a caller lends it
abbrev pub given_in : GivenGeometry → Given
given_in g = record { shader = g.shader; declaration = g.declaration; stride = g.stride; count = g.count; content = g.content.now; indices = g.indices.now }

pub data Call : Type 0 where
  add_model : (binding mask : ℕ) → Call
  add_geometry : Given → Call
  remove_geometry : (model geometry : ℕ) → Call
  remove_model : (model : ℕ) → Call
  set_attribute : (model geometry vertex semantic : ℕ) → VertexAttributeValue → Call
  replace_indices : (model geometry : ℕ) → (indices : List ℕ) → Call
  take_in : Sections → (address : ℕ) → Call

-- ---- edits of lists and states

-- without the item of this number; with another in its place
abbrev pub without : {A : Type 0} → ℕ → List A → List A
without i xs = take i xs ++ drop (suc i) xs

abbrev pub replaced : {A : Type 0} → ℕ → A → List A → List A
replaced i x xs = take i xs ++ (x ∷ drop (suc i) xs)

abbrev pub with_geometries : Model → List Geometry → Model
with_geometries m gs = record { binding = m.binding; mask = m.mask; geometries = gs }

abbrev pub with_content : Geometry → List ℕ → Geometry
with_content g content = record { shader = g.shader; declaration = g.declaration; stride = g.stride; content = content; indices = g.indices }

abbrev pub with_indices : Geometry → List ℕ → Geometry
with_indices g indices = record { shader = g.shader; declaration = g.declaration; stride = g.stride; content = g.content; indices = indices }

-- ---- what a call proposes, or the number of the check that refuses it before

abbrev pub test : {A : Type 0} → ℕ → Bool → Reading A → Reading A
test check true next = next
test check false next = refused check

-- check 21: model and geometry there
abbrev pub on_model : ℕ → State → (Model → Reading Hall) → Reading Hall
on_model m s f = need 21 (item m s) f

abbrev pub on_geometry : ℕ → ℕ → State → (Model → Geometry → Reading Hall) → Reading Hall
on_geometry m g s f = on_model m s (λ model. need 21 (item g model.geometries) (λ geometry. f model geometry))

-- the state with geometry g of model m changed
abbrev pub with_geometry : ℕ → ℕ → State → Model → Geometry → State
with_geometry m g s model geometry = replaced m (with_geometries model (replaced g geometry model.geometries)) s

-- an added geometry: the given count in kinds 2 and 4, triangles = indices / 3
abbrev pub given_geometry : Given → FullGeometry
given_geometry x = record {
  shader = x.shader;
  index_count = length x.indices;
  triangle_count = length x.indices / 3;
  vertex_count = x.count;
  stride = x.stride;
  declaration = x.declaration;
  vertices = record { layout = 0; stride = x.stride; count = x.count; content = x.content };
  indices = record { count = length x.indices; items = x.indices };
}

abbrev pub with_given : FullModel → Given → FullModel
with_given m x = record { binding = m.binding; mask = m.mask; mapping = m.mapping ++ (x.shader ∷ []); geometries = m.geometries ++ (given_geometry x ∷ []) }

-- check 21 of the vertex, checks 22 and 23, then that component's bytes
unfoldable pub attribute_set : ℕ → ℕ → Geometry → VertexAttributeValue → Reading Geometry
attribute_set vertex semantic g value =
    test 21 (ltb vertex (vertex_count g))
    (need 22 (component_of g.declaration semantic) (λ c.
    test 22 (ltb 0 c.size)
    (test 23 (has_shape c.component_type value)
    (read (with_content g (overwrite g.content (vertex * g.stride + c.offset) (encoded_bytes c.component_type value)))))))

-- ---- take in: layout 0, `position_only(stride)` where vertices lack a declaration, mapping made of shader ids

-- check 11: vertices and indices there
abbrev pub taken_geometry : list.Geometry → Option Vertices → Option Indices → Option FullGeometry
taken_geometry g None i = None
taken_geometry g (Some v) None = None
taken_geometry g (Some v) (Some i) = Some (record {
  shader = g.shader;
  index_count = g.index_count;
  triangle_count = g.triangle_count;
  vertex_count = g.vertex_count;
  stride = g.stride;
  declaration = unwrap_or g.declaration (position_only v.stride);
  vertices = record { layout = 0; stride = v.stride; count = v.count; content = v.content };
  indices = i;
})

-- all of them, or none where one is lacking
abbrev pub both : {A B C : Type 0} → (A → B → C) → Option A → Option B → Option C
both f None y = None
both f (Some x) None = None
both f (Some x) (Some y) = Some (f x y)

unfoldable pub all_of : {A B : Type 0} → (A → Option B) → List A → Option (List B)
all_of f [] = Some []
all_of f (x ∷ xs) = both (λ y ys. y ∷ ys) (f x) (all_of f xs)

abbrev pub taken_model : list.Model → Option FullModel
taken_model m =
    option_map (λ gs. record { binding = m.binding; mask = m.mask; mapping = map (λ (g : FullGeometry). g.shader) gs; geometries = gs })
    (all_of (λ (g : list.Geometry). taken_geometry g g.vertices g.indices) m.geometries)

-- checks 1 to 6, then 11
unfoldable pub taken : Sections → ℕ → Reading Hall
taken s address = test 1 (within_limit s) (and_then (read_list s address) (λ ms. need 11 (all_of taken_model ms) read))

-- ---- all calls

unfoldable pub proposed : Call → State → Reading Hall
proposed (add_model binding mask) s = read (hall_of (s ++ (record { binding = binding; mask = mask; geometries = [] } ∷ [])))
proposed (add_geometry x) s = on_model (length s - 1) s (λ model. read (replaced (length s - 1) (with_given (full_model model) x) (hall_of s)))
proposed (remove_geometry m g) s = on_geometry m g s (λ model geometry. read (hall_of (replaced m (with_geometries model (without g model.geometries)) s)))
proposed (remove_model m) s = on_model m s (λ model. read (hall_of (without m s)))
proposed (set_attribute m g vertex semantic value) s = on_geometry m g s (λ model geometry. and_then (attribute_set vertex semantic geometry value) (λ changed. read (hall_of (with_geometry m g s model changed))))
proposed (replace_indices m g indices) s = on_geometry m g s (λ model geometry. read (hall_of (with_geometry m g s model (with_indices geometry indices))))
proposed (take_in sections address) s = taken sections address
