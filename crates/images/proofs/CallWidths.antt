-- Every call keeps the widths of a state: the numbers of the hall that it proposes fit their fields.
use mathlib.Core.Path.{◌≡◌, ap, ◌∙◌}
use mathlib.Core.List.{List, [], ◌∷◌, ◌++◌, map, map-append}
use Prim.Native.Nat.{ℕ, ◌+◌, ◌*◌, ◌-◌, ◌<◌}
use lib.Dec.{ltb, lit<}
use lib.ListN.{length, take, drop}
use Rattle.sections.specs.Edit.{overwrite}
use Rattle.sections.specs.Le.{bytes}
use Rattle.sections.proofs.LeLaws.{bytes-bound}
use Rattle.vertices.specs.Declaration.{component_of}
use Rattle.vertices.specs.Encode.{width_of, stored_as, numbers_of, has_shape, encoded_bytes}
use Rattle.vertices.specs.Runs.{run}
use Rattle.vertices.specs.declared.attribute.VertexAttributeValue.{VertexAttributeValue}
use Rattle.vertices.specs.declared.types.VertexComponentType.{VertexComponentType}
use Rattle.halls.specs.Calls.{Given, Call, add_model, add_geometry, remove_geometry, remove_model, set_attribute, replace_indices, take_in, without, replaced, with_geometries, with_indices, with_geometry, given_geometry, with_given, attribute_set, proposed}
use Rattle.halls.specs.Every.{Each}
use Rattle.halls.specs.Hall.{FullModel, Hall}
use Rattle.halls.specs.Places.{item}
use Rattle.halls.specs.Reading.{Reading, read, need}
use Rattle.halls.specs.State.{Geometry, Model, State, vertex_count, full_model, hall_of, geometry_state, model_state, state_of, GeometryInWidth, ModelInWidth, StateInWidth}
use Rattle.halls.proofs.EveryLaws.{each_below, below_each}
use Rattle.halls.proofs.ReadingLaws.{need-read, read-injective, then-read}
use Rattle.halls.proofs.SoundEdits.{each-join, each_take, each-drop, each_item, each-without, each-replaced, map-replaced}
use Rattle.halls.proofs.StateLaws.{state_of-hall}
use Rattle.images.specs.Runs.{Bytes, GivenFits, Fits}
use Rattle.images.proofs.ReadWidths.{test-passed, taken-InWidth}

-- ---- bytes

run-bytes : (k : ℕ) (xs : List ℕ) → Bytes (run k xs)
unfolding run Each
run-bytes k [] = tt
run-bytes k (x ∷ xs) = each-join (λ (b : ℕ). b < 256) (bytes k x) (run k xs) (below_each 256 (bytes k x) (bytes-bound k x)) (run-bytes k xs)

encoded-are-bytes : (t : VertexComponentType) (v : VertexAttributeValue) → Bytes (encoded_bytes t v)
unfolding encoded_bytes
encoded-are-bytes t v = run-bytes (width_of t) (map (stored_as t) (numbers_of v))

overwritten-bytes : (s : List ℕ) (at : ℕ) (v : List ℕ) → Bytes s → Bytes v → Bytes (overwrite s at v)
unfolding overwrite
overwritten-bytes s at v f g =
    let Byte : ℕ → Type 0 = λ b. b < 256 in
    each-join Byte (take at s ++ v) (drop (at + length v) s) (each-join Byte (take at s) v (each_take Byte at s f) g) (each-drop Byte (at + length v) s f)

-- ---- a geometry

attribute-kept : (vertex semantic : ℕ) (g : Geometry) (value : VertexAttributeValue) (g' : Geometry) → GeometryInWidth g → attribute_set vertex semantic g value ≡ read g' → GeometryInWidth g'
unfolding attribute_set
attribute-kept vertex semantic g value g' w e =
    let r = need-read 22 (component_of g.declaration semantic) _ g' (test-passed 21 (ltb vertex (vertex_count g)) _ g' e) in
    let c = r.found in
    let set = test-passed 23 (has_shape c.component_type value) _ g' (test-passed 22 (ltb 0 c.size) _ g' r.onward) in
    let written : List ℕ = encoded_bytes c.component_type value in
    rw (← read-injective set) (record {
      shader = w.shader;
      declaration = w.declaration;
      stride = w.stride;
      content = overwritten-bytes g.content (vertex * g.stride + c.offset) written w.content (encoded-are-bytes c.component_type value);
      indices = w.indices;
    })

-- ---- a model

geometries-kept : (m : Model) (gs : List Geometry) → ModelInWidth m → Each GeometryInWidth gs → ModelInWidth (with_geometries m gs)
geometries-kept m gs w v = record { binding = w.binding; mask = w.mask; geometries = v }

Given-kept : (m : Model) (x : Given) → ModelInWidth m → GivenFits x → ModelInWidth (model_state (with_given (full_model m) x))
unfolding state_of hall_of Each
Given-kept m x w f =
    let same : model_state (full_model m) ≡ m = cc (state_of-hall (m ∷ [])) in
    let old : Each GeometryInWidth (map geometry_state (full_model m).geometries) = rw (ap (λ (y : Model). y.geometries) same) w.geometries in
    let added : GeometryInWidth (geometry_state (given_geometry x)) =
    record { shader = f.shader; declaration = f.declaration; stride = f.stride; content = f.content; indices = f.indices } in
    record {
      binding = w.binding;
      mask = w.mask;
      geometries = rw (map-append geometry_state (full_model m).geometries (given_geometry x ∷ [])) (each-join GeometryInWidth (map geometry_state (full_model m).geometries) _ old (added, tt));
    }

-- ---- a state

hall-kept : (t : State) (h : Hall) → read (hall_of t) ≡ read h → StateInWidth t → StateInWidth (state_of h)
hall-kept t h e w = rw (← read-injective e, state_of-hall t) w

-- a model put into the hall of a state
State-replaced : (i : ℕ) (m : FullModel) (s : State) → state_of (replaced i m (hall_of s)) ≡ replaced i (model_state m) s
unfolding state_of
State-replaced i m s = map-replaced model_state i m (hall_of s) ∙ ap (λ (t : State). replaced i (model_state m) t) (state_of-hall s)

GeometryKept_lem : (m g : ℕ) (s : State) (model : Model) (changed : Geometry) → StateInWidth s → ModelInWidth model → GeometryInWidth changed → StateInWidth (with_geometry m g s model changed)
GeometryKept_lem m g s model changed w v u =
    each-replaced ModelInWidth m (with_geometries model (replaced g changed model.geometries)) s
    (geometries-kept model _ v (each-replaced GeometryInWidth g changed model.geometries u v.geometries)) w

-- ---- all calls

module _ (s : State) (h : Hall) (w : StateInWidth s) where
  on_model_lem : (m : ℕ) (f : Model → Reading Hall) → ((model : Model) → ModelInWidth model → f model ≡ read h → StateInWidth (state_of h)) → need 21 (item m s) f ≡ read h → StateInWidth (state_of h)
  on_model_lem m f next e = let r = need-read 21 (item m s) f h e in next r.found (each_item ModelInWidth m s r.found r.is w) r.onward

  on_geometry_lem : (m g : ℕ) (f : Model → Geometry → Reading Hall)
      → ((model : Model) (geometry : Geometry) → ModelInWidth model → GeometryInWidth geometry → f model geometry ≡ read h → StateInWidth (state_of h))
      → need 21 (item m s) (λ model. need 21 (item g model.geometries) (λ geometry. f model geometry)) ≡ read h → StateInWidth (state_of h)
  on_geometry_lem m g f next e =
      on_model_lem m _ (λ model v onward.
      let r = need-read 21 (item g model.geometries) _ h onward in
      next model r.found v (each_item GeometryInWidth g model.geometries r.found r.is v.geometries) r.onward) e

pub call_kept : (c : Call) (s : State) (h : Hall) → Fits c → StateInWidth s → proposed c s ≡ read h → StateInWidth (state_of h)
unfolding proposed Each
call_kept (add_model binding mask) s h f w e =
    hall-kept _ h e (each-join ModelInWidth s _ w (record { binding = f.0; mask = f.1; geometries = tt }, tt))
call_kept (add_geometry x) s h f w e = on_model_lem s h w (length s - 1) _
    (λ model v onward.
    let same : replaced (length s - 1) (with_given (full_model model) x) (hall_of s) ≡ h = read-injective onward in
    rw (← same, State-replaced (length s - 1) (with_given (full_model model) x) s) (each-replaced ModelInWidth (length s - 1) _ s (Given-kept model x v f) w)) e
call_kept (remove_geometry m g) s h f w e = on_geometry_lem s h w m g _
    (λ model geometry v u onward. hall-kept _ h onward (each-replaced ModelInWidth m _ s (geometries-kept model _ v (each-without GeometryInWidth g model.geometries v.geometries)) w)) e
call_kept (remove_model m) s h f w e = on_model_lem s h w m _ (λ model v onward. hall-kept (without m s) h onward (each-without ModelInWidth m s w)) e
call_kept (set_attribute m g vertex semantic value) s h f w e = on_geometry_lem s h w m g _
    (λ model geometry v u onward.
    let r = then-read (attribute_set vertex semantic geometry value) _ h onward in
    hall-kept _ h r.onward (GeometryKept_lem m g s model r.value w v (attribute-kept vertex semantic geometry value r.value u r.is))) e
call_kept (replace_indices m g indices) s h f w e = on_geometry_lem s h w m g _
    (λ model geometry v u onward. hall-kept _ h onward (GeometryKept_lem m g s model (with_indices geometry indices) w v
    (record { shader = u.shader; declaration = u.declaration; stride = u.stride; content = u.content; indices = f }))) e
call_kept (take_in sections address) s h f w e =
    taken-InWidth sections (each_below 256 (lit< tt) sections.system f.0) (each_below 256 (lit< tt) sections.graphics f.1) address h e
