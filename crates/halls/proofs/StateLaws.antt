-- The abstract state of a hall: a sound hall is its state written out, and bytes are sound exactly where they are a state written out, and then of one state.
use Rattle.std.specs.Prelude.{Option, None, Some}
use mathlib.Core.Path.{◌≡◌, refl, sym, ap, ◌∙◌, subst}
use mathlib.Core.List.{List, [], ◌∷◌, ◌++◌, map}
use Prim.Native.Nat.{ℕ, ◌+◌, ◌*◌, ◌/◌, ◌^◌, ◌≤◌, ◌<◌}
use native.Mathlib.Nat.{mul-div_cancel}
use native.Mathlib.Omega.{arith}
use borrow.Author.Tests.{le-leb, leb-true}
use lib.Dec.{leb}
use lib.ListN.{length, take, drop, length-map}
use Rattle.sections.proofs.EditLaws.{take_below}
use Rattle.vertices.proofs.DeclarationLaws.{declaration_length_lem}
use Rattle.halls.specs.List.{Vertices, vertices_body}
use Rattle.halls.specs.Every.{sum_of, Each}
use Rattle.halls.specs.Hall.{FullGeometry, FullModel, Hall, FullGeometryInWidth, HallInWidth, hall_bytes}
use Rattle.halls.specs.Inner.HallRecords.{geometries_records, hall_records}
use Rattle.halls.specs.ImageSize.{geometry_size, model_size, image_size}
use Rattle.halls.specs.Parsing.{records_length, models_in, parse}
use Rattle.halls.specs.Records.{Record, records}
use Rattle.halls.specs.Checks.{image_within_limit, judged, verdict, hall_verdict}
use Rattle.halls.specs.State.{Geometry, State, full_geometry, full_model, hall_of, state_bytes, geometry_length, state_length, geometry_state, model_state, state_of, GeometryInWidth, StateInWidth, IsState}
use Rattle.halls.specs.Verdict.{Sound}
use Rattle.halls.proofs.format.BodyLaws.{AllBytes, drop-below, model_body-length, geometry_body-length, vertices_body-length, Vertices-read-back, indices_body-length}
use Rattle.halls.proofs.EveryLaws.{below_each}
use Rattle.halls.proofs.format.ParsingLaws.{ReadHall, hall-parsed, parse-written}
use Rattle.halls.proofs.format.RecordBytes.{Held, records-held, hall-length}
use Rattle.halls.proofs.SoundLaws.{SoundHall, SoundGeometry, SoundModel, required, verdict-sound, sound_models}

-- ---- a hall and its state

geometry_of-state : (g : FullGeometry) → SoundGeometry g → full_geometry (geometry_state g) ≡ g
geometry_of-state g w =
    let made : ℕ → ℕ → ℕ → ℕ → ℕ → ℕ → ℕ → FullGeometry = λ index_count triangle_count vertex_count layout stride count held. record {
      shader = g.shader;
      index_count = index_count;
      triangle_count = triangle_count;
      vertex_count = vertex_count;
      stride = g.stride;
      declaration = g.declaration;
      vertices = record { layout = layout; stride = stride; count = count; content = g.vertices.content };
      indices = record { count = held; items = g.indices.items };
    } in
    let held : ℕ = length g.indices.items in
    let count : ℕ = length g.vertices.content / g.stride in
    let content : length g.vertices.content ≡ g.vertices.count * g.stride = rw (← w.Vertices-stride) w.content in
    let count_is : count ≡ g.vertices.count = rw content (mul-div_cancel g.vertices.count w.some-stride) in
    let thirds : held / 3 ≡ g.triangle_count = omega (arith, w.thirds) in
    let same : made held (held / 3) count 0 g.stride count held
    ≡ made g.index_count g.triangle_count g.vertex_count g.vertices.layout g.vertices.stride g.vertices.count g.indices.count =
    rw (count_is, thirds, w.index-count, w.Indices-count, w.vertex_count_lem, w.layout, w.Vertices-stride) in
    same

geometries-of_state : (gs : List FullGeometry) → Each SoundGeometry gs → map full_geometry (map geometry_state gs) ≡ gs
unfolding Each
geometries-of_state [] w = refl
geometries-of_state (g ∷ gs) w = rw (geometry_of-state g w.0, geometries-of_state gs w.1)

shaders-of_state : (gs : List FullGeometry) → map (λ (g : Geometry). g.shader) (map geometry_state gs) ≡ map (λ (g : FullGeometry). g.shader) gs
shaders-of_state [] = refl
shaders-of_state (g ∷ gs) = rw (shaders-of_state gs)

pub model_of-state : (m : FullModel) → SoundModel m → full_model (model_state m) ≡ m
model_of-state m w =
    let made : List ℕ → List FullGeometry → FullModel = λ l gs. record { binding = m.binding; mask = m.mask; mapping = l; geometries = gs } in
    ap (λ (gs : List FullGeometry). made (map (λ (g : Geometry). g.shader) (map geometry_state m.geometries)) gs) (geometries-of_state m.geometries w.geometries)
    ∙ ap (λ (l : List ℕ). made l m.geometries) (shaders-of_state m.geometries ∙ sym w.mapping)

models_of_state : (h : Hall) → Each SoundModel h → hall_of (state_of h) ≡ h
unfolding hall_of state_of Each
models_of_state [] w = refl
models_of_state (m ∷ ms) w = rw (model_of-state m w.0, models_of_state ms w.1)

pub hall_of-state : (h : Hall) → verdict h ≡ Sound → hall_of (state_of h) ≡ h
hall_of-state h e = models_of_state h (sound_models h (verdict-sound h e))

state_of-geometries : (gs : List Geometry) → map geometry_state (map full_geometry gs) ≡ gs
state_of-geometries [] = refl
state_of-geometries (g ∷ gs) = rw (state_of-geometries gs)

pub state_of-hall : (s : State) → state_of (hall_of s) ≡ s
unfolding hall_of state_of
state_of-hall [] = refl
state_of-hall (m ∷ ms) = rw (state_of-geometries m.geometries, state_of-hall ms)

-- ---- the length of a state

geometries_length_lem : (gs : List Geometry) (rs : List Record) → records_length (geometries_records (map full_geometry gs) ++ rs) ≡ sum_of geometry_length gs + records_length rs
unfolding records_length geometries_records sum_of
geometries_length_lem [] rs = omega arith
geometries_length_lem (g ∷ gs) rs =
    let f : FullGeometry = full_geometry g in
    omega (arith, geometries_length_lem gs rs, geometry_body-length f, declaration_length_lem g.declaration, vertices_body-length f.vertices, indices_body-length f.indices)

models_length_lem : (s : State) → records_length (hall_records (hall_of s)) ≡ state_length s
unfolding records_length hall_records hall_of state_length sum_of
models_length_lem [] = refl
models_length_lem (m ∷ ms) =
    let mapped : length (map (λ (g : Geometry). g.shader) m.geometries) ≡ length m.geometries = length-map m.geometries (λ (g : Geometry). g.shader) in
    omega (arith, geometries_length_lem m.geometries (hall_records (hall_of ms)), models_length_lem ms, model_body-length (full_model m))

pub state_length_lem : (s : State) → length (state_bytes s) ≡ state_length s
unfolding state_bytes
state_length_lem s = sym (hall-length (hall_of s)) ∙ models_length_lem s

-- ---- a sound hall of numbers that fit

GeometryInWidth_lem : (g : Geometry) → GeometryInWidth g → SoundGeometry (full_geometry g) → geometry_size (full_geometry g) ≤ 67108864 → FullGeometryInWidth (full_geometry g)
unfolding geometry_size
GeometryInWidth_lem g w f h = record {
  shader = w.shader;
  index_count = omega arith;
  triangle_count = omega arith;
  vertex_count = omega (arith, f.few_vertices);
  stride = w.stride;
  declaration = w.declaration;
  layout = omega arith;
  vertices_stride = w.stride;
  vertices_count = omega (arith, f.few_vertices);
  content = omega arith;
  indices_count = omega arith;
  items = w.indices;
  held = omega arith;
}

geometries_in-width : (gs : List Geometry) → Each GeometryInWidth gs → Each SoundGeometry (map full_geometry gs) → sum_of geometry_size (map full_geometry gs) ≤ 67108864
    → Each FullGeometryInWidth (map full_geometry gs)
unfolding Each sum_of
geometries_in-width [] w f h = tt
geometries_in-width (g ∷ gs) w f h = (GeometryInWidth_lem g w.0 f.0 (omega arith), geometries_in-width gs w.1 f.1 (omega arith))

shaders-InWidth : (gs : List Geometry) → Each GeometryInWidth gs → Each (λ (i : ℕ). i < 2 ^ 16) (map (λ (g : Geometry). g.shader) gs)
unfolding Each
shaders-InWidth [] w = tt
shaders-InWidth (g ∷ gs) w = (w.0.shader, shaders-InWidth gs w.1)

models_in-width : (s : State) → StateInWidth s → Each SoundModel (hall_of s) → sum_of model_size (hall_of s) ≤ 67108864 → HallInWidth (hall_of s)
unfolding Each sum_of hall_of model_size
models_in-width [] w f h = tt
models_in-width (m ∷ ms) w f h = (
  record {
    binding = w.0.binding;
    mask = w.0.mask;
    entries = shaders-InWidth m.geometries w.0.geometries;
    mapping = omega arith;
    geometries = geometries_in-width m.geometries w.0.geometries f.0.geometries (omega arith);
  },
  models_in-width ms w.1 f.1 (omega arith),
)

pub sound-InWidth : (s : State) → StateInWidth s → verdict (hall_of s) ≡ Sound → HallInWidth (hall_of s)
unfolding image_within_limit image_size
sound-InWidth s w e =
    let f : SoundHall (hall_of s) = verdict-sound (hall_of s) e in
    let h : image_size (hall_of s) ≤ 67108864 = leb-true (image_size (hall_of s)) 67108864 f.image in
    models_in-width s w (sound_models (hall_of s) f) (omega arith)

-- ---- the state of a hall that was read fits too

geometries-StateInWidth : (gs : List FullGeometry) (rs : List Record) → Each FullGeometryInWidth gs → Each Held (geometries_records gs ++ rs) → Each GeometryInWidth (map geometry_state gs) × Each Held rs
unfolding Each geometries_records
geometries-StateInWidth [] rs w r = (tt, r)
geometries-StateInWidth (g ∷ gs) rs w r =
    let f : FullGeometryInWidth g = w.0 in
    let v : Vertices = g.vertices in
    let read : drop 7 (vertices_body v) ≡ v.content = ap (λ (x : Vertices). x.content) (Vertices-read-back v f.layout f.vertices_stride f.vertices_count) in
    let content : Each (λ (b : ℕ). b < 256) (drop 7 (vertices_body v)) = below_each 256 (drop 7 (vertices_body v)) (drop-below 7 (vertices_body v) r.1.1.0.below) in
    let others = geometries-StateInWidth gs rs w.1 r.1.1.1.1 in
    ((record { shader = f.shader; declaration = f.declaration; stride = f.stride; content = rw read at content; indices = f.items }, others.0), others.1)

models-StateInWidth : (h : Hall) → HallInWidth h → Each Held (hall_records h) → StateInWidth (state_of h)
unfolding Each hall_records state_of
models-StateInWidth [] w r = tt
models-StateInWidth (m ∷ ms) w r =
    let gs = geometries-StateInWidth m.geometries (hall_records ms) w.0.geometries r.1 in
    (record { binding = w.0.binding; mask = w.0.mask; geometries = gs.0 }, models-StateInWidth ms w.1 gs.1)

pub read-StateInWidth : (s : List ℕ) → AllBytes s → (h : Hall) → ReadHall s h → StateInWidth (state_of h)
read-StateInWidth s f h r = models-StateInWidth h r.InWidth_lem (rw r.same-records (records-held s f))

-- ---- sound bytes are a state

read-state : (s : List ℕ) → AllBytes s → (h : Hall) → ReadHall s h → verdict h ≡ Sound → IsState s (state_of h)
unfolding state_bytes
read-state s f h r e =
    let same : hall_of (state_of h) ≡ h = hall_of-state h e in
    record { in_width = read-StateInWidth s f h r; sound = ap verdict same ∙ e; bytes = ap hall_bytes same ∙ r.same_bytes }

-- what a verdict of "sound" says of the first n bytes
pub record SoundBytes (b : List ℕ) (n : ℕ) : Type 0 where
  pub within : n ≤ length b
  pub parsed : parse (take n b) ≡ Some (models_in (records (take n b)))
  pub read : ReadHall (take n b) (models_in (records (take n b)))
  pub sound : verdict (models_in (records (take n b))) ≡ Sound

judged-bytes : (b : List ℕ) (n : ℕ) → AllBytes b → n ≤ length b → (o : Option Hall) → parse (take n b) ≡ o → judged o ≡ Sound → SoundBytes b n
judged-bytes b n f h None e v = let z : ◌≡◌ {A = ℕ} 0 1 = cc in absurd (omega arith)
judged-bytes b n f h (Some x) e v =
    let r : ReadHall (take n b) x = hall-parsed (take n b) (take_below n b f) x e in
    record { within = h; parsed = e ∙ ap Some r.is; read = subst (ReadHall (take n b)) r.is r; sound = ap verdict (sym r.is) ∙ v }

pub SoundBytes_lem : (b : List ℕ) (n : ℕ) → AllBytes b → hall_verdict b n ≡ Sound → SoundBytes b n
unfolding hall_verdict
SoundBytes_lem b n f e =
    let r = required 11 (leb n (length b)) (judged (parse (take n b))) e in
    judged-bytes b n f (leb-true n (length b) r.0) (parse (take n b)) refl r.1

pub sound_state : (b : List ℕ) (n : ℕ) → AllBytes b → hall_verdict b n ≡ Sound → (n ≤ length b) × IsState (take n b) (state_of (models_in (records (take n b))))
sound_state b n f e =
    let w : SoundBytes b n = SoundBytes_lem b n f e in
    (w.within, read-state (take n b) (take_below n b f) (models_in (records (take n b))) w.read w.sound)

-- ---- a state's bytes are sound, and of that state alone

State-parsed : (s : List ℕ) (st : State) → IsState s st → parse s ≡ Some (hall_of st)
unfolding state_bytes
State-parsed s st w =
    ap parse (sym w.bytes) ∙ parse-written (hall_of st) (sound-InWidth st w.in_width w.sound) (verdict-sound (hall_of st) w.sound).vertex-bytes

pub State-sound : (b : List ℕ) (n : ℕ) (st : State) → n ≤ length b → IsState (take n b) st → hall_verdict b n ≡ Sound
unfolding hall_verdict
State-sound b n st h w = rw (le-leb n (length b) h, State-parsed (take n b) st w) w.sound

pub State-unique : (s : List ℕ) (st st' : State) → IsState s st → IsState s st' → st ≡ st'
State-unique s st st' w w' =
    let e : Some (hall_of st) ≡ Some (hall_of st') = sym (State-parsed s st w) ∙ State-parsed s st' w' in
    let same : hall_of st ≡ hall_of st' = cc in
    sym (state_of-hall st) ∙ ap state_of same ∙ state_of-hall st'
