-- What a reading comes to is what the verdict asks of the hall that `take_in` proposes: check 11 where a part is lacking, else the hall's verdict and length.
use Rattle.std.specs.Prelude.{Option, None, Some, option_map}
use mathlib.Core.Path.{◌≡◌, refl, sym, ◌∙◌}
use mathlib.Core.Bool.{true, ◌&&◌}
use mathlib.Core.List.{List, [], ◌∷◌, map}
use Prim.Native.Nat.{ℕ, ◌+◌, ◌*◌, ◌≤◌, min}
use native.Mathlib.Omega.{arith}
use borrow.Author.Tests.{eq-eqb}
use lib.Dec.{leb}
use lib.ListN.{length, length-append}
use Rattle.sections.specs.Address.{Sections}
use Rattle.vertices.specs.Buffer.{vertex_buffer_at}
use Rattle.vertices.specs.declared.buffer.VertexBuffer.{VertexBuffer}
use Rattle.vertices.proofs.BufferLaws.{FoundData, buffer_data}
use Rattle.halls.specs.Blocks.{GeometryBlock, geometry_block}
use Rattle.halls.specs.Calls.{both, all_of, taken_model}
use Rattle.halls.specs.Checks.{vertex_bytes_exact, shader_ids, mapping_matches, geometry_count, every_geometry, verdict}
use Rattle.halls.specs.Every.{every, sum_of, Each}
use Rattle.halls.specs.Hall.{FullGeometry, FullModel, Hall, listed_geometry, listed_model, hall_bytes}
use Rattle.halls.specs.ImageSize.{geometry_size, model_size, image_size}
use Rattle.halls.specs.Inner.Judging.{lowest_of}
use Rattle.halls.specs.Inner.Order.{passed, verdict_of}
use Rattle.halls.specs.List.{Vertices, Indices, Geometry, Model, each, write_geometry, write_geometries, write_model, model_record, model_body}
use Rattle.halls.specs.Reading.{vertices_of, geometry_with, geometry_of}
use Rattle.halls.specs.Inner.Taking.{as_halls, geometry_taken, nothing_taken, together, all_taken, record_taken, model_taken}
use Rattle.halls.specs.Inner.View.{models_at}
use Rattle.halls.specs.Inner.Walk.{units, limits_lowest}
use Rattle.halls.specs.declared.edit.judge_read.Taken.{Taken}
use Rattle.halls.proofs.format.BodyLaws.{model_body-length}
use Rattle.halls.proofs.check.ExaminedLaws.{limits_low}
use Rattle.halls.proofs.check.LimitLaws.{limits_of}
use Rattle.halls.proofs.edit.ReadEach.{models-each}
use Rattle.halls.proofs.edit.SoundEdits.{same_itself}
use Rattle.halls.proofs.edit.TakingLaws.{of_bounds, geometries-counted}
use Rattle.halls.proofs.check.TallyLaws.{lowest_of_all, lowest_of_models, verdict-lowest, length-shaders}
use Rattle.halls.proofs.read.ViewLaws.{Record-length, geometry_record-length, declaration_record-length, vertices_record-length, indices_record-length}

-- ---- vertex bytes are exact where they were read

abbrev ExactIn : Option Vertices → Type 0
ExactIn o = (v : Vertices) → o ≡ Some v → length v.content ≡ v.count * v.stride

abbrev ExactGeometry : Geometry → Type 0
ExactGeometry g = ExactIn g.vertices

abbrev ExactModel : Model → Type 0
ExactModel m = Each ExactGeometry m.geometries

buffer-exact : (s : Sections) (o : Option VertexBuffer) → ((b : VertexBuffer) → o ≡ Some b → FoundData s b) → ExactIn (option_map (vertices_of s) o)
unfolding vertices_of
buffer-exact s None f v e = let z : ◌≡◌ {A = ℕ} 0 1 = cc in absurd (omega arith)
buffer-exact s (Some b) f v e =
    let h = (f b refl).bytes in
    let long : length (vertices_of s b).content ≡ b.vertex_count * b.vertex_stride = rw h.is h.long in
    cc

geometry-exact : (s : Sections) (shader : ℕ) (b : GeometryBlock) → ExactGeometry (geometry_of s shader b)
unfolding geometry_of geometry_with
geometry-exact s shader b =
    buffer-exact s (vertex_buffer_at s b.vertex_block b.inline b.vertices b.stride) (buffer_data s b.vertex_block b.inline b.vertices b.stride)

models-exact : (s : Sections) (ps : List ℕ) → Each ExactModel (models_at s ps)
models-exact s ps = models-each s ExactGeometry (λ shader pointer b e. geometry-exact s shader (geometry_block b)) ps

-- ---- one geometry

record GeometryTakenAs (g : FullGeometry) (t : Taken) : Type 0 where
  lowest : t.lowest ≡ lowest_of g
  models : t.summary.models ≡ 0
  geometries : t.summary.geometries ≡ 1
  image : 16 * t.summary.units ≡ geometry_size g
  long : t.«length» ≡ length (write_geometry (listed_geometry g))
  exact : vertex_bytes_exact g ≡ true

abbrev GeometryJudged : Option FullGeometry → Taken → Type 0
GeometryJudged None t = t.lowest ≡ 11
GeometryJudged (Some g) t = GeometryTakenAs g t

taken_as : (g : Geometry) (v : Vertices) (i : Indices) → g.vertices ≡ Some v → g.indices ≡ Some i → ExactGeometry g → GeometryJudged (as_halls g) (geometry_taken g)
unfolding geometry_taken geometry_size write_geometry vertex_bytes_exact
taken_as g v i e f x = rw (e, f) (record {
  lowest = refl;
  models = refl;
  geometries = refl;
  image = omega arith;
  long = simp (length-append, geometry_record-length, declaration_record-length, vertices_record-length, indices_record-length) (omega arith);
  exact = eq-eqb (length v.content) (v.count * v.stride) (x v e);
})

lacking : (g : Geometry) → as_halls g ≡ None → GeometryJudged (as_halls g) (geometry_taken g)
unfolding geometry_taken
lacking g n = rw n

GeometryJudged_lem : (g : Geometry) → ExactGeometry g → GeometryJudged (as_halls g) (geometry_taken g)
GeometryJudged_lem g x = by_parts g.vertices g.indices refl refl
  where
    by_parts : (o : Option Vertices) (p : Option Indices) → g.vertices ≡ o → g.indices ≡ p → GeometryJudged (as_halls g) (geometry_taken g)
    by_parts None p e f = lacking g (rw e)
    by_parts (Some v) None e f = lacking g (rw (e, f))
    by_parts (Some v) (Some i) e f = taken_as g v i e f x

-- ---- a model's geometries

record GeometriesTakenAs (gs : List FullGeometry) (t : Taken) : Type 0 where
  lowest : t.lowest ≡ lowest_of_all gs
  above : 11 ≤ t.lowest
  models : t.summary.models ≡ 0
  geometries : t.summary.geometries ≡ length gs
  image : 16 * t.summary.units ≡ sum_of geometry_size gs
  long : t.«length» ≡ length (write_geometries (map listed_geometry gs))
  exact : every vertex_bytes_exact gs ≡ true

abbrev GeometriesJudged : Option (List FullGeometry) → Taken → Type 0
GeometriesJudged None t = t.lowest ≡ 11
GeometriesJudged (Some gs) t = GeometriesTakenAs gs t

geometries-none : GeometriesJudged (Some []) nothing_taken
unfolding lowest_of_all sum_of each every
geometries-none = record { lowest = refl; above = omega arith; models = refl; geometries = refl; image = refl; long = refl; exact = refl }

geometries-more : (o : Option FullGeometry) (p : Option (List FullGeometry)) (t u : Taken) → GeometryJudged o t → GeometriesJudged p u → GeometriesJudged (both (λ y ys. y ∷ ys) o p) (together t u)
unfolding lowest_of_all sum_of each every
geometries-more None None t u a b = omega arith
geometries-more None (Some gs) t u a b = omega (arith, b.above)
geometries-more (Some g) None t u a b = omega (arith, of_bounds g, a.lowest)
geometries-more (Some g) (Some gs) t u a b = record {
  lowest = rw (a.lowest, b.lowest);
  above = omega (arith, of_bounds g, a.lowest, b.above);
  models = omega (arith, a.models, b.models);
  geometries = omega (arith, a.geometries, b.geometries);
  image = omega (arith, a.image, b.image);
  long = rw length-append (omega (arith, a.long, b.long));
  exact = rw (a.exact, b.exact);
}

GeometriesJudged_lem : (gs : List Geometry) → Each ExactGeometry gs → GeometriesJudged (all_of as_halls gs) (all_taken geometry_taken gs)
unfolding all_of all_taken Each
GeometriesJudged_lem [] x = geometries-none
GeometriesJudged_lem (g ∷ gs) x =
    geometries-more (as_halls g) (all_of as_halls gs) (geometry_taken g) (all_taken geometry_taken gs) (GeometryJudged_lem g x.0) (GeometriesJudged_lem gs x.1)

-- ---- models

record ModelsTakenAs (h : Hall) (t : Taken) : Type 0 where
  lowest : t.lowest ≡ lowest_of_models h
  above : 11 ≤ t.lowest
  models : t.summary.models ≡ length h
  geometries : t.summary.geometries ≡ geometry_count h
  image : 16 * t.summary.units ≡ sum_of model_size h
  long : t.«length» ≡ length (hall_bytes h)
  exact : every_geometry vertex_bytes_exact h ≡ true

abbrev ModelsJudged : Option Hall → Taken → Type 0
ModelsJudged None t = t.lowest ≡ 11
ModelsJudged (Some h) t = ModelsTakenAs h t

models-none : ModelsJudged (Some []) nothing_taken
unfolding lowest_of_models sum_of each every geometry_count hall_bytes
models-none = record { lowest = refl; above = omega arith; models = refl; geometries = refl; image = refl; long = refl; exact = refl }

-- a model with these geometries, and its mapping made of their shader ids
abbrev halls_model : Model → List FullGeometry → FullModel
halls_model m gs = record { binding = m.binding; mask = m.mask; mapping = shader_ids gs; geometries = gs }

model-long : (m : FullModel) → length (write_model (listed_model m)) ≡ 12 + 2 * length m.mapping + length (write_geometries (map listed_geometry m.geometries))
unfolding write_model model_record
model-long m = rw (length-append, Record-length 1 (model_body (listed_model m)), model_body-length m) (omega arith)

lower_three : (a b : ℕ) → min (min passed a) b ≡ min passed (min a b)
lower_three a b = omega arith

models_more : (m : Model) (n : ℕ) (p : Option (List FullGeometry)) (h : Option Hall) (t u : Taken) → t.summary.geometries ≡ n → GeometriesJudged p t → ModelsJudged h u
    → ModelsJudged (both (λ y ys. y ∷ ys) (option_map (halls_model m) p) h) (together (together (record_taken n) t) u)
unfolding lowest_of_models sum_of each every geometry_count hall_bytes mapping_matches model_size
models_more m n None None t u e a b = omega arith
models_more m n None (Some h) t u e a b = omega (arith, b.above)
models_more m n (Some gs) None t u e a b = omega (arith, a.above)
models_more m n (Some gs) (Some h) t u e a b =
    let f : FullModel = halls_model m gs in
    let count : n ≡ length gs = sym e ∙ a.geometries in
    record {
      lowest = rw (same_itself (shader_ids gs), a.lowest, b.lowest) (lower_three (lowest_of_all gs) (lowest_of_models h));
      above = omega (arith, a.above, b.above);
      models = omega (arith, a.models, b.models);
      geometries = omega (arith, a.geometries, b.geometries);
      image = omega (arith, a.image, b.image, length-shaders gs);
      long = rw length-append (omega (arith, model-long f, length-shaders gs, a.long, b.long));
      exact = rw (a.exact, b.exact);
    }

ModelsJudged_lem : (ms : List Model) → Each ExactModel ms → ModelsJudged (all_of taken_model ms) (all_taken model_taken ms)
unfolding all_of all_taken Each model_taken
ModelsJudged_lem [] x = models-none
ModelsJudged_lem (m ∷ ms) x =
    models_more m (length m.geometries) (all_of as_halls m.geometries) (all_of taken_model ms) (all_taken geometry_taken m.geometries) (all_taken model_taken ms)
    (geometries-counted m.geometries) (GeometriesJudged_lem m.geometries x.0) (ModelsJudged_lem ms x.1)

-- ---- the whole

abbrev pub lowest_taken : Taken → ℕ
lowest_taken t = min t.lowest (limits_lowest t.summary.models t.summary.geometries t.summary.units)

-- check 11, or the verdict on the hall, its length and its geometries
abbrev pub Judged : Option Hall → Taken → Type 0
Judged None t = lowest_taken t ≡ 11
Judged (Some h) t = (verdict_of (lowest_taken t) ≡ verdict h) × (t.«length» ≡ length (hall_bytes h)) × (t.summary.geometries ≡ geometry_count h)

limits_above : (models geometries parts : ℕ) → 13 ≤ limits_lowest models geometries parts
unfolding limits_lowest
limits_above models geometries parts = (limits_low (leb models 256 && leb geometries 16384) (leb (1 + units (8 * models) + parts) 4194304)).0

by-hall : (o : Option Hall) (t : Taken) → ModelsJudged o t → Judged o t
unfolding image_size
by-hall None t a = omega (arith, a, limits_above t.summary.models t.summary.geometries t.summary.units)
by-hall (Some h) t a =
    let limits = limits_of h t.summary.models t.summary.geometries t.summary.units a.models a.geometries (omega (arith, a.image, a.models)) in
    (rw (a.lowest, limits) (verdict-lowest h a.exact), a.long, a.geometries)

pub taken-verdict : (s : Sections) (ps : List ℕ) (o : Option Hall) → all_of taken_model (models_at s ps) ≡ o → Judged o (all_taken model_taken (models_at s ps))
taken-verdict s ps o e = rw (← e) (by-hall (all_of taken_model (models_at s ps)) (all_taken model_taken (models_at s ps)) (ModelsJudged_lem (models_at s ps) (models-exact s ps)))
