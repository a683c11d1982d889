-- What at most 16,384 geometries of small sections come to fits its fields.
use Rattle.std.specs.Prelude.{Option, None, Some, option_map}
use mathlib.Core.Path.{◌≡◌, refl, subst}
use mathlib.Core.List.{List, [], ◌∷◌}
use Prim.Native.Nat.{ℕ, ◌+◌, ◌*◌, ◌^◌, ◌<◌, ◌≤◌}
use native.Mathlib.Omega.{arith}
use lib.ListN.{length, length-append}
use Rattle.sections.specs.Address.{Sections, resolved}
use Rattle.vertices.specs.declared.buffer.VertexBuffer.{VertexBuffer}
use Rattle.halls.specs.Blocks.{GeometryBlock, geometry_block}
use Rattle.halls.specs.Every.{Each}
use Rattle.halls.specs.List.{Geometry, Model}
use Rattle.halls.specs.Inner.Measure.{geometries_in}
use Rattle.halls.specs.Reading.{vertices_of, geometry_of}
use Rattle.halls.specs.Inner.Small.{Small}
use Rattle.halls.specs.Inner.Taking.{indices_shown, geometry_shown, content_in, held_in, geometry_taken, all_taken, model_taken, Fitting}
use Rattle.halls.specs.Inner.View.{ViewHeld, BufferHeld, IndicesHeld, bytes_seen, geometry_view, model_in, models_at}
use Rattle.halls.specs.declared.edit.judge_read.Taken.{Taken}
use Rattle.halls.specs.declared.read.view.GeometryView.{GeometryView}
use Rattle.halls.specs.declared.read.view.IndexView.{IndexView}
use Rattle.halls.proofs.read.HeldLaws.{items_length_lem, held-few}
use Rattle.halls.proofs.edit.ReadEach.{models-each}
use Rattle.halls.proofs.edit.ShownLaws.{shown-is}
use Rattle.halls.proofs.read.ViewRecords.{ViewHeld_lem}

-- ---- geometries

pub record SmallGeometry (g : Geometry) : Type 0 where
  pub content : content_in g.vertices < 2 ^ 31
  pub held : held_in g.indices < 2 ^ 29

content-small : (s : Sections) (f : Option VertexBuffer) → BufferHeld s f → content_in (option_map (vertices_of s) f) < 2 ^ 31
content-small s None h = omega arith
content-small s (Some b) h = h.1

held_small : (s : Sections) (f : Option IndexView) → IndicesHeld s f → held_in (indices_shown s f) < 2 ^ 29
held_small s None h = omega arith
held_small s (Some v) h = rw (items_length_lem v (bytes_seen s v)) (held-few v (bytes_seen s v) h)

shown-small : (s : Sections) (v : GeometryView) → ViewHeld s v → SmallGeometry (geometry_shown s v)
unfolding geometry_shown
shown-small s v h = record { content = content-small s v.buffer h.buffer; held = held_small s v.indices h.indices }

pub read_small : (s : Sections) → Small s → (shader : ℕ) (b : GeometryBlock) → SmallGeometry (geometry_of s shader b)
read_small s m shader b = subst SmallGeometry (shown-is s shader b) (shown-small s (geometry_view s shader b) (ViewHeld_lem s m shader b))

-- ---- their sums

-- so many models and geometries, a geometry no more than `most`
record Light (most models geometries : ℕ) (t : Taken) : Type 0 where
  models_are : t.summary.models ≡ models
  geometries-are : t.summary.geometries ≡ geometries
  image : t.summary.units ≤ models * 16 + geometries * most
  long : t.«length» ≤ models * 16 + geometries * most

geometries-light : (gs : List Geometry) → Each SmallGeometry gs → Light (2 ^ 33) 0 (length gs) (all_taken geometry_taken gs)
unfolding all_taken geometry_taken Each
geometries-light [] h = record { models_are = refl; geometries-are = refl; image = omega arith; long = omega arith }
geometries-light (g ∷ gs) h =
    let l = geometries-light gs h.1 in
    record {
      models_are = omega (arith, l.models_are);
      geometries-are = omega (arith, l.geometries-are);
      image = omega (arith, l.image, h.0.content, h.0.held);
      long = omega (arith, l.long, h.0.content, h.0.held);
    }

models_light : (ms : List Model) → Each (λ (m : Model). Each SmallGeometry m.geometries) ms → Light (2 ^ 34) (length ms) (geometries_in ms) (all_taken model_taken ms)
unfolding all_taken model_taken Each
models_light [] h = record { models_are = refl; geometries-are = refl; image = omega arith; long = omega arith }
models_light (m ∷ ms) h =
    let g = geometries-light m.geometries h.0 in
    let l = models_light ms h.1 in
    record {
      models_are = omega (arith, g.models_are, l.models_are);
      geometries-are = omega (arith, g.geometries-are, l.geometries-are);
      image = omega (arith, g.image, l.image);
      long = omega (arith, g.long, l.long);
    }

-- ---- as many models as pointers

in_few : (s : Sections) (o : Option (List ℕ)) → length (model_in s o) ≤ 1
in_few s None = omega arith
in_few s (Some b) = omega arith

models_few : (s : Sections) (ps : List ℕ) → length (models_at s ps) ≤ length ps
unfolding models_at
models_few s [] = omega arith
models_few s (p ∷ ps) = rw length-append (omega (arith, in_few s (resolved s p 0x30), models_few s ps))

pub models_fit : (s : Sections) → Small s → (ps : List ℕ) → length ps < 2 ^ 20 → geometries_in (models_at s ps) ≤ 16384 → Fitting (all_taken model_taken (models_at s ps))
models_fit s m ps short few =
    let l = models_light (models_at s ps) (models-each s SmallGeometry (λ shader pointer b e. read_small s m shader (geometry_block b)) ps) in
    let n = models_few s ps in
    record {
      models = omega (arith, l.models_are);
      geometries = omega (arith, l.geometries-are);
      image = omega (arith, l.image);
      long = omega (arith, l.long);
    }
