-- One geometry and one model as they are read: what they come to.
use Rattle.std.specs.Prelude.{Option, None, Some}
use mathlib.Core.Path.{◌≡◌, refl, sym, ap, ◌∙◌}
use mathlib.Core.Bool.{Bool, true, false, cond}
use mathlib.Core.List.{List, [], ◌∷◌}
use Prim.Native.Nat.{ℕ, ◌≤◌}
use native.Mathlib.Omega.{arith}
use lib.ListN.{length}
use Rattle.sections.specs.Address.{Sections, resolved}
use Rattle.halls.specs.Blocks.{ModelBlock, geometry_block, model_block}
use Rattle.halls.specs.Inner.Measure.{whole_numbers}
use Rattle.halls.specs.Inner.View.{ListsOf, geometry_view, geometry_in, geometries_at, model_of, model_in}
use Rattle.halls.specs.Reading.{or_empty, geometry_of}
use Rattle.halls.proofs.read.StoredLaws.{model_geometries}
use Rattle.halls.specs.Checks.{strides_agree, components_inside, vertex_counts_agree, index_counts_agree, indices_in_range, triangles_distinct}
use Rattle.halls.specs.Hall.{FullGeometry}
use Rattle.halls.specs.Inner.Judging.{lowest_of}
use Rattle.halls.specs.Inner.Order.{passed}
use Rattle.halls.specs.List.{Geometry, Model}
use Rattle.halls.specs.Inner.Taking.{as_halls, geometry_shown, lowest_in, geometry_taken, together, all_taken, record_taken, model_taken, Fitting}
use Rattle.halls.specs.declared.edit.judge_read.Taken.{Taken}
use Rattle.halls.specs.declared.read.view.GeometryView.{GeometryView}
use Rattle.halls.proofs.edit.ShownLaws.{shown-is}
use Rattle.halls.proofs.edit.TakingItems.{nothing-behind, fits-second}

-- ---- one geometry

lowest_bounds : (a b c d e f : Bool) → (11 ≤ cond a (cond b (cond c (cond d (cond e (cond f passed 27) 18) 17) 16) 15) 14) × (cond a (cond b (cond c (cond d (cond e (cond f passed 27) 18) 17) 16) 15) 14 ≤ passed)
lowest_bounds false b c d e f = (omega arith, omega arith)
lowest_bounds true false c d e f = (omega arith, omega arith)
lowest_bounds true true false d e f = (omega arith, omega arith)
lowest_bounds true true true false e f = (omega arith, omega arith)
lowest_bounds true true true true false f = (omega arith, omega arith)
lowest_bounds true true true true true false = (omega arith, omega arith)
lowest_bounds true true true true true true = (omega arith, omega arith)

pub of_bounds : (g : FullGeometry) → (11 ≤ lowest_of g) × (lowest_of g ≤ passed)
unfolding lowest_of
of_bounds g = lowest_bounds (strides_agree g) (components_inside g) (vertex_counts_agree g) (index_counts_agree g) (indices_in_range g) (triangles_distinct g)

in_low : (o : Option FullGeometry) → lowest_in o ≤ passed
in_low None = omega arith
in_low (Some g) = (of_bounds g).1

one-geometry : (g : Geometry) → all_taken geometry_taken (g ∷ []) ≡ geometry_taken g
unfolding all_taken geometry_taken
one-geometry g = nothing-behind (geometry_taken g) (in_low (as_halls g))

-- the geometry of the block behind a pointer
pub geometry_in_lem : (s : Sections) (shader pointer : ℕ) (raw : List ℕ) → resolved s pointer 0x98 ≡ Some raw → (v : GeometryView) → v ≡ geometry_view s shader (geometry_block raw)
    → geometry_taken (geometry_shown s v) ≡ all_taken geometry_taken (geometry_in s shader (resolved s pointer 0x98))
geometry_in_lem s shader pointer raw e v q =
    ap (λ (x : GeometryView). geometry_taken (geometry_shown s x)) q ∙ ap geometry_taken (shown-is s shader (geometry_block raw)) ∙ sym (one-geometry (geometry_of s shader (geometry_block raw)))
    ∙ ap (λ (o : Option (List ℕ)). all_taken geometry_taken (geometry_in s shader o)) (sym e)

-- ---- one model

one-model : (m : Model) → all_taken model_taken (m ∷ []) ≡ model_taken m
unfolding all_taken model_taken
one-model m = nothing-behind (model_taken m) (omega arith)

-- the model of the block behind a pointer
pub model_in_lem : (s : Sections) (pointer : ℕ) (raw : List ℕ) → resolved s pointer 0x30 ≡ Some raw → model_taken (model_of s (model_block raw)) ≡ all_taken model_taken (model_in s (resolved s pointer 0x30))
model_in_lem s pointer raw e = sym (one-model (model_of s (model_block raw))) ∙ ap (λ (o : Option (List ℕ)). all_taken model_taken (model_in s o)) (sym e)

-- as many as were read
pub geometries-counted : (gs : List Geometry) → (all_taken geometry_taken gs).summary.geometries ≡ length gs
unfolding all_taken geometry_taken
geometries-counted [] = refl
geometries-counted (g ∷ gs) = omega (arith, geometries-counted gs)

module _ (m : Model) where
  pub geometries-fit : Fitting (model_taken m) → Fitting (all_taken geometry_taken m.geometries)
  unfolding model_taken
  geometries-fit fits = fits-second (record_taken (length m.geometries)) (all_taken geometry_taken m.geometries) fits

  -- its record, and its geometries
  pub model_taken_lem : {r : Taken} → r ≡ all_taken geometry_taken m.geometries → together (record_taken r.summary.geometries) r ≡ model_taken m
  unfolding model_taken
  model_taken_lem e =
      ap (λ (x : Taken). together (record_taken x.summary.geometries) x) e
      ∙ ap (λ (n : ℕ). together (record_taken n) (all_taken geometry_taken m.geometries)) (geometries-counted m.geometries)

-- the same, and the geometries by the bytes of its lists
module _ (s : Sections) (b : ModelBlock) (pointers : Option (List ℕ)) (mapping : List ℕ) (l : ListsOf s b pointers mapping) where
  abbrev geometries : List Geometry
  geometries = geometries_at s (whole_numbers 2 mapping) (whole_numbers 8 (or_empty pointers))

  by_lists : model_taken (model_of s b) ≡ together (record_taken (length geometries)) (all_taken geometry_taken geometries)
  unfolding model_taken
  by_lists = ap (λ (gs : List Geometry). together (record_taken (length gs)) (all_taken geometry_taken gs)) (sym (model_geometries s b pointers mapping l refl))
