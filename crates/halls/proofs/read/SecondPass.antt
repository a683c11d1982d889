-- Where reading refuses nothing, the second pass writes what was read.
use Rattle.std.specs.Prelude.{Option, None}
use mathlib.Core.Path.{◌≡◌, refl, ap, ◌∙◌}
use mathlib.Core.Bool.{Bool, true, false, cond}
use mathlib.Core.List.{List, [], ◌∷◌, ◌++◌}
use Prim.Native.Nat.{ℕ, suc, ◌+◌}
use borrow.Author.Tests.{eqb-true}
use lib.Dec.{eqb, ltb}
use lib.ListN.{length}
use Rattle.sections.specs.Address.{Sections, resolved}
use Rattle.sections.proofs.AddressLaws.{located-zero}
use Rattle.halls.specs.List.{Geometry, Model}
use Rattle.halls.specs.Blocks.{ModelBlock, model_block, geometry_block}
use Rattle.halls.specs.Reading.{refused, read, need, and_then, first, rest, or_empty, list_at, mapping_of, geometry_of, read_geometries, read_model, read_models}
use Rattle.halls.specs.Inner.View.{geometry_in, geometries_behind, geometries_at, model_of, model_in, models_at}
use Rattle.halls.proofs.read.ReadingLaws.{read-injective, not-read, need-read, then-read}

null-unresolved : (s : Sections) (p n : ℕ) → p ≡ 0 → resolved s p n ≡ None
unfolding resolved
null-unresolved s p n z = rw (located-zero s p n z)

-- ---- geometries

module _ (s : Sections) (p : ℕ) (ps : List ℕ) (ih : (before : ℕ) (map : List ℕ) (gs : List Geometry) → read_geometries s before map ps ≡ read gs → geometries_at s map ps ≡ gs)
    (before : ℕ) (map : List ℕ) (gs : List Geometry) where
  abbrev geometry : List ℕ → Geometry
  geometry b = geometry_of s (first map) (geometry_block b)

  geometry-step : (z l : Bool) → eqb p 0 ≡ z
      → cond z (read_geometries s before (rest map) ps) (cond l (need 6 (resolved s p 0x98) (λ b. and_then (read_geometries s (suc before) (rest map) ps) (λ xs. read (geometry b ∷ xs)))) (refused 5)) ≡ read gs
      → geometry_in s (first map) (resolved s p 0x98) ++ geometries_at s (rest map) ps ≡ gs
  geometry-step true l f e = rw (null-unresolved s p 0x98 (eqb-true p 0 f)) (ih before (rest map) gs e)
  geometry-step false false f e = absurd (not-read e)
  geometry-step false true f e =
      let n = need-read 6 (resolved s p 0x98) _ gs e in
      let t = then-read (read_geometries s (suc before) (rest map) ps) _ gs n.onward in
      ap (λ (o : Option (List ℕ)). geometry_in s (first map) o ++ geometries_at s (rest map) ps) n.is
      ∙ ap (λ (xs : List Geometry). geometry n.found ∷ xs) (ih (suc before) (rest map) t.value t.is) ∙ read-injective t.onward

pub geometries-read : (s : Sections) (ps : List ℕ) (before : ℕ) (map : List ℕ) (gs : List Geometry) → read_geometries s before map ps ≡ read gs → geometries_at s map ps ≡ gs
unfolding read_geometries geometries_behind
geometries-read s [] before map gs e = read-injective e
geometries-read s (p ∷ ps) before map gs e = geometry-step s p ps (geometries-read s ps) before map gs (eqb p 0) (ltb before 16384) refl e

-- ---- models

model-read : (s : Sections) (before : ℕ) (b : ModelBlock) (m : Model) → read_model s before b ≡ read m → model_of s b ≡ m
unfolding read_model model_of
model-read s before b m e =
    let with_geometries_lem : List Geometry → Model = λ gs. record { binding = b.binding; mask = b.mask; mapping = mapping_of s b; geometries = gs } in
    let n = need-read 4 (list_at s 8 b.count b.geometries) _ m e in
    let t = then-read (read_geometries s before (mapping_of s b) n.found) _ m n.onward in
    ap (λ (o : Option (List ℕ)). with_geometries_lem (geometries_at s (mapping_of s b) (or_empty o))) n.is
    ∙ ap with_geometries_lem (geometries-read s n.found before (mapping_of s b) t.value t.is) ∙ read-injective t.onward

module _ (s : Sections) (p : ℕ) (ps : List ℕ) (ih : (before : ℕ) (ms : List Model) → read_models s before ps ≡ read ms → models_at s ps ≡ ms) (before : ℕ) (ms : List Model) where
  model-step : (z : Bool) → eqb p 0 ≡ z
      → cond z (read_models s before ps)
      (need 3 (resolved s p 0x30) (λ b. and_then (read_model s before (model_block b)) (λ m. and_then (read_models s (before + length m.geometries) ps) (λ xs. read (m ∷ xs))))) ≡ read ms
      → model_in s (resolved s p 0x30) ++ models_at s ps ≡ ms
  model-step true f e = rw (null-unresolved s p 0x30 (eqb-true p 0 f)) (ih before ms e)
  model-step false f e =
      let n = need-read 3 (resolved s p 0x30) _ ms e in
      let t = then-read (read_model s before (model_block n.found)) _ ms n.onward in
      let u = then-read (read_models s (before + length t.value.geometries) ps) _ ms t.onward in
      ap (λ (o : Option (List ℕ)). model_in s o ++ models_at s ps) n.is ∙ ap (λ (m : Model). m ∷ models_at s ps) (model-read s before (model_block n.found) t.value t.is)
      ∙ ap (λ (xs : List Model). t.value ∷ xs) (ih (before + length t.value.geometries) u.value u.is) ∙ read-injective u.onward

pub models-read : (s : Sections) (ps : List ℕ) (before : ℕ) (ms : List Model) → read_models s before ps ≡ read ms → models_at s ps ≡ ms
unfolding read_models models_at
models-read s [] before ms e = read-injective e
models-read s (p ∷ ps) before ms e = model-step s p ps (models-read s ps) before ms (eqb p 0) refl e
