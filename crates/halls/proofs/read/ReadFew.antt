-- What is read without a refusal has at most 16,384 geometries.
use mathlib.Core.Path.{◌≡◌, refl, ap}
use mathlib.Core.Bool.{Bool, true, false, cond}
use mathlib.Core.List.{List, [], ◌∷◌}
use Prim.Native.Nat.{ℕ, suc, ◌+◌, ◌≤◌, ◌<◌}
use native.Mathlib.Omega.{arith}
use borrow.Author.Tests.{ltb-true}
use lib.Dec.{eqb, ltb}
use lib.ListN.{length}
use Rattle.sections.specs.Address.{Sections, resolved}
use Rattle.halls.specs.Blocks.{ModelBlock, model_block, geometry_block}
use Rattle.halls.specs.List.{Geometry, Model}
use Rattle.halls.specs.Inner.Measure.{geometries_in}
use Rattle.halls.specs.Reading.{refused, read, need, and_then, first, rest, list_at, mapping_of, geometry_of, read_geometries, read_model, read_models}
use Rattle.halls.specs.Inner.View.{models_at}
use Rattle.halls.proofs.read.ReadingLaws.{read-injective, not-read, need-read, then-read}
use Rattle.halls.proofs.read.SecondPass.{models-read}

-- ---- geometries, of which `before` came earlier

module _ (s : Sections) (p : ℕ) (ps : List ℕ) (ih : (before : ℕ) (map : List ℕ) (gs : List Geometry) → before ≤ 16384 → read_geometries s before map ps ≡ read gs → before + length gs ≤ 16384)
    (before : ℕ) (map : List ℕ) (gs : List Geometry) (low : before ≤ 16384) where
  abbrev geometry : List ℕ → Geometry
  geometry b = geometry_of s (first map) (geometry_block b)

  geometry-step : (z l : Bool) → ltb before 16384 ≡ l
      → cond z (read_geometries s before (rest map) ps) (cond l (need 6 (resolved s p 0x98) (λ b. and_then (read_geometries s (suc before) (rest map) ps) (λ xs. read (geometry b ∷ xs)))) (refused 5)) ≡ read gs
      → before + length gs ≤ 16384
  geometry-step true l f e = ih before (rest map) gs low e
  geometry-step false false f e = absurd (not-read e)
  geometry-step false true f e =
      let n = need-read 6 (resolved s p 0x98) _ gs e in
      let t = then-read (read_geometries s (suc before) (rest map) ps) _ gs n.onward in
      let more : before < 16384 = ltb-true before 16384 f in
      omega (arith, ih (suc before) (rest map) t.value (omega arith) t.is, ap length (read-injective t.onward))

geometries-few : (s : Sections) (ps : List ℕ) (before : ℕ) (map : List ℕ) (gs : List Geometry) → before ≤ 16384 → read_geometries s before map ps ≡ read gs → before + length gs ≤ 16384
unfolding read_geometries
geometries-few s [] before map gs low e = omega (arith, ap length (read-injective e))
geometries-few s (p ∷ ps) before map gs low e = geometry-step s p ps (geometries-few s ps) before map gs low (eqb p 0) (ltb before 16384) refl e

-- ---- models

model-few : (s : Sections) (before : ℕ) (b : ModelBlock) (m : Model) → before ≤ 16384 → read_model s before b ≡ read m → before + length m.geometries ≤ 16384
unfolding read_model
model-few s before b m low e =
    let n = need-read 4 (list_at s 8 b.count b.geometries) _ m e in
    let t = then-read (read_geometries s before (mapping_of s b) n.found) _ m n.onward in
    omega (arith, geometries-few s n.found before (mapping_of s b) t.value low t.is, ap (λ (x : Model). length x.geometries) (read-injective t.onward))

module _ (s : Sections) (p : ℕ) (ps : List ℕ) (ih : (before : ℕ) (ms : List Model) → before ≤ 16384 → read_models s before ps ≡ read ms → before + geometries_in ms ≤ 16384) (before : ℕ) (ms : List Model)
    (low : before ≤ 16384) where
  model-step : (z : Bool)
      → cond z (read_models s before ps)
      (need 3 (resolved s p 0x30) (λ b. and_then (read_model s before (model_block b)) (λ m. and_then (read_models s (before + length m.geometries) ps) (λ xs. read (m ∷ xs))))) ≡ read ms
      → before + geometries_in ms ≤ 16384
  model-step true e = ih before ms low e
  model-step false e =
      let n = need-read 3 (resolved s p 0x30) _ ms e in
      let t = then-read (read_model s before (model_block n.found)) _ ms n.onward in
      let u = then-read (read_models s (before + length t.value.geometries) ps) _ ms t.onward in
      let first-few = model-few s before (model_block n.found) t.value low t.is in
      omega (arith, ih (before + length t.value.geometries) u.value first-few u.is, ap geometries_in (read-injective u.onward))

models_few : (s : Sections) (ps : List ℕ) (before : ℕ) (ms : List Model) → before ≤ 16384 → read_models s before ps ≡ read ms → before + geometries_in ms ≤ 16384
unfolding read_models
models_few s [] before ms low e = omega (arith, ap geometries_in (read-injective e))
models_few s (p ∷ ps) before ms low e = model-step s p ps (models_few s ps) before ms low (eqb p 0) e

pub read-few : (s : Sections) (ps : List ℕ) (ms : List Model) → read_models s 0 ps ≡ read ms → geometries_in (models_at s ps) ≤ 16384
read-few s ps ms e = rw (models-read s ps 0 ms e) (omega (arith, models_few s ps 0 ms (omega arith) e))
