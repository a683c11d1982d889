-- The models of a sound list have few geometries.
use mathlib.Core.Path.{◌≡◌, refl}
use mathlib.Core.List.{List}
use Prim.Native.Nat.{ℕ, suc, ◌+◌, ◌≤◌}
use native.Mathlib.Omega.{arith}
use lib.ListN.{drop}
use Rattle.halls.specs.Checks.{geometry_count}
use Rattle.halls.specs.Every.{sum_of}
use Rattle.halls.specs.Fronts.{entries_at}
use Rattle.images.specs.Fronts.{model_length, models_from, items_from}
use Rattle.images.proofs.WrittenModel.{geometries-count}

counts : (k : ℕ) (s : List ℕ) → geometry_count (models_from (suc k) s) ≡ entries_at s + geometry_count (models_from k (drop (model_length s) s))
unfolding geometry_count sum_of items_from
counts k s = rw (geometries-count s) refl

pub few_one : (s : List ℕ) → geometry_count (models_from 1 s) ≤ 16384 → entries_at s ≤ 16384
few_one s h = omega (arith, counts 0 s)

pub fewer_models : (k : ℕ) (s : List ℕ) → geometry_count (models_from (suc k) s) ≤ 16384 → (geometry_count (models_from 1 s) ≤ 16384) × (geometry_count (models_from k (drop (model_length s) s)) ≤ 16384)
unfolding geometry_count sum_of items_from
fewer_models k s h =
    let none : geometry_count (models_from 0 (drop (model_length s) s)) ≡ 0 = refl in
    (omega (arith, counts k s, counts 0 s, none), omega (arith, counts k s))
