-- The places in a hall as the check's pass leads to them: what is sought from the place where it came nearest stands where they say.
use Rattle.std.specs.Prelude.{Option, None, unwrap_or, option_map, MatchOption}
use mathlib.Core.Path.{◌≡◌, refl, sym, ap, ◌∙◌}
use mathlib.Core.List.{List, [], ◌∷◌, ◌++◌, append-nil}
use Prim.Native.Nat.{ℕ, ◌+◌, ◌-◌, ◌≤◌, ◌<◌}
use native.Mathlib.Omega.{arith}
use lib.ListN.{length, take, drop, length-drop, take-append-drop, drop_of_length-le}
use Rattle.halls.specs.Hall.{FullModel, Hall, hall_bytes}
use Rattle.halls.specs.Inner.HallRecords.{hall_records}
use Rattle.halls.specs.Parsing.{records_length}
use Rattle.halls.specs.Records.{records}
use Rattle.halls.specs.Inner.Seeking.{sought, Marked, Near}
use Rattle.halls.specs.Places.{item, model_place, geometry_place}
use Rattle.std.specs.Prelude.{Some}
use Rattle.halls.specs.declared.check.pass.Mark.{Mark}
use Rattle.halls.proofs.format.RecordBytes.{hall-length}
use Rattle.halls.proofs.PlaceLaws.{ModelHere, GeometryOf, sought-model, sought-there, start, behind-model, no-geometry, GeometryHere_lem}

-- ---- a model

module _ (s : List ℕ) (h : Hall) (same : hall_records h ≡ records s) (m : ℕ) where
  -- it begins where the models before it end; where there is none, the bytes end
  model-begins : length (hall_bytes h) ≡ length s → unwrap_or (sought s 0 1 m) (length s) ≡ length (hall_bytes (take m h))
  model-begins long = rw (sought-model s h same m) (by (drop m h) refl)
    where
      by : (l : Hall) → drop m h ≡ l → unwrap_or (option_map (λ (x : FullModel). 0 + records_length (hall_records (take m h))) (item m h)) (length s) ≡ length (hall_bytes (take m h))
      by [] q = let all : take m h ≡ h = sym (append-nil (take m h)) ∙ ap (λ (l : Hall). take m h ++ l) (sym q) ∙ take-append-drop m h in rw (q, all) (sym long)
      by (x ∷ xs) q = rw q (omega (arith, hall-length (take m h)))

  -- where a pass has met it last
  model-marked : {p : Mark} → Marked s p → p.models ≡ m + 1 → m < length h → ModelHere s h m p.model
  model-marked {p} w counted inside = by (drop m h) refl
    where
      sought-here : Some p.model ≡ sought s 0 1 m
      sought-here = let e : p.models - 1 ≡ m = omega arith in w.model_is (omega arith) ∙ ap (λ (n : ℕ). sought s 0 1 n) e

      by : (l : Hall) → drop m h ≡ l → ModelHere s h m p.model
      by [] q = absurd (omega (arith, ap length q, length-drop m h))
      by (x ∷ xs) q = sought-there s h same m x xs q sought-here

-- ---- the answers, where a pass came nearest

module _ (s : List ℕ) (h : Hall) (same : hall_records h ≡ records s) {m g : ℕ} {p : Mark} (near : Near s m g (length h) p) where
  no_such : p.models ≤ m → item m h ≡ None
  no_such few = let all-before : length h ≤ m = omega (arith, near.models_are) in rw (drop_of_length-le h {i = m} all-before)

  pub model-absent : p.models ≤ m → None ≡ (model_place h m)
  unfolding model_place
  model-absent few = rw (no_such few)

  pub without-model : p.models ≤ m → None ≡ (geometry_place h m g)
  unfolding geometry_place
  without-model few = rw (no_such few)

  pub model-near : m < p.models → ModelHere s h m p.model
  model-near some-such = model-marked s h same m near.marked (omega (arith, near.models_are)) (omega (arith, near.models_are))

  -- it ends where a model is sought from there on
  pub end-near : m < p.models → length (hall_bytes h) ≡ length s → unwrap_or (sought s p.at 1 0) (length s) ≡ length (hall_bytes (take (m + 1) h))
  end-near some-such long =
      let e : p.models + 0 ≡ m + 1 = omega (arith, near.models_are) in
      ap (λ (o : Option ℕ). unwrap_or o (length s)) (sym (near.marked.models-behind 0) ∙ ap (λ (n : ℕ). sought s 0 1 n) e) ∙ model-begins s h same (m + 1) long

pub model-is_found : {s : List ℕ} {h : Hall} {m at : ℕ} → ModelHere s h m at → Some at ≡ (model_place h m)
unfolding model_place
model-is_found w = rw (w.is, ← w.place)

-- the place that is told of the nearest mark
pub near_place : (s : List ℕ) (h : Hall) → hall_records h ≡ records s → {m g : ℕ} {p : Mark} → Near s m g (length h) p → (r : Option ℕ)
    → MatchOption r (p.models ≤ m) (λ place. (m < p.models) × (place ≡ p.model)) → r ≡ model_place h m
near_place s h same near None few = model-absent s h same near few
near_place s h same near (Some place) found = ap Some found.1 ∙ model-is_found (model-near s h same near found.0)

-- the last model, of as many as a pass was to go to
pub last_found : (s : List ℕ) (h : Hall) → hall_records h ≡ records s → {m g count : ℕ} {p : Mark} → Near s m g (length h) p → count ≡ length h → (count ≡ 0 → ⊥) → count ≤ m + 1
    → (model_place h (count - 1)) ≡ Some p.model
last_found s h same near counted some-such few =
    sym (model-is_found (model-marked s h same _ near.marked (omega (arith, near.models_are, some-such)) (omega (arith, some-such))))

module _ {s : List ℕ} {h : Hall} {m g : ℕ} {p : Mark} (near : Near s m g (length h) p) (some-such : m < p.models) (w : ModelHere s h m p.model) where
  module _ {skip : ℕ} {found : Option ℕ} (e : skip ≡ g - p.own) (f : found ≡ sought s p.at 2 skip) where
    from_start : found ≡ sought s (start w) 2 g
    from_start =
        let all : p.own + skip ≡ g = omega (arith, near.own-few) in
        f ∙ sym (near.marked.geometries-behind (omega arith) skip) ∙ rw (all, behind-model w refl)

    pub geometry-absent : found ≡ None → None ≡ (geometry_place h m g)
    unfolding geometry_place
    geometry-absent z = rw (w.is, no-geometry s (start w) w.it.geometries w.others w.behind g (sym z ∙ from_start))

    pub geometry-stands : {place : ℕ} → found ≡ Some place → GeometryOf w g place
    geometry-stands z = GeometryHere_lem s (start w) w.it.geometries w.others w.behind g (sym z ∙ from_start)
