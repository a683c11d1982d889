-- One pass over a hall's list: what stands at the front of the bytes left, what the records behind come to, and what a walk knows of those that it
-- has passed. Private contracts speak of this; `TallyLaws` ties it to the verdict.
use Rattle.std.specs.Borrow.{Bor}
use Rattle.std.specs.Prelude.{Option, Some, None, is_some, Result, MatchResult}
use Rattle.std.specs.Prelude.{◌≡◌, Bool, true, false, cond, ◌&&◌, List, [], ◌∷◌, ◌⊎◌, length, take, drop}
use Rattle.std.specs.Prelude.{ℕ, ◌+◌, ◌*◌, ◌-◌, ◌/◌, ◌≤◌, ◌<◌, min, eqb, leb}
use Rattle.vertices.specs.Runs.{numbers}
use Rattle.halls.specs.Every.{every}
use Rattle.halls.specs.Checks.{geometry_count, require, judged, hall_verdict}
use Rattle.halls.specs.Hall.{FullGeometry, Hall}
use Rattle.halls.specs.ImageSize.{image_size}
use Rattle.halls.specs.Fronts.{entries_at, content_at, held_at}
use Rattle.halls.specs.Inner.Judging.{lowest_of, has_model, has_geometry}
use Rattle.halls.specs.Inner.Order.{passed, too_large, failing}
use Rattle.halls.specs.Inner.Seeking.{Marked, Nearest}
use Rattle.halls.specs.Places.{geometry_place}
use Rattle.halls.specs.Parsing.{whole, ordered, exact, mapping_count, body_at, geometry_in, models_in, parse, structured}
use Rattle.halls.specs.Records.{Record, records}
use Rattle.halls.specs.Verdict.{Verdict, Sound, Fails}
use Rattle.halls.specs.declared.answer.Refusal.{Refusal}
use Rattle.halls.specs.declared.format.front.Front.{Front}
use Rattle.halls.specs.declared.format.front.Front.TheVariants.{Model, Geometry}
use Rattle.halls.specs.declared.check.find.PlacedGeometry.{PlacedGeometry}
use Rattle.halls.specs.declared.check.pass.Tally.{Tally}
use Rattle.halls.specs.declared.check.pass.Mark.{Mark}
use Rattle.halls.specs.declared.check.pass.Summary.{Summary}
use Rattle.halls.specs.declared.check.pass.Findings.{Findings}

-- ---- at the front

-- a model with the entries of its mapping, a geometry, or neither
unfoldable pub front_of : List ℕ → Option Front
front_of s = cond (has_model s) (Some (Model (entries_at s))) (cond (has_geometry s) (Some (Geometry (record { content = content_at s; held = held_at s }))) None)

-- ---- the records behind

-- whether they are a hall's, behind a record of the kind `before`
unfoldable pub well_from : ℕ → List ℕ → Bool
well_from before s = whole s && (ordered before (records s) && every exact (records s))

-- check 12, number by number: of the entries of a mapping that are left the first is x; none is left
abbrev pub leads : ℕ → List ℕ → Bool
leads x [] = false
leads x (y ∷ ys) = eqb y x

abbrev pub rest : List ℕ → List ℕ
rest [] = []
rest (y ∷ ys) = ys

abbrev pub is_empty : List ℕ → Bool
is_empty [] = true
is_empty (y ∷ ys) = false

abbrev pub geometry_of : Record → List Record → FullGeometry
geometry_of r rs = geometry_in r.body (body_at 0 rs) (body_at 1 rs) (body_at 2 rs)

-- the lowest rank of checks 12, 14 to 18 and 27 that fails, where `left` is what geometries have not answered of the last model's mapping
unfoldable pub lowest_from : List ℕ → List Record → ℕ
lowest_from left [] = failing 12 (is_empty left)
lowest_from left (r ∷ rs) =
    cond (eqb r.kind 1) (min (failing 12 (is_empty left)) (lowest_from (numbers 2 (mapping_count r.body) (drop 6 r.body)) rs))
    (cond (eqb r.kind 2) (min (min (failing 12 (leads (geometry_of r rs).shader left)) (lowest_of (geometry_of r rs))) (lowest_from (rest left) rs))
    (lowest_from left rs))

-- how many are of a kind
unfoldable pub kind_count : ℕ → List Record → ℕ
kind_count kind [] = 0
kind_count kind (r ∷ rs) = cond (eqb r.kind kind) 1 0 + kind_count kind rs

-- their parts of the image, in units of 16 bytes: nothing is longer there than 16 times its records
abbrev pub units : ℕ → ℕ
units n = (n + 15) / 16

abbrev pub model_units : ℕ → ℕ
model_units entries = 3 + units (8 * entries) + units (2 * entries)

abbrev pub geometry_units : ℕ → ℕ → ℕ
geometry_units content held = 25 + units content + units (2 * held)

unfoldable pub units_from : List Record → ℕ
units_from [] = 0
units_from (r ∷ rs) =
    cond (eqb r.kind 1) (model_units (mapping_count r.body) + units_from rs)
    (cond (eqb r.kind 2) (geometry_units (length (body_at 1 rs) - 7) ((length (body_at 2 rs) - 4) / 4) + units_from rs)
    (units_from rs))

-- ---- the walk

-- entries of a mapping, and those that are left of the last model's
abbrev pub entries_in : List ℕ → List ℕ
entries_in b = numbers 2 (length b / 2) b

abbrev pub left_of : Tally → List ℕ
left_of t = entries_in t.left.now

abbrev pub start_tally : Bor (List ℕ) → Tally
start_tally left = record { at = 0; lowest = passed; summary = record { models = 0; geometries = 0; units = 0 }; model = 0; first = 0; left = left }

abbrev pub mark_of : Tally → Mark
mark_of t = record { at = t.at; models = t.summary.models; model = t.model; own = t.summary.geometries - t.first }

-- what stands before the next record: nothing, or a whole model or geometry
abbrev pub before_of : Tally → ℕ
before_of t = cond (eqb t.summary.models 0) 0 5

-- a walk over s has passed the records before t's place and found t
pub record Walked (s : List ℕ) (t : Tally) : Type 0 where
  pub within : t.at ≤ length s
  pub structure : structured s ≡ well_from (before_of t) (drop t.at s)
  pub lowest : min passed (lowest_from [] (records s)) ≡ min t.lowest (lowest_from (left_of t) (records (drop t.at s)))
  pub models : kind_count 1 (records s) ≡ t.summary.models + kind_count 1 (records (drop t.at s))
  pub geometries : kind_count 2 (records s) ≡ t.summary.geometries + kind_count 2 (records (drop t.at s))
  pub image : units_from (records s) ≡ t.summary.units + units_from (records (drop t.at s))
  pub few : t.summary.models + t.summary.geometries ≤ t.at
  pub small : t.summary.units ≤ t.at
  pub first : t.first ≤ t.summary.geometries
  pub marked : Marked s (mark_of t)

-- behind the next record is another geometry of the same model, or another model without geometries so far
pub record Onward (t u : Tally) : Type 0 where
  pub further : t.at < u.at
  pub some-model : 0 < u.summary.models
  pub same_or-next : (u.summary.models ≡ t.summary.models) ⊎ ((u.summary.models ≡ t.summary.models + 1) × (u.first ≡ u.summary.geometries))

-- and one turn on: further, or not a hall's records
unfoldable pub Turned : List ℕ → Tally → Option Tally → Type 0
Turned s t (Some u) = Walked s u × Onward t u
Turned s t None = structured s ≡ false

-- ---- what it found

-- check 19, where `parts` are the units of the models, and checks 13 and 19
abbrev pub size_lowest : ℕ → ℕ → ℕ
size_lowest models parts = failing too_large (leb (1 + units (8 * models) + parts) 4194304)

unfoldable pub limits_lowest : ℕ → ℕ → ℕ → ℕ
limits_lowest models geometries parts = cond (leb models 256 && leb geometries 16384) (size_lowest models parts) 13

-- a summary gives a hall's counts and its image's size
pub record Counted (h : Hall) (r : Summary) : Type 0 where
  pub models : r.models ≡ length h
  pub geometries : r.geometries ≡ geometry_count h
  pub image : 16 * (1 + units (8 * r.models) + r.units) ≡ image_size h

-- of a whole list these, with the place of the pass that is nearest to geometry g of model m
pub record Found (s : List ℕ) (m g : ℕ) (r : Findings) : Type 0 where
  pub counted : Counted (models_in (records s)) r.summary
  pub nearest : Nearest s m g r.nearest

-- what is found of bytes whose checks come to a verdict, or the refusal of the first that fails
abbrev pub WhereSound : {A : Type 0} → Verdict → (A → Type 0) → Result A Refusal → Type 0
WhereSound v P r = MatchResult r (λ x. (v ≡ Sound) × P x) (λ e. (v ≡ Fails e.check) × (e.needed ≡ 0))

abbrev pub Surveyed : List ℕ → ℕ → ℕ → Result Findings Refusal → Type 0
Surveyed s m g r = WhereSound (judged (parse s)) (Found s m g) r

-- the same of the first n bytes of a buffer
abbrev pub SurveyedFirst : List ℕ → ℕ → ℕ → ℕ → Result Findings Refusal → Type 0
SurveyedFirst b n m g r = WhereSound (hall_verdict b n) (Found (take n b) m g) r

abbrev pub ExaminedFirst : List ℕ → ℕ → Result Summary Refusal → Type 0
ExaminedFirst b n r = WhereSound (hall_verdict b n) (Counted (models_in (records (take n b)))) r

-- the checks of a hall, and then 21: geometry g of model m is there
abbrev pub behind : Verdict → Verdict → Verdict
behind Sound next = next
behind (Fails check) next = Fails check

abbrev pub placed_verdict : List ℕ → ℕ → ℕ → ℕ → Verdict
placed_verdict b n m g = behind (hall_verdict b n) (require 21 (is_some (geometry_place (models_in (records (take n b))) m g)) Sound)

-- its places, and what the hall comes to
pub record PlacedIn (h : Hall) (m g : ℕ) (r : PlacedGeometry) : Type 0 where
  pub there : geometry_place h m g ≡ Some r.places
  pub counted : Counted h r.summary

abbrev pub PlacedFirst : List ℕ → ℕ → ℕ → ℕ → Result PlacedGeometry Refusal → Type 0
PlacedFirst b n m g r = WhereSound (placed_verdict b n m g) (PlacedIn (models_in (records (take n b))) m g) r
