-- How the finder seeks a record, from the place of the check's pass that is nearest. Private contracts speak of this; `PlaceLaws` ties it to the places in a hall.
use Rattle.std.specs.Prelude.{Option, None, Some, unwrap_or}
use Rattle.std.specs.Prelude.{◌≡◌, cond, ◌&&◌, List, [], ◌∷◌, ℕ, ◌+◌, ◌-◌, ◌≤◌, ◌<◌, min, eqb, leb, length, drop}
use Rattle.sections.specs.Le.{field}
use Rattle.halls.specs.Parsing.{models_in}
use Rattle.halls.specs.Records.{Record, records}
use Rattle.halls.specs.declared.check.pass.Mark.{Mark}

-- of records that begin at `at`, the place of the one of this kind with `skip` of its kind before it; a model's record ends the search for another kind
unfoldable pub place_of : ℕ → ℕ → ℕ → List Record → Option ℕ
place_of kind skip at [] = None
place_of kind skip at (r ∷ rs) =
    cond (eqb r.kind kind) (cond (eqb skip 0) (Some at) (place_of kind (skip - 1) (at + 6 + length r.body) rs))
    (cond (eqb r.kind 1) None (place_of kind skip (at + 6 + length r.body) rs))

-- from the record on that begins at `at`
unfoldable pub sought : List ℕ → ℕ → ℕ → ℕ → Option ℕ
sought s at kind skip = place_of kind skip at (records (drop at s))

-- ---- a place that a pass has reached

-- what is sought from the start, or behind the record of the last model before the place, is sought from there
pub record Marked (s : List ℕ) (p : Mark) : Type 0 where
  pub within : p.at ≤ length s
  pub models-behind : (k : ℕ) → sought s 0 1 (p.models + k) ≡ sought s p.at 1 k
  pub model_is : 0 < p.models → Some p.model ≡ sought s 0 1 (p.models - 1)
  pub geometries-behind : 0 < p.models → (k : ℕ) → sought s (p.model + 6 + field 4 s p.model) 2 (p.own + k) ≡ sought s p.at 2 k

-- the later of two places, unless it is behind the geometry of number g of its model or behind the m-th model
unfoldable pub nearer_mark : Mark → Mark → ℕ → ℕ → Mark
nearer_mark a b m g = cond (leb b.own g && leb b.models (m + 1)) b a

-- the nearest place of a pass that has met so many models
pub record Near (s : List ℕ) (m g models : ℕ) (p : Mark) : Type 0 where
  pub marked : Marked s p
  pub models_are : p.models ≡ min models (m + 1)
  pub own-few : p.own ≤ g

-- of a pass over the whole list
abbrev pub Nearest : List ℕ → ℕ → ℕ → Mark → Type 0
Nearest s m g p = Near s m g (length (models_in (records s))) p

-- behind every model, or every geometry of a model
abbrev pub last : ℕ
last = 18446744073709551615

-- where the model ends whose record begins at this place: at the next model's record, or with the bytes
unfoldable pub model_end : List ℕ → ℕ → ℕ
model_end s place = unwrap_or (sought s (place + 6 + field 4 s place) 1 0) (length s)
