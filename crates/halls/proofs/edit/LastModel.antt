-- A sound hall whose pass looked for its last model: the counts, the place of the pass, and the last model's.
use Rattle.std.specs.Prelude.{Option, Some, MatchOption, Result, Ok}
use mathlib.Core.Path.{◌≡◌, sym, ap, ◌∙◌}
use mathlib.Core.List.{List}
use Prim.Native.Nat.{ℕ, ◌-◌, ◌≤◌, ◌<◌}
use native.Mathlib.Omega.{arith}
use lib.ListN.{take, get_or}
use Rattle.halls.specs.Inner.Seeking.{Nearest, last}
use Rattle.halls.specs.Inner.Walk.{Counted, SurveyedFirst}
use Rattle.halls.specs.Places.{model_place}
use Rattle.halls.specs.declared.answer.Refusal.{Refusal}
use Rattle.halls.specs.declared.check.pass.Findings.{Findings}
use Rattle.halls.specs.declared.check.sought.GeometryId.{GeometryId}
use Rattle.halls.proofs.NearLaws.{last_found}
use Rattle.halls.proofs.check.ToldLaws.{where-sound}
use Rattle.halls.proofs.edit.AddedModel.{added-few}
use Rattle.halls.proofs.edit.StepLaws.{hall_in, Old, old}

pub record LastSought (b : List ℕ) (n : ℕ) (found : Findings) : Type 0 where
  pub hall : Old b n
  pub counted : Counted (hall_in b n) found.summary
  pub near : Nearest (take n b) last 0 found.nearest
  pub few : found.summary.models ≤ 256

pub last_sought : {b : List ℕ} {n : ℕ} → ((i : ℕ) → get_or b i 0 < 256) → {id : GeometryId} → id ≡ record { model = last; index = 0 }
    → {r : Result Findings Refusal} {found : Findings} → SurveyedFirst b n id.model id.index r → r ≡ Ok found → LastSought b n found
last_sought {b} {n} below e w h =
    let sound = rw e at (where-sound _ w h) in
    let hall = old b n below sound.0 in
    record { hall = hall; counted = sound.1.counted; near = sound.1.nearest; few = added-few _ _ 0 0 hall _ sound.1.counted }

-- where there is one
pub last_place : {b : List ℕ} {n : ℕ} {found : Findings} → LastSought b n found → {k place : ℕ} {o : Option ℕ} → k ≡ found.summary.models - 1
    → MatchOption o (found.nearest.models ≤ k) (λ p. (k < found.nearest.models) × (p ≡ found.nearest.model)) → o ≡ Some place
    → model_place (hall_in b n) (found.summary.models - 1) ≡ Some place
last_place w e m h =
    let there = rw h at m in
    last_found _ _ w.hall.records-are w.near w.counted.models (λ z. omega (arith, z, e, there.0, w.near.models_are, w.counted.models)) (omega (arith, w.few)) ∙ ap Some (sym there.1)
