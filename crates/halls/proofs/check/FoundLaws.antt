-- The finders behind the check: places in the first n bytes of a sound buffer are those of the hall that its records say.
use Rattle.std.specs.Prelude.{None, Result}
use Rattle.std.specs.Result.{result_ok}
use mathlib.Core.Path.{◌≡◌}
use mathlib.Core.List.{List}
use Prim.Native.Nat.{ℕ}
use lib.ListN.{take}
use Rattle.halls.specs.Records.{records}
use Rattle.halls.specs.Parsing.{models_in}
use Rattle.halls.specs.Checks.{hall_verdict}
use Rattle.halls.specs.Places.{model_place, geometry_place, model_found, geometry_found}
use Rattle.halls.specs.Inner.Walk.{WhereSound}
use Rattle.halls.specs.Verdict.{Sound}
use Rattle.halls.specs.declared.answer.Refusal.{Refusal}
use Rattle.halls.proofs.check.ToldLaws.{where-none}
use Rattle.halls.proofs.StateLaws.{SoundBytes}

module _ {b : List ℕ} {n : ℕ} (e : hall_verdict b n ≡ Sound) (w : SoundBytes b n) (m : ℕ) where
  pub model_found-sound : model_found b n m ≡ (model_place (models_in (records (take n b))) m)
  unfolding model_found
  model_found-sound = rw (e, w.parsed)

  pub geometry_found-sound : (g : ℕ) → geometry_found b n m g ≡ (geometry_place (models_in (records (take n b))) m g)
  unfolding geometry_found
  geometry_found-sound g = rw (e, w.parsed)

-- where the check fails nothing is found
module _ (b : List ℕ) (n m : ℕ) {A : Type 0} (P : A → Type 0) (r : Result A Refusal) (w : WhereSound (hall_verdict b n) P r) (e : result_ok r ≡ None) where
  pub no-model_found : None ≡ model_found b n m
  unfolding model_found
  no-model_found = where-none _ P r _ w e

  pub no-geometry_found : (g : ℕ) → None ≡ geometry_found b n m g
  unfolding geometry_found
  no-geometry_found g = where-none _ P r _ w e
