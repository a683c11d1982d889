-- Behind a passed check the first n bytes are a hall's records, and the nearest place of the pass is of the model; where it fails nothing is found.
use mathlib.Core.Path.{sym, ◌∙◌}
use Rattle.halls.proofs.NearLaws.{near_place}
use Rattle.halls.proofs.StateLaws.{SoundBytes_lem}
use Rattle.halls.proofs.check.FoundLaws.{model_found-sound, no-model_found}
use Rattle.halls.proofs.check.ToldLaws.{where-some}
use Rattle.halls.proofs.check.find.find_model.Goals as goal

pub returns-in_err-found : goal.returns-in_err-found
returns-in_err-found c = c.from_residual.ensures ∙ no-model_found _ _ _ _ _ c.survey_first.ensures (sym c.ok.ensures.value ∙ c.in_err-found.was)

pub returns : goal.returns
returns c =
    let found = rw c.first_of.ensures at (where-some _ _ c.survey_first.ensures (sym c.ok.ensures.value ∙ c.in_ok-found.was)) in
    let sound = SoundBytes_lem _ _ (λ i. (c.type_inv.hall i).fits) found.0 in
    near_place _ _ sound.read.same-records found.1.nearest _ c.place_of.ensures ∙ sym (model_found-sound found.0 sound _)
