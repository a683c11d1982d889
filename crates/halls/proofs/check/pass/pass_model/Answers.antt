-- A model's record is passed: `model-turned`.
use mathlib.Core.Path.{refl, ◌∙◌}
use native.Mathlib.Omega.{arith}
use Rattle.halls.proofs.check.WalkLaws.{model-turned}
use Rattle.halls.proofs.check.pass.pass_model.Goals as goal

pub returns : goal.returns
returns c =
    let missing = c.unanswered.ensures in
    model-turned _ _ c.requires.0 _ c.requires.1 _ _ _ (c.min-lowest.ensures ∙ rw missing) (omega arith) refl (omega arith)
