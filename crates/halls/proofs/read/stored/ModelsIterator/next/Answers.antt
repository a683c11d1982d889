-- A pointer whose block does not resolve has no model.
use Rattle.std.proofs.Common.{arith, ◌∙◌, sym}
use Rattle.halls.proofs.read.StoredLaws.{models_end, models_found, models_missed}
use Rattle.halls.proofs.read.stored.ModelsIterator.next.Goals as goal

pub returns-in-Some-resolve-clause-steps : goal.returns-in-Some-resolve-clause-steps
returns-in-Some-resolve-clause-steps c = c.loop-pointer.invariant ∙ models_found _ _ _ c.in-Some.ensures.steps (sym c.in-Some-resolve.ensures)

pub returns-in-Some-resolve-clause-goes : goal.returns-in-Some-resolve-clause-goes
returns-in-Some-resolve-clause-goes c =
    let steps = returns-in-Some-resolve-clause-steps c in
    grind (arith, steps)

pub loop-pointer-preserved : goal.loop-pointer-preserved
loop-pointer-preserved c = c.loop-pointer.invariant ∙ models_missed _ _ _ c.in-Some.ensures.steps (sym c.in_default-resolve.ensures)

pub returns-clause-steps : goal.returns-clause-steps
returns-clause-steps c =
    let none = models_end _ c.in_default.ensures.steps.0 in
    (c.loop-pointer.invariant ∙ none, models_end _ c.in_default.ensures.steps.1)
