-- A pointer whose block does not resolve has no geometry.
use Rattle.std.proofs.Common.{arith, ◌∙◌, sym}
use Rattle.halls.proofs.read.StoredLaws.{geometries_end, geometries_found, geometries_missed}
use Rattle.halls.proofs.read.stored.GeometriesIterator.next.Goals as goal

pub returns-in-Some-resolve-clause-steps : goal.returns-in-Some-resolve-clause-steps
returns-in-Some-resolve-clause-steps c = c.loop-entry.invariant ∙ geometries_found _ _ _ c.in-Some.ensures.steps (sym c.in-Some-resolve.ensures)

pub returns-in-Some-resolve-clause-goes : goal.returns-in-Some-resolve-clause-goes
returns-in-Some-resolve-clause-goes c =
    let steps = returns-in-Some-resolve-clause-steps c in
    grind (arith, steps)

pub loop-entry-preserved : goal.loop-entry-preserved
loop-entry-preserved c = c.loop-entry.invariant ∙ geometries_missed _ _ _ c.in-Some.ensures.steps (sym c.in_default-resolve.ensures)

pub returns-clause-steps : goal.returns-clause-steps
returns-clause-steps c =
    let none = geometries_end _ c.in_default.ensures.steps.0 in
    (c.loop-entry.invariant ∙ none, geometries_end _ c.in_default.ensures.steps.1)
