-- The check of the old hall decides; of the result its limits and its length.
use Rattle.std.specs.Prelude.{Err}
use mathlib.Core.Path.{◌≡◌, ap, ◌∙◌}
use borrow.Author.Rules.{rules}
use native.Mathlib.Omega.{arith}
use Rattle.halls.specs.Inner.Walk.{Counted}
use Rattle.halls.proofs.check.ToldLaws.{where-sound, where-fails, told-passed, told-fails}
use Rattle.halls.proofs.edit.AddedModel.{added-few, added-small, added-judged, added-long, added-done}
use Rattle.halls.proofs.edit.StepLaws.{Old, old, hall_in, stays_refused, answered}
use Rattle.halls.proofs.edit.add_model.add_model.Goals as goal
use Rattle.halls.proofs.edit.add_model.add_model.Goals.{In_ok-found}

hall : (c : In_ok-found) → Old c.args.hall.now c.args.n
hall c = old _ _ (λ i. search rules) (where-sound _ c.examine_first.ensures c.in_ok-found.was).0

counted : (c : In_ok-found) → Counted (hall_in c.args.hall.now c.args.n) c.in_ok-found.found
counted c = (where-sound _ c.examine_first.ensures c.in_ok-found.was).1

pub returns-in_err-found : goal.returns-in_err-found
returns-in_err-found c =
    let answer : c.from_residual.result ≡ Err c.in_err-found.field-0.0 = search rules in
    answered answer (stays_refused _ _ _ (where-fails _ c.examine_first.ensures c.in_err-found.was))

pub overflow_add-grown : goal.overflow_add-grown
overflow_add-grown c =
    let k = (goal.at.overflow_add-grown c).In_ok-found in
    omega (arith, added-few _ _ 0 0 (hall k) _ (counted k))

pub overflow_add-grown-2 : goal.overflow_add-grown-2
overflow_add-grown-2 c =
    let k = (goal.at.overflow_add-grown-2 c).In_ok-found in
    omega (arith, c.model_units.ensures, added-small _ _ 0 0 (hall k) _ (counted k))

pub overflow_add-needed : goal.overflow_add-needed
overflow_add-needed c =
    let k = (goal.at.overflow_add-needed c).In_ok-found in
    omega (arith, (hall k).within)

pub returns-in_err-verdict_of : goal.returns-in_err-verdict_of
returns-in_err-verdict_of c =
    let k = (goal.at.returns-in_err-verdict_of c).In_ok-found in
    let told = told-fails c.verdict_of.ensures c.in_err-verdict_of.was in
    let answer : c.from_residual-in_err-verdict_of.result ≡ Err c.in_err-verdict_of.field-0.0 = search rules in
    answered (answer ∙ ap Err told.1) (added-judged _ _ _ _ (hall k) _ (counted k) _ (rw c.model_units.ensures at c.limits_lowest.ensures) told.0)

pub returns-in_err-room : goal.returns-in_err-room
returns-in_err-room c =
    let k = (goal.at.returns-in_err-room c).In_ok-found in
    let answer : c.from_residual-in_err-room.result ≡ Err c.in_err-room.field-0.0 = search rules in
    answered (answer ∙ ap Err c.in_err-room.ensures.1)
    (added-long _ _ _ _ (hall k) _ (counted k) _ (rw c.model_units.ensures at c.limits_lowest.ensures) (told-passed c.verdict_of.ensures c.in_ok-verdict_of.was) (omega (arith, (hall k).within, c.in_err-room.ensures.0)))

pub returns : goal.returns
returns c =
    let k = (goal.at.returns c).In_ok-found in
    added-done _ _ _ _ (hall k) _ (counted k) _ (rw c.model_units.ensures at c.limits_lowest.ensures) (told-passed c.verdict_of.ensures c.in_ok-verdict_of.was) _ (omega (arith, (hall k).within, c.in_ok-room.ensures)) c.put_model_numbers.ensures
