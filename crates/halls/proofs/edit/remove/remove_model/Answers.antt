-- A check that fails on the old hall refuses, and 21 where there is no such model. Otherwise the bytes from its place to its end are taken out, which leaves the
-- other models' bytes, and a sound hall.
use Rattle.std.specs.Prelude.{Option, Err, unwrap_or}
use borrow.Author.Rules.{rules}
use mathlib.Core.Path.{◌≡◌, sym, ◌∙◌, ap}
use Prim.Native.Nat.{ℕ, ◌+◌, ◌≤◌}
use native.Mathlib.Omega.{arith}
use lib.ListN.{length, take, length-take}
use Rattle.halls.specs.Hall.{hall_bytes}
use Rattle.halls.proofs.NearLaws.{near_place, end-near}
use Rattle.halls.specs.Inner.Seeking.{Nearest, last}
use Rattle.halls.proofs.check.ToldLaws.{where-sound, where-fails, or-refused}
use Rattle.halls.proofs.edit.RemovedLaws.{ModelThere, ModelThere_lem, removed-none, model-spans, removed-one}
use Rattle.halls.proofs.edit.StepLaws.{hall_in, Old, old, stays_refused, answered}
use Rattle.halls.proofs.edit.remove.remove_model.Goals as goal
use Rattle.halls.proofs.edit.remove.remove_model.Goals.{In_ok-found, After-unwrap_or-end}

-- the old hall, and the place of the pass that is nearest to the model's end
sound : (c : In_ok-found) → Old c.args.hall.now c.args.n
sound c = old _ _ (λ i. search rules) (where-sound _ c.survey_first.ensures c.in_ok-found.was).0

near : (c : In_ok-found) → Nearest (take c.args.n c.args.hall.now) c.args.model last c.in_ok-found.found.nearest
near c = (rw c.end_of.ensures at (where-sound _ c.survey_first.ensures c.in_ok-found.was)).1.nearest

hall : (c : After-unwrap_or-end) → Old c.args.hall.now c.args.n
hall c = old _ _ (λ i. search rules) (where-sound _ c.survey_first.ensures c.in_ok-found.was).0

behind : (c : After-unwrap_or-end) → Nearest (take c.args.n c.args.hall.now) c.args.model last c.in_ok-found.found.nearest
behind c = (rw c.end_of.ensures at (where-sound _ c.survey_first.ensures c.in_ok-found.was)).1.nearest

model : (c : After-unwrap_or-end) → let a = c.args in ModelThere (hall_in a.hall.now a.n) a.model c.in_ok-place.place
model c = ModelThere_lem _ _ _ (sym (near_place _ _ (hall c).records-are (behind c) _ c.place_of.ensures) ∙ c.in_ok-place.ensures.ok_part)

-- the model ends where the end is sought
ends : (c : After-unwrap_or-end) → let a = c.args in c.unwrap_or-end.result ≡ length (hall_bytes (take (a.model + 1) (hall_in a.hall.now a.n)))
ends c =
    let o = hall c in
    let long : length (take c.args.n c.args.hall.now) ≡ c.args.n = simp length-take (omega (arith, o.within)) in
    let some-such = (rw c.in_ok-place.ensures.ok_part at c.place_of.ensures).0 in
    let sought : Option ℕ = c.seek.result in
    c.unwrap_or-end.ensures ∙ ap (λ (k : ℕ). unwrap_or sought k) (sym long)
    ∙ ap (λ (x : Option ℕ). unwrap_or x (length (take c.args.n c.args.hall.now))) c.seek.ensures
    ∙ end-near _ _ o.records-are (behind c) some-such (o.long ∙ sym long)

spans : (c : After-unwrap_or-end) → let a = c.args in (c.in_ok-place.place ≤ c.unwrap_or-end.result) × (c.unwrap_or-end.result ≤ a.n)
spans c = model-spans _ _ (hall c) _ _ _ (model c) (ends c)

pub returns-in_err-found : goal.returns-in_err-found
returns-in_err-found c =
    let answer : c.from_residual.result ≡ Err c.in_err-found.field-0.0 = search rules in
    answered answer (stays_refused _ _ _ (where-fails _ c.survey_first.ensures c.in_err-found.was))

pub returns-in_err-place : goal.returns-in_err-place
returns-in_err-place c =
    let k = (goal.at.returns-in_err-place c).In_ok-found in
    let o = sound k in
    let refusal = or-refused _ c.in_err-place.ensures.value in
    let none = sym (near_place _ _ o.records-are (near k) _ c.place_of.ensures) ∙ refusal.0 in
    let answer : c.from_residual-in_err-place.result ≡ Err c.in_err-place.field-0.0 = search rules in
    removed-none _ _ o _ _ none (answer ∙ ap Err (refusal.1 ∙ c.by.ensures))

pub slice_bounds-seek-end : goal.slice_bounds-seek-end
slice_bounds-seek-end c = (sound (goal.at.slice_bounds-seek-end c).In_ok-found).within

pub slice_bounds-seek-end-2 : goal.slice_bounds-seek-end-2
slice_bounds-seek-end-2 c = simp length-take (omega (arith, (sound (goal.at.slice_bounds-seek-end-2 c).In_ok-found).within))

pub close_gap-requires : goal.close_gap-requires
close_gap-requires c =
    let k = (goal.at.close_gap-requires c).After-unwrap_or-end in
    let s = spans k in (s.0, s.1, (hall k).within)

pub overflow_sub-result : goal.overflow_sub-result
overflow_sub-result c = (spans (goal.at.overflow_sub-result c).After-unwrap_or-end).0

pub overflow_sub-result-2 : goal.overflow_sub-result-2
overflow_sub-result-2 c = omega (arith, spans (goal.at.overflow_sub-result-2 c).After-unwrap_or-end)

pub returns : goal.returns
returns c =
    let k = (goal.at.returns c).After-unwrap_or-end in
    removed-one _ _ (hall k) _ _ _ (model k) (ends k) _ c.close_gap.ensures
