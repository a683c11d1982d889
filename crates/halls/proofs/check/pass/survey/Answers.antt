-- Each turn keeps what the walk knows and which place is nearest, and its ends say what the whole list comes to.
use Rattle.std.specs.Prelude.{Err}
use borrow.Author.Rules.{rules}
use mathlib.Core.Path.{◌≡◌, refl, ◌∙◌, subst, sym}
use Prim.Native.Nat.{◌≤◌, ◌<◌, min}
use native.Mathlib.Omega.{arith}
use Rattle.halls.specs.Inner.Order.{failing}
use Rattle.halls.specs.Inner.Walk.{is_empty, left_of, Walked, Turned, limits_lowest}
use Rattle.halls.specs.declared.check.pass.Mark.{Mark}
use Rattle.halls.specs.declared.check.pass.Tally.{Tally}
use Rattle.halls.proofs.check.ExaminedLaws.{stopped, judged-fails, judged-sound, found-all}
use Rattle.halls.proofs.check.ToldLaws.{told-passed, told-fails}
use Rattle.halls.proofs.check.MarkLaws.{Near-start, Near-turn}
use Rattle.halls.proofs.check.WalkLaws.{walk_start}
use Rattle.halls.proofs.check.pass.survey.Goals as goal
use Rattle.halls.proofs.check.pass.survey.Goals.{After-verdict_of}

pub mark_of-nearest-requires : goal.mark_of-nearest-requires
mark_of-nearest-requires c = subst (λ (t : Tally). t.first ≤ t.summary.geometries) (sym c.start-t.ensures.0) (omega arith)

pub loop-t-init : goal.loop-t-init
loop-t-init c = (subst (Walked _) (sym c.start-t.ensures.0) (walk_start _ _ c.start-t.ensures.1), Near-start _ _ _ _ c.start-t.ensures.0 c.mark_of-nearest.ensures)

pub next_turn-requires : goal.next_turn-requires
next_turn-requires c = (c.loop-t.invariant.0, c.loop-t-test.true)

-- a record that is not a hall's
pub returns-in_default : goal.returns-in_default
unfolding Turned
returns-in_default c =
    let at-loop = c.loop-t in
    let stop = stopped _ c.in_default.ensures in
    rw c.by.ensures (stop, refl)

-- a turn on
pub mark_of-requires : goal.mark_of-requires
unfolding Turned
mark_of-requires c = (c.in-Some.ensures).0.first

pub nearer-nearest-requires : goal.nearer-nearest-requires
unfolding Turned
nearer-nearest-requires c =
    let on = (c.in-Some.ensures).1 in
    subst (λ (p : Mark). 0 < p.models) (sym c.mark_of.ensures) on.some-model

pub loop-t-smaller : goal.loop-t-smaller
unfolding Turned
loop-t-smaller c =
    let turned = c.in-Some.ensures in
    omega (arith, turned.1.further, turned.0.within)

pub loop-t-preserved : goal.loop-t-preserved
unfolding Turned
loop-t-preserved c =
    let turned = c.in-Some.ensures in
    (turned.0, rw (c.nearer-nearest.ensures, c.mark_of.ensures) (Near-turn c.loop-t.invariant.1 turned.0.marked turned.1))

-- the whole list passed
lowest : (c : After-verdict_of) → c.min.result ≡ min (min c.loop-t.t.lowest (failing 12 (is_empty (left_of c.loop-t.t)))) (limits_lowest c.loop-t.t.summary.models c.loop-t.t.summary.geometries c.loop-t.t.summary.units)
lowest c = c.min.ensures ∙ rw (c.min-lowest.ensures, c.unanswered.ensures, c.limits_lowest.ensures)

pub returns-in_err-verdict_of : goal.returns-in_err-verdict_of
returns-in_err-verdict_of c =
    let k = (goal.at.returns-in_err-verdict_of c).After-verdict_of in
    let told = told-fails c.verdict_of.ensures c.in_err-verdict_of.was in
    let answer : c.from_residual.result ≡ Err c.in_err-verdict_of.field-0.0 = search rules in
    let fails = judged-fails _ (λ i. (c.type_inv.list i).fits) _ c.loop-t.invariant.0 c.loop-t-test.false _ (lowest k) told.0 in
    rw (answer, told.1) (fails, refl)

pub returns : goal.returns
returns c =
    let k = (goal.at.returns c).After-verdict_of in
    let passed = told-passed c.verdict_of.ensures c.in_ok-verdict_of.was in
    let sound = judged-sound _ (λ i. (c.type_inv.list i).fits) _ c.loop-t.invariant.0 c.loop-t-test.false _ (lowest k) passed in
    (sound, found-all _ (λ i. (c.type_inv.list i).fits) _ c.loop-t.invariant.0 c.loop-t-test.false sound c.loop-t.invariant.1 refl)
