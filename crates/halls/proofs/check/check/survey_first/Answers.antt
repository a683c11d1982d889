-- The walk over the first n bytes, where there are as many.
use mathlib.Core.Path.{refl, subst}
use lib.ListN.{take}
use Rattle.halls.specs.Inner.Walk.{Found, WhereSound}
use Rattle.halls.specs.Verdict.{Verdict}
use Rattle.halls.proofs.check.ExaminedLaws.{verdict-outside, verdict-inside}
use Rattle.halls.proofs.check.check.survey_first.Goals as goal

pub returns-then-hall-n : goal.returns-then-hall-n
returns-then-hall-n c = rw c.by.ensures (verdict-outside _ _ c.if-hall-n.true, refl)

pub returns : goal.returns
returns c =
    let a = c.args in
    subst (λ (v : Verdict). WhereSound v (Found (take a.n a.hall.now) a.sought.model a.sought.index) c.survey.result) (verdict-inside _ _ c.if-hall-n.false) c.survey.ensures
