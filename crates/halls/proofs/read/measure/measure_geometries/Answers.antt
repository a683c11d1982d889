-- Each turn passes a null, refuses, or adds one geometry to what was read.
use Rattle.std.proofs.Common.{rules, Err, sym, ap, ◌∙◌, ◌≡◌}
use Rattle.halls.specs.Inner.Measure.{measured_geometries}
use Rattle.halls.proofs.read.ReadingLaws.{ok_or_some, ok_or_none}
use Rattle.halls.proofs.read.Measuring.{Measuring-start, Measuring-end, Measuring-null, Measuring-full, Measuring-unresolved, Measuring-one, length_at-none, length_at-some}
use Rattle.halls.proofs.read.measure.measure_geometries.Goals as goal

pub loop-entry-init : goal.loop-entry-init
loop-entry-init c =
    let nothing : c.default-total.result ≡ record { «length» = 0; count = 0 } = search rules in
    rw (c.into_iter-entry-iterator.ensures.into_iter_gives, nothing) (Measuring-start _ _ _ c.requires)

pub loop-entry-preserved-then-entry-eq0 : goal.loop-entry-preserved-then-entry-eq0
loop-entry-preserved-then-entry-eq0 c = Measuring-null c.loop-entry.invariant _ _ c.in-Some.ensures.steps c.if-entry-eq0.true

pub returns-then-before-total-ge-MOST_GEOMETRIES-clause-value : goal.returns-then-before-total-ge-MOST_GEOMETRIES-clause-value
returns-then-before-total-ge-MOST_GEOMETRIES-clause-value c =
    rw c.by.ensures (ap measured_geometries (sym (Measuring-full c.loop-entry.invariant _ _ c.in-Some.ensures.steps c.if-entry-eq0.false c.if-before-total-ge-MOST_GEOMETRIES.true)))

pub returns-in_err-total-clause-value : goal.returns-in_err-total-clause-value
returns-in_err-total-clause-value c =
    let e : c.from_residual.result ≡ Err c.in_err-total.field-0.0 = search rules in
    let no = ok_or_none c.length_at.result _ _ (sym c.ok_or.ensures.value ∙ c.in_err-total.was) in
    let missing = length_at-none _ _ _ (sym no.0 ∙ c.length_at.ensures.value) in
    e ∙ ap Err (sym no.1 ∙ c.by-in-loop-entry.ensures)
    ∙ ap measured_geometries (sym (Measuring-unresolved c.loop-entry.invariant _ _ c.in-Some.ensures.steps c.if-entry-eq0.false c.if-before-total-ge-MOST_GEOMETRIES.false missing))

pub loop-entry-preserved : goal.loop-entry-preserved
loop-entry-preserved c =
    let found = ok_or_some c.length_at.result _ _ (sym c.ok_or.ensures.value ∙ c.in_ok-total.was) in
    let length = length_at-some _ _ _ _ (sym found ∙ c.length_at.ensures.value) in
    Measuring-one c.loop-entry.invariant _ _ c.in-Some.ensures.steps c.if-entry-eq0.false c.if-before-total-ge-MOST_GEOMETRIES.false length (rw found at c.length_at.ensures.bound)

pub returns-clause-value : goal.returns-clause-value
returns-clause-value c = sym (Measuring-end c.loop-entry.invariant c.in-None.ensures.steps.0)
