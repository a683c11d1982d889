-- What is sought among the records that are left is what was sought.
use Rattle.std.proofs.Common.{sym, ◌∙◌}
use Rattle.halls.proofs.check.SeekLaws.{seeking_start, seeking_found, seeking_next, seeking_ended, seeking_past, seeking_end}
use Rattle.halls.proofs.format.KindLaws.{is_kind, is-not_kind}
use Rattle.halls.proofs.check.find.seek.Goals as goal

pub loop-record-init : goal.loop-record-init
loop-record-init c = seeking_start _ _ _ _ (c.into_iter-record-iterator.ensures.into_iter_gives ∙ c.records_from-record-items.ensures)

pub returns-then-left-eq0 : goal.returns-then-left-eq0
returns-then-left-eq0 c = seeking_found c.loop-record.invariant c.in-Some.ensures.steps (is_kind _ _ c.of-found.ensures (sym c.if-eq.ensures)) c.if-left-eq0.true

pub loop-record-preserved-then-eq : goal.loop-record-preserved-then-eq
loop-record-preserved-then-eq c = seeking_next c.loop-record.invariant c.in-Some.ensures.steps (is_kind _ _ c.of-found.ensures (sym c.if-eq.ensures)) c.if-left-eq0.false

pub returns-then-eq-2 : goal.returns-then-eq-2
returns-then-eq-2 c =
    seeking_ended c.loop-record.invariant c.in-Some.ensures.steps (is-not_kind _ _ c.of-found.ensures (sym c.if-eq.ensures)) (is_kind _ _ c.of-found.ensures (sym c.if-eq-2.ensures))

pub loop-record-preserved : goal.loop-record-preserved
loop-record-preserved c =
    seeking_past c.loop-record.invariant c.in-Some.ensures.steps (is-not_kind _ _ c.of-found.ensures (sym c.if-eq.ensures)) (is-not_kind _ _ c.of-found.ensures (sym c.if-eq-2.ensures))

pub returns : goal.returns
returns c = seeking_end c.loop-record.invariant c.in-None.ensures.steps.0
