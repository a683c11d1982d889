-- The first record that is left stands at the place reached, and those behind it from its end on.
use Rattle.std.proofs.Common.{sym, ◌∙◌, arith}
use Rattle.halls.proofs.format.SpanLaws.{spans-none, spans-one}
use Rattle.halls.proofs.format.walk.RecordsIterator.next.Goals as goal

pub returns-in_err-record-clause-steps : goal.returns-in_err-record-clause-steps
returns-in_err-record-clause-steps c =
    let none = sym c.self.view_is ∙ spans-none _ _ c.self.invariant c.in_err-record.ensures in
    rw c.from_residual.ensures (none, none)

pub returns-clause-steps : goal.returns-clause-steps
returns-clause-steps c = sym c.self.view_is ∙ spans-one _ _ c.self.invariant c.in_ok-record.ensures

pub returns-clause-goes : goal.returns-clause-goes
returns-clause-goes c =
    let steps = returns-clause-steps c in
    grind (arith, steps)
