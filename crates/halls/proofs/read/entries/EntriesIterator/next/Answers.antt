-- The mapping's first entry belongs to the first pointer.
use Rattle.std.proofs.Common.{arith, ◌∙◌, sym, ap}
use Rattle.halls.specs.Inner.Measure.{entries_of, whole_numbers}
use Rattle.halls.proofs.read.EntryLaws.{entries_next}
use Rattle.halls.proofs.read.entries.EntriesIterator.next.Goals as goal

pub returns-clause-steps : goal.returns-clause-steps
returns-clause-steps c =
    let mapping = c.self.inside.mapping.now in
    sym c.self.view_is ∙ ap (entries_of (whole_numbers 2 mapping)) c.in_ok-pointer.ensures.steps ∙ entries_next mapping c.u16_le.ensures c.min.ensures _ _

pub returns-clause-goes : goal.returns-clause-goes
returns-clause-goes c =
    let steps = returns-clause-steps c in
    grind (arith, steps)
