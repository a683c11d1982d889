-- Each turn passes a null, refuses, or adds one geometry to what was read.
use Rattle.sections.specs.Address.{sections_of}
use Rattle.halls.proofs.read.Measuring.{Measuring}
use Rattle.halls.proofs.read.measure.measure_geometries.Given as goal

abbrev pub invariant-loop-entry : goal.invariant-loop-entry
invariant-loop-entry l = Measuring (sections_of l.reader) l.before l.fn.entries l.entry-iterator l.total.«length» l.total.count
