-- Each turn passes a null, refuses as the model does, or adds one model to what was read.
use Rattle.sections.specs.Address.{sections_of}
use Rattle.halls.proofs.read.MeasuringModels.{MeasuringModels}
use Rattle.halls.proofs.read.measure.measure_models.Given as goal

abbrev pub invariant-loop-pointer : goal.invariant-loop-pointer
invariant-loop-pointer l = MeasuringModels (sections_of l.reader) l.fn.pointers l.pointer-iterator l.total.«length» l.total.count
