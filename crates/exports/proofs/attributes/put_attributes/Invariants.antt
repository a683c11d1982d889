-- The records left, put behind those that stand, make the whole.
use Rattle.sections.specs.Edit.{overwrite}
use Rattle.halls.specs.List.{each}
use Rattle.exports.specs.Attributes.{attribute_bytes}
use Rattle.exports.proofs.AttributeRecords.{Recording}
use Rattle.exports.proofs.attributes.put_attributes.Given as goal

abbrev pub invariant-loop-i : goal.invariant-loop-i
invariant-loop-i l = Recording (overwrite l.initial.out 0 (each attribute_bytes l.fn.attributes)) l.out l.i-iterator.count l.i-iterator.iter
