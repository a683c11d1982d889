-- What is left of src, put behind the pieces so far, makes the whole.
use Rattle.std.proofs.Common.{◌≡◌}
use Rattle.sections.specs.Edit.{overwrite}
use Rattle.sections.proofs.Runs.{Pieces}
use Rattle.sections.proofs.edits.copy_blocks.Given as goal

abbrev pub invariant-loop-i : goal.invariant-loop-i
invariant-loop-i l =
    (l.i-iterator.iter.size ≡ 4096) × Pieces (overwrite l.initial.dst l.at l.src) l.dst l.at l.i-iterator.count l.i-iterator.iter.rest.now
