-- Down is a gap closed; up is one move, behind which nothing is freed.
use Rattle.halls.proofs.edit.IndicesWritten.{moved_up}
use Rattle.halls.proofs.edit.replace_indices.move_tail.Goals as goal

pub returns : goal.returns
returns c = moved_up _ _ _ _ c.if-to-from.false c.requires.0 c.requires.1 c.requires.2 c.copy_within.ensures
