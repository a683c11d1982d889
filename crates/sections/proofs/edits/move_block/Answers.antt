-- The part that is put into the block is read back from it.
use Rattle.std.proofs.Common.{rules, ◌≡◌}
use Rattle.std.proofs.lemmas.Slice.{overwrites}
use Rattle.sections.specs.Edit.{part}
use Rattle.sections.proofs.EditLaws.{part_length, overwrite-slice}
use Rattle.sections.proofs.edits.move_block.Goals as goal

pub returns : goal.returns
unfolding part
returns c =
    let a = c.args in
    let e : c.copy_from_slice-2.new.self ≡ part a.buf.now a.from a.k = search (rules, overwrites) in
    rw e (overwrite-slice a.buf.now a.to a.k _ (part_length a.buf.now a.from a.k c.requires.source))
