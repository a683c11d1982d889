-- The piece, which went through the block.
use Rattle.std.proofs.Common.{rules, refl, ◌≡◌}
use Rattle.std.proofs.lemmas.Slice.{overwrites}
use Rattle.sections.proofs.EditLaws.{overwrite-slice}
use Rattle.sections.proofs.edits.copy_block.Goals as goal

pub returns : goal.returns
returns c =
    let a = c.args in
    let e : c.copy_from_slice-2.new.self ≡ a.part.now = search (rules, overwrites) in
    rw e (overwrite-slice a.dst.now a.at _ a.part.now refl)
