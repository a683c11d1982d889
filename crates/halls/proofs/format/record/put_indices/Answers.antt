-- The count is put right behind the head, the indices right behind their count.
use Rattle.std.proofs.Common.{arith, refl}
use Rattle.sections.specs.Le.{bytes}
use Rattle.sections.proofs.EditLaws.{Edited-behind}
use Rattle.halls.proofs.read.HeldLaws.{Record-put}
use Rattle.halls.proofs.format.record.put_indices.Goals as goal

pub returns : goal.returns
unfolding bytes
returns g c =
    let i = g.I.RecordIndices.indices c.args.indices.now in
    let counts = Edited-behind _ _ _ 6 4 c.put_head.ensures refl refl c.put_u32_le.ensures (omega arith) in
    Record-put _ _ i c.requires.0 (rw (c.counts-counts.ensures.0, c.counts-counts.ensures.1) at counts) c.put_items.ensures
