-- Each field is put over the block that begins as zeros.
use mathlib.Core.Path.{ap, ◌∙◌}
use lib.Dec.{lit≤}
use Rattle.sections.specs.Edit.{overwrite}
use Rattle.images.proofs.WrittenBlock.{header_puts}
use Rattle.images.proofs.PartLaws.{Block-zeros, Block-put}
use Rattle.images.proofs.blocks.put_header.Goals as goal

pub returns : goal.returns
returns c =
    let zeroed = Block-zeros {n = 16} c.zero.ensures c.requires in
    let pointer = Block-put 0 8 _ zeroed c.put_u64_le.ensures (lit≤ tt) in
    let count = Block-put 8 2 _ pointer c.put_u16_le.ensures (lit≤ tt) in
    let last = Block-put 10 2 _ count c.put_u16_le-2.ensures (lit≤ tt) in
    last.is ∙ ap (overwrite _ _) (header_puts _ _)
