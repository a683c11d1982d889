-- Each field is put over the block that begins as zeros.
use mathlib.Core.Path.{ap, ◌∙◌}
use lib.Dec.{lit≤}
use Rattle.sections.specs.Edit.{overwrite}
use Rattle.images.proofs.WrittenBlock.{index-puts}
use Rattle.images.proofs.PartLaws.{Block-zeros, Block-put}
use Rattle.images.proofs.blocks.IndexBlock.put.Goals as goal

pub returns : goal.returns
returns c =
    let zeroed = Block-zeros c.zero.ensures c.requires in
    let count = Block-put 8 4 _ zeroed c.put_u32_le.ensures (lit≤ tt) in
    let last = Block-put 16 8 _ count c.put_u64_le.ensures (lit≤ tt) in
    last.is ∙ ap (overwrite _ _) (index-puts _ _)
