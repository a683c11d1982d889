-- Each field is put over the block that begins as zeros.
use mathlib.Core.Path.{ap, ◌∙◌}
use lib.Dec.{lit≤}
use Rattle.sections.specs.Edit.{overwrite}
use Rattle.images.proofs.WrittenBlock.{model-puts}
use Rattle.images.proofs.PartLaws.{Block-zeros, Block-put}
use Rattle.images.proofs.blocks.ModelBlock.put.Goals as goal

pub returns : goal.returns
returns c =
    let zeroed = Block-zeros c.zero.ensures c.requires in
    let geometries = Block-put 8 8 _ zeroed c.put_u64_le.ensures (lit≤ tt) in
    let count = Block-put 16 2 _ geometries c.put_u16_le.ensures (lit≤ tt) in
    let mapping = Block-put 32 8 _ count c.put_u64_le-2.ensures (lit≤ tt) in
    let binding = Block-put 40 4 _ mapping c.put_u32_le.ensures (lit≤ tt) in
    let last = Block-put 44 2 _ binding c.put_u16_le-2.ensures (lit≤ tt) in
    last.is ∙ ap (overwrite _ _) (model-puts _ _ _ _ _)
