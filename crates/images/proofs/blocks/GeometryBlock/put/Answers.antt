-- Each field is put over the block that begins as zeros.
use mathlib.Core.Path.{ap, ◌∙◌}
use lib.Dec.{lit≤}
use Rattle.sections.specs.Edit.{overwrite}
use Rattle.images.proofs.WrittenBlock.{geometry-puts}
use Rattle.images.proofs.PartLaws.{Block-zeros, Block-put}
use Rattle.images.proofs.blocks.GeometryBlock.put.Goals as goal

pub returns : goal.returns
returns c =
    let zeroed = Block-zeros c.zero.ensures c.requires in
    let vertex-block = Block-put 24 8 _ zeroed c.put_u64_le.ensures (lit≤ tt) in
    let index-block = Block-put 56 8 _ vertex-block c.put_u64_le-2.ensures (lit≤ tt) in
    let indices = Block-put 88 4 _ index-block c.put_u32_le.ensures (lit≤ tt) in
    let triangles = Block-put 92 4 _ indices c.put_u32_le-2.ensures (lit≤ tt) in
    let vertices = Block-put 96 2 _ triangles c.put_u16_le.ensures (lit≤ tt) in
    let last = Block-put 112 2 _ vertices c.put_u16_le-2.ensures (lit≤ tt) in
    last.is ∙ ap (overwrite _ _) (geometry-puts _ _ _ _ _ _)
