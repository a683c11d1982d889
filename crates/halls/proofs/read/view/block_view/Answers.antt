-- The first of the two forms that is found, by the fields of the block.
use Rattle.halls.specs.Blocks.{index_block}
use Rattle.halls.specs.Inner.View.{block_view}
use Rattle.halls.proofs.read.view.block_view.Goals as goal

pub returns : goal.returns
unfolding block_view index_block
returns c =
    rw (← c.u64_le-2.ensures, ← c.u16_le.ensures, ← c.u64_le.ensures, ← c.u32_le-count.ensures, ← c.sized_view-sized.ensures, ← c.view_at-legacy.ensures, ← c.or.ensures)
