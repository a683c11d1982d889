-- Each field by the block's, the buffer by the vertex layer.
use Rattle.halls.specs.Blocks.{geometry_block}
use Rattle.halls.specs.Inner.View.{geometry_view, view_with}
use Rattle.halls.proofs.read.view.geometry_view.Goals as goal

pub returns : goal.returns
unfolding geometry_view view_with geometry_block
returns c =
    let parsed = rw c.from.ensures at c.parse_vertex_buffer_at-buffer.ensures in
    rw (
      ← c.u16_le-stored.ensures,
      ← c.u16_le-stride.ensures,
      ← c.u64_le.ensures,
      ← c.u64_le-2.ensures,
      ← c.u32_le.ensures,
      ← c.u32_le-2.ensures,
      ← c.u64_le-3.ensures,
      ← parsed,
      ← c.vertex_count.ensures,
      ← c.index_view.ensures,
    )
