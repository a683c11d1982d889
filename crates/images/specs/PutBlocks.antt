-- The bytes of the blocks that the code puts, each by the fields that are not always 0. Private contracts speak of this.
use Rattle.std.specs.Prelude.{List, ℕ}
use Rattle.images.specs.Image.{filled, model_block_bytes, geometry_block_bytes, vertex_block_bytes, index_block_bytes}
use Rattle.images.specs.declared.blocks.ModelBlock.{ModelBlock}
use Rattle.images.specs.declared.blocks.GeometryBlock.{GeometryBlock}
use Rattle.images.specs.declared.blocks.VertexBlock.{VertexBlock}
use Rattle.images.specs.declared.blocks.IndexBlock.{IndexBlock}

abbrev pub model_bytes : ModelBlock → List ℕ
model_bytes b = model_block_bytes (record { geometries = b.geometries; count = b.count; mapping = b.mapping; binding = b.binding; mask = b.mask })

-- and zeros behind it
abbrev pub geometry_bytes : GeometryBlock → List ℕ
geometry_bytes b = filled (geometry_block_bytes (record {
  vertex_block = b.vertex_block;
  index_block = b.index_block;
  indices = b.indices;
  triangles = b.triangles;
  vertices = b.vertices;
  stride = b.stride;
  inline = 0;
}))

abbrev pub vertex_bytes : VertexBlock → List ℕ
vertex_bytes b = vertex_block_bytes (record { stride = b.stride; content = b.content; count = b.count; info = b.info })

-- the indices of two bytes are the legacy ones
abbrev pub index_bytes : IndexBlock → List ℕ
index_bytes b = index_block_bytes (record { count = b.count; size = 0; legacy = b.items; sized = 0 })
