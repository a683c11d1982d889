-- The blocks of an image: their lengths, and that each field is read as it was written.
use mathlib.Core.Path.{◌≡◌, refl}
use mathlib.Core.List.{List}
use Prim.Native.Nat.{ℕ, ◌^◌, ◌<◌}
use lib.ListN.{length}
use Rattle.sections.specs.Edit.{overwrite, part}
use Rattle.sections.specs.Le.{bytes, field}
use Rattle.sections.specs.Lists.{header_of}
use Rattle.sections.proofs.LeLaws.{le_bytes}
use Rattle.sections.specs.declared.lists.PointerListHeader.{PointerListHeader}
use Rattle.halls.specs.Blocks.{ModelBlock, model_block, GeometryBlock, geometry_block, IndexBlock, index_block}
use Rattle.images.specs.Image.{header_bytes, model_block_bytes, geometry_block_bytes, VertexBlock, vertex_block_bytes, index_block_bytes}

-- ---- lengths

pub header_length_lem : (h : PointerListHeader) → length (header_bytes h) ≡ 16
unfolding header_bytes overwrite bytes
header_length_lem h = refl

pub model_block-length : (b : ModelBlock) → length (model_block_bytes b) ≡ 0x30
unfolding model_block_bytes overwrite bytes
model_block-length b = refl

pub geometry_block-length : (b : GeometryBlock) → length (geometry_block_bytes b) ≡ 0x98
unfolding geometry_block_bytes overwrite bytes
geometry_block-length b = refl

pub VertexBlock-length : (b : VertexBlock) → length (vertex_block_bytes b) ≡ 0x80
unfolding vertex_block_bytes overwrite bytes
VertexBlock-length b = refl

pub index_block-length : (b : IndexBlock) → length (index_block_bytes b) ≡ 0x60
unfolding index_block_bytes overwrite bytes
index_block-length b = refl

-- ---- fields

pub record HeaderFits (h : PointerListHeader) : Type 0 where
  pub pointer : h.pointer < 256 ^ 8
  pub count : h.count < 256 ^ 2
  pub capacity : h.capacity < 256 ^ 2

pub header_read : (h : PointerListHeader) → HeaderFits h → header_of (header_bytes h) ≡ h
unfolding header_bytes overwrite bytes field part
header_read h f = λ i. record {
  pointer = le_bytes 8 h.pointer f.pointer i;
  count = le_bytes 2 h.count f.count i;
  capacity = le_bytes 2 h.capacity f.capacity i;
}

pub record ModelBlockFits (b : ModelBlock) : Type 0 where
  pub geometries : b.geometries < 256 ^ 8
  pub count : b.count < 256 ^ 2
  pub mapping : b.mapping < 256 ^ 8
  pub binding : b.binding < 256 ^ 4
  pub mask : b.mask < 256 ^ 2

pub model_block-read : (b : ModelBlock) → ModelBlockFits b → model_block (model_block_bytes b) ≡ b
unfolding model_block model_block_bytes overwrite bytes field part
model_block-read b f = λ i. record {
  geometries = le_bytes 8 b.geometries f.geometries i;
  count = le_bytes 2 b.count f.count i;
  mapping = le_bytes 8 b.mapping f.mapping i;
  binding = le_bytes 4 b.binding f.binding i;
  mask = le_bytes 2 b.mask f.mask i;
}

pub record GeometryBlockFits (b : GeometryBlock) : Type 0 where
  pub vertex_block : b.vertex_block < 256 ^ 8
  pub index_block : b.index_block < 256 ^ 8
  pub indices : b.indices < 256 ^ 4
  pub triangles : b.triangles < 256 ^ 4
  pub vertices : b.vertices < 256 ^ 2
  pub stride : b.stride < 256 ^ 2
  pub inline : b.inline < 256 ^ 8

pub geometry_block-read : (b : GeometryBlock) → GeometryBlockFits b → geometry_block (geometry_block_bytes b) ≡ b
unfolding geometry_block geometry_block_bytes overwrite bytes field part
geometry_block-read b f = λ i. record {
  vertex_block = le_bytes 8 b.vertex_block f.vertex_block i;
  index_block = le_bytes 8 b.index_block f.index_block i;
  indices = le_bytes 4 b.indices f.indices i;
  triangles = le_bytes 4 b.triangles f.triangles i;
  vertices = le_bytes 2 b.vertices f.vertices i;
  stride = le_bytes 2 b.stride f.stride i;
  inline = le_bytes 8 b.inline f.inline i;
}

pub record VertexBlockFits (b : VertexBlock) : Type 0 where
  pub stride : b.stride < 256 ^ 2
  pub content : b.content < 256 ^ 8
  pub count : b.count < 256 ^ 4
  pub info : b.info < 256 ^ 8

-- the fields of layout 0
abbrev pub legacy_block : List ℕ → VertexBlock
legacy_block b = record { stride = field 2 b 0x08; content = field 8 b 0x10; count = field 4 b 0x18; info = field 8 b 0x30 }

pub VertexBlock-read : (b : VertexBlock) → VertexBlockFits b → legacy_block (vertex_block_bytes b) ≡ b
unfolding vertex_block_bytes overwrite bytes field part
VertexBlock-read b f = λ i. record {
  stride = le_bytes 2 b.stride f.stride i;
  content = le_bytes 8 b.content f.content i;
  count = le_bytes 4 b.count f.count i;
  info = le_bytes 8 b.info f.info i;
}

pub record IndexBlockFits (b : IndexBlock) : Type 0 where
  pub count : b.count < 256 ^ 4
  pub size : b.size < 256 ^ 2
  pub legacy : b.legacy < 256 ^ 8
  pub sized : b.sized < 256 ^ 8

pub index_block-read : (b : IndexBlock) → IndexBlockFits b → index_block (index_block_bytes b) ≡ b
unfolding index_block index_block_bytes overwrite bytes field part
index_block-read b f = λ i. record {
  count = le_bytes 4 b.count f.count i;
  size = le_bytes 2 b.size f.size i;
  legacy = le_bytes 8 b.legacy f.legacy i;
  sized = le_bytes 8 b.sized f.sized i;
}
