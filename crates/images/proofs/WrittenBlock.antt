-- Each block is zeros with its fields put over them, in any order.
use mathlib.Core.Path.{◌≡◌, refl}
use Prim.Native.Nat.{ℕ}
use Rattle.sections.specs.Edit.{overwrite}
use Rattle.sections.specs.Le.{bytes}
use Rattle.images.specs.Image.{zeros, put, header_bytes, model_block_bytes, geometry_block_bytes, vertex_block_bytes, index_block_bytes, filled}

pub header_puts : (pointer count : ℕ)
    → put 10 2 count (put 8 2 count (put 0 8 pointer (zeros 16))) ≡ header_bytes (record { pointer = pointer; count = count; capacity = count })
unfolding header_bytes overwrite bytes
header_puts pointer count = refl

pub model-puts : (geometries count mapping binding mask : ℕ)
    → put 0x2C 2 mask (put 0x28 4 binding (put 0x20 8 mapping (put 0x10 2 count (put 0x08 8 geometries (zeros 0x30)))))
    ≡ model_block_bytes (record { geometries = geometries; count = count; mapping = mapping; binding = binding; mask = mask })
unfolding model_block_bytes overwrite bytes
model-puts geometries count mapping binding mask = refl

pub geometry-puts : (vertex_block index_block indices triangles vertices stride : ℕ)
    → put 0x70 2 stride (put 0x60 2 vertices (put 0x5C 4 triangles (put 0x58 4 indices (put 0x38 8 index_block (put 0x18 8 vertex_block (zeros 0xA0))))))
    ≡ filled (geometry_block_bytes (record { vertex_block = vertex_block; index_block = index_block; indices = indices; triangles = triangles; vertices = vertices; stride = stride; inline = 0 }))
unfolding geometry_block_bytes filled overwrite bytes
geometry-puts vertex_block index_block indices triangles vertices stride = refl

pub vertex_puts : (stride content count info : ℕ)
    → put 0x30 8 info (put 0x18 4 count (put 0x10 8 content (put 0x08 2 stride (zeros 0x80))))
    ≡ vertex_block_bytes (record { stride = stride; content = content; count = count; info = info })
unfolding vertex_block_bytes overwrite bytes
vertex_puts stride content count info = refl

pub index-puts : (count items : ℕ)
    → put 0x10 8 items (put 0x08 4 count (zeros 0x60)) ≡ index_block_bytes (record { count = count; size = 0; legacy = items; sized = 0 })
unfolding index_block_bytes overwrite bytes
index-puts count items = refl
