-- The image of a hall (document 01, "Images"): one system section, which is read at 0x50000000 with graphics empty.
use Rattle.std.specs.Prelude.{List, [], ◌∷◌, ◌++◌, ℕ, zero, suc, ◌+◌, ◌*◌, ◌-◌, length, replicate}
use Rattle.sections.specs.Edit.{overwrite}
use Rattle.sections.specs.Le.{bytes}
use Rattle.sections.specs.declared.lists.PointerListHeader.{PointerListHeader}
use Rattle.vertices.specs.Declaration.{declaration_bytes}
use Rattle.vertices.specs.Runs.{run}
use Rattle.halls.specs.Blocks.{ModelBlock, GeometryBlock, IndexBlock}
use Rattle.halls.specs.Hall.{FullGeometry, FullModel, Hall}
use Rattle.halls.specs.ImageSize.{padded, geometry_size, model_size}

-- the address of the image's first byte
abbrev pub base : ℕ
base = 0x50000000

-- ---- blocks: zero but for the named fields

abbrev pub zeros : ℕ → List ℕ
zeros n = replicate n 0

-- a number of so many bytes at its offset
abbrev pub put : ℕ → ℕ → ℕ → List ℕ → List ℕ
put at width value block = overwrite block at (bytes width value)

-- 16 bytes
unfoldable pub header_bytes : PointerListHeader → List ℕ
header_bytes h = put 0 8 h.pointer (put 8 2 h.count (put 10 2 h.capacity (zeros 16)))

unfoldable pub model_block_bytes : ModelBlock → List ℕ
model_block_bytes b =
    put 0x08 8 b.geometries (put 0x10 2 b.count (put 0x20 8 b.mapping (put 0x28 4 b.binding (put 0x2C 2 b.mask
    (zeros 0x30)))))

unfoldable pub geometry_block_bytes : GeometryBlock → List ℕ
geometry_block_bytes b =
    put 0x18 8 b.vertex_block (put 0x38 8 b.index_block (put 0x58 4 b.indices (put 0x5C 4 b.triangles (put 0x60 2 b.vertices
    (put 0x70 2 b.stride (put 0x78 8 b.inline (zeros 0x98)))))))

-- Legacy
pub record VertexBlock : Type 0 where
  pub stride : ℕ
  pub content : ℕ
  pub count : ℕ
  pub info : ℕ

unfoldable pub vertex_block_bytes : VertexBlock → List ℕ
vertex_block_bytes b = put 0x08 2 b.stride (put 0x10 8 b.content (put 0x18 4 b.count (put 0x30 8 b.info (zeros 0x80))))

unfoldable pub index_block_bytes : IndexBlock → List ℕ
index_block_bytes b = put 0x08 4 b.count (put 0x0C 2 b.size (put 0x10 8 b.legacy (put 0x18 8 b.sized (zeros 0x60))))

-- ---- parts: each starts at a multiple of 16, with zeros up to the next

unfoldable pub filled : List ℕ → List ℕ
filled part = part ++ zeros (padded (length part) - length part)

-- the address of a list of n elements at an offset; an empty list has pointer 0
abbrev pub pointer_to : ℕ → ℕ → ℕ
pointer_to zero at = 0
pointer_to (suc n) at = base + at

-- items one behind the other from an offset on, and the address of each
unfoldable pub laid : {A : Type 0} → (A → ℕ) → (ℕ → A → List ℕ) → ℕ → List A → List ℕ
laid size image at [] = []
laid size image at (x ∷ xs) = image at x ++ laid size image (at + size x) xs

unfoldable pub addresses : {A : Type 0} → (A → ℕ) → ℕ → List A → List ℕ
addresses size at [] = []
addresses size at (x ∷ xs) = (base + at) ∷ addresses size (at + size x) xs

-- ---- a geometry, whose parts start at an offset

abbrev pub vertex_block_at : ℕ → ℕ
vertex_block_at at = at + 0xA0

abbrev pub declaration_at : ℕ → ℕ
declaration_at at = at + 0x120

abbrev pub content_at : ℕ → ℕ
content_at at = at + 0x130

abbrev pub index_block_at : ℕ → FullGeometry → ℕ
index_block_at at g = at + 0x130 + padded (length g.vertices.content)

abbrev pub indices_at : ℕ → FullGeometry → ℕ
indices_at at g = index_block_at at g + 0x60

unfoldable pub geometry_block_of : ℕ → FullGeometry → GeometryBlock
geometry_block_of at g = record {
  vertex_block = base + vertex_block_at at;
  index_block = base + index_block_at at g;
  indices = g.index_count;
  triangles = g.triangle_count;
  vertices = g.vertex_count;
  stride = g.stride;
  inline = 0;
}

unfoldable pub vertex_block_of : ℕ → FullGeometry → VertexBlock
vertex_block_of at g = record { stride = g.vertices.stride; content = base + content_at at; count = g.vertices.count; info = base + declaration_at at }

unfoldable pub index_block_of : ℕ → FullGeometry → IndexBlock
index_block_of at g = record { count = g.indices.count; size = 0; legacy = base + indices_at at g; sized = 0 }

unfoldable pub geometry_image : ℕ → FullGeometry → List ℕ
geometry_image at g =
    filled (geometry_block_bytes (geometry_block_of at g)) ++ (vertex_block_bytes (vertex_block_of at g) ++ (declaration_bytes g.declaration ++ (filled g.vertices.content
    ++ (index_block_bytes (index_block_of at g) ++ filled (run 2 g.indices.items)))))

-- ---- a model

abbrev pub pointers_at : ℕ → ℕ
pointers_at at = at + 0x30

abbrev pub mapping_at : ℕ → FullModel → ℕ
mapping_at at m = at + 0x30 + padded (8 * length m.geometries)

abbrev pub geometries_at : ℕ → FullModel → ℕ
geometries_at at m = mapping_at at m + padded (2 * length m.mapping)

unfoldable pub model_block_of : ℕ → FullModel → ModelBlock
model_block_of at m = record {
  geometries = pointer_to (length m.geometries) (pointers_at at);
  count = length m.geometries;
  mapping = pointer_to (length m.mapping) (mapping_at at m);
  binding = m.binding;
  mask = m.mask;
}

unfoldable pub model_image : ℕ → FullModel → List ℕ
model_image at m =
    model_block_bytes (model_block_of at m) ++ (filled (run 8 (addresses geometry_size (geometries_at at m) m.geometries)) ++ (filled (run 2 m.mapping)
    ++ laid geometry_size geometry_image (geometries_at at m) m.geometries))

-- ---- the whole: header, model pointers, models

abbrev pub models_at : Hall → ℕ
models_at h = 16 + padded (8 * length h)

unfoldable pub image : Hall → List ℕ
image h =
    header_bytes (record { pointer = pointer_to (length h) 16; count = length h; capacity = length h })
    ++ (filled (run 8 (addresses model_size (models_at h) h)) ++ laid model_size model_image (models_at h) h)
