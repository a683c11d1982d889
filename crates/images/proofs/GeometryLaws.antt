-- A geometry's image at an offset of a section is read back from there.
use Rattle.std.specs.Prelude.{Option, Some}
use mathlib.Core.Path.{◌≡◌, ap}
use mathlib.Core.Bool.{true, false}
use mathlib.Core.List.{List, ◌++◌}
use Prim.Native.Nat.{ℕ, ◌+◌, ◌*◌, ◌^◌, ◌≤◌, ◌<◌}
use native.Mathlib.Omega.{arith}
use borrow.Author.Tests.{ltb-true}
use lib.Dec.{eqb, lit<, ltb}
use lib.ListN.{length, get_or}
use Rattle.sections.specs.Address.{Sections, located, resolved}
use Rattle.sections.specs.Le.{field}
use Rattle.sections.specs.declared.lookup.Located.TheVariants.{System}
use Rattle.vertices.specs.Buffer.{vertex_data, stored_declaration, legacy_at, block_buffer, vertex_buffer_at}
use Rattle.vertices.specs.Declaration.{declaration_bytes}
use Rattle.vertices.specs.Runs.{numbers, run}
use Rattle.vertices.proofs.DeclarationLaws.{declaration_inverse, declaration_length_lem}
use Rattle.vertices.proofs.RunLaws.{length_run, numbers-run}
use Rattle.vertices.specs.declared.declaration.VertexDeclaration.{VertexDeclaration}
use Rattle.vertices.specs.declared.buffer.VertexBuffer.{VertexBuffer}
use Rattle.vertices.specs.declared.buffer.VertexBufferLayout.TheVariants.{Legacy}
use Rattle.halls.specs.Blocks.{geometry_block}
use Rattle.halls.specs.Hall.{FullGeometry, FullGeometryInWidth, listed_geometry}
use Rattle.halls.specs.Reading.{indices_at, indices_of, vertices_of, vertex_count_of, geometry_with, geometry_of}
use Rattle.halls.proofs.EveryLaws.{every-each, each_below}
use Rattle.halls.proofs.SoundEdits.{each_to}
use Rattle.halls.proofs.SoundLaws.{SoundGeometry}
use Rattle.images.specs.Image.{base, filled, geometry_block_bytes, VertexBlock, vertex_block_bytes, index_block_bytes, vertex_block_at, declaration_at, content_at, index_block_at, indices_at as indicesPlace, geometry_block_of, vertex_block_of, index_block_of, geometry_image}
use Rattle.images.proofs.BlockLaws.{geometry_block-length, VertexBlock-length, index_block-length, GeometryBlockFits, geometry_block-read, VertexBlockFits, legacy_block, VertexBlock-read, IndexBlockFits, index_block-read}
use Rattle.images.proofs.LengthLaws.{filled-length}
use Rattle.images.proofs.PlacedLaws.{Placed, Placed-left, Placed-right, Placed-part, placed_end, system_only, Placed-located, Placed-range, Placed-resolved, NotZero_lem}

-- ---- where a geometry's parts stand

pub record GeometryPlaced (section : List ℕ) (at : ℕ) (g : FullGeometry) : Type 0 where
  pub block : Placed section at (geometry_block_bytes (geometry_block_of at g))
  pub vertex_block : Placed section (vertex_block_at at) (vertex_block_bytes (vertex_block_of at g))
  pub declaration : Placed section (declaration_at at) (declaration_bytes g.declaration)
  pub content : Placed section (content_at at) g.vertices.content
  pub index_block : Placed section (index_block_at at g) (index_block_bytes (index_block_of at g))
  pub indices : Placed section (indicesPlace at g) (run 2 g.indices.items)

pub GeometryPlaced_lem : (section : List ℕ) (at : ℕ) (g : FullGeometry) → Placed section at (geometry_image at g) → GeometryPlaced section at g
unfolding geometry_image
GeometryPlaced_lem section at g p =
    let block : List ℕ = geometry_block_bytes (geometry_block_of at g) in
    let vertex_block : List ℕ = vertex_block_bytes (vertex_block_of at g) in
    let declaration : List ℕ = declaration_bytes g.declaration in
    let content : List ℕ = g.vertices.content in
    let index : List ℕ = index_block_bytes (index_block_of at g) in
    let items : List ℕ = run 2 g.indices.items in
    let block-long : length (filled block) ≡ 0xA0 = rw (filled-length block, geometry_block-length (geometry_block_of at g)) in
    let behind-block : Placed section (vertex_block_at at) (vertex_block ++ (declaration ++ (filled content ++ (index ++ filled items)))) =
    Placed-right (filled block) _ (vertex_block_at at) (omega arith) p in
    let behind-vertex-block : Placed section (declaration_at at) (declaration ++ (filled content ++ (index ++ filled items))) =
    Placed-right vertex_block _ (declaration_at at) (omega (arith, VertexBlock-length (vertex_block_of at g))) behind-block in
    let behind-declaration : Placed section (content_at at) (filled content ++ (index ++ filled items)) =
    Placed-right declaration _ (content_at at) (omega (arith, declaration_length_lem g.declaration)) behind-vertex-block in
    let behind-content : Placed section (index_block_at at g) (index ++ filled items) = Placed-right (filled content) _ (index_block_at at g) (omega (arith, filled-length content)) behind-declaration in
    let behind-index-block : Placed section (indicesPlace at g) (filled items) = Placed-right index _ (indicesPlace at g) (omega (arith, index_block-length (index_block_of at g))) behind-content in
    record {
      block = Placed-part block (Placed-left (filled block) _ p);
      vertex_block = Placed-left vertex_block _ behind-block;
      declaration = Placed-left declaration _ behind-vertex-block;
      content = Placed-part content (Placed-left (filled content) _ behind-declaration);
      index_block = Placed-left index _ behind-content;
      indices = Placed-part items behind-index-block;
    }

-- ---- blocks that lead to vertices and indices

-- the buffer that a block of layout 0 leads to
abbrev buffer_of : VertexBlock → Option VertexDeclaration → ℕ → VertexBuffer
buffer_of b d at = record {
  vertex_stride = b.stride;
  vertex_count = b.count;
  data_pointer = b.content;
  info_pointer = b.info;
  declaration = d;
  «data» = System at;
  layout = Legacy;
}

legacy-found : (s : Sections) (b : VertexBlock) (at : ℕ) → 0 < b.content → 0 < b.count → 0 < b.stride → located s b.content (b.count * b.stride) ≡ Some (System at)
    → legacy_at s Legacy b.content b.count b.stride b.info ≡ Some (buffer_of b (stored_declaration s b.info) at)
unfolding legacy_at vertex_data
legacy-found s b at p c t e = rw (NotZero_lem b.content p, NotZero_lem b.count c, NotZero_lem b.stride t, e)

Block-found : (s : Sections) (b : VertexBlock) (at : ℕ) → VertexBlockFits b → 0 < b.content → 0 < b.count → 0 < b.stride → located s b.content (b.count * b.stride) ≡ Some (System at)
    → block_buffer s (vertex_block_bytes b) ≡ Some (buffer_of b (stored_declaration s b.info) at)
unfolding block_buffer
Block-found s b at f p c t e =
    let bs : List ℕ = vertex_block_bytes b in
    let read : legacy_block bs ≡ b = VertexBlock-read b f in
    let same : legacy_at s Legacy (field 8 bs 0x10) (field 4 bs 0x18) (field 2 bs 0x08) (field 8 bs 0x30) ≡ legacy_at s Legacy b.content b.count b.stride b.info =
    ap (λ (x : VertexBlock). legacy_at s Legacy x.content x.count x.stride x.info) read in
    rw (same, legacy-found s b at p c t e)

Indices-found : (s : Sections) (count pointer : ℕ) (bs : List ℕ) → 0 < pointer → 0 < count → resolved s pointer (count * 2) ≡ Some bs
    → indices_at s 2 count pointer ≡ Some (record { count = count; items = numbers 2 count bs })
unfolding indices_at
Indices-found s count pointer bs p c e = rw (NotZero_lem pointer p, NotZero_lem count c, e)

-- ---- a geometry

small : (count : ℕ) → count ≤ 65535 → (i : ℕ) → ltb i count ≡ true → i < 2 ^ 16
small count h i e = let l : i < count = ltb-true i count e in omega arith

module _ (section : List ℕ) (short : length section ≤ 67108864) (at : ℕ) (g : FullGeometry) (p : GeometryPlaced section at g) (w : FullGeometryInWidth g) (f : SoundGeometry g) where
  items_below : (i : ℕ) → get_or g.indices.items i 0 < 256 ^ 2
  items_below = each_below (2 ^ 16) (lit< tt) g.indices.items
      (each_to (small g.vertices.count f.few_vertices) g.indices.items (every-each (λ (i : ℕ). ltb i g.vertices.count) g.indices.items f.in_range_lem))

  -- all of it ends inside the section
  ends : indicesPlace at g ≤ 67108864
  ends = omega (arith, placed_end (run 2 g.indices.items) p.indices)

  Block-fits : GeometryBlockFits (geometry_block_of at g)
  unfolding geometry_block_of
  Block-fits =
      let e = ends in
      record { vertex_block = omega arith; index_block = omega arith; indices = w.index_count; triangles = w.triangle_count; vertices = w.vertex_count; stride = w.stride; inline = lit< tt }

  VertexBlockFits_lem : VertexBlockFits (vertex_block_of at g)
  unfolding vertex_block_of
  VertexBlockFits_lem = let e = ends in record { stride = w.vertices_stride; content = omega arith; count = w.vertices_count; info = omega arith }

  IndexBlockFits_lem : IndexBlockFits (index_block_of at g)
  unfolding index_block_of
  IndexBlockFits_lem = let e = ends in record { count = w.indices_count; size = lit< tt; legacy = omega arith; sized = lit< tt }

  declaration-stored : stored_declaration (system_only section) (base + declaration_at at) ≡ Some g.declaration
  unfolding stored_declaration
  declaration-stored =
      rw (Placed-resolved section short (declaration_at at) (declaration_bytes g.declaration) 16 (declaration_length_lem g.declaration) p.declaration, declaration_inverse g.declaration w.declaration)

  buffer_found : vertex_buffer_at (system_only section) (base + vertex_block_at at) 0 g.vertex_count g.stride ≡ Some (buffer_of (vertex_block_of at g) (Some g.declaration) (content_at at))
  unfolding vertex_buffer_at vertex_block_of
  buffer_found =
      let b : VertexBlock = vertex_block_of at g in
      let some-stride : 0 < g.vertices.stride = omega (arith, f.some-stride, f.Vertices-stride) in
      let place = Placed-located section short (content_at at) g.vertices.content (g.vertices.count * g.vertices.stride) f.content p.content in
      rw (
        Placed-resolved section short (vertex_block_at at) (vertex_block_bytes b) 0x80 (VertexBlock-length b) p.vertex_block,
        Block-found (system_only section) b (content_at at) VertexBlockFits_lem (omega arith) f.some-vertices some-stride place,
        declaration-stored,
      )

  Vertices-read : vertices_of (system_only section) (buffer_of (vertex_block_of at g) (Some g.declaration) (content_at at)) ≡ g.vertices
  unfolding vertices_of vertex_block_of
  Vertices-read =
      rw (Placed-range section short (content_at at) g.vertices.content (g.vertices.count * g.vertices.stride) f.content p.content, ← f.layout)

  Indices-read : indices_of (system_only section) (index_block_of at g) ≡ g.indices
  unfolding indices_of index_block_of
  Indices-read =
      let items : List ℕ = g.indices.items in
      let long : length (run 2 items) ≡ g.indices.count * 2 = omega (arith, length_run 2 items, f.Indices-count) in
      let some-items : 0 < g.indices.count = omega (arith, f.Indices-count, f.some-indices) in
      let read : numbers 2 g.indices.count (run 2 items) ≡ items = rw f.Indices-count (numbers-run 2 items items_below) in
      let found = Placed-resolved section short (indicesPlace at g) (run 2 items) (g.indices.count * 2) long p.indices in
      rw (Indices-found (system_only section) g.indices.count (base + indicesPlace at g) (run 2 items) (omega arith) some-items found, read)

  pub geometry-read : geometry_of (system_only section) g.shader (geometry_block (geometry_block_bytes (geometry_block_of at g))) ≡ listed_geometry g
  unfolding geometry_of geometry_with geometry_block_of vertex_count_of
  geometry-read =
      let b = index_block_of at g in
      let some-vertices : eqb g.vertex_count 0 ≡ false = NotZero_lem g.vertex_count (omega (arith, f.vertex_count_lem, f.some-vertices)) in
      rw (
        geometry_block-read (geometry_block_of at g) Block-fits,
        buffer_found,
        some-vertices,
        Vertices-read,
        Placed-resolved section short (index_block_at at g) (index_block_bytes b) 0x60 (index_block-length b) p.index_block,
        index_block-read b IndexBlockFits_lem,
        Indices-read,
      )
