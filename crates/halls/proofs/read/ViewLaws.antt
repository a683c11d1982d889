-- The view of a geometry: its length is that of the geometry's records.
use Rattle.std.specs.Prelude.{Option, None, Some, unwrap_or, option_map}
use Rattle.std.specs.Option.{option_or, option_and_then}
use mathlib.Core.Path.{◌≡◌, refl, ap, ◌∙◌}
use mathlib.Core.Bool.{Bool, true, false, cond}
use mathlib.Core.List.{List, [], ◌++◌, append_assoc}
use Prim.Native.Nat.{ℕ, ◌+◌, ◌*◌, ◌≤◌}
use native.Mathlib.Omega.{arith}
use lib.Dec.{eqb}
use lib.ListN.{length, length-append}
use Rattle.sections.specs.Address.{Sections, located, resolved, range_of}
use Rattle.sections.specs.Edit.{overwrite}
use Rattle.sections.proofs.AddressLaws.{HasBytes, FindsBytes, located-found}
use Rattle.sections.proofs.EditLaws.{overwrite-then}
use Rattle.sections.proofs.LeLaws.{length-bytes}
use Rattle.sections.specs.declared.lookup.Located.{Located}
use Rattle.vertices.specs.Buffer.{layout_number, vertex_buffer_at}
use Rattle.vertices.specs.Runs.{numbers}
use Rattle.vertices.proofs.BufferLaws.{FoundData, buffer_data}
use Rattle.vertices.proofs.DeclarationLaws.{declaration_length_lem}
use Rattle.vertices.proofs.RunLaws.{length_run}
use Rattle.vertices.specs.declared.declaration.VertexDeclaration.{VertexDeclaration}
use Rattle.vertices.specs.declared.buffer.VertexBuffer.{VertexBuffer}
use Rattle.halls.specs.List.{Vertices, Indices, Geometry, record_bytes, optional, geometry_record, declaration_record, vertices_record, indices_record, write_geometry}
use Rattle.halls.specs.Blocks.{GeometryBlock, IndexBlock, index_block}
use Rattle.halls.specs.Reading.{or_empty, stored_in, vertices_of, indices_at, sized_indices, indices_of, geometry_with, geometry_of}
use Rattle.halls.specs.Inner.View.{index_bytes, view_at, sized_view, block_view, index_view_in, indices_in, indices_seen, view_with, geometry_view, declaration_length, buffer_length, indices_length, view_length, stored_record, buffer_records, index_record, view_records, numbers_seen, BufferHeld}
use Rattle.halls.proofs.read.HeldLaws.{items_length_lem}
use Rattle.halls.specs.declared.read.view.IndexItems.{IndexItems}
use Rattle.halls.specs.declared.read.view.IndexView.{IndexView}
use Rattle.halls.specs.declared.read.view.IndexWidth.{IndexWidth}
use Rattle.halls.specs.declared.read.view.IndexWidth.TheVariants.{Two, Four}
use Rattle.halls.specs.declared.read.view.GeometryView.{GeometryView}

-- a view's buffer is the one that was found
pub buffer_in-found : (s : Sections) (shader : ℕ) (b : GeometryBlock) (o : Option VertexBuffer) → (view_with s shader b o).buffer ≡ o
unfolding view_with
buffer_in-found s shader b o = refl

-- ---- lengths of records

pub Record-length : (kind : ℕ) (body : List ℕ) → length (record_bytes kind body) ≡ 6 + length body
unfolding record_bytes
Record-length kind body = simp (length-append, length-bytes) (omega arith)

pub geometry_record-length : (g : Geometry) → length (geometry_record g) ≡ 20
unfolding geometry_record
geometry_record-length g = simp (Record-length, length-append, length-bytes)

pub declaration_record-length : (d : VertexDeclaration) → length (declaration_record d) ≡ 22
unfolding declaration_record
declaration_record-length d = simp (Record-length, declaration_length_lem)

pub vertices_record-length : (v : Vertices) → length (vertices_record v) ≡ 13 + length v.content
unfolding vertices_record
vertices_record-length v = simp (Record-length, length-append, length-bytes) (omega arith)

pub indices_record-length : (i : Indices) → length (indices_record i) ≡ 10 + 4 * length i.items
unfolding indices_record
indices_record-length i = simp (Record-length, length-append, length-bytes, length_run) (omega arith)

-- ---- the parts of a view

pub declaration-part : (d : Option VertexDeclaration) → length (optional declaration_record d) ≡ declaration_length d
declaration-part None = refl
declaration-part (Some d) = declaration_record-length d

content_length_lem : (s : Sections) (place : Located) (n : ℕ) → HasBytes s place n → length (or_empty (range_of s place n)) ≡ n
content_length_lem s place n h = rw h.is h.long

buffer-part : (s : Sections) (o : Option VertexBuffer) → ((b : VertexBuffer) → o ≡ Some b → FoundData s b)
    → length (optional declaration_record (stored_in o)) + length (optional vertices_record (option_map (vertices_of s) o)) ≡ buffer_length o
unfolding vertices_of
buffer-part s None f = refl
buffer-part s (Some b) f =
    rw (declaration-part b.declaration, vertices_record-length, content_length_lem s b.«data» (b.vertex_count * b.vertex_stride) (f b refl).bytes)

-- the vertices right behind the declaration
pub buffer_written : (s : Sections) (b : VertexBuffer) (out : List ℕ) (at next : ℕ) (content : List ℕ) {out₁ t : List ℕ} → out₁ ≡ overwrite out at (stored_record b.declaration)
    → next ≡ at + declaration_length b.declaration → content ≡ (vertices_of s b).content
    → t ≡ overwrite out₁ next (vertices_record (record { layout = layout_number b.layout; stride = b.vertex_stride; count = b.vertex_count; content = content }))
    → at + declaration_length b.declaration + (13 + length content) ≤ length out → t ≡ overwrite out at (buffer_records s (Some b))
unfolding vertices_of
buffer_written s b out at next content {out₁} e n q w fit =
    let made : List ℕ → Vertices = λ x. record { layout = layout_number b.layout; stride = b.vertex_stride; count = b.vertex_count; content = x } in
    w ∙ ap (λ (l : List ℕ). overwrite l next (vertices_record (made content))) e
    ∙ ap (λ (k : ℕ). overwrite (overwrite out at (stored_record b.declaration)) k (vertices_record (made content))) n
    ∙ overwrite-then out at (declaration_length b.declaration) (stored_record b.declaration) (vertices_record (made content)) (declaration-part b.declaration)
    (omega (arith, vertices_record-length (made content)))
    ∙ ap (λ (x : List ℕ). overwrite out at (stored_record b.declaration ++ vertices_record (made x))) q

-- ---- indices

-- the indices of a count, if they lie somewhere
abbrev seen_in : Sections → ℕ → Option IndexItems → Option Indices
seen_in s count o = option_map (λ (i : IndexItems). indices_seen s (record { count = count; items = Some i })) o

-- the indices of some width in the bytes behind a place
abbrev indices_behind : ℕ → ℕ → Option (List ℕ) → Option Indices
indices_behind width count o = option_map (λ b. record { count = count; items = numbers width count b }) o

module _ (s : Sections) (width : IndexWidth) (count : ℕ) where
  seen_place : (o : Option Located) → FindsBytes s (count * index_bytes width) o
      → indices_behind (index_bytes width) count (option_and_then (λ (place : Located). range_of s place (count * index_bytes width)) o)
      ≡ seen_in s count (option_map (λ at. record { width = width; place = at }) o)
  unfolding indices_in
  seen_place None h = refl
  seen_place (Some place) h = rw (h place refl).is

  by_pointer : (t u : Bool) (o : Option Indices) (v : Option IndexItems) → o ≡ seen_in s count v → cond t None (cond u None o) ≡ seen_in s count (cond t None (cond u None v))
  by_pointer true u o v e = refl
  by_pointer false true o v e = refl
  by_pointer false false o v e = e

  view_at-is : (pointer : ℕ) → indices_at s (index_bytes width) count pointer ≡ seen_in s count (view_at s width count pointer)
  unfolding indices_at view_at resolved
  view_at-is pointer =
      let o : Option Located = located s pointer (count * index_bytes width) in
      by_pointer (eqb pointer 0) (eqb count 0) (indices_behind (index_bytes width) count (option_and_then (λ (place : Located). range_of s place (count * index_bytes width)) o))
      (option_map (λ at. record { width = width; place = at }) o) (seen_place o (located-found s pointer (count * index_bytes width)))

by_size : (s : Sections) (count : ℕ) (t u : Bool) (o p : Option Indices) (v w : Option IndexItems) → o ≡ seen_in s count v → p ≡ seen_in s count w
    → cond t o (cond u p None) ≡ seen_in s count (cond t v (cond u w None))
by_size s count true u o p v w e f = e
by_size s count false true o p v w e f = f
by_size s count false false o p v w e f = refl

sized-is : (s : Sections) (size count pointer : ℕ) → sized_indices s size count pointer ≡ seen_in s count (sized_view s size count pointer)
unfolding sized_indices sized_view
sized-is s size count pointer = by_size s count (eqb size 2) (eqb size 4) _ _ _ _ (view_at-is s Two count pointer) (view_at-is s Four count pointer)

first-seen : (s : Sections) (count : ℕ) (v w : Option IndexItems) → unwrap_or (option_or (seen_in s count v) (seen_in s count w)) (record { count = count; items = [] })
    ≡ indices_seen s (record { count = count; items = option_or v w })
unfolding indices_in
first-seen s count (Some v) w = refl
first-seen s count None (Some w) = refl
first-seen s count None None = refl

-- the block's view shows the indices that are read
pub block_view-is : (s : Sections) (b : IndexBlock) → indices_of s b ≡ indices_seen s (block_view s b)
unfolding indices_of block_view
block_view-is s b =
    rw (view_at-is s Two b.count b.legacy, sized-is s b.size b.count b.sized)
    (first-seen s b.count (view_at s Two b.count b.legacy) (sized_view s b.size b.count b.sized))

index-part : (s : Sections) (o : Option (List ℕ)) → length (optional indices_record (option_map (λ raw. indices_of s (index_block raw)) o)) ≡ indices_length (index_view_in s o)
index-part s None = refl
index-part s (Some raw) =
    let v : IndexView = block_view s (index_block raw) in
    rw (block_view-is s (index_block raw), indices_record-length, items_length_lem v _)

-- ---- a geometry

-- the length of a view is that of the records that are written
pub view_length_lem : (s : Sections) (shader : ℕ) (b : GeometryBlock) → view_length (geometry_view s shader b) ≡ length (write_geometry (geometry_of s shader b))
unfolding view_length geometry_view view_with write_geometry geometry_of geometry_with
view_length_lem s shader b =
    let o : Option VertexBuffer = vertex_buffer_at s b.vertex_block b.inline b.vertices b.stride in
    let data-part = buffer-part s o (buffer_data s b.vertex_block b.inline b.vertices b.stride) in
    simp (length-append, geometry_record-length) (omega (arith, data-part, index-part s (resolved s b.index_block 0x60)))

-- ---- its records, one behind the other

buffer_records-length : (s : Sections) (f : Option VertexBuffer) → BufferHeld s f → length (buffer_records s f) ≡ buffer_length f
buffer_records-length s None h = refl
buffer_records-length s (Some b) h =
    length-append (stored_record b.declaration) (vertices_record (vertices_of s b))
    ∙ (let p = declaration-part b.declaration in let q = vertices_record-length (vertices_of s b) in omega (arith, h.0))

pub index_record-length : (s : Sections) (f : Option IndexView) → length (index_record s f) ≡ indices_length f
index_record-length s None = refl
index_record-length s (Some v) = rw (indices_record-length, items_length_lem v _)

pub view_records-length : (s : Sections) (v : GeometryView) → BufferHeld s v.buffer → length (view_records s v) ≡ view_length v
unfolding view_length
view_records-length s v h =
    length-append (geometry_record (numbers_seen v.numbers)) (buffer_records s v.buffer ++ index_record s v.indices)
    ∙ (let p = geometry_record-length (numbers_seen v.numbers) in
    let q = length-append (buffer_records s v.buffer) (index_record s v.indices) in
    omega (arith, p, q, buffer_records-length s v.buffer h, index_record-length s v.indices))

pub view_written : (s : Sections) (v : GeometryView) (out : List ℕ) (at : ℕ) {next : ℕ} {one two t : List ℕ} → BufferHeld s v.buffer → one ≡ overwrite out at (geometry_record (numbers_seen v.numbers))
    → two ≡ overwrite one (at + 20) (buffer_records s v.buffer) → next ≡ at + 20 + buffer_length v.buffer → t ≡ overwrite two next (index_record s v.indices)
    → at + view_length v ≤ length out → t ≡ overwrite out at (view_records s v)
unfolding view_length
view_written s v out at {next} h e f n g fit =
    let head : List ℕ = geometry_record (numbers_seen v.numbers) in
    let middle : List ℕ = buffer_records s v.buffer in
    let last : List ℕ = index_record s v.indices in
    let l : length head ≡ 20 = geometry_record-length (numbers_seen v.numbers) in
    let m : length middle ≡ buffer_length v.buffer = buffer_records-length s v.buffer h in
    let k : length last ≡ indices_length v.indices = index_record-length s v.indices in
    let both = f ∙ ap (λ (x : List ℕ). overwrite x (at + 20) middle) e ∙ overwrite-then out at 20 head middle l (omega arith) in
    let place : next ≡ at + (20 + buffer_length v.buffer) = omega arith in
    g ∙ ap (λ (x : List ℕ). overwrite x next last) both ∙ ap (λ (x : ℕ). overwrite (overwrite out at (head ++ middle)) x last) place
    ∙ overwrite-then out at (20 + buffer_length v.buffer) (head ++ middle) last (length-append head middle ∙ omega arith) (omega arith)
    ∙ ap (overwrite out at) (append_assoc head middle last)
