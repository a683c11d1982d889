-- A view of resolved blocks: its records are those of the geometry that is read, and its places hold what it says.
use Rattle.std.specs.Prelude.{Option, None, Some, option_map}
use Rattle.std.specs.Option.{option_or}
use mathlib.Core.Path.{◌≡◌, refl, sym, ap, ◌∙◌}
use mathlib.Core.Bool.{Bool, true, false, cond}
use mathlib.Core.List.{List, ◌++◌, append_assoc}
use Prim.{tt}
use Prim.Native.Nat.{ℕ, ◌+◌, ◌*◌, ◌≤◌}
use native.Mathlib.Omega.{arith}
use borrow.Author.Tests.{leb-true}
use lib.Dec.{eqb}
use lib.ListN.{length}
use Rattle.sections.specs.Address.{Sections, located, part_of, range_of, resolved}
use Rattle.sections.specs.Edit.{part, fits}
use Rattle.sections.specs.declared.lookup.Located.{Located}
use Rattle.sections.specs.declared.lookup.Located.TheVariants.{System, Graphics}
use Rattle.sections.proofs.AddressLaws.{HasBytes, FindsBytes, located-found}
use Rattle.vertices.specs.Buffer.{vertex_buffer_at}
use Rattle.vertices.specs.declared.buffer.VertexBuffer.{VertexBuffer}
use Rattle.vertices.proofs.BufferLaws.{FoundData, buffer_data}
use Rattle.halls.specs.List.{Geometry, optional, geometry_record, declaration_record, vertices_record, indices_record, write_geometry}
use Rattle.halls.specs.Blocks.{GeometryBlock, IndexBlock, index_block}
use Rattle.halls.specs.Reading.{geometry_of, or_empty, stored_in, vertices_of}
use Rattle.halls.specs.Inner.View.{ViewHeld, BufferHeld, IndicesHeld, HeldIn, index_bytes, bytes_seen, indices_seen, view_at, sized_view, block_view, geometry_view, view_with, buffer_records, index_record, index_view_in, view_records, numbers_seen, view_length}
use Rattle.halls.specs.declared.read.view.GeometryView.{GeometryView}
use Rattle.halls.specs.Inner.Small.{Small}
use Rattle.halls.specs.Inner.Taking.{geometry_shown}
use Rattle.halls.specs.declared.read.view.IndexView.{IndexView}
use Rattle.halls.specs.declared.read.view.IndexItems.{IndexItems}
use Rattle.halls.specs.declared.read.view.IndexWidth.{IndexWidth}
use Rattle.halls.specs.declared.read.view.IndexWidth.TheVariants.{Two, Four}
use Rattle.halls.proofs.edit.ShownLaws.{shown-is}
use Rattle.halls.proofs.read.ViewLaws.{view_records-length}

buffer_records_lem : (s : Sections) (o : Option VertexBuffer) → buffer_records s o ≡ optional declaration_record (stored_in o) ++ optional vertices_record (option_map (vertices_of s) o)
buffer_records_lem s None = refl
buffer_records_lem s (Some b) = refl

pub index_record_lem : (s : Sections) (o : Option IndexView) → index_record s o ≡ optional indices_record (option_map (indices_seen s) o)
index_record_lem s None = refl
index_record_lem s (Some v) = refl

-- the records of a view are those of the geometry that it shows
records_of_view : (s : Sections) (v : GeometryView) → view_records s v ≡ write_geometry (geometry_shown s v)
unfolding geometry_shown write_geometry geometry_record
records_of_view s v =
    let head : List ℕ = geometry_record (numbers_seen v.numbers) in
    let declared : List ℕ = optional declaration_record (stored_in v.buffer) in
    let found : List ℕ = optional vertices_record (option_map (vertices_of s) v.buffer) in
    ap (λ (x : List ℕ). head ++ (x ++ index_record s v.indices)) (buffer_records_lem s v.buffer)
    ∙ ap (λ (x : List ℕ). head ++ ((declared ++ found) ++ x)) (index_record_lem s v.indices)
    ∙ ap (λ (x : List ℕ). head ++ x) (append_assoc declared found _)

module _ (s : Sections) (v : GeometryView) {g : Geometry} (is : geometry_shown s v ≡ g) where
  pub shown_records : view_records s v ≡ write_geometry g
  shown_records = records_of_view s v ∙ ap write_geometry is

  pub shown_length : BufferHeld s v.buffer → length (write_geometry g) ≡ view_length v
  shown_length h = ap length (sym shown_records) ∙ view_records-length s v h

-- so of the view of a block: those of the geometry that is read
pub view_records_lem : (s : Sections) (shader : ℕ) (b : GeometryBlock) → view_records s (geometry_view s shader b) ≡ write_geometry (geometry_of s shader b)
view_records_lem s shader b = shown_records s (geometry_view s shader b) (shown-is s shader b)

-- ---- places in small sections

part-fits : (t : Bool) (l : List ℕ) (at n : ℕ) (b : List ℕ) → fits l at n ≡ t → cond t (Some (part l at n)) None ≡ Some b → at + n ≤ length l
part-fits true l at n b e f = leb-true (at + n) (length l) e
part-fits false l at n b e f = let z : ◌≡◌ {A = ℕ} 0 1 = cc in absurd (omega arith)

has_few : (s : Sections) (place : Located) (n : ℕ) → Small s → HasBytes s place n → n ≤ 67108864
unfolding part_of
has_few s (System at) n m h = omega (arith, part-fits (fits s.system at n) s.system at n h.content refl h.is, m.system)
has_few s (Graphics at) n m h = omega (arith, part-fits (fits s.graphics at n) s.graphics at n h.content refl h.is, m.graphics)

held-content : (s : Sections) (place : Located) (n : ℕ) → Small s → HasBytes s place n → (length (or_empty (range_of s place n)) ≡ n) × (length (or_empty (range_of s place n)) ≤ 67108864)
held-content s place n m h = (rw h.is h.long, rw (h.is, h.long) (has_few s place n m h))

buffer_held : (s : Sections) (o : Option VertexBuffer) → Small s → ((b : VertexBuffer) → o ≡ Some b → FoundData s b) → BufferHeld s o
unfolding vertices_of
buffer_held s None m f = tt
buffer_held s (Some b) m f =
    let p = held-content s b.«data» (b.vertex_count * b.vertex_stride) m (f b refl).bytes in
    (p.0, omega (arith, p.1))

-- ---- indices

-- the bytes of these items are there
abbrev ItemsHeld : Sections → ℕ → Option IndexItems → Type 0
ItemsHeld s count o = HeldIn (record { count = count; items = o }) (bytes_seen s (record { count = count; items = o }))

none_held : (s : Sections) (count : ℕ) → ItemsHeld s count None
none_held s count = record { long = refl; few = omega arith }

module _ (s : Sections) (m : Small s) (width : IndexWidth) (count : ℕ) where
  at_place : (o : Option Located) → FindsBytes s (count * index_bytes width) o → ItemsHeld s count (option_map (λ at. record { width = width; place = at }) o)
  at_place None h = none_held s count
  at_place (Some place) h =
      let p = held-content s place (count * index_bytes width) m (h place refl) in
      record { long = p.0; few = omega (arith, p.1) }

  either : (t u : Bool) (v : Option IndexItems) → ItemsHeld s count v → ItemsHeld s count (cond t None (cond u None v))
  either true u v h = none_held s count
  either false true v h = none_held s count
  either false false v h = h

  view_at-held : (pointer : ℕ) → ItemsHeld s count (view_at s width count pointer)
  unfolding view_at
  view_at-held pointer =
      let o : Option Located = located s pointer (count * index_bytes width) in
      either (eqb pointer 0) (eqb count 0) (option_map (λ at. record { width = width; place = at }) o) (at_place o (located-found s pointer (count * index_bytes width)))

sized-held : (s : Sections) (m : Small s) (size count pointer : ℕ) → ItemsHeld s count (sized_view s size count pointer)
unfolding sized_view
sized-held s m size count pointer =
    by_size (eqb size 2) (eqb size 4) (view_at s Two count pointer) (view_at s Four count pointer) (view_at-held s m Two count pointer) (view_at-held s m Four count pointer)
  where
    by_size : (t u : Bool) (v w : Option IndexItems) → ItemsHeld s count v → ItemsHeld s count w → ItemsHeld s count (cond t v (cond u w None))
    by_size true u v w h k = h
    by_size false true v w h k = k
    by_size false false v w h k = none_held s count

or-held : (s : Sections) (count : ℕ) (v w : Option IndexItems) → ItemsHeld s count v → ItemsHeld s count w → ItemsHeld s count (option_or v w)
or-held s count None w h k = k
or-held s count (Some v) w h k = h

block_held : (s : Sections) (m : Small s) (b : IndexBlock) → IndicesHeld s (Some (block_view s b))
unfolding block_view
block_held s m b =
    or-held s b.count (view_at s Two b.count b.legacy) (sized_view s b.size b.count b.sized) (view_at-held s m Two b.count b.legacy) (sized-held s m b.size b.count b.sized)

index-held : (s : Sections) (m : Small s) (o : Option (List ℕ)) → IndicesHeld s (index_view_in s o)
index-held s m None = tt
index-held s m (Some raw) = block_held s m (index_block raw)

pub ViewHeld_lem : (s : Sections) (m : Small s) (shader : ℕ) (b : GeometryBlock) → ViewHeld s (geometry_view s shader b)
unfolding geometry_view view_with
ViewHeld_lem s m shader b = record {
  buffer =
      buffer_held s (vertex_buffer_at s b.vertex_block b.inline b.vertices b.stride) m (buffer_data s b.vertex_block b.inline b.vertices b.stride);
  indices = index-held s m (resolved s b.index_block 0x60);
}
