-- The geometry that a view shows: it is the one that is read, and its checks are those of its numbers and of its indices as they lie.
use Rattle.std.specs.Prelude.{Option, None, Some, option_map}
use mathlib.Core.Path.{◌≡◌, refl, sym, ap, ◌∙◌}
use mathlib.Core.List.{List}
use Prim.Native.Nat.{ℕ, ◌+◌, ◌*◌}
use native.Mathlib.Omega.{arith}
use Rattle.sections.specs.Address.{Sections, resolved}
use Rattle.vertices.specs.declared.buffer.VertexBuffer.{VertexBuffer}
use Rattle.halls.specs.Blocks.{GeometryBlock, index_block}
use Rattle.halls.specs.List.{Indices, Geometry}
use Rattle.halls.specs.Reading.{content_at, vertices_of, indices_of, geometry_with, geometry_of}
use Rattle.halls.specs.Inner.Taking.{indices_shown, geometry_shown, as_halls, lowest_in, content_in, held_in, geometry_taken, content_seen, held_seen, full_shown}
use Rattle.halls.specs.Inner.View.{index_view_in, bytes_seen, view_with, geometry_view, BufferHeld}
use Rattle.halls.specs.Hall.{FullGeometry}
use Rattle.halls.specs.Inner.Judging.{HeadJudged, head_of, indices_lowest_of, lowest_of}
use Rattle.halls.specs.Inner.Order.{passed}
use Rattle.halls.specs.Inner.Walk.{geometry_units}
use Rattle.halls.proofs.check.JudgingLaws.{lowest_vertices, lowest_scanned}
use Rattle.halls.specs.declared.read.view.GeometryView.{GeometryView}
use Rattle.halls.specs.declared.read.view.IndexView.{IndexView}
use Rattle.halls.proofs.read.HeldLaws.{items_length_lem}
use Rattle.halls.proofs.read.ViewLaws.{block_view-is}

indices_shown_lem : (s : Sections) (o : Option (List ℕ)) → indices_shown s (index_view_in s o) ≡ option_map (λ raw. indices_of s (index_block raw)) o
indices_shown_lem s None = refl
indices_shown_lem s (Some raw) = ap Some (sym (block_view-is s (index_block raw)))

pub shown-is : (s : Sections) (shader : ℕ) (b : GeometryBlock) → geometry_shown s (geometry_view s shader b) ≡ geometry_of s shader b
unfolding geometry_shown geometry_view view_with geometry_of geometry_with
shown-is s shader b =
    rw (indices_shown_lem s (resolved s b.index_block 0x60))

pub shown-indices : (s : Sections) (v : GeometryView) {g : Geometry} → geometry_shown s v ≡ g → indices_shown s v.indices ≡ g.indices
unfolding geometry_shown
shown-indices s v is = ap (λ (x : Geometry). x.indices) is

-- ---- what it comes to

content-is : (s : Sections) (f : Option VertexBuffer) → BufferHeld s f → content_in (option_map (vertices_of s) f) ≡ content_seen f
content-is s None h = refl
content-is s (Some b) h = h.0

held-is : (s : Sections) (f : Option IndexView) → held_in (indices_shown s f) ≡ held_seen f
held-is s None = refl
held-is s (Some v) = items_length_lem v (bytes_seen s v)

pub view-taken : (s : Sections) (v : GeometryView) {lowest content held parts long : ℕ} → BufferHeld s v.buffer → lowest ≡ lowest_in (as_halls (geometry_shown s v)) → content ≡ content_seen v.buffer
    → held ≡ held_seen v.indices → parts ≡ geometry_units content held → long ≡ 65 + content + 4 * held
    → record { lowest = lowest; summary = record { models = 0; geometries = 1; units = parts }; «length» = long } ≡ geometry_taken (geometry_shown s v)
unfolding geometry_taken geometry_shown
view-taken s v {lowest} {content} {held} {parts} {long} h e p q u l =
    let units-are : parts ≡ (geometry_taken (geometry_shown s v)).summary.units = omega (arith, u, p, q, content-is s v.buffer h, held-is s v.indices) in
    let length-is : long ≡ (geometry_taken (geometry_shown s v)).«length» = omega (arith, l, p, q, content-is s v.buffer h, held-is s v.indices) in
    cc

-- ---- its checks

pub lacks_vertices : (s : Sections) (v : GeometryView) → v.buffer ≡ None → as_halls (geometry_shown s v) ≡ None
unfolding geometry_shown
lacks_vertices s v e = rw e

pub lacks_indices : (s : Sections) (v : GeometryView) (b : VertexBuffer) → v.buffer ≡ Some b → indices_shown s v.indices ≡ None → as_halls (geometry_shown s v) ≡ None
unfolding geometry_shown
lacks_indices s v b e f = rw (e, f)

pub shown-full : (s : Sections) (v : GeometryView) (b : VertexBuffer) (i : Indices) → v.buffer ≡ Some b → indices_shown s v.indices ≡ Some i → as_halls (geometry_shown s v) ≡ Some (full_shown v.numbers b (content_at s b) i)
unfolding geometry_shown vertices_of
shown-full s v b i e f = rw (e, f)

-- where none of checks 14 to 17 fails, its vertex count is its buffer's, so that checks 18 and 27 by that count decide
pub full_scanned : (g : FullGeometry) {r : ℕ} → HeadJudged (head_of g) r → r ≡ passed → {t : ℕ} → t ≡ indices_lowest_of g.vertex_count g.indices.items → t ≡ lowest_of g
full_scanned g j z q = lowest_scanned g refl j z (q ∙ ap (λ (n : ℕ). indices_lowest_of n g.indices.items) (lowest_vertices g refl j z))
