-- A geometry of the list as parts of the image, and that these written one behind the other are its image.
use mathlib.Core.Path.{◌≡◌, refl, sym, ap, ◌∙◌}
use mathlib.Core.List.{List, ◌++◌, append_assoc}
use Prim.Native.Nat.{ℕ, ◌+◌, ◌*◌, ◌-◌, ◌≤◌, ◌<◌}
use native.Mathlib.Omega.{arith}
use lib.ListN.{length, take, drop, get_or, length-append}
use lib.Seq.{drop_at}
use Rattle.sections.specs.Edit.{part, overwrite}
use Rattle.sections.proofs.EditLaws.{part-add, part_length}
use Rattle.vertices.specs.Declaration.{declaration_bytes}
use Rattle.vertices.specs.Runs.{numbers, run}
use Rattle.vertices.proofs.DeclarationLaws.{declaration_written_back}
use Rattle.halls.specs.Fronts.{GeometryFront, Shaped, content_at, held_at, front_geometry}
use Rattle.halls.specs.Hall.{FullGeometry}
use Rattle.halls.specs.ImageSize.{padded, geometry_size}
use Rattle.halls.specs.declared.format.front.GeometryShape.{GeometryShape}
use Rattle.halls.proofs.JudgingLaws.{
  front-index-count,
  front-triangle_count,
  front-vertex_count,
  front-stride,
  front-declaration,
  front-own-stride,
  front-count,
  front-stored,
  items_are,
}
use Rattle.halls.proofs.WalkLaws.{slice-rest}
use Rattle.images.specs.Fronts.{geometry_length, Room, geometry_numbers, vertex_numbers, index_numbers, head_parts}
use Rattle.images.specs.Image.{filled, geometry_block_bytes, vertex_block_bytes, index_block_bytes, geometry_block_of, vertex_block_of, index_block_of, geometry_image}
use Rattle.images.proofs.BlockLaws.{index_block-length}
use Rattle.images.proofs.LengthLaws.{filled-length, geometry_image-length}
use Rattle.images.proofs.FrontLaws.{whole, GeometryFront_lem, content_length_lem}
use Rattle.images.proofs.PartLaws.{writing_start, Writing-turn, Writing-last}
use Rattle.images.proofs.SizeLaws.{head-length}

-- ---- parts

pub head-joined : (at index : ℕ) (s : List ℕ)
    → (filled (geometry_block_bytes (geometry_numbers at index s)) ++ vertex_block_bytes (vertex_numbers at s)) ++ part s 26 16 ≡ head_parts at index s
unfolding head_parts
head-joined at index s = append_assoc (filled (geometry_block_bytes (geometry_numbers at index s))) (vertex_block_bytes (vertex_numbers at s)) (part s 26 16)

-- with `padding` for the vertex bytes with their zeros
parts : ℕ → List ℕ → ℕ → ℕ → ℕ → List ℕ
parts at s padding content held =
    head_parts at (at + 0x130 + padding) s
    ++ (filled (part s 55 content) ++ (index_block_bytes (index_numbers (at + 0x130 + padding) content s) ++ filled (run 2 (numbers 4 held (drop (65 + content) s)))))

module _ (at : ℕ) (s : List ℕ) (below : (i : ℕ) → get_or s i 0 < 256) (h : geometry_length s ≤ length s) where
  abbrev g : FullGeometry
  g = front_geometry s

  abbrev content : ℕ
  content = content_at s

  abbrev held : ℕ
  held = held_at s

  abbrev index : ℕ
  index = at + 0x130 + padded content

  whole-front : GeometryFront s content held
  whole-front = GeometryFront_lem s h

  Block-is : geometry_block_of at g ≡ geometry_numbers at index s
  unfolding geometry_block_of
  Block-is =
      rw (
        front-index-count whole-front,
        front-triangle_count whole-front,
        front-vertex_count whole-front,
        front-stride whole-front,
        content_length_lem s h,
      )

  vertex_is : vertex_block_of at g ≡ vertex_numbers at s
  unfolding vertex_block_of
  vertex_is = rw (front-own-stride whole-front, front-count whole-front)

  index_is : index_block_of at g ≡ index_numbers index content s
  unfolding index_block_of
  index_is = rw (front-stored whole-front, content_length_lem s h)

  declaration_is : declaration_bytes g.declaration ≡ part s 26 16
  declaration_is = rw (front-declaration whole-front) (declaration_written_back s 26 below (omega (arith, whole s h)))

  content-is : g.vertices.content ≡ part s 55 content
  unfolding front_geometry
  content-is = ap (drop 7) (part-add s 48 7 content) ∙ drop_at (part s 48 7) (part s 55 content) 7 (part_length s 48 7 (omega (arith, whole s h)))

  parts_are : geometry_image at g ≡ parts at s (padded content) content held
  unfolding geometry_image head_parts parts
  parts_are =
      let a : List ℕ = filled (geometry_block_bytes (geometry_numbers at index s)) in
      let b : List ℕ = vertex_block_bytes (vertex_numbers at s) in
      rw (Block-is, vertex_is, index_is, declaration_is, content-is, items_are whole-front) (sym (append-three a b (part s 26 16) _))
    where
      append-three : (a b c rest : List ℕ) → (a ++ (b ++ c)) ++ rest ≡ a ++ (b ++ (c ++ rest))
      append-three a b c rest = simp append_assoc

-- ---- written

pub geometry-written : (d : List ℕ) (at : ℕ) (s : List ℕ) → ((i : ℕ) → get_or s i 0 < 256) → (h : geometry_length s ≤ length s) → Room at (geometry_size (front_geometry s)) d
    → (r : GeometryShape) → Shaped s r → (padding : ℕ) → padding ≡ padded r.content → {t u v w : List ℕ}
    → t ≡ overwrite d at (head_parts at (at + 0x130 + padding) s)
    → u ≡ overwrite t (at + 0x130) (filled (take (55 + r.content - 55) (drop 55 s)))
    → v ≡ overwrite u (at + 0x130 + padding) (index_block_bytes (index_numbers (at + 0x130 + padding) r.content s))
    → w ≡ overwrite v (at + 0x130 + padding + 0x60) (filled (run 2 (numbers 4 r.held (take (length s - (65 + r.content)) (drop (65 + r.content) s)))))
    → w ≡ overwrite d at (geometry_image at (front_geometry s))
unfolding parts head_parts part
geometry-written d at s below h room r q padding p {t} {u} {v} {w} e1 e2 e3 e4 =
    let n : ℕ = r.content in
    let all : geometry_image at (front_geometry s) ≡ parts at s padding n r.held = parts_are at s below h ∙ rw (p, q.content-is, q.held-is) in
    let size : length (parts at s padding n r.held) ≡ geometry_size (front_geometry s) = ap length (sym all) ∙ geometry_image-length at (front_geometry s) in
    let same : 55 + n - 55 ≡ n = omega arith in
    let long : 65 + n + 4 * r.held ≤ length s = rw (q.content-is, q.held-is) (whole s h) in
    let front : List ℕ = head_parts at (at + 0x130 + padding) s in
    let vertices : List ℕ = filled (part s 55 n) in
    let block : List ℕ = index_block_bytes (index_numbers (at + 0x130 + padding) n s) in
    let last : List ℕ = filled (run 2 (numbers 4 r.held (drop (65 + n) s))) in
    let front_length : length front ≡ 0x130 = length-append (filled (geometry_block_bytes (geometry_numbers at (at + 0x130 + padding) s))) (vertex_block_bytes (vertex_numbers at s) ++ part s 26 16) ∙ omega (arith, head-length (geometry_numbers at (at + 0x130 + padding) s) (vertex_numbers at s), length-append (filled (geometry_block_bytes (geometry_numbers at (at + 0x130 + padding) s))) (vertex_block_bytes (vertex_numbers at s)), length-append (vertex_block_bytes (vertex_numbers at s)) (part s 26 16), part_length s 26 16 (omega arith)) in
    let vertices-length : length vertices ≡ padding = filled-length (part s 55 n) ∙ rw (part_length s 55 n (omega arith)) (sym p) in
    let w1 = Writing-turn (writing_start d at (parts at s padding n r.held) (omega (arith, room.fits))) front (vertices ++ (block ++ last)) 0x130 refl front_length e1 in
    let w2 = Writing-turn w1 vertices (block ++ last) padding refl vertices-length (rw same at e2) in
    let w3 = Writing-turn w2 block last 0x60 refl (index_block-length (index_numbers (at + 0x130 + padding) n s)) e3 in
    Writing-last w3 (rw (slice-rest s (65 + n)) at e4) ∙ ap (overwrite d at) (sym all)
