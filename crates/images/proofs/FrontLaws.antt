-- The geometry and the model at the front of a list: their parts as the code reads them.
use mathlib.Core.Path.{◌≡◌, refl, ◌∙◌}
use mathlib.Core.List.{List}
use Prim.Native.Nat.{ℕ, ◌+◌, ◌*◌, ◌-◌, ◌≤◌, ◌^◌}
use native.Mathlib.Omega.{arith}
use lib.ListN.{length, take, drop, length-take, length-drop}
use Rattle.sections.specs.Edit.{part}
use Rattle.sections.proofs.EditLaws.{part_length}
use Rattle.halls.specs.Fronts.{GeometryFront, Shaped, content_at, held_at, front_geometry}
use Rattle.halls.specs.ImageSize.{padded, geometry_size}
use Rattle.halls.specs.declared.format.front.GeometryShape.{GeometryShape}
use Rattle.halls.proofs.JudgingLaws.{front-held}
use Rattle.images.specs.Fronts.{geometry_length, measured_by, image_limit, Room}

-- a part of a list that the code lends
pub slice-length : (s : List ℕ) (a b : ℕ) → a ≤ b → b ≤ length s → length (take (b - a) (drop a s)) ≡ b - a
slice-length s a b h l = simp (length-take, length-drop) (omega arith)

-- ---- a geometry

-- room in the image for a geometry with `content` vertex bytes and `held` indices, which is whole in s
pub record GeometryRoom (s : List ℕ) (at : ℕ) (out : List ℕ) (content held : ℕ) : Type 0 where
  pub long : 65 + content + 4 * held ≤ length s
  pub fits : at + (0x190 + padded content + padded (2 * held)) ≤ length out
  pub low : at + (0x190 + padded content + padded (2 * held)) ≤ image_limit
  pub small : content ≤ 2 ^ 48
  pub few : held ≤ 2 ^ 30

module _ (s : List ℕ) (h : geometry_length s ≤ length s) where
  pub whole : 65 + content_at s + 4 * held_at s ≤ length s
  unfolding geometry_length
  whole = h

  pub GeometryFront_lem : GeometryFront s (content_at s) (held_at s)
  GeometryFront_lem = record { content-is = refl; held-is = refl; long = whole }

  pub content_length_lem : length (front_geometry s).vertices.content ≡ content_at s
  unfolding front_geometry
  content_length_lem = length-drop 7 (part s 48 (7 + content_at s)) ∙ omega (arith, part_length s 48 (7 + content_at s) (omega (arith, whole)))

  pub held-length : length (front_geometry s).indices.items ≡ held_at s
  held-length = front-held GeometryFront_lem

  pub geometry_size_lem : geometry_size (front_geometry s) ≡ 0x190 + padded (content_at s) + padded (2 * held_at s)
  unfolding geometry_size
  geometry_size_lem = rw (content_length_lem, held-length) (omega arith)

  module _ (r : GeometryShape) (q : Shaped s r) where
    pub geometry-measured : measured_by r.content r.held ≡ record { «length» = geometry_length s; size = geometry_size (front_geometry s) }
    unfolding geometry_length
    geometry-measured = rw (geometry_size_lem, q.content-is, q.held-is)

    pub GeometryRoom_lem : {at : ℕ} {out : List ℕ} → Room at (geometry_size (front_geometry s)) out → GeometryRoom s at out r.content r.held
    GeometryRoom_lem room =
        let e : geometry_size (front_geometry s) ≡ 0x190 + padded r.content + padded (2 * r.held) = geometry_size_lem ∙ rw (q.content-is, q.held-is) in
        record {
          long = rw (q.content-is, q.held-is) whole;
          fits = rw (← e) room.fits;
          low = rw (← e) room.low;
          small = q.small;
          few = q.few;
        }
