-- A model's record or a geometry's four records at the front of some bytes of a list, by their own numbers.
use Rattle.std.specs.Prelude.{◌≡◌, List, ℕ, ◌+◌, ◌*◌, ◌-◌, ◌/◌, ◌≤◌, ◌^◌, length}
use Rattle.sections.specs.Edit.{part}
use Rattle.sections.specs.Le.{field}
use Rattle.halls.specs.Hall.{FullGeometry}
use Rattle.halls.specs.Parsing.{geometry_in}
use Rattle.halls.specs.declared.format.front.GeometryShape.{GeometryShape}

-- a model's record: the entries of its mapping
abbrev pub entries_at : List ℕ → ℕ
entries_at s = (field 4 s 0 - 6) / 2

-- a geometry's four records: its vertex bytes by count and stride, and the indices held
unfoldable pub content_at : List ℕ → ℕ
content_at s = field 4 s 51 * field 2 s 49

unfoldable pub held_at : List ℕ → ℕ
held_at s = (field 4 s (55 + content_at s) - 4) / 4

-- what a function finds of them
pub record Shaped (s : List ℕ) (r : GeometryShape) : Type 0 where
  pub content-is : r.content ≡ content_at s
  pub held-is : r.held ≡ held_at s
  pub small : r.content ≤ 2 ^ 48
  pub few : r.held ≤ 2 ^ 30

unfoldable pub front_geometry : List ℕ → FullGeometry
front_geometry s = geometry_in (part s 6 14) (part s 26 16) (part s 48 (7 + content_at s)) (part s (61 + content_at s) (4 + 4 * held_at s))

-- a geometry with `content` vertex bytes and `held` indices is whole at the front of s
pub record GeometryFront (s : List ℕ) (content held : ℕ) : Type 0 where
  pub content-is : content ≡ content_at s
  pub held-is : held ≡ held_at s
  pub long : 65 + content + 4 * held ≤ length s
