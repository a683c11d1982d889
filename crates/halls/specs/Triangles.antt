-- How many triangles a list has (the Rust's `triangle_count`): for each geometry its stored index count, or the indices that it holds where that is 0,
-- in threes.
use Rattle.std.specs.Prelude.{Option, None, Some}
use Rattle.std.specs.Prelude.{◌≡◌, Bool, false, cond, List, [], ◌∷◌, ℕ, ◌+◌, ◌-◌, ◌/◌, ◌^◌, ◌<◌, eqb, length}
use Rattle.sections.specs.Address.{Sections}
use Rattle.sections.specs.Le.{field}
use Rattle.halls.specs.Every.{Each}
use Rattle.halls.specs.List.{Indices, Geometry, Model, optional, model_record, vertices_record, indices_record}
use Rattle.halls.specs.Reading.{read, read_list}
use Rattle.halls.specs.Records.{Record}

-- ---- of models

abbrev pub held_by : Option Indices → ℕ
held_by None = 0
held_by (Some i) = length i.items

unfoldable pub triangles_of : Geometry → ℕ
triangles_of g = cond (eqb g.index_count 0) (held_by g.indices) g.index_count / 3

unfoldable pub triangles_of_all : List Geometry → ℕ
triangles_of_all [] = 0
triangles_of_all (g ∷ gs) = triangles_of g + triangles_of_all gs

unfoldable pub triangles : List Model → ℕ
triangles [] = 0
triangles (m ∷ ms) = triangles_of_all m.geometries + triangles ms

-- ---- of records

-- the index count that a geometry's record stores, and how many indices a record of indices holds
abbrev pub stored_count : List ℕ → ℕ
stored_count body = field 4 body 2

abbrev pub held_count : List ℕ → ℕ
held_count body = (length body - 4) / 4

-- what a record adds, where `awaited` says that the last geometry stored 0 and its indices have not come yet
unfoldable pub added : Bool → Record → ℕ
added awaited r = cond (eqb r.kind 2) (stored_count r.body / 3) (cond (eqb r.kind 5) (cond awaited (held_count r.body / 3) 0) 0)

-- whether indices are awaited behind it
unfoldable pub awaits : Bool → Record → Bool
awaits awaited r = cond (eqb r.kind 2) (eqb (stored_count r.body) 0) (cond (eqb r.kind 5) false awaited)

unfoldable pub triangles_from : Bool → List Record → ℕ
triangles_from awaited [] = 0
triangles_from awaited (r ∷ rs) = added awaited r + triangles_from (awaits awaited r) rs

unfoldable pub triangles_in : List Record → ℕ
triangles_in rs = triangles_from false rs

-- ---- lists whose bytes say as many as their models: the index counts and the records' lengths fit the fields that they are written to

-- a record whose body's length fits the four bytes in front of it
abbrev pub Short : List ℕ → Type 0
Short r = length r < 6 + 2 ^ 32

pub record FittingGeometry (g : Geometry) : Type 0 where
  pub index_count : g.index_count < 2 ^ 32
  pub vertices : Short (optional vertices_record g.vertices)
  pub indices : Short (optional indices_record g.indices)

pub record FittingModel (m : Model) : Type 0 where
  pub short : Short (model_record m)
  pub geometries : Each FittingGeometry m.geometries

abbrev pub Fitting : List Model → Type 0
Fitting ms = Each FittingModel ms

-- ---- of what is read

-- c is the Rust's sum over the models that are read behind an address (document 01: "`triangle_count`, `bone_index`, `is_skinned` are ported")
pub record CountsRead (s : Sections) (address c : ℕ) : Type 0 where
  pub models : List Model
  pub are : read_list s address ≡ read models
  pub sum : c ≡ triangles models
