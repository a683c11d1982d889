-- Check 11, as parsing: records whole, ordered, exact in length, each geometry with kinds 2 to 5.
use Rattle.std.specs.Prelude.{Option, None, Some}
use Rattle.std.specs.Prelude.{Bool, cond, ◌&&◌, ◌||◌, List, [], ◌∷◌, ℕ, zero, suc, ◌+◌, ◌*◌, ◌-◌, ◌/◌, eqb, length, drop}
use Rattle.sections.specs.Le.{field}
use Rattle.vertices.specs.Declaration.{declaration_at}
use Rattle.vertices.specs.Runs.{numbers}
use Rattle.halls.specs.Every.{every}
use Rattle.halls.specs.Hall.{FullGeometry, FullModel, Hall}
use Rattle.halls.specs.Records.{Record, records}
use Rattle.halls.specs.Triangles.{held_count}

-- ---- whole: the records are all of the bytes

unfoldable pub records_length : List Record → ℕ
records_length [] = 0
records_length (r ∷ rs) = 6 + length r.body + records_length rs

unfoldable pub whole : List ℕ → Bool
whole s = eqb (records_length (records s)) (length s)

-- ---- ordered: a model, then its geometries, each as kinds 2, 3, 4, 5

-- a record of this kind may stand behind one of the kind `before`; 0 is the start
unfoldable pub follows : ℕ → ℕ → Bool
follows before kind = cond (eqb before 0) (eqb kind 1) (cond (eqb before 1 || eqb before 5) (eqb kind 1 || eqb kind 2) (eqb kind (before + 1)))

-- and the list may end there
unfoldable pub may_end : ℕ → Bool
may_end before = eqb before 0 || (eqb before 1 || eqb before 5)

unfoldable pub ordered : ℕ → List Record → Bool
ordered before [] = may_end before
ordered before (r ∷ rs) = follows before r.kind && ordered r.kind rs

-- ---- exact in length: a body is as long as its kind and its own numbers say

-- the entries of a mapping
abbrev pub mapping_count : List ℕ → ℕ
mapping_count body = (length body - 6) / 2

-- kind 4: count × stride
abbrev pub content_length : List ℕ → ℕ
content_length body = field 4 body 3 * field 2 body 1

unfoldable pub due_length : ℕ → List ℕ → ℕ
due_length kind body =
    cond (eqb kind 1) (6 + 2 * mapping_count body)
    (cond (eqb kind 2) 14
    (cond (eqb kind 3) 16
    (cond (eqb kind 4) (7 + content_length body)
    (4 + 4 * held_count body))))

unfoldable pub exact : Record → Bool
exact r = eqb (length r.body) (due_length r.kind r.body)

-- ---- what such records say

-- a model's record, and its geometries
abbrev pub model_in : List ℕ → List FullGeometry → FullModel
model_in body gs = record { binding = field 4 body 0; mask = field 2 body 4; mapping = numbers 2 (mapping_count body) (drop 6 body); geometries = gs }

-- the four records of a geometry
abbrev pub geometry_in : List ℕ → List ℕ → List ℕ → List ℕ → FullGeometry
geometry_in b2 b3 b4 b5 = record {
  shader = field 2 b2 0;
  index_count = field 4 b2 2;
  triangle_count = field 4 b2 6;
  vertex_count = field 2 b2 10;
  stride = field 2 b2 12;
  declaration = declaration_at b3 0;
  vertices = record { layout = field 1 b4 0; stride = field 2 b4 1; count = field 4 b4 3; content = drop 7 b4 };
  indices = record { count = field 4 b5 0; items = numbers 4 (held_count b5) (drop 4 b5) };
}

-- the body of the i-th record
abbrev pub body_at : ℕ → List Record → List ℕ
body_at i [] = []
body_at zero (r ∷ rs) = r.body
body_at (suc i) (r ∷ rs) = body_at i rs

-- the geometries up to the next model: each record of kind 2 begins one, with the three behind it
unfoldable pub geometries_in : List Record → List FullGeometry
geometries_in [] = []
geometries_in (r ∷ rs) =
    cond (eqb r.kind 1) []
    (cond (eqb r.kind 2) (geometry_in r.body (body_at 0 rs) (body_at 1 rs) (body_at 2 rs) ∷ geometries_in rs) (geometries_in rs))

-- each record of kind 1 begins a model
unfoldable pub models_in : List Record → Hall
models_in [] = []
models_in (r ∷ rs) = cond (eqb r.kind 1) (model_in r.body (geometries_in rs) ∷ models_in rs) (models_in rs)

-- ---- the whole

unfoldable pub structured : List ℕ → Bool
structured s = whole s && (ordered 0 (records s) && every exact (records s))

-- the hall whose list these bytes are, if they are one
unfoldable pub parse : List ℕ → Option Hall
parse s = cond (structured s) (Some (models_in (records s))) None
