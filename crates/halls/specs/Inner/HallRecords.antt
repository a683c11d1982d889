-- The records of a hall's list, in order: what parsing turns round.
use Rattle.std.specs.Prelude.{List, [], ◌∷◌, ◌++◌, ℕ}
use Rattle.vertices.specs.Declaration.{declaration_bytes}
use Rattle.halls.specs.List.{model_body, geometry_body, vertices_body, indices_body}
use Rattle.halls.specs.Hall.{FullGeometry, Hall, listed_geometry, listed_model}
use Rattle.halls.specs.Records.{Record}

abbrev pub of_kind : ℕ → List ℕ → Record
of_kind kind body = record { kind = kind; body = body }

-- kinds 2, 3, 4, 5 of each geometry
unfoldable pub geometries_records : List FullGeometry → List Record
geometries_records [] = []
geometries_records (g ∷ gs) =
    of_kind 2 (geometry_body (listed_geometry g)) ∷ of_kind 3 (declaration_bytes g.declaration) ∷ of_kind 4 (vertices_body g.vertices) ∷ of_kind 5 (indices_body g.indices)
    ∷ geometries_records gs

-- kind 1 of each model, then its geometries
unfoldable pub hall_records : Hall → List Record
hall_records [] = []
hall_records (m ∷ ms) = of_kind 1 (model_body (listed_model m)) ∷ (geometries_records m.geometries ++ hall_records ms)
