-- Where a hall's records begin among the bytes of its list.
use Rattle.std.specs.Prelude.{Option, None, Some, option_map, option_and_then}
use Rattle.std.specs.Prelude.{◌≡◌, List, [], ◌∷◌, map, ℕ, ◌+◌, ◌*◌, length, take, drop}
use Rattle.halls.specs.List.{write_geometries}
use Rattle.halls.specs.Hall.{FullGeometry, FullModel, Hall, listed_geometry, hall_bytes}
use Rattle.halls.specs.Parsing.{models_in}
use Rattle.halls.specs.Records.{records}
use Rattle.halls.specs.Parsing.{parse}
use Rattle.halls.specs.Checks.{hall_verdict}
use Rattle.halls.specs.Verdict.{Verdict}
use Rattle.halls.specs.Verdict.{Sound, Fails}
use Rattle.halls.specs.declared.check.find.GeometryPlace.{GeometryPlace}

-- the item with this number, counted from 0
abbrev pub first_of : {A : Type 0} → List A → Option A
first_of [] = None
first_of (x ∷ xs) = Some x

abbrev pub item : {A : Type 0} → ℕ → List A → Option A
item n l = first_of (drop n l)

-- ---- a model: its record begins behind the bytes of the models before it

unfoldable pub model_place : Hall → ℕ → Option ℕ
model_place h m = option_map (λ (x : FullModel). length (hall_bytes (take m h))) (item m h)

-- ---- a geometry of it

-- the places of its records: kind 2 has 20 bytes, kind 3 has 22, and kind 4 has 13 and its vertex bytes
abbrev pub places_from : ℕ → ℕ → FullGeometry → GeometryPlace
places_from model geometry g = record {
  model = model;
  geometry = geometry;
  declaration = geometry + 20;
  vertices = geometry + 42;
  indices = geometry + 55 + length g.vertices.content;
}

-- the g-th geometry of a model whose record begins at this place: behind that record and the bytes of the geometries before it
abbrev pub geometry_place_in : ℕ → ℕ → Option FullModel → Option GeometryPlace
geometry_place_in place g None = None
geometry_place_in place g (Some m) =
    option_map (places_from place (place + (12 + 2 * length m.mapping) + length (write_geometries (map listed_geometry (take g m.geometries))))) (item g m.geometries)

unfoldable pub geometry_place : Hall → ℕ → ℕ → Option GeometryPlace
geometry_place h m g = geometry_place_in (length (hall_bytes (take m h))) g (item m h)

-- geometry g of model m begins at this place in the first n bytes of a buffer
abbrev pub GeometryIn : List ℕ → ℕ → ℕ → ℕ → ℕ → Type 0
GeometryIn b n m g at = option_map (λ (p : GeometryPlace). p.geometry) (geometry_place (models_in (records (take n b))) m g) ≡ Some at

-- ---- in the first n bytes of a buffer: nothing where they are not a sound hall

abbrev pub where_sound : {A : Type 0} → Verdict → Option A → Option A
where_sound Sound found = found
where_sound (Fails check) found = None

unfoldable pub model_found : List ℕ → ℕ → ℕ → Option ℕ
model_found b n m = where_sound (hall_verdict b n) (option_and_then (λ (h : Hall). model_place h m) (parse (take n b)))

unfoldable pub geometry_found : List ℕ → ℕ → ℕ → ℕ → Option GeometryPlace
geometry_found b n m g = where_sound (hall_verdict b n) (option_and_then (λ (h : Hall). geometry_place h m g) (parse (take n b)))
