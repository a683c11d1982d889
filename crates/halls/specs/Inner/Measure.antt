-- What the first pass answers: a refusal's number, or the bytes that will be written and the geometries among them. (Private contracts.)
use Rattle.std.specs.Prelude.{Option, Some, option_map, Result, Ok, Err}
use Rattle.std.specs.Prelude.{cond, List, [], ◌∷◌, map, ℕ, ◌+◌, ◌*◌, ◌/◌, eqb, length}
use Rattle.vertices.specs.Runs.{numbers}
use Rattle.sections.specs.Address.{Sections, resolved}
use Rattle.halls.specs.List.{Geometry, Model, write_geometry, write_geometries, write_model, write}
use Rattle.halls.specs.Blocks.{geometry_block, model_block}
use Rattle.halls.specs.Reading.{Reading, refused, read, need, geometry_of, first, rest, read_geometries, read_model}
use Rattle.halls.specs.declared.read.entries.Entry.{Entry}
use Rattle.halls.specs.declared.read.measure.Measured.{Measured}
use Rattle.halls.specs.declared.answer.Refusal.{Refusal}

-- the bytes of a list's elements; none of them where its count or pointer is 0
unfoldable pub list_bytes : Sections → ℕ → ℕ → ℕ → Option (List ℕ)
list_bytes s width count pointer = cond (eqb count 0) (Some []) (cond (eqb pointer 0) (Some []) (resolved s pointer (count * width)))

-- the numbers in some bytes
abbrev pub whole_numbers : ℕ → List ℕ → List ℕ
whole_numbers width b = numbers width (length b / width) b

-- pointers, each with the mapping's entry at its position, 0 if absent
abbrev pub entries_of : List ℕ → List ℕ → List Entry
entries_of mapping [] = []
entries_of mapping (p ∷ ps) = record { shader = first mapping; pointer = p } ∷ entries_of (rest mapping) ps

abbrev pub read_entries : Sections → ℕ → List Entry → Reading (List Geometry)
read_entries s before es = read_geometries s before (map (λ (e : Entry). e.shader) es) (map (λ (e : Entry). e.pointer) es)

-- the bytes of the geometry behind a pointer, if its block resolves
unfoldable pub length_at : Sections → ℕ → ℕ → Option ℕ
length_at s shader pointer = option_map (λ b. length (write_geometry (geometry_of s shader (geometry_block b)))) (resolved s pointer 0x98)

-- by the bytes and the geometries of what was read
abbrev pub measured : {A : Type 0} → (A → ℕ) → (A → ℕ) → Reading A → Result Measured Refusal
measured bytes_of count_of (refused check) = Err (record { check = check; needed = 0 })
measured bytes_of count_of (read x) = Ok (record { «length» = bytes_of x; count = count_of x })

abbrev pub measured_geometries : Reading (List Geometry) → Result Measured Refusal
measured_geometries r = measured (λ (gs : List Geometry). length (write_geometries gs)) (λ (gs : List Geometry). length gs) r

abbrev pub measured_model : Reading Model → Result Measured Refusal
measured_model r = measured (λ (m : Model). length (write_model m)) (λ (m : Model). length m.geometries) r

-- a model's, from that of its geometries and the bytes of its mapping
abbrev pub with_record : ℕ → Result Measured Refusal → Result Measured Refusal
with_record mapping (Err e) = Err e
with_record mapping (Ok v) = Ok (record { «length» = 12 + mapping + v.«length»; count = v.count })

-- the model behind a pointer: check 3, then its block
unfoldable pub model_at : Sections → ℕ → ℕ → Reading Model
model_at s before pointer = need 3 (resolved s pointer 0x30) (λ b. read_model s before (model_block b))

abbrev pub geometries_in : List Model → ℕ
geometries_in [] = 0
geometries_in (m ∷ ms) = length m.geometries + geometries_in ms

abbrev pub measured_models : Reading (List Model) → Result Measured Refusal
measured_models r = measured (λ (ms : List Model). length (write ms)) geometries_in r
