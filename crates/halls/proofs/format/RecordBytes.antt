-- Records and their bytes, both ways; and that a hall's bytes are those of its records.
use mathlib.Core.Path.{◌≡◌, refl, sym, ap, ◌∙◌}
use mathlib.Core.Bool.{true}
use mathlib.Core.List.{List, [], ◌∷◌, ◌++◌, append_assoc, append-nil, map}
use Prim.Native.Nat.{ℕ, zero, suc, ◌+◌, ◌-◌, ◌^◌, ◌≤◌, ◌<◌}
use native.Mathlib.Nat.{lt_of_not-le}
use native.Mathlib.Decide.{dec_le}
use native.Mathlib.Omega.{arith}
use borrow.Author.Tests.{eqb-true}
use lib.ListN.{length, take, drop, length-append, length-drop, take-append-drop, drop_of_length-le}
use lib.Seq.{drop-drop}
use Rattle.sections.specs.Edit.{part}
use Rattle.sections.proofs.EditLaws.{part-add, part-below, part_length}
use Rattle.sections.proofs.LeLaws.{field_bound, field-bytes}
use Rattle.vertices.proofs.DeclarationLaws.{declaration_length_lem}
use Rattle.halls.specs.List.{each, record_bytes, model_record, geometry_record, declaration_record, vertices_record, indices_record, write_geometry, write_geometries, write_model}
use Rattle.halls.specs.Every.{Each}
use Rattle.halls.specs.Hall.{FullGeometry, Hall, FullGeometryInWidth, HallInWidth, listed_geometry, listed_model, hall_bytes}
use Rattle.halls.specs.Inner.HallRecords.{geometries_records, hall_records}
use Rattle.halls.specs.Parsing.{records_length, whole}
use Rattle.halls.specs.Records.{Record, body_length, front_record, records}
use Rattle.halls.proofs.format.BodyLaws.{AllBytes, drop-below, model_body-length, geometry_body-length, vertices_body-length, indices_body-length}
use Rattle.halls.proofs.format.RecordLaws.{records-step, records-stop, records-written}
use Rattle.halls.proofs.read.ViewLaws.{Record-length}

abbrev pub one_record : Record → List ℕ
one_record r = record_bytes r.kind r.body

abbrev pub records_bytes : List Record → List ℕ
records_bytes rs = each one_record rs

pub records_length_lem : (rs : List Record) → length (records_bytes rs) ≡ records_length rs
unfolding each records_length
records_length_lem [] = refl
records_length_lem (r ∷ rs) = rw (length-append, Record-length, records_length_lem rs)

-- ---- written and read

-- a record whose numbers fit in front of it
pub record Headed (r : Record) : Type 0 where
  pub short : length r.body < 2 ^ 32
  pub low : r.kind < 2 ^ 16

pub records-read-back : (rs : List Record) → Each Headed rs → records (records_bytes rs) ≡ rs
unfolding each Each
records-read-back [] w = records-stop [] (omega arith)
records-read-back (r ∷ rs) w =
    records-written r.kind r.body (records_bytes rs) w.0.short w.0.low ∙ ap (λ (l : List Record). r ∷ l) (records-read-back rs w.1)

-- ---- read and written

-- what holds of bytes whose first record is not whole, and of those behind a whole one and so with it
pub by-records {ℓ} : (P : List ℕ → Type ℓ) → ((s : List ℕ) → AllBytes s → length s < 6 + body_length s → P s)
    → ((s : List ℕ) → AllBytes s → 6 + body_length s ≤ length s → P (drop (6 + body_length s) s) → P s) → (s : List ℕ) → AllBytes s → P s
by-records P stop step s f = go (length s) s f (omega arith)
  where
    go : (n : ℕ) (s : List ℕ) → AllBytes s → length s ≤ n → P s
    go zero s f h = stop s f (omega arith)
    go (suc n) s f h =
        let left : length (drop (6 + body_length s) s) ≡ length s - (6 + body_length s) = length-drop (6 + body_length s) s in
        elim (dec_le (6 + body_length s) (length s)) [
          | yes y ↦ step s f y (go n (drop (6 + body_length s) s) (drop-below (6 + body_length s) s f) (omega arith))
          | no y ↦ stop s f (lt_of_not-le y)
        ]

module _ (s : List ℕ) (f : AllBytes s) (h : 6 + body_length s ≤ length s) where
  front_length : length (front_record s).body ≡ body_length s
  unfolding front_record
  front_length = part_length s 6 (body_length s) h

  front-written_back : one_record (front_record s) ≡ take (6 + body_length s) s
  unfolding front_record record_bytes body_length part
  front-written_back =
      let n : ℕ = body_length s in
      let sum : 4 + (2 + n) ≡ 6 + n = omega arith in
      rw (part_length s 6 n h, field-bytes 4 s 0 f (omega arith), field-bytes 2 s 4 f (omega arith))
      (ap (λ (l : List ℕ). part s 0 4 ++ l) (sym (part-add s 4 2 n)) ∙ sym (part-add s 0 4 (2 + n)) ∙ ap (part s 0) sum)

-- the bytes of the records, and those behind the last whole one
pub records-written_back : (s : List ℕ) → AllBytes s → records_bytes (records s) ++ drop (records_length (records s)) s ≡ s
unfolding each records_length
records-written_back = by-records (λ (s : List ℕ). records_bytes (records s) ++ drop (records_length (records s)) s ≡ s)
    (λ s f h. rw (records-stop s h))
    (λ s f h ih.
    let left : List ℕ = drop (6 + body_length s) s in
    let l : 6 + length (front_record s).body ≡ 6 + body_length s = ap (λ (n : ℕ). 6 + n) (front_length s f h) in
    rw (records-step s h, l, front-written_back s f h, append_assoc, ← drop-drop (records_length (records left)) (6 + body_length s) s, ih, take-append-drop))

pub whole-written_back : (s : List ℕ) → AllBytes s → whole s ≡ true → records_bytes (records s) ≡ s
unfolding whole
whole-written_back s f e =
    let n : records_length (records s) ≡ length s = eqb-true (records_length (records s)) (length s) e in
    let d : drop (records_length (records s)) s ≡ [] = drop_of_length-le s {i = records_length (records s)} (omega arith) in
    sym (append-nil (records_bytes (records s))) ∙ rw d at (records-written_back s f)

-- each body is bytes, and its length fits the four in front of it
pub record Held (r : Record) : Type 0 where
  pub below : AllBytes r.body
  pub short : length r.body < 2 ^ 32

pub records-held : (s : List ℕ) → AllBytes s → Each Held (records s)
unfolding Each body_length front_record
records-held = by-records (λ (s : List ℕ). Each Held (records s))
    (λ s f h. rw (records-stop s h) tt)
    (λ s f h ih. rw (records-step s h) (record { below = part-below s 6 (body_length s) f; short = rw (part_length s 6 (body_length s) h) (field_bound 4 s 0 f) }, ih))

-- ---- a hall's

geometry_bytes_lem : (g : FullGeometry) (rest : List ℕ)
    → write_geometry (listed_geometry g) ++ rest
    ≡ geometry_record (listed_geometry g) ++ (declaration_record g.declaration ++ (vertices_record g.vertices ++ (indices_record g.indices ++ rest)))
unfolding write_geometry
geometry_bytes_lem g rest = simp append_assoc

geometries_bytes_lem : (gs : List FullGeometry) (rs : List Record) → write_geometries (map listed_geometry gs) ++ records_bytes rs ≡ records_bytes (geometries_records gs ++ rs)
unfolding each geometries_records geometry_record declaration_record vertices_record indices_record
geometries_bytes_lem [] rs = refl
geometries_bytes_lem (g ∷ gs) rs =
    append_assoc (write_geometry (listed_geometry g)) (write_geometries (map listed_geometry gs)) (records_bytes rs)
    ∙ geometry_bytes_lem g (write_geometries (map listed_geometry gs) ++ records_bytes rs)
    ∙ ap (λ (l : List ℕ). geometry_record (listed_geometry g) ++ (declaration_record g.declaration ++ (vertices_record g.vertices ++ (indices_record g.indices ++ l)))) (geometries_bytes_lem gs rs)

pub hall_bytes_lem : (h : Hall) → hall_bytes h ≡ records_bytes (hall_records h)
unfolding hall_bytes each hall_records write_model model_record
hall_bytes_lem [] = refl
hall_bytes_lem (m ∷ ms) =
    append_assoc (model_record (listed_model m)) (write_geometries (map listed_geometry m.geometries)) (hall_bytes ms)
    ∙ ap (λ (l : List ℕ). model_record (listed_model m) ++ (write_geometries (map listed_geometry m.geometries) ++ l)) (hall_bytes_lem ms)
    ∙ ap (λ (l : List ℕ). model_record (listed_model m) ++ l) (geometries_bytes_lem m.geometries (hall_records ms))

pub hall-length : (h : Hall) → records_length (hall_records h) ≡ length (hall_bytes h)
hall-length h = sym (records_length_lem (hall_records h)) ∙ ap length (sym (hall_bytes_lem h))

geometries-headed : (gs : List FullGeometry) → Each FullGeometryInWidth gs → (rs : List Record) → Each Headed rs → Each Headed (geometries_records gs ++ rs)
unfolding Each geometries_records
geometries-headed [] w rs t = t
geometries-headed (g ∷ gs) w rs t = (
  record { short = omega (arith, geometry_body-length g); low = omega arith },
  (
    record { short = omega (arith, declaration_length_lem g.declaration); low = omega arith },
    (
      record { short = omega (arith, vertices_body-length g.vertices, w.0.content); low = omega arith },
      (record { short = omega (arith, indices_body-length g.indices, w.0.held); low = omega arith }, geometries-headed gs w.1 rs t),
    ),
  ),
)

hall-headed : (h : Hall) → HallInWidth h → Each Headed (hall_records h)
unfolding Each hall_records
hall-headed [] w = tt
hall-headed (m ∷ ms) w =
    (record { short = omega (arith, model_body-length m, w.0.mapping); low = omega arith }, geometries-headed m.geometries w.0.geometries (hall_records ms) (hall-headed ms w.1))

-- the records of a hall's bytes are the hall's
pub hall_records_lem : (h : Hall) → HallInWidth h → records (hall_bytes h) ≡ hall_records h
hall_records_lem h w = ap records (hall_bytes_lem h) ∙ records-read-back (hall_records h) (hall-headed h w)
