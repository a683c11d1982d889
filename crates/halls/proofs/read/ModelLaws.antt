-- A model behind a pointer: its lists, its refusals, and what its reading is made of.
use Rattle.std.specs.Prelude.{Option, None, Some, Result, Ok}
use mathlib.Core.Path.{◌≡◌, refl, sym, ap, ◌∙◌}
use mathlib.Core.List.{List, [], ◌∷◌}
use Prim.Native.Nat.{ℕ, suc, ◌+◌, ◌*◌, ◌/◌, ◌^◌, ◌≤◌, ◌<◌}
use native.Mathlib.Omega.{arith}
use lib.Dec.{eqb, ltb}
use lib.ListN.{length, length-append}
use Rattle.sections.specs.Address.{Sections, resolved}
use Rattle.sections.specs.Le.{field}
use Rattle.sections.proofs.LeLaws.{length-bytes}
use Rattle.vertices.proofs.RunLaws.{length_run, numbers-length}
use Rattle.halls.specs.List.{Geometry, Model, write_geometries, model_record, write_model}
use Rattle.halls.specs.Blocks.{ModelBlock, model_block}
use Rattle.halls.specs.Reading.{Reading, refused, read, and_then, or_empty, list_at, mapping_of, read_geometries, read_model}
use Rattle.halls.specs.Inner.Measure.{list_bytes, whole_numbers, model_at, measured_geometries, with_record, measured_model}
use Rattle.halls.specs.Inner.View.{ListsOf}
use Rattle.halls.specs.declared.answer.Refusal.{Refusal}
use Rattle.halls.specs.declared.read.measure.Measured.{Measured}
use Rattle.halls.proofs.read.ListBytes.{list_absent, list_found, list-or_empty, list_short, even-whole}
use Rattle.halls.proofs.read.ReadingLaws.{NotZero, refused-NotZero, read-NotZero, cond-NotZero, need-NotZero, then-NotZero, measured_or_zero}
use Rattle.halls.proofs.read.ViewLaws.{Record-length}

-- the lists of a block, from the fields that were read
pub lists_of : (s : Sections) (raw : List ℕ) (count geometries mapping : ℕ) {pointers : Option (List ℕ)} {map : List ℕ} → count ≡ field 2 raw 0x10 → geometries ≡ field 8 raw 0x08 → mapping ≡ field 8 raw 0x20 → count < 65536
    → pointers ≡ list_bytes s 8 count geometries → map ≡ or_empty (list_bytes s 2 count mapping) → ListsOf s (model_block raw) pointers map
unfolding model_block
lists_of s raw count geometries mapping e f g few p m = record { few = rw (← e) few; pointers_are = rw (← e, ← f) p; mapping-is = rw (← e, ← g) m }

module _ (s : Sections) (b : ModelBlock) (pointers : Option (List ℕ)) (mapping : List ℕ) (l : ListsOf s b pointers mapping) where
  pub mapping-numbers : mapping_of s b ≡ whole_numbers 2 mapping
  unfolding mapping_of
  mapping-numbers = list-or_empty s 2 b.count b.mapping refl (omega arith) ∙ ap (whole_numbers 2) (sym l.mapping-is)

  pub pointer-numbers : or_empty (list_at s 8 b.count b.geometries) ≡ whole_numbers 8 (or_empty pointers)
  pointer-numbers = list-or_empty s 8 b.count b.geometries refl (omega arith) ∙ ap (λ (o : Option (List ℕ)). whole_numbers 8 (or_empty o)) (sym l.pointers_are)

  -- whole shader ids
  pub mapping-even : length mapping / 2 * 2 ≡ length mapping
  mapping-even = ap (λ (x : List ℕ). length x / 2 * 2) l.mapping-is ∙ even-whole s b.count b.mapping ∙ ap length (sym l.mapping-is)

  pub mapping-few : length mapping ≤ 524280
  mapping-few = rw l.mapping-is (list_short s 2 b.count b.mapping l.few (omega arith))

  pub pointers_few : length (or_empty pointers) ≤ 524280
  pointers_few = rw l.pointers_are (list_short s 8 b.count b.geometries l.few (omega arith))

-- no refusal has the number 0
pub geometries-NotZero : (s : Sections) (before : ℕ) (map ps : List ℕ) → NotZero (read_geometries s before map ps)
unfolding read_geometries
geometries-NotZero s before map [] = read-NotZero
geometries-NotZero s before map (p ∷ ps) =
    cond-NotZero (eqb p 0) (geometries-NotZero s before _ ps)
    (cond-NotZero (ltb before 16384)
    (need-NotZero 6 (resolved s p 0x98) refl (λ b. then-NotZero (geometries-NotZero s (suc before) _ ps) (λ gs. read-NotZero)))
    (refused-NotZero 5 refl))

-- ---- the model behind a pointer

module _ (s : Sections) (before pointer : ℕ) where
  pub model-unresolved : resolved s pointer 0x30 ≡ None → model_at s before pointer ≡ refused 3
  unfolding model_at
  model-unresolved e = rw e

  module _ (raw : List ℕ) (is : resolved s pointer 0x30 ≡ Some raw) where
    pub model-no_list : {mapping : List ℕ} → ListsOf s (model_block raw) None mapping → model_at s before pointer ≡ refused 4
    unfolding model_at read_model
    model-no_list l = rw is (list_absent s 8 (model_block raw).count (model_block raw).geometries refl (omega arith) 4 _ (sym l.pointers_are))

    module _ (pointers mapping : List ℕ) (l : ListsOf s (model_block raw) (Some pointers) mapping) where
      abbrev pub inside : Reading (List Geometry)
      inside = read_geometries s before (whole_numbers 2 mapping) (whole_numbers 8 pointers)

      abbrev model_with : List Geometry → Model
      model_with gs = record { binding = (model_block raw).binding; mask = (model_block raw).mask; mapping = whole_numbers 2 mapping; geometries = gs }

      as_read : model_at s before pointer ≡ and_then inside (λ gs. read (model_with gs))
      unfolding model_at read_model
      as_read =
          let b : ModelBlock = model_block raw in
          rw (is, mapping-numbers s b (Some pointers) mapping l) (list_found s 8 b.count b.geometries refl (omega arith) 4 _ pointers (sym l.pointers_are))

      length-with : (gs : List Geometry) → length (write_model (model_with gs)) ≡ 12 + length mapping + length (write_geometries gs)
      unfolding write_model model_record
      length-with gs = simp (length-append, Record-length, length-bytes, length_run, numbers-length) (omega (arith, mapping-even s (model_block raw) (Some pointers) mapping l))

      by_cases : (r : Reading (List Geometry)) → with_record (length mapping) (measured_geometries r) ≡ measured_model (and_then r (λ gs. read (model_with gs)))
      by_cases (refused check) = refl
      by_cases (read gs) = ap (λ (k : ℕ). Ok (record { «length» = k; count = length gs })) (sym (length-with gs))

      -- its measure, from that of its geometries
      pub model-measured : {v : Result Measured Refusal} → v ≡ measured_geometries inside → with_record (length mapping) v ≡ measured_model (model_at s before pointer)
      model-measured q = ap (with_record (length mapping)) q ∙ by_cases inside ∙ ap measured_model (sym as_read)

-- its bounds
pub Record-length-bound : (n : ℕ) (v : Measured) {w : Measured} → Ok w ≡ with_record n (Ok v) → n ≤ 524280 → v.«length» ≤ v.count * 2 ^ 49 → w.«length» ≤ w.count * 2 ^ 49 + 2 ^ 20
Record-length-bound n v e h l = rw (ap measured_or_zero e) (omega arith)

pub Record-count : (n : ℕ) (v : Measured) {w : Measured} → Ok w ≡ with_record n (Ok v) → w.count ≡ v.count
Record-count n v e = ap (λ r. (measured_or_zero r).count) e
