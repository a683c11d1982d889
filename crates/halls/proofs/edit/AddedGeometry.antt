-- A geometry added at the end of a sound hall's last model: the checks that it can fail, the result's bytes and what the call comes to.
use Rattle.std.specs.Prelude.{None, Some}
use mathlib.Core.Path.{◌≡◌, refl, sym, ap, ◌∙◌, subst}
use mathlib.Core.Bool.{Bool, true, false, cond, ◌&&◌}
use mathlib.Core.List.{List, [], ◌∷◌, ◌++◌, map-append, append-nil, append_assoc}
use Prim.Native.Nat.{ℕ, zero, suc, ◌+◌, ◌*◌, ◌-◌, ◌/◌, ◌≤◌, ◌<◌, min, ◌%◌}
use native.Mathlib.Omega.{arith}
use borrow.Author.Tests.{eq-eqb, eqb-false, eqb-true, le-leb, leb-true, lt-leb, ne_eqb}
use lib.Dec.{eqb, leb}
use lib.ListN.{length, take, drop, length-append, length-take, length-drop, length-map, take-append-drop, drop_of_length-le}
use lib.Seq.{length-take-le, take_at, drop_at, take-take}
use Rattle.sections.specs.Edit.{part, overwrite, fits, Edited}
use Rattle.sections.specs.Le.{bytes, field}
use Rattle.sections.proofs.EditLaws.{part_length, overwrite-length, overwrite-ahead, overwrite-behind, Edited-fits}
use Rattle.sections.proofs.LeLaws.{length-bytes}
use Rattle.sections.proofs.AddressLaws.{both_true}
use Rattle.vertices.specs.Runs.{run}
use Rattle.vertices.proofs.RunLaws.{length_run}
use Rattle.halls.specs.Calls.{Given, add_geometry, proposed, without, replaced, given_geometry, with_given}
use Rattle.halls.specs.Checks.{vertex_bytes_exact, shader_ids, mapping_matches, geometry_count, counts_within_limits, strides_agree, components_inside, vertex_counts_agree, index_counts_agree, indices_in_range, triangles_distinct, image_within_limit, require, every_geometry, verdict}
use Rattle.halls.specs.Every.{every, sum_of}
use Rattle.halls.specs.Hall.{FullGeometry, FullModel, Hall, FullModelInWidth, listed_geometry, hall_bytes}
use Rattle.halls.specs.ImageSize.{geometry_size, model_size, image_size}
use Rattle.halls.specs.Inner.Judging.{indices_lowest_of, lowest_of, inside_stride, given_lowest, lent_lowest}
use Rattle.halls.specs.Inner.Order.{passed, too_large, failing, check_of, verdict_of}
use Rattle.halls.specs.List.{each, write_geometry}
use Rattle.halls.specs.Places.{item, model_place}
use Rattle.halls.specs.Reading.{read}
use Rattle.halls.specs.State.{model_state, hall_of, state_of}
use Rattle.halls.specs.Step.{state_in, rewritten, Stepped}
use Rattle.halls.specs.Inner.Walk.{units, model_units, geometry_units, limits_lowest, Counted}
use Rattle.std.specs.Prelude.{Ok, Err}
use Rattle.halls.specs.Verdict.{Sound, Fails}
use Rattle.halls.specs.declared.check.pass.Summary.{Summary}
use Rattle.halls.proofs.edit.AddedModel.{added-small}
use Rattle.halls.proofs.check.CutLaws.{number-between, over-between, geometries_bytes, record_front, whole_parts, less-parts}
use Rattle.halls.proofs.check.LimitLaws.{whole_lowest, limits_of}
use Rattle.halls.proofs.edit.RemovedLaws.{ModelThere, ModelThere_lem}
use Rattle.halls.proofs.edit.RewrittenLaws.{rewritten-length, rewritten-over, rewritten-more, rewritten-opened}
use Rattle.halls.proofs.EveryLaws.{and_true, every_append}
use Rattle.halls.proofs.edit.SoundEdits.{split-item, item-within, each_item, sum-append, sum-item, sum-replaced, State-item, same_itself}
use Rattle.halls.proofs.SoundLaws.{SoundModel, verdict-sound, sound_models}
use Rattle.halls.proofs.StateLaws.{model_of-state}
use Rattle.halls.proofs.edit.StepLaws.{hall_in, Old, stays_barred, stays-judged, stays_long, becomes-new}
use Rattle.halls.proofs.read.ViewLaws.{geometry_record-length, declaration_record-length, vertices_record-length, indices_record-length}

-- ---- what a given geometry can fail

-- three each
in_threes : (n : ℕ) → eqb n (3 * (n / 3)) ≡ eqb (n % 3) 0
in_threes n = by (eqb (n % 3) 0) refl
  where
    by : (b : Bool) → eqb (n % 3) 0 ≡ b → eqb n (3 * (n / 3)) ≡ b
    by true e = eq-eqb n (3 * (n / 3)) (omega (arith, eqb-true (n % 3) 0 e))
    by false e = ne_eqb n (3 * (n / 3)) (λ z. eqb-false (n % 3) 0 e (omega (arith, z)))

module _ (x : Given) where
  pub given_is : {a b c d : Bool} → eqb (length x.content) (x.count * x.stride) ≡ a → eqb x.declaration.stride x.stride ≡ b
      → inside_stride x.declaration x.stride ≡ c → (leb 1 x.count && leb x.count 65535) ≡ d
      → given_lowest (given_geometry x) ≡ cond a (cond b (cond c (cond d (lent_lowest x.count x.indices) 16) 15) 14) 11
  unfolding given_lowest lowest_of indices_lowest_of inside_stride vertex_bytes_exact strides_agree components_inside vertex_counts_agree index_counts_agree indices_in_range triangles_distinct
  given_is a b c d =
      rw (eq-eqb x.stride x.stride refl, eq-eqb x.count x.count refl, eq-eqb (length x.indices) (length x.indices) refl, and_true (eqb x.declaration.stride x.stride), a, b, c, d, in_threes (length x.indices))

-- ---- the verdict on the result: every other geometry passes already

by_parts : (exact counts strides inside vertices indices range three image : Bool)
    → require 11 exact (require 13 counts (require 14 strides (require 15 inside (require 16 vertices (require 17 indices (require 18 range (require 27 three (require 19 image Sound))))))))
    ≡ verdict_of (min (cond exact (cond strides (cond inside (cond vertices (cond indices (cond range (cond three passed 27) 18) 17) 16) 15) 14) 11) (cond counts (failing too_large image) 13))
by_parts true true true true true true true true true = refl
by_parts true true true true true true true true false = refl
by_parts true true true true true true true false true = refl
by_parts true true true true true true true false false = refl
by_parts true true true true true true false three true = refl
by_parts true true true true true true false three false = refl
by_parts true true true true true false range three true = refl
by_parts true true true true true false range three false = refl
by_parts true true true true false indices range three true = refl
by_parts true true true true false indices range three false = refl
by_parts true true true false vertices indices range three true = refl
by_parts true true true false vertices indices range three false = refl
by_parts true true false inside vertices indices range three true = refl
by_parts true true false inside vertices indices range three false = refl
by_parts true false true true true true true true image = refl
by_parts true false true true true true true false image = refl
by_parts true false true true true true false three image = refl
by_parts true false true true true false range three image = refl
by_parts true false true true false indices range three image = refl
by_parts true false true false vertices indices range three image = refl
by_parts true false false inside vertices indices range three image = refl
by_parts false true strides inside vertices indices range three true = refl
by_parts false true strides inside vertices indices range three false = refl
by_parts false false strides inside vertices indices range three image = refl

-- a test of every item, with another in the place of one
module _ {A : Type 0} (test : A → Bool) where
  every-item : (i : ℕ) (xs : List A) (x : A) → item i xs ≡ Some x → every test xs ≡ true → test x ≡ true
  unfolding every
  every-item zero [] x e all = let z : ◌≡◌ {A = ℕ} 0 1 = cc in absurd (omega arith)
  every-item (suc i) [] x e all = let z : ◌≡◌ {A = ℕ} 0 1 = cc in absurd (omega arith)
  every-item zero (y ∷ ys) x e all = let same : y ≡ x = cc in subst (λ (a : A). test a ≡ true) same (both_true (test y) (every test ys) all).0
  every-item (suc i) (y ∷ ys) x e all = every-item i ys x e (both_true (test y) (every test ys) all).1

  every-replaced : (i : ℕ) (xs : List A) (x y : A) → item i xs ≡ Some x → every test xs ≡ true → every test (replaced i y xs) ≡ test y
  unfolding every
  every-replaced zero [] x y e all = let z : ◌≡◌ {A = ℕ} 0 1 = cc in absurd (omega arith)
  every-replaced (suc i) [] x y e all = let z : ◌≡◌ {A = ℕ} 0 1 = cc in absurd (omega arith)
  every-replaced zero (a ∷ xs) x y e all = rw (both_true (test a) (every test xs) all).1 (and_true (test y))
  every-replaced (suc i) (a ∷ xs) x y e all =
      let b = both_true (test a) (every test xs) all in
      ap (λ (t : Bool). t && every test (replaced i y xs)) b.0 ∙ every-replaced i xs x y e b.1

-- sizes in units of 16 bytes
geometry_units_lem : (g : FullGeometry) → geometry_size g ≡ 16 * geometry_units (length g.vertices.content) (length g.indices.items)
unfolding geometry_size
geometry_units_lem g = omega arith

model_units_lem : (k : FullModel) → length k.mapping ≡ length k.geometries → model_size k ≡ 16 * model_units (length k.geometries) + sum_of geometry_size k.geometries
unfolding model_size
model_units_lem k e = rw e (omega arith)

by_difference : (a u v g s before after : ℕ) → a + u ≡ v + g → before ≡ 16 * u + s → after ≡ 16 * v + (s + (16 * g + 0)) → after ≡ before + 16 * a
by_difference a u v g s before after e f k = omega arith

by_sums : (others one two before after a : ℕ) → two ≡ one + 16 * a → before ≡ others + one → after ≡ others + two → after ≡ before + 16 * a
by_sums others one two before after a e f k = omega arith

more-units : (u parts a front before after : ℕ) → 16 * (1 + u + parts) ≡ front + before → after ≡ before + 16 * a → 16 * (1 + u + (parts + a)) ≡ front + after
more-units u parts a front before after e f = omega arith

-- lists in parts
two-behind : (a q f z : List ℕ) → (a ++ (q ++ f)) ++ z ≡ a ++ (q ++ (f ++ z))
two-behind a q f z = simp append_assoc

three-first : (a q f z : List ℕ) → a ++ (q ++ (f ++ z)) ≡ (a ++ (q ++ f)) ++ z
three-first a q f z = simp append_assoc

four-first : (g d v i : List ℕ) → ((g ++ d) ++ v) ++ i ≡ g ++ (d ++ (v ++ i))
four-first g d v i = simp append_assoc

five-first : (a q f e g z : List ℕ) → a ++ (q ++ (f ++ (e ++ (g ++ z)))) ≡ (a ++ (q ++ (f ++ (e ++ g)))) ++ z
five-first a q f e g z = simp append_assoc

states_long : (h : Hall) → length (state_of h) ≡ length h
unfolding state_of
states_long h = length-map h model_state

module _ (b : List ℕ) (n : ℕ) (o : Old b n) (x : Given) (m : ℕ) (em : m ≡ length (hall_in b n) - 1) (last : FullModel) (is : item m (hall_in b n) ≡ Some last) where
  abbrev h : Hall
  h = hall_in b n

  abbrev y : FullGeometry
  y = given_geometry x

  abbrev gs : List FullGeometry
  gs = last.geometries

  abbrev grown : FullModel
  grown = with_given last x

  abbrev result : Hall
  result = replaced m grown h

  sound-last : SoundModel last
  sound-last = each_item SoundModel m h last is (sound_models h (verdict-sound h o.sound))

  models_are : length h ≡ m + 1
  models_are = omega (arith, item-within m h last is)

  proposed-is : proposed (add_geometry x) (state_in b n) ≡ read result
  unfolding proposed
  proposed-is =
      let count : length (state_in b n) - 1 ≡ m = ap (λ (i : ℕ). i - 1) (states_long h) ∙ sym em in
      let there : item m (state_in b n) ≡ Some (model_state last) = State-item m h ∙ rw is in
      rw (count, there) (ap read
      (ap (λ (k : FullModel). replaced m (with_given k x) (hall_of (state_in b n))) (model_of-state last sound-last)
      ∙ ap (replaced m grown) o.back))

  -- ---- the checks of a hall

  passes : (test : FullGeometry → Bool) → every_geometry test h ≡ true → every_geometry test result ≡ test y
  unfolding every
  passes test all =
      let of-model : FullModel → Bool = λ k. every test k.geometries in
      every-replaced of-model m h last grown is all ∙ every_append test gs (y ∷ []) ∙ rw (every-item of-model m h last is all) (and_true (test y))

  mapped : every mapping_matches result ≡ true
  unfolding mapping_matches
  mapped =
      every-replaced mapping_matches m h last grown is (verdict-sound h o.sound).mappings
      ∙ rw (sound-last.mapping, map-append (λ (g : FullGeometry). g.shader) gs (y ∷ [])) (same_itself (shader_ids gs ++ (x.shader ∷ [])))

  verdict_of_lem : verdict result ≡ verdict_of (min (given_lowest y) (whole_lowest result))
  unfolding verdict given_lowest lowest_of
  verdict_of_lem =
      let f = verdict-sound h o.sound in
      rw (
        passes vertex_bytes_exact f.vertex-bytes,
        mapped,
        passes strides_agree f.strides,
        passes components_inside f.components,
        passes vertex_counts_agree f.vertex-counts,
        passes index_counts_agree f.index-counts,
        passes indices_in_range f.indices,
        passes triangles_distinct f.triangles,
      )
      (by_parts (vertex_bytes_exact y) (counts_within_limits result) (strides_agree y) (components_inside y) (vertex_counts_agree y) (index_counts_agree y) (indices_in_range y) (triangles_distinct y) (image_within_limit result))

  models_same : length result ≡ length h
  models_same = let d = item-within m h last is in simp (length-append, length-take, length-drop) (omega arith)

  entries_are : length last.mapping ≡ length gs
  entries_are = ap length sound-last.mapping ∙ length-map gs (λ (g : FullGeometry). g.shader)

  module _ (r : Summary) (c : Counted h r) (entries added : ℕ) (ee : entries ≡ length last.mapping)
      (ea : added + model_units entries ≡ model_units (entries + 1) + geometry_units (length x.content) (length x.indices)) where
    size-grows : model_size grown ≡ model_size last + 16 * added
    unfolding sum_of
    size-grows =
        let long : length (gs ++ (y ∷ [])) ≡ entries + 1 = length-append gs (y ∷ []) ∙ rw (← entries_are, ← ee) in
        let long-mapping : length (last.mapping ++ (x.shader ∷ [])) ≡ length (gs ++ (y ∷ [])) = length-append last.mapping (x.shader ∷ []) ∙ rw entries_are (sym (length-append gs (y ∷ []))) in
        let before : model_size last ≡ 16 * model_units entries + sum_of geometry_size gs =
        model_units_lem last entries_are ∙ ap (λ (i : ℕ). 16 * model_units i + sum_of geometry_size gs) (sym entries_are ∙ sym ee) in
        let after : model_size grown ≡ 16 * model_units (entries + 1) + sum_of geometry_size (gs ++ (y ∷ [])) =
        model_units_lem grown long-mapping ∙ ap (λ (i : ℕ). 16 * model_units i + sum_of geometry_size (gs ++ (y ∷ []))) long in
        let all : sum_of geometry_size (gs ++ (y ∷ [])) ≡ sum_of geometry_size gs + (16 * geometry_units (length x.content) (length x.indices) + 0) =
        sum-append geometry_size gs (y ∷ []) ∙ ap (λ (i : ℕ). sum_of geometry_size gs + (i + 0)) (geometry_units_lem y) in
        by_difference added (model_units entries) (model_units (entries + 1)) (geometry_units (length x.content) (length x.indices)) (sum_of geometry_size gs) (model_size last) (model_size grown) ea before (after ∙ ap (λ (i : ℕ). 16 * model_units (entries + 1) + i) all)

    size_is : 16 * (1 + units (8 * r.models) + (r.units + added)) ≡ image_size result
    unfolding image_size
    size_is =
        rw models_same
        (more-units (units (8 * r.models)) r.units added _ (sum_of model_size h) (sum_of model_size result) c.image
        (by_sums (sum_of model_size (without m h)) (model_size last) (model_size grown) (sum_of model_size h) (sum_of model_size result) added size-grows (sum-item model_size m h last is) (sum-replaced model_size m grown h)))

    pub verdict-is : verdict result ≡ verdict_of (min (given_lowest y) (limits_lowest r.models (r.geometries + 1) (r.units + added)))
    unfolding geometry_count sum_of
    verdict-is =
        let count : FullModel → ℕ = λ k. length k.geometries in
        let geometries : r.geometries + 1 ≡ geometry_count result =
        omega (arith, c.geometries, sum-item count m h last is, sum-replaced count m grown h, length-append gs (y ∷ [])) in
        verdict_of_lem ∙ ap (λ (l : ℕ). verdict_of (min (given_lowest y) l)) (sym (limits_of result r.models (r.geometries + 1) (r.units + added) (c.models ∙ sym models_same) geometries size_is))

  -- ---- the bytes, in order: the models before, the record's length, the record up to the mapping's end, the new entry, the geometries, the new one

  abbrev models-before : List ℕ
  models-before = hall_bytes (take m h)

  abbrev sized : ℕ → List ℕ
  sized entries = bytes 4 (6 + 2 * entries)

  abbrev front : List ℕ
  front = record_front last last.mapping

  abbrev entry-bytes : List ℕ
  entry-bytes = bytes 2 x.shader

  abbrev held_bytes : List ℕ
  held_bytes = geometries_bytes gs

  abbrev Given-bytes : List ℕ
  Given-bytes = write_geometry (listed_geometry y)

  none-behind : drop (suc m) h ≡ []
  none-behind = let low : length h ≤ suc m = omega (arith, models_are) in drop_of_length-le h low

  Old-is : take n b ≡ models-before ++ (sized (length last.mapping) ++ (front ++ held_bytes))
  unfolding hall_bytes run each
  Old-is =
      sym o.bytes-are ∙ ap hall_bytes (split-item m h last is ∙ ap (λ (d : Hall). take m h ++ (last ∷ d)) none-behind)
      ∙ less-parts (take m h) [] last last.mapping [] gs [] (sym (append-nil last.mapping)) (sym (append-nil gs)) ∙ rw (append-nil (geometries_bytes gs))

  new_is : hall_bytes result ≡ models-before ++ (sized (length last.mapping + 1) ++ (front ++ (entry-bytes ++ (held_bytes ++ Given-bytes))))
  unfolding hall_bytes run each
  new_is =
      ap (λ (d : Hall). hall_bytes (take m h ++ (grown ∷ d))) none-behind
      ∙ whole_parts (take m h) [] grown last.mapping [] gs [] x.shader y refl refl ∙ rw (append-nil Given-bytes, length-append last.mapping (x.shader ∷ []))

  Given-long : length Given-bytes ≡ 65 + length x.content + 4 * length x.indices
  unfolding write_geometry
  Given-long = simp (length-append, geometry_record-length, declaration_record-length, vertices_record-length, indices_record-length) (omega arith)

  front_long : length front ≡ 8 + 2 * length last.mapping
  front_long = simp (length-append, length-bytes, length_run) (omega arith)

  Old-long : n ≡ length models-before + (4 + (8 + 2 * length last.mapping + length held_bytes))
  Old-long =
      let size : List ℕ = sized (length last.mapping) in
      let four : length size ≡ 4 = length-bytes 4 (6 + 2 * length last.mapping) in
      sym (length-take-le n b o.within) ∙ ap length Old-is ∙ length-append models-before (size ++ (front ++ held_bytes))
      ∙ rw (length-append size (front ++ held_bytes), length-append front held_bytes, four, front_long)

  abbrev needed : ℕ
  needed = n + 67 + length x.content + 4 * length x.indices

  -- with the new entry, without the new geometry
  abbrev opened : List ℕ
  opened = models-before ++ (sized (length last.mapping + 1) ++ (front ++ (entry-bytes ++ held_bytes)))

  opened-long : length opened ≡ n + 2
  opened-long =
      let size : List ℕ = sized (length last.mapping + 1) in
      let four : length size ≡ 4 = length-bytes 4 (6 + 2 * (length last.mapping + 1)) in
      let two : length entry-bytes ≡ 2 = length-bytes 2 x.shader in
      length-append models-before (size ++ (front ++ (entry-bytes ++ held_bytes)))
      ∙ rw (length-append size (front ++ (entry-bytes ++ held_bytes)), length-append front (entry-bytes ++ held_bytes), length-append entry-bytes held_bytes, four, two, front_long) (omega (arith, Old-long))

  result-is : hall_bytes result ≡ opened ++ Given-bytes
  result-is = new_is ∙ five-first models-before (sized (length last.mapping + 1)) front entry-bytes held_bytes Given-bytes

  needed-is : needed ≡ length (hall_bytes result)
  needed-is = sym (ap length result-is ∙ length-append opened Given-bytes ∙ rw (opened-long, Given-long) (omega arith))

  -- ---- where the edits are

  module _ (place : ℕ) (ep : place ≡ length models-before) where
    abbrev entry : ℕ
    entry = place + 12 + 2 * length last.mapping

    pub place_low : entry ≤ n
    place_low = omega (arith, Old-long)

    pub size-there : field 4 b place ≡ 6 + 2 * length last.mapping
    size-there =
        let fits : FullModelInWidth last = each_item FullModelInWidth m h last is o.InWidth_lem in
        let behind : List ℕ = front ++ held_bytes in
        ap (λ (l : List ℕ). field 4 l place) (sym (take-append-drop n b) ∙ ap (λ (l : List ℕ). l ++ drop n b) Old-is ∙ two-behind models-before (sized (length last.mapping)) behind (drop n b))
        ∙ number-between models-before (behind ++ drop n b) 4 (6 + 2 * length last.mapping) place (sym ep) (omega (arith, fits.mapping))

    first-is : take entry b ≡ models-before ++ (sized (length last.mapping) ++ front)
    first-is =
        let ahead : List ℕ = models-before ++ (sized (length last.mapping) ++ front) in
        let four : length (sized (length last.mapping)) ≡ 4 = length-bytes 4 (6 + 2 * length last.mapping) in
        let long : length ahead ≡ entry = length-append models-before (sized (length last.mapping) ++ front) ∙ rw (length-append (sized (length last.mapping)) front, four, front_long) (omega arith) in
        sym (take-take entry n b place_low) ∙ ap (take entry) (Old-is ∙ three-first models-before (sized (length last.mapping)) front held_bytes) ∙ take_at ahead held_bytes entry long

    moved-is : part b entry (n - entry) ≡ held_bytes
    unfolding part
    moved-is =
        let ahead : List ℕ = models-before ++ (sized (length last.mapping) ++ front) in
        let four : length (sized (length last.mapping)) ≡ 4 = length-bytes 4 (6 + 2 * length last.mapping) in
        let long : length ahead ≡ entry = length-append models-before (sized (length last.mapping) ++ front) ∙ rw (length-append (sized (length last.mapping)) front, four, front_long) (omega arith) in
        let rest : length held_bytes ≡ n - entry = omega (arith, Old-long) in
        let buffer : b ≡ ahead ++ (held_bytes ++ drop n b) =
        sym (take-append-drop n b) ∙ ap (λ (l : List ℕ). l ++ drop n b) (Old-is ∙ three-first models-before (sized (length last.mapping)) front held_bytes) ∙ append_assoc ahead held_bytes (drop n b) in
        ap (λ (l : List ℕ). take (n - entry) (drop entry l)) buffer ∙ rw (drop_at ahead (held_bytes ++ drop n b) entry long) (take_at held_bytes (drop n b) (n - entry) rest)

    -- what the edits leave
    module _ {r : Bool} {t t₂ u : List ℕ} (room : needed ≤ length b)
        (gap : t ≡ overwrite b entry (entry-bytes ++ part b entry (n - entry)))
        (longer : Edited (fits t place 4) t place (bytes 4 (6 + 2 * (length last.mapping + 1))) r t₂)
        (put : u ≡ overwrite t₂ (n + 2) Given-bytes) where
      abbrev stretched : List ℕ
      stretched = models-before ++ (sized (length last.mapping) ++ (front ++ (entry-bytes ++ held_bytes)))

      stretched-long : length stretched ≡ n + 2
      stretched-long =
          let size : List ℕ = sized (length last.mapping) in
          let four : length size ≡ 4 = length-bytes 4 (6 + 2 * length last.mapping) in
          let two : length entry-bytes ≡ 2 = length-bytes 2 x.shader in
          length-append models-before (size ++ (front ++ (entry-bytes ++ held_bytes)))
          ∙ rw (length-append size (front ++ (entry-bytes ++ held_bytes)), length-append front (entry-bytes ++ held_bytes), length-append entry-bytes held_bytes, four, two, front_long) (omega (arith, Old-long))

      gap_is : t ≡ rewritten b n stretched
      gap_is =
          let two : length entry-bytes ≡ 2 = length-bytes 2 x.shader in
          let long : n ≤ entry + length (entry-bytes ++ held_bytes) = rw (length-append entry-bytes held_bytes, two) (omega (arith, Old-long)) in
          gap ∙ ap (λ (l : List ℕ). overwrite b entry (entry-bytes ++ l)) moved-is ∙ rewritten-opened b n entry (entry-bytes ++ held_bytes) place_low o.within long
          ∙ ap (λ (l : List ℕ). rewritten b n (l ++ (entry-bytes ++ held_bytes))) first-is ∙ ap (rewritten b n) (two-behind models-before (sized (length last.mapping)) front (entry-bytes ++ held_bytes))

      longer_is : t₂ ≡ rewritten b n opened
      longer_is =
          let v : List ℕ = sized (length last.mapping + 1) in
          let behind : List ℕ = front ++ (entry-bytes ++ held_bytes) in
          let four : length v ≡ 4 = length-bytes 4 (6 + 2 * (length last.mapping + 1)) in
          let four-before : length (sized (length last.mapping)) ≡ 4 = length-bytes 4 (6 + 2 * length last.mapping) in
          let inside : place + length v ≤ length stretched = rw (four, stretched-long) (omega (arith, place_low)) in
          let same : length t ≡ length b = ap length gap_is ∙ rewritten-length b n stretched o.within (rw stretched-long (omega arith)) in
          Edited-fits 4 longer (omega (arith, place_low, same, o.within)) ∙ ap (λ (l : List ℕ). overwrite l place v) gap_is ∙ rewritten-over b n stretched place v inside
          ∙ ap (rewritten b n) (over-between models-before (sized (length last.mapping)) v behind place (sym ep) (four-before ∙ sym four))

      done_is : u ≡ rewritten b n (hall_bytes result)
      done_is =
          let long : n ≤ length opened = omega (arith, opened-long) in
          put ∙ ap (λ (l : List ℕ). overwrite l (n + 2) Given-bytes) longer_is
          ∙ ap (λ (i : ℕ). overwrite (rewritten b n opened) i Given-bytes) (sym opened-long) ∙ rewritten-more b n opened Given-bytes long ∙ ap (rewritten b n) (sym result-is)

      pub geometry-added : verdict result ≡ Sound → Stepped (add_geometry x) b n (Ok needed) u
      geometry-added v = becomes-new (add_geometry x) b n o result proposed-is v needed u needed-is room done_is

  pub GeometryJudged_lem : (check : ℕ) → verdict result ≡ Fails check → Stepped (add_geometry x) b n (Err (record { check = check; needed = 0 })) b
  GeometryJudged_lem check v = stays-judged (add_geometry x) b n o result proposed-is check v

  pub geometry-long : verdict result ≡ Sound → length b < needed → Stepped (add_geometry x) b n (Err (record { check = 24; needed = needed })) b
  geometry-long v l = stays_long (add_geometry x) b n o result proposed-is v needed needed-is l

-- no model at all
pub no-model : (b : List ℕ) (n : ℕ) (o : Old b n) (x : Given) → length (hall_in b n) ≡ 0 → Stepped (add_geometry x) b n (Err (record { check = 21; needed = 0 })) b
unfolding proposed
no-model b n o x e =
    let m : ℕ = length (hall_in b n) - 1 in
    let count : length (state_in b n) - 1 ≡ m = ap (λ (i : ℕ). i - 1) (states_long (hall_in b n)) in
    let lacks : item m (state_in b n) ≡ None = State-item m (hall_in b n) ∙ rw (drop_of_length-le (hall_in b n) {i = m} (omega arith)) in
    stays_barred (add_geometry x) b n o 21 (rw (count, lacks))

-- ---- what the code does, step by step

pub entry_inserted : (b : List ℕ) (n entry shader : ℕ) {r r₂ : Bool} {t u : List ℕ} → entry ≤ n → n + 2 ≤ length b
    → Edited (fits b entry (n - entry) && fits b (entry + 2) (n - entry)) b (entry + 2) (part b entry (n - entry)) r t → Edited (fits t entry 2) t entry (bytes 2 shader) r₂ u
    → u ≡ overwrite b entry (bytes 2 shader ++ part b entry (n - entry))
entry_inserted b n entry shader {r} {r₂} {t} {u} h k moved put =
    let d : ℕ = n - entry in
    let from : entry + d ≤ length b = omega arith in
    let to : entry + 2 + d ≤ length b = omega arith in
    let long : length (part b entry d) ≡ d = part_length b entry d from in
    let first : t ≡ overwrite b (entry + 2) (part b entry d) = rw (le-leb (entry + d) (length b) from, le-leb (entry + 2 + d) (length b) to) at moved.bytes in
    let same : length t ≡ length b = ap length first ∙ overwrite-length b (entry + 2) (part b entry d) (rw long to) in
    Edited-fits 2 put (omega arith) ∙ ap (λ (l : List ℕ). overwrite l entry (bytes 2 shader)) first
    ∙ overwrite-ahead b entry 2 (bytes 2 shader) (part b entry d) (length-bytes 2 shader) (rw long to)

-- four records, one behind the other
pub four-put : (s : List ℕ) (at k : ℕ) (g d v i : List ℕ) {t t₂ t₃ u : List ℕ} → length g ≡ 20 → length d ≡ 22 → length v ≡ 13 + k → at + (55 + k + length i) ≤ length s
    → t ≡ overwrite s at g → t₂ ≡ overwrite t (at + 20) d → t₃ ≡ overwrite t₂ (at + 42) v → u ≡ overwrite t₃ (at + 55 + k) i → u ≡ overwrite s at (g ++ (d ++ (v ++ i)))
four-put s at k g d v i {t} {t₂} {t₃} {u} lg ld lv room a b c e =
    let two : length (g ++ d) ≡ 42 = length-append g d ∙ rw (lg, ld) in
    let three : length ((g ++ d) ++ v) ≡ 55 + k = length-append (g ++ d) v ∙ rw (two, lv) (omega arith) in
    let place : at + 55 + k ≡ at + (55 + k) = omega arith in
    let first = overwrite-behind s at g 20 d a lg b (omega arith) in
    let second = overwrite-behind s at (g ++ d) 42 v first two c (omega arith) in
    overwrite-behind s at ((g ++ d) ++ v) (55 + k) i second three (e ∙ ap (λ (q : ℕ). overwrite t₃ q i) place) (omega arith) ∙ ap (overwrite s at) (four-first g d v i)

-- what the image grows by bounds the given parts
pub grown-small : (a e c h : ℕ) → a + model_units e ≡ model_units (e + 1) + geometry_units c h → a ≤ 4194304 → (c ≤ 67108864) × (h ≤ 33554432)
grown-small a e c h q l =
    let p : units (8 * e) ≤ units (8 * (e + 1)) = omega arith in
    let s : units (2 * e) ≤ units (2 * (e + 1)) = omega arith in
    let both : units c + units (2 * h) ≤ 4194304 = few a (units (8 * e)) (units (8 * (e + 1))) (units (2 * e)) (units (2 * (e + 1))) (units c) (units (2 * h)) q l p s in
    (few_bytes c (units (2 * h)) both, few_words h (units c) both)
  where
    few : (a p q s t c h : ℕ) → a + (3 + p + s) ≡ 3 + q + t + (25 + c + h) → a ≤ 4194304 → p ≤ q → s ≤ t → c + h ≤ 4194304
    few a p q s t c h e l f g = omega arith

    few_bytes : (c k : ℕ) → units c + k ≤ 4194304 → c ≤ 67108864
    few_bytes c k l = omega arith

    few_words : (h k : ℕ) → k + units (2 * h) ≤ 4194304 → h ≤ 33554432
    few_words h k l = omega arith

few-units-of : (u parts a image : ℕ) → 16 * (1 + u + (parts + a)) ≡ image → image ≤ 67108864 → a ≤ 4194304
few-units-of u parts a image e l = omega arith

-- the checks of a geometry do not ask for its shader
any_shader : (x : Given) (s : ℕ) → given_lowest (given_geometry x) ≡ given_lowest (given_geometry (record { shader = s; declaration = x.declaration; stride = x.stride; count = x.count; content = x.content; indices = x.indices }))
unfolding given_lowest lowest_of vertex_bytes_exact strides_agree components_inside vertex_counts_agree index_counts_agree indices_in_range triangles_distinct
any_shader x s = refl

module _ (b : List ℕ) (n : ℕ) (o : Old b n) (x : Given) (r : Summary) (c : Counted (hall_in b n) r) (place : ℕ) (f : (model_place (hall_in b n) (r.models - 1)) ≡ Some place)
    (size : ℕ) (es : size ≡ field 4 b place) where
  abbrev place_of : ModelThere (hall_in b n) (r.models - 1) place
  place_of = ModelThere_lem (hall_in b n) (r.models - 1) place f

  abbrev ended : FullModel
  ended = place_of.it

  last_one : r.models - 1 ≡ length (hall_in b n) - 1
  last_one = ap (λ (i : ℕ). i - 1) c.models

  size_of : size ≡ 6 + 2 * length ended.mapping
  size_of = es ∙ size-there b n o x (r.models - 1) last_one ended place_of.is place place_of.begins

  pub record Room : Type 0 where
    pub some_size : 6 ≤ size
    pub entry-low : place + 6 + size ≤ n
    pub few_entries : size ≤ 6 + 2 * 16384
    pub few-geometries : r.geometries ≤ 16384
    pub few-units : r.units ≤ 4194304

  pub size_room : Room
  unfolding counts_within_limits geometry_count
  size_room =
      let h : Hall = hall_in b n in
      let counts = both_true (leb (length h) 256) (leb (geometry_count h) 16384) (verdict-sound h o.sound).counts in
      let low : geometry_count h ≤ 16384 = leb-true (geometry_count h) 16384 counts.1 in
      let sum = sum-item (λ (k : FullModel). length k.geometries) (r.models - 1) h ended place_of.is in
      let same = entries_are b n o x (r.models - 1) last_one ended place_of.is in
      record {
        some_size = omega (arith, size_of);
        entry-low = omega (arith, size_of, place_low b n o x (r.models - 1) last_one ended place_of.is place place_of.begins);
        few_entries = omega (arith, size_of, sum, same, low);
        few-geometries = omega (arith, c.geometries, low);
        few-units = added-small b n 0 0 o r c;
      }

  module _ (own added lowest : ℕ)
      (eo : own ≡ given_lowest (given_geometry x))
      (ea : added + model_units ((size - 6) / 2) ≡ model_units ((size - 6) / 2 + 1) + geometry_units (length x.content) (length x.indices))
      (el : lowest ≡ min own (limits_lowest r.models (r.geometries + 1) (r.units + added))) where
    abbrev new-hall : Hall
    new-hall = replaced (r.models - 1) (with_given ended x) (hall_in b n)

    judged-as : verdict new-hall ≡ verdict_of lowest
    judged-as =
        let entries : (size - 6) / 2 ≡ length ended.mapping = omega (arith, size_of) in
        verdict-is b n o x (r.models - 1) last_one ended place_of.is r c ((size - 6) / 2) added entries ea
        ∙ ap (λ (l : ℕ). verdict_of (min l (limits_lowest r.models (r.geometries + 1) (r.units + added)))) (sym eo) ∙ ap (λ (l : ℕ). verdict_of l) (sym el)

    pub added-judged : lowest < passed → Stepped (add_geometry x) b n (Err (record { check = check_of lowest; needed = 0 })) b
    added-judged l = GeometryJudged_lem b n o x (r.models - 1) last_one ended place_of.is (check_of lowest) (judged-as ∙ rw (lt-leb passed lowest l))

    module _ (passing : passed ≤ lowest) where
      new-sound : verdict new-hall ≡ Sound
      new-sound = judged-as ∙ rw (le-leb passed lowest passing)

      abbrev new-length : ℕ
      new-length = n + 67 + length x.content + 4 * length x.indices

      pub added-long : length b < new-length → Stepped (add_geometry x) b n (Err (record { check = 24; needed = new-length })) b
      added-long l = geometry-long b n o x (r.models - 1) last_one ended place_of.is new-sound l

      pub added-done : {q : Bool} {t t₂ u : List ℕ} → new-length ≤ length b
          → t ≡ overwrite b (place + 6 + size) (bytes 2 x.shader ++ part b (place + 6 + size) (n - (place + 6 + size)))
          → Edited (fits t place 4) t place (bytes 4 (size + 2)) q t₂ → u ≡ overwrite t₂ (n + 2) (write_geometry (listed_geometry (given_geometry x)))
          → Stepped (add_geometry x) b n (Ok new-length) u
      added-done {q} {t} {t₂} {u} room gap longer put =
          let at : place + 6 + size ≡ place + 12 + 2 * length ended.mapping = omega (arith, size_of) in
          let number : size + 2 ≡ 6 + 2 * (length ended.mapping + 1) = omega (arith, size_of) in
          geometry-added b n o x (r.models - 1) last_one ended place_of.is place place_of.begins room
          (gap ∙ ap (λ (i : ℕ). overwrite b i (bytes 2 x.shader ++ part b i (n - i))) at)
          (subst (λ (i : ℕ). Edited (fits t place 4) t place (bytes 4 i) q t₂) number longer) put new-sound

      pub parts-small : (x.count ≤ 65535) × (length x.content ≤ 67108864) × (length x.indices ≤ 33554432)
      unfolding vertex_counts_agree image_within_limit
      parts-small =
          let v = verdict-sound new-hall new-sound in
          let m : ℕ = r.models - 1 in
          let agree : vertex_counts_agree (given_geometry x) ≡ true = sym (passes b n o x m last_one ended place_of.is vertex_counts_agree (verdict-sound (hall_in b n) o.sound).vertex-counts) ∙ v.vertex-counts in
          let counts = both_true (leb 1 x.count) (leb x.count 65535) (both_true (eqb x.count x.count) _ agree).1 in
          let entries : (size - 6) / 2 ≡ length ended.mapping = omega (arith, size_of) in
          let image : image_size new-hall ≤ 67108864 = leb-true (image_size new-hall) 67108864 v.image in
          let all = size_is b n o x m last_one ended place_of.is r c ((size - 6) / 2) added entries ea in
          let low : added ≤ 4194304 = few-units-of (units (8 * r.models)) r.units added (image_size new-hall) all image in
          let small = grown-small added ((size - 6) / 2) (length x.content) (length x.indices) ea low in
          (leb-true x.count 65535 counts.1, small.0, small.1)
