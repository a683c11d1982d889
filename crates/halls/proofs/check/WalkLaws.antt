-- The walk over a hall's list: its start, a model or a geometry passed, and its ends.
use mathlib.Core.Path.{◌≡◌, refl, sym, ap, ◌∙◌, subst}
use mathlib.Core.Bool.{Bool, true, false, cond, ◌&&◌, ◌||◌}
use mathlib.Core.List.{List, [], ◌∷◌}
use mathlib.Core.Logic.{◌⊎◌, inl, inr}
use Prim.Native.Nat.{ℕ, zero, suc, ◌+◌, ◌*◌, ◌-◌, ◌/◌, ◌≤◌, ◌<◌, min}
use native.Mathlib.Nat.{add-zero, lt_of_not-le}
use native.Mathlib.Decide.{dec_le}
use native.Mathlib.Omega.{arith}
use borrow.Author.Tests.{eq-eqb, ne_eqb, eqb-true, le-ltb, lt-ltb}
use lib.Dec.{eqb, ltb}
use lib.ListN.{length, take, drop, length-drop}
use lib.Seq.{drop-drop, take_all}
use Rattle.std.specs.Borrow.{Bor}
use Rattle.std.specs.Prelude.{Option, Some, None}
use Rattle.sections.specs.Edit.{part}
use Rattle.sections.specs.Le.{field}
use Rattle.sections.proofs.EditLaws.{part_length}
use Rattle.sections.proofs.LeLaws.{field_in}
use Rattle.vertices.specs.Runs.{numbers}
use Rattle.halls.specs.Every.{every}
use Rattle.halls.specs.Hall.{FullGeometry}
use Rattle.halls.specs.Inner.HallRecords.{of_kind}
use Rattle.halls.specs.Fronts.{GeometryFront, front_geometry}
use Rattle.halls.specs.Inner.Judging.{lowest_of}
use Rattle.halls.specs.Inner.Order.{passed, failing}
use Rattle.halls.specs.Parsing.{whole, follows, may_end, ordered, exact, structured, geometry_in, mapping_count}
use Rattle.halls.specs.Records.{Record, records}
use Rattle.halls.specs.Inner.Walk.{front_of, well_from, leads, rest, is_empty, entries_in, lowest_from, kind_count, model_units, geometry_units, units_from, left_of, start_tally, mark_of, before_of, Walked, Onward, Turned}
use Rattle.halls.specs.declared.format.front.Front.TheVariants.{Model, Geometry}
use Rattle.halls.specs.declared.check.pass.Tally.{Tally}
use Rattle.halls.proofs.format.FrontLaws.{ModelFront, ModelFront_lem, records-model, well-model, FourRecords, FourRecords_lem, records-geometry, well-geometry, well_no-model, well_broken, content_length_lem, indices_length_lem, geometry-long}
use Rattle.halls.proofs.check.JudgingLaws.{field-part, numbers-part}
use Rattle.halls.proofs.check.MarkLaws.{marked_start, Marked-model, Marked-geometry}
use Rattle.halls.proofs.format.RecordLaws.{field-drop}

-- ---- mappings

pub is_empty_lem : (n : ℕ) (s : List ℕ) → is_empty (numbers 2 n s) ≡ eqb n 0
unfolding numbers
is_empty_lem zero s = refl
is_empty_lem (suc n) s = sym (ne_eqb (suc n) 0 (λ e. omega arith))

rest_of : (n : ℕ) (s : List ℕ) (at : ℕ) → rest (numbers 2 n (drop at s)) ≡ numbers 2 (n - 1) (drop (at + 2) s)
unfolding numbers
rest_of zero s at = refl
rest_of (suc n) s at = let e : suc n - 1 ≡ n = omega arith in rw (e, drop-drop 2 at s)

-- of the entries in some bytes
module _ (b : List ℕ) where
  pub none-left : is_empty (entries_in b) ≡ ltb (length b) 2
  none-left =
      elim (dec_le 2 (length b)) [
        | yes y ↦ is_empty_lem (length b / 2) b ∙ rw (ne_eqb (length b / 2) 0 (λ e. omega (arith, e, y)), le-ltb (length b) 2 y)
        | no y ↦ let few = lt_of_not-le y in is_empty_lem (length b / 2) b ∙ rw (eq-eqb (length b / 2) 0 (omega (arith, few)), lt-ltb (length b) 2 few)
      ]

  rest_left : (k : ℕ) → k ≡ min (length b) 2 → rest (entries_in b) ≡ entries_in (drop k b)
  unfolding numbers
  rest_left k e =
      let long : length (drop k b) ≡ length b - k = length-drop k b in
      elim (dec_le 2 (length b)) [
        | yes y ↦
            let two : k ≡ 2 = omega (arith, e, y) in
            let n : length b / 2 - 1 ≡ length (drop k b) / 2 = omega (arith, long, two, y) in
            rest_of (length b / 2) b 0 ∙ rw (n, two)
        | no y ↦
            let few = lt_of_not-le y in
            let zero-here : length b / 2 ≡ 0 = omega (arith, few) in
            let zero-there : length (drop k b) / 2 ≡ 0 = omega (arith, long, few) in
            rw (zero-here, zero-there)
      ]

entries_of_part : (s : List ℕ) (at n : ℕ) → at + 2 * n ≤ length s → entries_in (part s at (2 * n)) ≡ numbers 2 n (drop at s)
entries_of_part s at n h =
    let l : length (part s at (2 * n)) / 2 ≡ n = omega (arith, part_length s at (2 * n) h) in
    rw l (numbers-part 2 n s at (2 * n) 0 (omega arith) ∙ ap (λ (i : ℕ). numbers 2 n (drop i s)) (add-zero at))

-- ---- order

follows-model : (first : Bool) → follows (cond first 0 5) 1 ≡ true
unfolding follows
follows-model true = refl
follows-model false = refl

begins : (first : Bool) (k : ℕ) → follows (cond first 0 5) k ≡ true → (k ≡ 1) ⊎ (k ≡ 2)
unfolding follows
begins true k e = inl (eqb-true k 1 e)
begins false k e = on (eqb k 1) refl e
  where
    on : (t : Bool) → eqb k 1 ≡ t → (t || eqb k 2) ≡ true → (k ≡ 1) ⊎ (k ≡ 2)
    on true h e = inl (eqb-true k 1 h)
    on false h e = inr (eqb-true k 2 e)

-- what may stand behind a model's record may stand behind a geometry
ordered_same : (rs : List Record) → ordered 1 rs ≡ ordered 5 rs
unfolding ordered follows may_end
ordered_same [] = refl
ordered_same (r ∷ rs) = refl

well_same : (s : List ℕ) → well_from 1 s ≡ well_from 5 s
unfolding well_from
well_same s = ap (λ (b : Bool). whole s && (b && every exact (records s))) (ordered_same (records s))

later : (n : ℕ) → 0 < n → ◌≡◌ {A = ℕ} (cond (eqb n 0) 0 5) 5
later n h = rw (ne_eqb n 0 (λ e. omega arith))

joined : (a b c : ℕ) → min a (min b c) ≡ min (min a b) c
joined a b c = omega arith

-- ---- start

pub walk_start : (s : List ℕ) (l : Bor (List ℕ)) → l.now ≡ [] → Walked s (start_tally l)
unfolding structured well_from numbers
walk_start s l none = record {
  within = omega arith;
  structure = refl;
  lowest = ap (λ (b : List ℕ). min passed (lowest_from (entries_in b) (records s))) (sym none);
  models = omega arith;
  geometries = omega arith;
  image = omega arith;
  few = omega arith;
  small = omega arith;
  first = omega arith;
  marked = marked_start s l;
}

-- ---- a model passed

module _ (s : List ℕ) (t : Tally) (w : Walked s t) (entries : ℕ) (e : Some (Model entries) ≡ front_of (drop t.at s)) where
  abbrev left : List ℕ
  left = drop t.at s

  front : ModelFront left entries
  front = ModelFront_lem left entries e

  abbrev next : ℕ
  next = t.at + 12 + 2 * entries

  behind : drop (12 + 2 * entries) left ≡ drop next s
  behind = let place : t.at + (12 + 2 * entries) ≡ next = omega arith in rw (drop-drop (12 + 2 * entries) t.at s, place)

  abbrev body : List ℕ
  body = part left 6 (6 + 2 * entries)

  passed-record : records left ≡ of_kind 1 body ∷ records (drop next s)
  passed-record = records-model left entries front ∙ ap (λ (l : List ℕ). of_kind 1 body ∷ records l) behind

  body_length_lem : length body ≡ 6 + 2 * entries
  body_length_lem = part_length left 6 (6 + 2 * entries) (omega (arith, front.first.fits))

  pub ModelFits_lem : next ≤ length s
  ModelFits_lem = omega (arith, front.first.fits, length-drop t.at s, w.within)

  length-read : field 4 s t.at ≡ 6 + 2 * entries
  length-read =
      let place : t.at + 0 ≡ t.at = omega arith in
      rw (← place) (sym (field-drop 4 s t.at 0 (omega (arith, front.first.fits, length-drop t.at s, w.within))) ∙ front.first.length-is)

  entries-read : numbers 2 (mapping_count body) (drop 6 body) ≡ numbers 2 entries (drop (t.at + 12) s)
  entries-read =
      let n : mapping_count body ≡ entries = omega (arith, body_length_lem) in
      rw n (numbers-part 2 entries left 6 (6 + 2 * entries) 6 (omega arith) ∙ rw (drop-drop 12 t.at s))

  lowest_step : lowest_from (left_of t) (records left) ≡ min (failing 12 (is_empty (left_of t))) (lowest_from (numbers 2 entries (drop (t.at + 12) s)) (records (drop next s)))
  unfolding lowest_from
  lowest_step =
      ap (lowest_from (left_of t)) passed-record ∙ rw entries-read

  entries-left : (l : Bor (List ℕ)) {n : ℕ} → l.now ≡ take n (drop (t.at + 12) s) → n ≡ 2 * entries → entries_in l.now ≡ numbers 2 entries (drop (t.at + 12) s)
  unfolding part
  entries-left l e f = rw (e, f) (entries_of_part s (t.at + 12) entries ModelFits_lem)

  pub model-turned : (lowest image : ℕ) (l : Bor (List ℕ)) {n : ℕ} → lowest ≡ min t.lowest (failing 12 (is_empty (left_of t))) → image ≡ t.summary.units + model_units entries
      → l.now ≡ take n (drop (t.at + 12) s) → n ≡ 2 * entries
      → Turned s t (Some (record { at = next; lowest = lowest; summary = record { models = t.summary.models + 1; geometries = t.summary.geometries; units = image }; model = t.at; first = t.summary.geometries; left = l }))
  unfolding Turned kind_count units_from
  model-turned lowest image l o i r q =
      let ones : kind_count 1 (records left) ≡ 1 + kind_count 1 (records (drop next s)) = ap (kind_count 1) passed-record in
      let twos : kind_count 2 (records left) ≡ 0 + kind_count 2 (records (drop next s)) = ap (kind_count 2) passed-record in
      let n : mapping_count body ≡ entries = omega (arith, body_length_lem) in
      let parts : units_from (records left) ≡ model_units entries + units_from (records (drop next s)) = ap units_from passed-record ∙ rw n in (
        record {
          within = ModelFits_lem;
          structure = w.structure ∙ well-model left entries front (before_of t) (follows-model (eqb t.summary.models 0)) ∙ ap (well_from 1) behind ∙ well_same (drop next s) ∙ ap (λ (b : ℕ). well_from b (drop next s)) (sym (later (t.summary.models + 1) (omega arith)));
          lowest = w.lowest ∙ ap (min t.lowest) lowest_step ∙ joined t.lowest (failing 12 (is_empty (left_of t))) _ ∙ rw (← o, entries-left l r q);
          models = omega (arith, w.models);
          geometries = omega (arith, w.geometries);
          image = omega (arith, w.image);
          few = omega (arith, w.few);
          small = omega (arith, w.small);
          first = omega arith;
          marked = Marked-model s (mark_of t) _ w.marked ModelFits_lem body passed-record (omega (arith, body_length_lem)) (length-read ∙ sym body_length_lem) refl refl (omega arith);
        },
        record { further = omega arith; some-model = omega arith; same_or-next = inr (refl, refl) },
      )

-- ---- a geometry passed

pub GeometryFront_lem : (s : List ℕ) (content held : ℕ) → Some (Geometry (record { content = content; held = held })) ≡ front_of s → GeometryFront s content held
GeometryFront_lem s content held e =
    let g = FourRecords_lem s content held e in
    record { content-is = g.content-is; held-is = g.held-is; long = geometry-long s content held g }

module _ (s : List ℕ) (t : Tally) (w : Walked s t) (content held : ℕ) (e : Some (Geometry (record { content = content; held = held })) ≡ front_of (drop t.at s)) where
  abbrev here : List ℕ
  here = drop t.at s

  four : FourRecords here content held
  four = FourRecords_lem here content held e

  abbrev beyond : ℕ
  beyond = t.at + 65 + content + 4 * held

  behind-it : drop (65 + content + 4 * held) here ≡ drop beyond s
  behind-it = let place : t.at + (65 + content + 4 * held) ≡ beyond = omega arith in rw (drop-drop (65 + content + 4 * held) t.at s, place)

  abbrev with_rest : List Record → List Record
  with_rest rs = of_kind 2 (part here 6 14) ∷ of_kind 3 (part here 26 16) ∷ of_kind 4 (part here 48 (7 + content)) ∷ of_kind 5 (part here (61 + content) (4 + 4 * held)) ∷ rs

  passed-records : records here ≡ with_rest (records (drop beyond s))
  passed-records = records-geometry here content held four ∙ ap (λ (l : List ℕ). with_rest (records l)) behind-it

  passed_length : t.at + 6 + length (part here 6 14) + 6 + length (part here 26 16) + 6 + length (part here 48 (7 + content)) + 6 + length (part here (61 + content) (4 + 4 * held)) ≡ beyond
  passed_length =
      let two : length (part here 6 14) ≡ 14 = part_length here 6 14 (omega (arith, four.first.fits)) in
      let three : length (part here 26 16) ≡ 16 = part_length here 26 16 (omega (arith, four.second.fits)) in
      omega (arith, two, three, content_length_lem here content held four, indices_length_lem here content held four)

  pub GeometryFits_lem : beyond ≤ length s
  GeometryFits_lem = omega (arith, geometry-long here content held four, length-drop t.at s, w.within)

  abbrev read : FullGeometry
  read = geometry_in (part here 6 14) (part here 26 16) (part here 48 (7 + content)) (part here (61 + content) (4 + 4 * held))

  read_is : front_geometry here ≡ read
  unfolding front_geometry
  read_is = rw (← four.content-is, ← four.held-is)

  shader_is : read.shader ≡ field 2 s (t.at + 6)
  shader_is = field-part 2 here 6 14 0 (omega arith) (omega (arith, four.first.fits)) ∙ field-drop 2 s t.at 6 (omega (arith, four.first.fits, length-drop t.at s, w.within))

  lowest-geometry : (answer found shader : ℕ) → shader ≡ field 2 s (t.at + 6) → answer ≡ failing 12 (leads shader (left_of t)) → found ≡ lowest_of (front_geometry here)
      → lowest_from (left_of t) (records here) ≡ min (min answer found) (lowest_from (rest (left_of t)) (records (drop beyond s)))
  unfolding lowest_from
  lowest-geometry answer found shader x a f =
      let shader-same : read.shader ≡ shader = shader_is ∙ sym x in
      ap (lowest_from (left_of t)) passed-records
      ∙ rw (a, f, read_is, shader-same)

  pub geometry-turned : (lowest image answer found shader : ℕ) (l : Bor (List ℕ)) (k : ℕ) → (t.summary.models ≡ 0 → ⊥) → shader ≡ field 2 s (t.at + 6) → answer ≡ failing 12 (leads shader (left_of t))
      → found ≡ lowest_of (front_geometry here) → lowest ≡ min t.lowest (min answer found) → image ≡ t.summary.units + geometry_units content held → k ≡ min (length t.left.now) 2
      → l.now ≡ drop k t.left.now
      → Turned s t (Some (record { at = beyond; lowest = lowest; summary = record { models = t.summary.models; geometries = t.summary.geometries + 1; units = image }; model = t.model; first = t.first; left = l }))
  unfolding Turned kind_count units_from
  geometry-turned lowest image answer found shader l k m x a f o i c r =
      let ones : kind_count 1 (records here) ≡ kind_count 1 (records (drop beyond s)) = ap (kind_count 1) passed-records ∙ omega arith in
      let twos : kind_count 2 (records here) ≡ 1 + kind_count 2 (records (drop beyond s)) = ap (kind_count 2) passed-records ∙ omega arith in
      let v : length (part here 48 (7 + content)) - 7 ≡ content = omega (arith, content_length_lem here content held four) in
      let h : (length (part here (61 + content) (4 + 4 * held)) - 4) / 4 ≡ held = omega (arith, indices_length_lem here content held four) in
      let parts : units_from (records here) ≡ geometry_units content held + units_from (records (drop beyond s)) = ap units_from passed-records ∙ rw (v, h) in
      let before : before_of t ≡ 5 = later t.summary.models (omega arith) in (
        record {
          within = GeometryFits_lem;
          structure = w.structure ∙ rw before (well-geometry here content held four ∙ ap (well_from 5) behind-it);
          lowest = w.lowest ∙ ap (min t.lowest) (lowest-geometry answer found shader x a f) ∙ joined t.lowest (min answer found) _ ∙ rw (o, r, rest_left t.left.now k c);
          models = omega (arith, w.models);
          geometries = omega (arith, w.geometries);
          image = omega (arith, w.image);
          few = omega (arith, w.few);
          small = omega (arith, w.small);
          first = omega (arith, w.first);
          marked = Marked-geometry s (mark_of t) _ w.marked GeometryFits_lem (part here 6 14) (part here 26 16) (part here 48 (7 + content)) (part here (61 + content) (4 + 4 * held)) passed-records
              passed_length refl refl (omega (arith, w.first));
        },
        record { further = omega arith; some-model = omega arith; same_or-next = inl refl },
      )

  pub geometry-stops : t.summary.models ≡ 0 → Turned s t None
  unfolding Turned
  geometry-stops z = w.structure ∙ rw z (well_no-model here content held four)

-- ---- neither

pub broken_stops : (s : List ℕ) (t : Tally) → Walked s t → t.at < length s → None ≡ front_of (drop t.at s) → Turned s t None
unfolding Turned
broken_stops s t w h e = w.structure ∙ well_broken (drop t.at s) (before_of t) (begins (eqb t.summary.models 0)) (rw length-drop (omega arith)) e

-- ---- as the code tests

pub leads-none : {left : ℕ} (s : List ℕ) (mapping shader : ℕ) → left ≡ 0 → leads shader (numbers 2 left (drop mapping s)) ≡ false
unfolding numbers
leads-none s mapping shader e = rw e

pub leads-first : (left : ℕ) (s : List ℕ) (mapping shader : ℕ) → (left ≡ 0 → ⊥) → mapping + 2 * left ≤ length s → leads shader (numbers 2 left (drop mapping s)) ≡ eqb (field 2 s mapping) shader
unfolding numbers part
leads-first zero s mapping shader f h = absurd (f refl)
leads-first (suc left) s mapping shader f h = rw (field_in 2 s mapping (omega arith))

pub answered-none : {left : ℕ} (s : List ℕ) (mapping shader : ℕ) → left ≡ 0 → 12 ≡ failing 12 (leads shader (numbers 2 left (drop mapping s)))
answered-none s mapping shader e = rw (leads-none s mapping shader e)

pub answered_other : {left found : ℕ} (s : List ℕ) (mapping shader : ℕ) → (left ≡ 0 → ⊥) → mapping + 2 * left ≤ length s → found ≡ field 2 s mapping → (found ≡ shader → ⊥)
    → 12 ≡ failing 12 (leads shader (numbers 2 left (drop mapping s)))
answered_other {left} s mapping shader f h e d = rw (leads-first left s mapping shader f h, ne_eqb (field 2 s mapping) shader (λ q. d (e ∙ q)))

pub answered_same : {left found : ℕ} (s : List ℕ) (mapping shader : ℕ) → (left ≡ 0 → ⊥) → mapping + 2 * left ≤ length s → found ≡ field 2 s mapping → found ≡ shader
    → passed ≡ failing 12 (leads shader (numbers 2 left (drop mapping s)))
answered_same {left} s mapping shader f h e d = rw (leads-first left s mapping shader f h, eq-eqb (field 2 s mapping) shader (sym e ∙ d))

-- what is left of a slice from a place on
pub slice-rest : (s : List ℕ) (at : ℕ) → take (length s - at) (drop at s) ≡ drop at s
slice-rest s at = take_all (length s - at) (drop at s) (rw length-drop (omega arith))

-- a turn that is told by an equation
pub turned_on : (s : List ℕ) (t : Tally) (r : Option Tally) (u : Tally) → Turned s t r → r ≡ Some u → Walked s u × Onward t u
unfolding Turned
turned_on s t r u h e = subst (Turned s t) e h

pub Turned-stop : (s : List ℕ) (t : Tally) (r : Option Tally) → Turned s t r → r ≡ None → structured s ≡ false
unfolding Turned
Turned-stop s t r h e = subst (Turned s t) e h
