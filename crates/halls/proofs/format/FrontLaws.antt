-- The records that some bytes begin with: what a model or a geometry at the front says of them, and that nothing else is a hall's.
use mathlib.Core.Path.{◌≡◌, refl, sym, ap, ◌∙◌, subst}
use mathlib.Core.Bool.{Bool, true, false, cond, ◌&&◌, and-false}
use mathlib.Core.List.{List, [], ◌∷◌}
use mathlib.Core.Logic.{◌⊎◌, ⊎_elim}
use Prim.Native.Nat.{ℕ, ◌+◌, ◌*◌, ◌-◌, ◌/◌, ◌≤◌, ◌<◌}
use native.Mathlib.Nat.{add-zero, lt_of_not-le}
use native.Mathlib.Decide.{dec_le}
use native.Mathlib.Omega.{arith}
use borrow.Author.Tests.{le-leb, eq-eqb, ne_eqb, eqb-true, eqb-false, leb-true}
use lib.Dec.{T, eqb, leb}
use lib.ListN.{length, take, drop, length-drop}
use lib.Seq.{drop-drop}
use Rattle.std.specs.Prelude.{Option, Some, None}
use Rattle.sections.specs.Edit.{part, fits}
use Rattle.sections.specs.Le.{field}
use Rattle.sections.proofs.AddressLaws.{both_true}
use Rattle.sections.proofs.EditLaws.{part_length}
use Rattle.halls.specs.Every.{every}
use Rattle.halls.specs.Inner.HallRecords.{of_kind}
use Rattle.halls.specs.Fronts.{Shaped, entries_at, content_at, held_at}
use Rattle.halls.specs.Inner.Judging.{has_record, has_model, has_geometry}
use Rattle.halls.specs.Parsing.{records_length, whole, follows, may_end, ordered, due_length, exact}
use Rattle.halls.specs.Records.{Record, body_length, front_record, records}
use Rattle.halls.specs.Inner.Walk.{front_of, well_from}
use Rattle.halls.specs.declared.format.front.Front.{Front}
use Rattle.halls.specs.declared.format.front.Front.TheVariants.{Model, Geometry}
use Rattle.halls.specs.declared.format.front.GeometryShape.{GeometryShape}
use Rattle.halls.proofs.check.JudgingLaws.{field-part}
use Rattle.halls.proofs.format.RecordLaws.{field-drop, records-stop, records-step}

same_test : (a b c d : ℕ) → (a ≡ b → c ≡ d) → (c ≡ d → a ≡ b) → eqb a b ≡ eqb c d
same_test a b c d f g = on (eqb c d) refl
  where
    on : (t : Bool) → eqb c d ≡ t → eqb a b ≡ t
    on true e = eq-eqb a b (g (eqb-true c d e))
    on false e = ne_eqb a b (λ h. eqb-false c d e (f h))

-- ---- one record

pub record RecordAt (s : List ℕ) (at kind n : ℕ) : Type 0 where
  pub fits : at + (6 + n) ≤ length s
  pub length-is : field 4 s at ≡ n
  pub kind-is : field 2 s (at + 4) ≡ kind

pub RecordAt_lem : (s : List ℕ) (at kind n : ℕ) → has_record s at kind n ≡ true → RecordAt s at kind n
unfolding has_record
RecordAt_lem s at kind n e =
    let a = both_true (fits s at (6 + n)) _ e in
    let b = both_true (eqb (field 4 s at) n) _ a.1 in
    record { fits = leb-true _ _ a.0; length-is = eqb-true _ _ b.0; kind-is = eqb-true _ _ b.1 }

pub has_record_lem : (s : List ℕ) (at kind n : ℕ) → RecordAt s at kind n → has_record s at kind n ≡ true
unfolding has_record
has_record_lem s at kind n r = rw (le-leb (at + (6 + n)) (length s) r.fits, eq-eqb (field 4 s at) n r.length-is, eq-eqb (field 2 s (at + 4)) kind r.kind-is)

-- as the code tests it
module _ (s : List ℕ) (at kind n : ℕ) where
  pub Record-outside : leb (at + (6 + n)) (length s) ≡ false → false ≡ has_record s at kind n
  unfolding has_record
  Record-outside e = rw e

  pub Record-differs : {found : ℕ} → found ≡ field 4 s at → (found ≡ n → ⊥) → false ≡ has_record s at kind n
  unfolding has_record
  Record-differs e f = rw (ne_eqb (field 4 s at) n (λ h. f (e ∙ h))) (sym (and-false (fits s at (6 + n))))

  pub Record-kind : {found : ℕ} → leb (at + (6 + n)) (length s) ≡ true → field 4 s at ≡ n → found ≡ field 2 s (at + 4) → eqb found kind ≡ has_record s at kind n
  unfolding has_record
  Record-kind l e f = rw (l, eq-eqb (field 4 s at) n e, f)

rearranged : (w f o x e : Bool) → (w && ((f && o) && (x && e))) ≡ (f && (x && (w && (o && e))))
rearranged true true o true e = refl
rearranged true true true false e = refl
rearranged true true false false e = refl
rearranged true false o x e = refl
rearranged false true o true e = refl
rearranged false true o false e = refl
rearranged false false o x e = refl

module _ (s : List ℕ) (at kind n : ℕ) (r : RecordAt s at kind n) where
  -- the records from its place on begin with it
  pub records-at : records (drop at s) ≡ of_kind kind (part s (at + 6) n) ∷ records (drop (at + 6 + n) s)
  unfolding body_length front_record part
  records-at =
      let left : List ℕ = drop at s in
      let b : body_length left ≡ n = field-drop 4 s at 0 (omega (arith, r.fits)) ∙ rw add-zero r.length-is in
      let kind-is : field 2 left 4 ≡ kind = field-drop 2 s at 4 (omega (arith, r.fits)) ∙ r.kind-is in
      let body_is : take (body_length left) (drop 6 left) ≡ take n (drop (at + 6) s) = rw (b, drop-drop 6 at s) in
      let fit : 6 + body_length left ≤ length left = rw length-drop (omega (arith, r.fits)) in
      let place : at + (6 + body_length left) ≡ at + 6 + n = omega arith in
      let behind : drop (6 + body_length left) left ≡ drop (at + 6 + n) s = rw (drop-drop (6 + body_length left) at s, place) in
      records-step left fit ∙ cc

  body_length_lem : length (part s (at + 6) n) ≡ n
  body_length_lem = part_length s (at + 6) n (omega (arith, r.fits))

  whole-behind : whole (drop at s) ≡ whole (drop (at + 6 + n) s)
  unfolding whole records_length
  whole-behind =
      let behind : ℕ = records_length (records (drop (at + 6 + n) s)) in
      let l : length (drop at s) ≡ length s - at = length-drop at s in
      let m : length (drop (at + 6 + n) s) ≡ length s - (at + 6 + n) = length-drop (at + 6 + n) s in
      ap (λ (rs : List Record). eqb (records_length rs) (length (drop at s))) records-at
      ∙ same_test (6 + length (part s (at + 6) n) + behind) (length (drop at s)) behind (length (drop (at + 6 + n) s))
      (λ e. omega (arith, r.fits, body_length_lem)) (λ e. omega (arith, r.fits, body_length_lem))

  pub well-step : (before : ℕ)
      → well_from before (drop at s) ≡ (follows before kind && (exact (of_kind kind (part s (at + 6) n)) && well_from kind (drop (at + 6 + n) s)))
  unfolding well_from ordered every
  well-step before =
      let left : List ℕ = drop at s in
      let behind : List ℕ = drop (at + 6 + n) s in
      ap (λ (rs : List Record). whole left && (ordered before rs && every exact rs)) records-at
      ∙ rearranged (whole left) (follows before kind) (ordered kind (records behind)) (exact (of_kind kind (part s (at + 6) n))) (every exact (records behind))
      ∙ ap (λ (w : Bool). follows before kind && (exact (of_kind kind (part s (at + 6) n)) && (w && (ordered kind (records behind) && every exact (records behind))))) whole-behind

-- ---- a model's record, a geometry's four

pub record ModelFront (s : List ℕ) (entries : ℕ) : Type 0 where
  pub entries_are : entries ≡ entries_at s
  pub first : RecordAt s 0 1 (6 + 2 * entries)

pub record FourRecords (s : List ℕ) (content held : ℕ) : Type 0 where
  pub content-is : content ≡ content_at s
  pub held-is : held ≡ held_at s
  pub first : RecordAt s 0 2 14
  pub second : RecordAt s 20 3 16
  pub third : RecordAt s 42 4 (7 + content)
  pub fourth : RecordAt s (55 + content) 5 (4 + 4 * held)

pub has_model_lem : (s : List ℕ) → has_model s ≡ true → ModelFront s (entries_at s)
unfolding has_model
has_model_lem s e = record { entries_are = refl; first = RecordAt_lem s 0 1 (6 + 2 * entries_at s) e }

pub has_geometry_lem : (s : List ℕ) → has_geometry s ≡ true → FourRecords s (content_at s) (held_at s)
unfolding has_geometry
has_geometry_lem s e =
    let a = both_true (has_record s 0 2 14) _ e in
    let b = both_true (has_record s 20 3 16) _ a.1 in
    let c = both_true (has_record s 42 4 (7 + content_at s)) _ b.1 in
    record {
      content-is = refl;
      held-is = refl;
      first = RecordAt_lem s 0 2 14 a.0;
      second = RecordAt_lem s 20 3 16 b.0;
      third = RecordAt_lem s 42 4 (7 + content_at s) c.0;
      fourth = RecordAt_lem s (55 + content_at s) 5 (4 + 4 * held_at s) c.1;
    }

module _ (s : List ℕ) where
  abbrev shape : ℕ → ℕ → GeometryShape
  shape content held = record { content = content; held = held }

  abbrev by_tests : Bool → Bool → Option Front
  by_tests t u = cond t (Some (Model (entries_at s))) (cond u (Some (Geometry (shape (content_at s) (held_at s)))) None)

  pub ModelFront_lem : (entries : ℕ) → Some (Model entries) ≡ front_of s → ModelFront s entries
  unfolding front_of
  ModelFront_lem entries e = on (has_model s) (has_geometry s) refl e
    where
      on : (t u : Bool) → has_model s ≡ t → Some (Model entries) ≡ by_tests t u → ModelFront s entries
      on true u h e = let q : entries_at s ≡ entries = cc in subst (ModelFront s) q (has_model_lem s h)
      on false true h e = let z : ◌≡◌ {A = ℕ} 0 1 = cc in absurd (omega arith)
      on false false h e = let z : ◌≡◌ {A = ℕ} 0 1 = cc in absurd (omega arith)

  pub FourRecords_lem : (content held : ℕ) → Some (Geometry (shape content held)) ≡ front_of s → FourRecords s content held
  unfolding front_of
  FourRecords_lem content held e = on (has_model s) (has_geometry s) refl e
    where
      on : (t u : Bool) → has_geometry s ≡ u → Some (Geometry (shape content held)) ≡ by_tests t u → FourRecords s content held
      on true u h e = let z : ◌≡◌ {A = ℕ} 0 1 = cc in absurd (omega arith)
      on false true h e =
          let q : shape (content_at s) (held_at s) ≡ shape content held = cc in
          subst (λ (g : GeometryShape). FourRecords s g.content g.held) q (has_geometry_lem s h)
      on false false h e = let z : ◌≡◌ {A = ℕ} 0 1 = cc in absurd (omega arith)

  broken-front : None ≡ front_of s → (has_model s ≡ false) × (has_geometry s ≡ false)
  unfolding front_of
  broken-front e = on (has_model s) (has_geometry s) refl refl e
    where
      on : (t u : Bool) → has_model s ≡ t → has_geometry s ≡ u → None ≡ by_tests t u → (has_model s ≡ false) × (has_geometry s ≡ false)
      on true u h g e = let z : ◌≡◌ {A = ℕ} 0 1 = cc in absurd (omega arith)
      on false true h g e = let z : ◌≡◌ {A = ℕ} 0 1 = cc in absurd (omega arith)
      on false false h g e = (h, g)

-- as the code tests them
module _ (s : List ℕ) where
  module _ {entries : ℕ} (e : entries ≡ entries_at s) where
    pub front_model_lem : has_record s 0 1 (6 + 2 * entries) ≡ true → Some (Model entries) ≡ front_of s
    unfolding front_of has_model
    front_model_lem h = let m : has_record s 0 1 (6 + 2 * entries_at s) ≡ true = rw (← e) h in rw (m, e)

    module _ (other : has_record s 0 1 (6 + 2 * entries) ≡ false) where
      not-model : has_model s ≡ false
      unfolding has_model
      not-model = rw (← e) other

      pub front_geometry_lem : {r : GeometryShape} → Shaped s r → has_geometry s ≡ true → Some (Geometry r) ≡ front_of s
      unfolding front_of
      front_geometry_lem q h = rw (not-model, h, q.content-is, q.held-is)

      pub front-broken : has_geometry s ≡ false → None ≡ front_of s
      unfolding front_of
      front-broken h = rw (not-model, h)

-- ---- they are exact in length

half_of : (n k : ℕ) → n ≡ 6 + 2 * k → n ≡ 6 + 2 * ((n - 6) / 2)
half_of n k e = omega arith

quarter_of : (n k : ℕ) → n ≡ 4 + 4 * k → n ≡ 4 + 4 * ((n - 4) / 4)
quarter_of n k e = omega arith

module _ (s : List ℕ) (entries : ℕ) (m : ModelFront s entries) where
  body-of-model : length (part s 6 (6 + 2 * entries)) ≡ 6 + 2 * entries
  body-of-model = part_length s 6 (6 + 2 * entries) (omega (arith, m.first.fits))

  ExactModel_lem : exact (of_kind 1 (part s 6 (6 + 2 * entries))) ≡ true
  unfolding exact due_length
  ExactModel_lem = eq-eqb _ _ (half_of (length (part s 6 (6 + 2 * entries))) entries body-of-model)

  pub records-model : records s ≡ of_kind 1 (part s 6 (6 + 2 * entries)) ∷ records (drop (12 + 2 * entries) s)
  records-model =
      let place : 6 + (6 + 2 * entries) ≡ 12 + 2 * entries = omega arith in
      rw (← place) (records-at s 0 1 (6 + 2 * entries) m.first)

  pub well-model : (before : ℕ) → follows before 1 ≡ true → well_from before s ≡ well_from 1 (drop (12 + 2 * entries) s)
  well-model before f =
      let place : 6 + (6 + 2 * entries) ≡ 12 + 2 * entries = omega arith in
      rw (← place) (well-step s 0 1 (6 + 2 * entries) m.first before ∙ rw (f, ExactModel_lem))

module _ (s : List ℕ) (content held : ℕ) (g : FourRecords s content held) where
  ExactGeometry_lem : exact (of_kind 2 (part s 6 14)) ≡ true
  unfolding exact due_length
  ExactGeometry_lem = eq-eqb _ _ (part_length s 6 14 (omega (arith, g.first.fits)))

  exact-declaration : exact (of_kind 3 (part s 26 16)) ≡ true
  unfolding exact due_length
  exact-declaration = eq-eqb _ _ (part_length s 26 16 (omega (arith, g.second.fits)))

  pub content_length_lem : length (part s 48 (7 + content)) ≡ 7 + content
  content_length_lem = part_length s 48 (7 + content) (omega (arith, g.third.fits))

  exact-vertices : exact (of_kind 4 (part s 48 (7 + content))) ≡ true
  unfolding exact due_length content_at
  exact-vertices =
      let fit : 48 + (7 + content) ≤ length s = omega (arith, g.third.fits) in
      let c : field 4 (part s 48 (7 + content)) 3 ≡ field 4 s 51 = field-part 4 s 48 (7 + content) 3 (omega arith) fit in
      let t : field 2 (part s 48 (7 + content)) 1 ≡ field 2 s 49 = field-part 2 s 48 (7 + content) 1 (omega arith) fit in
      eq-eqb _ _ (content_length_lem ∙ ap (λ (n : ℕ). 7 + n) (g.content-is ∙ rw (c, t)))

  pub indices_length_lem : length (part s (61 + content) (4 + 4 * held)) ≡ 4 + 4 * held
  indices_length_lem = part_length s (61 + content) (4 + 4 * held) (omega (arith, g.fourth.fits))

  exact-indices : exact (of_kind 5 (part s (61 + content) (4 + 4 * held))) ≡ true
  unfolding exact due_length
  exact-indices = eq-eqb _ _ (quarter_of (length (part s (61 + content) (4 + 4 * held))) held indices_length_lem)

  pub geometry-long : 65 + content + 4 * held ≤ length s
  geometry-long = omega (arith, g.fourth.fits)

  third-end : 48 + (7 + content) ≡ 55 + content
  third-end = omega arith

  fourth-body : 55 + content + 6 ≡ 61 + content
  fourth-body = omega arith

  fourth-end : 61 + content + (4 + 4 * held) ≡ 65 + content + 4 * held
  fourth-end = omega arith

  pub records-geometry : records s
      ≡ of_kind 2 (part s 6 14) ∷ of_kind 3 (part s 26 16) ∷ of_kind 4 (part s 48 (7 + content)) ∷ of_kind 5 (part s (61 + content) (4 + 4 * held))
      ∷ records (drop (65 + content + 4 * held) s)
  records-geometry =
      records-at s 0 2 14 g.first
      ∙ ap (λ (rs : List Record). of_kind 2 (part s 6 14) ∷ rs) (records-at s 20 3 16 g.second
      ∙ ap (λ (rs : List Record). of_kind 3 (part s 26 16) ∷ rs) (rw third-end at (records-at s 42 4 (7 + content) g.third)
      ∙ ap (λ (rs : List Record). of_kind 4 (part s 48 (7 + content)) ∷ rs) (rw (fourth-body, fourth-end) at (records-at s (55 + content) 5 (4 + 4 * held) g.fourth))))

  pub well-geometry : well_from 5 s ≡ well_from 5 (drop (65 + content + 4 * held) s)
  unfolding follows
  well-geometry =
      (well-step s 0 2 14 g.first 5 ∙ rw ExactGeometry_lem)
      ∙ (well-step s 20 3 16 g.second 2 ∙ rw exact-declaration)
      ∙ (well-step s 42 4 (7 + content) g.third 3 ∙ rw (exact-vertices, third-end))
      ∙ (well-step s (55 + content) 5 (4 + 4 * held) g.fourth 4 ∙ rw (fourth-body, exact-indices, fourth-end))

  -- a geometry before any model
  pub well_no-model : well_from 0 s ≡ false
  unfolding follows
  well_no-model = well-step s 0 2 14 g.first 0

-- ---- nothing else is

-- a hall's records are not all passed where the last kind must be followed
more : (before : ℕ) (s : List ℕ) → may_end before ≡ false → well_from before s ≡ true → 0 < length s
unfolding well_from ordered
more before [] m e =
    let w = both_true (whole []) _ e in
    let o = both_true (may_end before) _ (rw (records-stop [] (omega arith)) at w.1) in
    absurd (subst T (sym o.0 ∙ m) tt)
more before (x ∷ s) m e = omega arith

record Peeled (before : ℕ) (s : List ℕ) : Type 0 where
  followed : follows before (field 2 s 4) ≡ true
  first : RecordAt s 0 (field 2 s 4) (field 4 s 0)
  is-exact : exact (of_kind (field 2 s 4) (part s 6 (field 4 s 0))) ≡ true
  behind : well_from (field 2 s 4) (drop (6 + field 4 s 0) s) ≡ true

peeled : (before : ℕ) (s : List ℕ) → 0 < length s → well_from before s ≡ true → Peeled before s
unfolding well_from whole records_length body_length
peeled before s h e = elim (dec_le (6 + field 4 s 0) (length s)) [
  | yes y ↦ (
      let r : RecordAt s 0 (field 2 s 4) (field 4 s 0) = record { fits = omega arith; length-is = refl; kind-is = refl } in
      let a = both_true (follows before (field 2 s 4)) _ (sym (well-step s 0 (field 2 s 4) (field 4 s 0) r before) ∙ e) in
      let b = both_true (exact (of_kind (field 2 s 4) (part s 6 (field 4 s 0)))) _ a.1 in
      record { followed = a.0; first = r; is-exact = b.0; behind = b.1 })
  | no y ↦ (
      let w = both_true (whole s) _ e in
      let z : records_length (records s) ≡ 0 = rw (records-stop s (lt_of_not-le y)) in
      absurd (omega (arith, eqb-true (records_length (records s)) (length s) w.0)))
]

-- a record behind a place, as one at that place
at_place : (s : List ℕ) (at kind n : ℕ) → RecordAt (drop at s) 0 kind n → RecordAt s at kind n
at_place s at kind n r =
    let l : length (drop at s) ≡ length s - at = length-drop at s in
    let fit : at + (6 + n) ≤ length s = omega (arith, r.fits) in
    record {
      fits = fit;
      length-is = sym (field-drop 4 s at 0 (omega arith) ∙ ap (field 4 s) (add-zero at)) ∙ r.length-is;
      kind-is = sym (field-drop 2 s at 4 (omega arith)) ∙ r.kind-is;
    }

module _ (s : List ℕ) where
  model-is-front : (n : ℕ) → RecordAt s 0 1 n → exact (of_kind 1 (part s 6 n)) ≡ true → has_model s ≡ true
  unfolding has_model exact due_length
  model-is-front n r e =
      let l : length (part s 6 n) ≡ n = part_length s 6 n (omega (arith, r.fits)) in
      let q : length (part s 6 n) ≡ 6 + 2 * ((length (part s 6 n) - 6) / 2) = eqb-true _ _ e in
      let h : n ≡ 6 + 2 * entries_at s = omega (arith, r.length-is) in
      has_record_lem s 0 1 (6 + 2 * entries_at s) (subst (RecordAt s 0 1) h r)

  geometry-is-front : (content n : ℕ) → content ≡ content_at s → RecordAt s 0 2 14 → RecordAt s 20 3 16 → RecordAt s 42 4 (7 + content) → RecordAt s (55 + content) 5 n
      → exact (of_kind 5 (part s (61 + content) n)) ≡ true → has_geometry s ≡ true
  unfolding has_geometry held_at exact due_length
  geometry-is-front content n c a b d r e =
      let l : length (part s (61 + content) n) ≡ n = part_length s (61 + content) n (omega (arith, r.fits)) in
      let q : length (part s (61 + content) n) ≡ 4 + 4 * ((length (part s (61 + content) n) - 4) / 4) = eqb-true _ _ e in
      let held : field 4 s (55 + content_at s) ≡ n = ap (λ (k : ℕ). field 4 s (55 + k)) (sym c) ∙ r.length-is in
      let h : n ≡ 4 + 4 * held_at s = omega arith in
      let last : RecordAt s (55 + content_at s) 5 (4 + 4 * held_at s) = subst (λ (k : ℕ). RecordAt s (55 + k) 5 (4 + 4 * held_at s)) c (subst (RecordAt s (55 + content) 5) h r) in
      let third : RecordAt s 42 4 (7 + content_at s) = subst (λ (k : ℕ). RecordAt s 42 4 (7 + k)) c d in
      rw (has_record_lem s 0 2 14 a, has_record_lem s 20 3 16 b, has_record_lem s 42 4 (7 + content_at s) third) (has_record_lem s (55 + content_at s) 5 (4 + 4 * held_at s) last)

-- of a hall's records, the one at a place where only one kind may stand
record Next (s : List ℕ) (at kind : ℕ) : Type 0 where
  n : ℕ
  here : RecordAt s at kind n
  is-exact : exact (of_kind kind (part s (at + 6) n)) ≡ true
  behind : well_from kind (drop (at + 6 + n) s) ≡ true

next : (before kind : ℕ) (s : List ℕ) (at : ℕ) → may_end before ≡ false → ((k : ℕ) → follows before k ≡ true → k ≡ kind) → well_from before (drop at s) ≡ true → Next s at kind
unfolding part
next before kind s at m f w =
    let left : List ℕ = drop at s in
    let size : ℕ = field 4 left 0 in
    let p = peeled before left (more before left m w) w in
    let k : field 2 left 4 ≡ kind = f (field 2 left 4) p.followed in
    let body : part left 6 size ≡ part s (at + 6) size = rw (drop-drop 6 at s) in
    let place : at + (6 + size) ≡ at + 6 + size = omega arith in
    let rest : drop (6 + size) left ≡ drop (at + 6 + size) s = rw (drop-drop (6 + size) at s, place) in
    record {
      n = size;
      here = at_place s at kind size (subst (λ (x : ℕ). RecordAt left 0 x size) k p.first);
      is-exact = subst (λ (b : List ℕ). exact (of_kind kind b) ≡ true) body (subst (λ (x : ℕ). exact (of_kind x (part left 6 size)) ≡ true) k p.is-exact);
      behind = subst (λ (t : List ℕ). well_from kind t ≡ true) rest (subst (λ (x : ℕ). well_from x (drop (6 + size) left) ≡ true) k p.behind);
    }

module _ (s : List ℕ) where
  -- a record of kind 2 at the front, and the three behind it
  four_at-front : RecordAt s 0 2 (field 4 s 0) → exact (of_kind 2 (part s 6 (field 4 s 0))) ≡ true → well_from 2 (drop (6 + field 4 s 0) s) ≡ true → has_geometry s ≡ true
  unfolding exact due_length follows may_end content_at
  four_at-front r e w =
      let n₂ : field 4 s 0 ≡ 14 = sym (part_length s 6 (field 4 s 0) (omega (arith, r.fits))) ∙ eqb-true _ _ e in
      let a = next 2 3 s 20 refl (λ k f. eqb-true k 3 f) (subst (λ (n : ℕ). well_from 2 (drop (6 + n) s) ≡ true) n₂ w) in
      let n₃ : a.n ≡ 16 = sym (part_length s 26 a.n (omega (arith, a.here.fits))) ∙ eqb-true _ _ a.is-exact in
      let b = next 3 4 s 42 refl (λ k f. eqb-true k 4 f) (subst (λ (n : ℕ). well_from 3 (drop (26 + n) s) ≡ true) n₃ a.behind) in
      let fit : 48 + b.n ≤ length s = omega (arith, b.here.fits) in
      let n₄ : b.n ≡ 7 + field 4 (part s 48 b.n) 3 * field 2 (part s 48 b.n) 1 = sym (part_length s 48 b.n fit) ∙ eqb-true _ _ b.is-exact in
      let seven : 7 ≤ b.n = omega arith in
      let c : b.n ≡ 7 + content_at s = n₄ ∙ rw (field-part 4 s 48 b.n 3 seven fit, field-part 2 s 48 b.n 1 (omega arith) fit) in
      let place : 48 + b.n ≡ 55 + content_at s = omega arith in
      let d = next 4 5 s (55 + content_at s) refl (λ k f. eqb-true k 5 f) (subst (λ (n : ℕ). well_from 4 (drop n s) ≡ true) place b.behind) in
      let body : 55 + content_at s + 6 ≡ 61 + content_at s = omega arith in
      geometry-is-front s (content_at s) d.n refl (subst (RecordAt s 0 2) n₂ r) (subst (RecordAt s 20 3) n₃ a.here) (subst (RecordAt s 42 4) c b.here) d.here
      (subst (λ (i : ℕ). exact (of_kind 5 (part s i d.n)) ≡ true) body d.is-exact)

  -- neither a model nor a geometry at the front: these are not a hall's records
  pub well_broken : (before : ℕ) → ((k : ℕ) → follows before k ≡ true → (k ≡ 1) ⊎ (k ≡ 2)) → 0 < length s → None ≡ front_of s → well_from before s ≡ false
  well_broken before f h e = on (well_from before s) refl
    where
      on : (t : Bool) → well_from before s ≡ t → well_from before s ≡ false
      on false w = w
      on true w =
          let b = broken-front s e in
          let p = peeled before s h w in
          ⊎_elim
          (λ k.
          let m : has_model s ≡ true = model-is-front s (field 4 s 0) (subst (λ (x : ℕ). RecordAt s 0 x (field 4 s 0)) k p.first) (subst (λ (x : ℕ). exact (of_kind x (part s 6 (field 4 s 0))) ≡ true) k p.is-exact) in
          absurd (subst T (sym m ∙ b.0) tt))
          (λ k.
          let g : has_geometry s ≡ true = four_at-front (subst (λ (x : ℕ). RecordAt s 0 x (field 4 s 0)) k p.first) (subst (λ (x : ℕ). exact (of_kind x (part s 6 (field 4 s 0))) ≡ true) k p.is-exact) (subst (λ (x : ℕ). well_from x (drop (6 + field 4 s 0) s) ≡ true) k p.behind) in
          absurd (subst T (sym g ∙ b.1) tt))
          (f (field 2 s 4) p.followed)
