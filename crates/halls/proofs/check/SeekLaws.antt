-- Laws of seeking: record by record, and the records behind others.
use Rattle.std.specs.Prelude.{Option, None, Some}
use mathlib.Core.Path.{◌≡◌, refl, sym, ap, ◌∙◌}
use mathlib.Core.List.{List, [], ◌∷◌, ◌++◌}
use Prim.Native.Nat.{ℕ, ◌+◌, ◌-◌, ◌≤◌}
use native.Mathlib.Nat.{add-zero, lt_of_not-le}
use native.Mathlib.Decide.{dec_le}
use native.Mathlib.Omega.{arith}
use borrow.Author.Tests.{eq-eqb, ne_eqb}
use lib.ListN.{length, take, drop, length-drop}
use lib.Seq.{drop-drop}
use Rattle.sections.specs.Edit.{part}
use Rattle.sections.specs.Le.{field}
use Rattle.sections.proofs.EditLaws.{part_length}
use Rattle.halls.specs.Parsing.{records_length}
use Rattle.halls.specs.Records.{Record, body_length, front_record, records}
use Rattle.halls.specs.Inner.Spans.{Spans, spans_from, spans_at}
use Rattle.halls.specs.declared.format.walk.RecordSpan.{RecordSpan}
use Rattle.halls.specs.Inner.Seeking.{place_of, sought}
use Rattle.halls.proofs.format.RecordLaws.{length_at, records-stop, records-step}
use Rattle.halls.proofs.format.SpanLaws.{Split, split, split-none, records-one}

-- ---- one record of a list

module _ (kind skip at : ℕ) (r : Record) (rs : List Record) where
  pub place_here : r.kind ≡ kind → skip ≡ 0 → place_of kind skip at (r ∷ rs) ≡ Some at
  unfolding place_of
  place_here k z = rw (eq-eqb r.kind kind k, z)

  pub place-next : r.kind ≡ kind → (skip ≡ 0 → ⊥) → place_of kind skip at (r ∷ rs) ≡ place_of kind (skip - 1) (at + 6 + length r.body) rs
  unfolding place_of
  place-next k z = rw (eq-eqb r.kind kind k, ne_eqb skip 0 z)

  pub place-ended : (r.kind ≡ kind → ⊥) → r.kind ≡ 1 → place_of kind skip at (r ∷ rs) ≡ None
  unfolding place_of
  place-ended k m = rw (ne_eqb r.kind kind k, eq-eqb r.kind 1 m)

  pub place_past : (r.kind ≡ kind → ⊥) → (r.kind ≡ 1 → ⊥) → place_of kind skip at (r ∷ rs) ≡ place_of kind skip (at + 6 + length r.body) rs
  unfolding place_of
  place_past k m = rw (ne_eqb r.kind kind k, ne_eqb r.kind 1 m)

-- ---- the record that begins at `at`

-- what is sought among the records that are left is what was sought
pub record Seeking (kind left : ℕ) (all : Option ℕ) (rest : List RecordSpan) : Type 0 where
  pub at : ℕ
  pub records-left : List Record
  pub rest-is : spans_from at records-left ≡ rest
  pub same : place_of kind left at records-left ≡ all

pub seeking_start : (s : List ℕ) (at kind skip : ℕ) {rest : List RecordSpan} → rest ≡ spans_at s at → Seeking kind skip (sought s at kind skip) rest
unfolding sought
seeking_start s at kind skip e = record { at = at; records-left = records (drop at s); rest-is = sym e; same = refl }

module _ {kind left : ℕ} {all : Option ℕ} {rest : List RecordSpan} (w : Seeking kind left all rest) where
  -- none is left
  pub seeking_end : rest ≡ [] → None ≡ all
  unfolding place_of
  seeking_end e = let none = split-none w.at w.records-left (w.rest-is ∙ e) in rw none at w.same

  module _ {x : RecordSpan} {xs : List RecordSpan} (e : rest ≡ x ∷ xs) where
    parts : Split w.at w.records-left x xs
    parts = split w.at w.records-left (w.rest-is ∙ e)

    whole : place_of kind left w.at (parts.it ∷ parts.others) ≡ all
    whole = rw parts.are at w.same

    kind_is : x.kind ≡ parts.it.kind
    kind_is = ap (λ (r : RecordSpan). r.kind) parts.first

    pub seeking_found : x.kind ≡ kind → left ≡ 0 → Some x.at ≡ all
    seeking_found k z = ap (λ (r : RecordSpan). Some r.at) parts.first ∙ sym (place_here kind left w.at parts.it parts.others (sym kind_is ∙ k) z) ∙ whole

    pub seeking_next : x.kind ≡ kind → (left ≡ 0 → ⊥) → Seeking kind (left - 1) all xs
    seeking_next k z = record {
      at = w.at + 6 + length parts.it.body;
      records-left = parts.others;
      rest-is = sym parts.behind;
      same = sym (place-next kind left w.at parts.it parts.others (sym kind_is ∙ k) z) ∙ whole;
    }

    pub seeking_ended : (x.kind ≡ kind → ⊥) → x.kind ≡ 1 → None ≡ all
    seeking_ended k m = sym (place-ended kind left w.at parts.it parts.others (λ z. k (kind_is ∙ z)) (sym kind_is ∙ m)) ∙ whole

    pub seeking_past : (x.kind ≡ kind → ⊥) → (x.kind ≡ 1 → ⊥) → Seeking kind left all xs
    seeking_past k m = record {
      at = w.at + 6 + length parts.it.body;
      records-left = parts.others;
      rest-is = sym parts.behind;
      same = sym (place_past kind left w.at parts.it parts.others (λ z. k (kind_is ∙ z)) (λ z. m (kind_is ∙ z))) ∙ whole;
    }

-- ---- in some bytes: what is sought is the record that begins there, or stays the same from record to record

module _ (s : List ℕ) (at kind skip : ℕ) {found : RecordSpan} (q : Spans s at found) where
  low : at ≤ length s
  low = omega (arith, q.inside, q.end-is)

  body_is : length (part s found.start (found.end - found.start)) ≡ found.end - found.start
  body_is = part_length s found.start (found.end - found.start) (omega (arith, q.inside, q.start-is, q.end-is))

  -- the record that begins there
  abbrev here : Record
  here = record { kind = found.kind; body = take (found.end - found.start) (drop found.start s) }

  behind : at + 6 + length here.body ≡ found.end
  unfolding part
  behind = omega (arith, body_is, q.start-is, q.end-is)

  first : records (drop at s) ≡ here ∷ records (drop found.end s)
  unfolding part
  first = rw (records-one s at low q)

  pub sought-here : found.kind ≡ kind → skip ≡ 0 → Some at ≡ sought s at kind skip
  unfolding sought
  sought-here k z = rw (first, place_here kind skip at here (records (drop found.end s)) k z)

  pub sought-next : found.kind ≡ kind → (skip ≡ 0 → ⊥) → sought s found.end kind (skip - 1) ≡ sought s at kind skip
  unfolding sought
  sought-next k z = rw (first, place-next kind skip at here (records (drop found.end s)) k z, behind)

  pub sought-ended : (found.kind ≡ kind → ⊥) → found.kind ≡ 1 → None ≡ sought s at kind skip
  unfolding sought
  sought-ended k m = rw (first, place-ended kind skip at here (records (drop found.end s)) k m)

  pub sought-past : (found.kind ≡ kind → ⊥) → (found.kind ≡ 1 → ⊥) → sought s found.end kind skip ≡ sought s at kind skip
  unfolding sought
  sought-past k m = rw (first, place_past kind skip at here (records (drop found.end s)) k m, behind)

-- ---- the records behind others

-- from `at` on, the records of s are rs
pub record Stand (s : List ℕ) (at : ℕ) (rs : List Record) : Type 0 where
  pub low : at ≤ length s
  pub are : records (drop at s) ≡ rs

-- the first of them, and those behind it
pub record Front (s : List ℕ) (at : ℕ) (r : Record) (rs : List Record) : Type 0 where
  pub length-is : field 4 s at ≡ length r.body
  pub behind : Stand s (at + 6 + length r.body) rs

pub Stand-front : (s : List ℕ) (at : ℕ) (r : Record) (rs : List Record) → Stand s at (r ∷ rs) → Front s at r rs
unfolding front_record
Stand-front s at r rs w =
    let left : List ℕ = drop at s in
    let l : length left ≡ length s - at = length-drop at s in
    elim (dec_le (6 + body_length left) (length left)) [
      | yes y ↦
          let step : front_record left ∷ records (drop (6 + body_length left) left) ≡ r ∷ rs = sym (records-step left y) ∙ w.are in
          let first : front_record left ≡ r = cc in
          let others : records (drop (6 + body_length left) left) ≡ rs = cc in
          let long : length r.body ≡ body_length left = ap (λ (x : Record). length x.body) (sym first) ∙ part_length left 6 (body_length left) y in
          let read : body_length left ≡ field 4 s at = length_at s at (omega (arith, l, y, w.low)) refl in
          let place : at + 6 + length r.body ≡ at + (6 + body_length left) = omega (arith, long) in
          record {
            length-is = sym read ∙ sym long;
            behind = record { low = omega (arith, l, y, long, w.low); are = rw (place, ← drop-drop (6 + body_length left) at s) others };
          }
      | no y ↦
          let z : ◌≡◌ {A = List Record} [] (r ∷ rs) = sym (records-stop left (lt_of_not-le y)) ∙ w.are in
          let clash : ◌≡◌ {A = ℕ} 0 1 = cc in absurd (omega arith)
    ]

pub Stand-behind : (s : List ℕ) (at : ℕ) (xs ys : List Record) → Stand s at (xs ++ ys) → Stand s (at + records_length xs) ys
unfolding records_length
Stand-behind s at [] ys w = rw add-zero w
Stand-behind s at (x ∷ xs) ys w =
    let e : at + (6 + length x.body + records_length xs) ≡ at + 6 + length x.body + records_length xs = omega arith in
    rw e (Stand-behind s (at + 6 + length x.body) xs ys (Stand-front s at x (xs ++ ys) w).behind)
