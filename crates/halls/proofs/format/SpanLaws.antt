-- Where records lie: the record at a place with those behind it, or none.
use mathlib.Core.Path.{◌≡◌, refl, sym, ap, ◌∙◌, subst}
use mathlib.Core.List.{List, [], ◌∷◌}
use Prim.Native.Nat.{ℕ, ◌+◌, ◌-◌, ◌≤◌, ◌<◌}
use native.Mathlib.Nat.{lt_of_not-le}
use native.Mathlib.Decide.{dec_le}
use native.Mathlib.Omega.{arith}
use lib.ListN.{length, take, drop, length-drop}
use lib.Seq.{drop-drop}
use Rattle.sections.specs.Edit.{part}
use Rattle.sections.specs.Le.{field}
use Rattle.sections.proofs.EditLaws.{part_length}
use Rattle.halls.specs.Records.{Record, body_length, front_record, records}
use Rattle.halls.specs.Inner.Spans.{Spans, spans_from, spans_at}
use Rattle.halls.specs.declared.format.walk.RecordSpan.{RecordSpan}
use Rattle.halls.proofs.format.RecordLaws.{field-drop, length_at, records-stop, records-step}

-- ---- of some records

-- the first, and those behind it
pub record Split (at : ℕ) (rs : List Record) (x : RecordSpan) (xs : List RecordSpan) : Type 0 where
  pub it : Record
  pub others : List Record
  pub are : rs ≡ it ∷ others
  pub first : x ≡ record { kind = it.kind; at = at; start = at + 6; end = at + 6 + length it.body }
  pub behind : xs ≡ spans_from (at + 6 + length it.body) others

pub split : (at : ℕ) (rs : List Record) {x : RecordSpan} {xs : List RecordSpan} → spans_from at rs ≡ x ∷ xs → Split at rs x xs
unfolding spans_from
split at [] {x} {xs} e = let z : ◌≡◌ {A = List RecordSpan} [] (x ∷ xs) = e in let clash : ◌≡◌ {A = ℕ} 0 1 = cc in absurd (omega arith)
split at (r ∷ rs) e = record { it = r; others = rs; are = refl; first = cc; behind = cc }

pub split-none : (at : ℕ) (rs : List Record) → spans_from at rs ≡ [] → rs ≡ []
unfolding spans_from
split-none at [] e = refl
split-none at (r ∷ rs) e = let clash : ◌≡◌ {A = ℕ} 0 1 = cc in absurd (omega arith)

-- ---- of some bytes

module _ (s : List ℕ) (at : ℕ) (low : at ≤ length s) where
  abbrev left : List ℕ
  left = drop at s

  -- no whole record stands there
  pub records-none : length s < at + 6 + field 4 s at → records left ≡ []
  records-none l =
      elim (dec_le (at + 6) (length s)) [
        | yes y ↦ let b = length_at s at y refl in records-stop left (rw length-drop (omega arith))
        | no y ↦ let few = lt_of_not-le y in records-stop left (rw length-drop (omega (arith, few)))
      ]

  pub spans-none : length s < at + 6 + field 4 s at → spans_at s at ≡ []
  unfolding spans_from
  spans-none l = rw (records-none l)

  -- a whole one does
  module _ {found : RecordSpan} (q : Spans s at found) where
    body_is : body_length left ≡ field 4 s at
    body_is = length_at s at (omega (arith, q.inside, q.end-is)) refl

    fit : 6 + body_length left ≤ length left
    fit = rw length-drop (omega (arith, body_is, q.inside, q.end-is))

    pub records-one : records left ≡ record { kind = found.kind; body = take (found.end - found.start) (drop found.start s) } ∷ records (drop found.end s)
    unfolding front_record part
    records-one =
        let size : found.end - found.start ≡ field 4 s at = omega (arith, q.end-is, q.start-is) in
        let kind-is : field 2 left 4 ≡ found.kind = field-drop 2 s at 4 (omega (arith, q.inside, q.end-is)) ∙ sym q.kind-is in
        let body : take (body_length left) (drop 6 left) ≡ take (found.end - found.start) (drop found.start s) = rw (body_is, size, q.start-is, drop-drop 6 at s) in
        let place : at + (6 + body_length left) ≡ found.end = omega (arith, body_is, q.end-is) in
        let behind-is : drop (6 + body_length left) left ≡ drop found.end s = rw (drop-drop (6 + body_length left) at s, place) in
        records-step left fit ∙ cc

    pub spans-one : spans_at s at ≡ found ∷ spans_at s found.end
    unfolding spans_from part
    spans-one =
        let long : length (take (found.end - found.start) (drop found.start s)) ≡ found.end - found.start = part_length s found.start (found.end - found.start) (omega (arith, q.inside, q.start-is, q.end-is)) in
        let place : at + 6 + length (take (found.end - found.start) (drop found.start s)) ≡ found.end = omega (arith, long, q.start-is, q.end-is) in
        let made : ℕ → ℕ → ℕ → RecordSpan = λ a b c. record { kind = found.kind; at = a; start = b; end = c } in
        rw (records-one, place, ← q.start-is) (ap (λ a. made a found.start found.end ∷ spans_from found.end (records (drop found.end s))) (sym q.at-is))

-- the first record there, and where those behind it lie
pub record First (s : List ℕ) (at : ℕ) (x : RecordSpan) (xs : List RecordSpan) : Type 0 where
  pub whole : Spans s at x
  pub behind : spans_at s x.end ≡ xs

pub first_span : (s : List ℕ) (at : ℕ) {x : RecordSpan} {xs : List RecordSpan} → at ≤ length s → spans_at s at ≡ x ∷ xs → First s at x xs
first_span s at {x} {xs} low e =
    let here : RecordSpan = record { kind = field 2 s (at + 4); at = at; start = at + 6; end = at + 6 + field 4 s at } in
    elim (dec_le (at + 6 + field 4 s at) (length s)) [
      | yes y ↦
          let q : Spans s at here = record { kind-is = refl; at-is = refl; start-is = refl; end-is = refl; inside = y } in
          let same : here ∷ spans_at s here.end ≡ x ∷ xs = sym (spans-one s at low q) ∙ e in
          let first : here ≡ x = cc in
          let behind : spans_at s here.end ≡ xs = cc in
          record { whole = subst (Spans s at) first q; behind = subst (λ r. spans_at s r.end ≡ xs) first behind }
      | no y ↦
          let none : ◌≡◌ {A = List RecordSpan} [] (x ∷ xs) = sym (spans-none s at low (lt_of_not-le y)) ∙ e in
          let clash : ◌≡◌ {A = ℕ} 0 1 = cc in
          absurd (omega arith)
    ]
