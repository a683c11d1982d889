-- Laws of `records`: whole records at the front, none, and one that was written there.
use mathlib.Core.Path.{◌≡◌, refl, sym, ap, ◌∙◌}
use mathlib.Core.List.{List, [], ◌∷◌, ◌++◌, append_assoc}
use Prim.Native.Nat.{ℕ, zero, suc, ◌+◌, ◌-◌, ◌^◌, ◌≤◌, ◌<◌}
use native.Mathlib.Nat.{add-zero, lt_of_not-le}
use native.Mathlib.Decide.{dec_le}
use native.Mathlib.Omega.{arith}
use borrow.Author.Tests.{le-leb, lt-leb}
use lib.ListN.{length, take, drop, length-append, length-drop}
use lib.Seq.{drop-drop, take_at, drop_at}
use Rattle.sections.specs.Edit.{part}
use Rattle.sections.specs.Le.{bytes, field}
use Rattle.sections.proofs.LeLaws.{field_in, le_bytes, length-bytes}
use Rattle.halls.specs.List.{record_bytes, model_numbers}
use Rattle.halls.specs.Records.{Record, body_length, front_record, first_records, records}
use Rattle.halls.proofs.read.ViewLaws.{Record-length}

-- ---- fields

-- a field of what is left behind `at`
pub field-drop : (k : ℕ) (s : List ℕ) (at i : ℕ) → at + i + k ≤ length s → field k (drop at s) i ≡ field k s (at + i)
unfolding part
field-drop k s at i h = field_in k (drop at s) i (simp length-drop (omega arith)) ∙ rw (drop-drop i at s) (sym (field_in k s (at + i) h))

-- the length of the body of the record that begins at `at`
pub length_at : (s : List ℕ) (at : ℕ) {n : ℕ} → at + 6 ≤ length s → n ≡ field 4 s at → body_length (drop at s) ≡ n
unfolding body_length
length_at s at h e = field-drop 4 s at 0 (omega arith) ∙ rw add-zero (sym e)

-- a number that was written behind other bytes
pub field-behind : (before after : List ℕ) (k v at : ℕ) → length before ≡ at → v < 256 ^ k → field k (before ++ (bytes k v ++ after)) at ≡ v
unfolding part
field-behind before after k v at e h =
    let fit : at + k ≤ length (before ++ (bytes k v ++ after)) = simp (length-append, length-bytes) (omega arith) in
    field_in k (before ++ (bytes k v ++ after)) at fit
    ∙ rw (drop_at before (bytes k v ++ after) at e, take_at (bytes k v) after k (length-bytes k v)) (le_bytes k v h)

-- ---- a model's record, number by number

pub model-parts : (binding mask : ℕ) (mapping : List ℕ) → model_numbers (6 + length mapping) binding mask ++ mapping ≡ record_bytes 1 (bytes 4 binding ++ (bytes 2 mask ++ mapping))
unfolding record_bytes bytes
model-parts binding mask mapping =
    let body : List ℕ = bytes 4 binding ++ (bytes 2 mask ++ mapping) in
    let q : 6 + length mapping ≡ length body = omega arith in
    ap (λ n. bytes 4 n ++ (bytes 2 1 ++ body)) q

-- ---- a step and a stop

first-stop : (n : ℕ) (s : List ℕ) → length s < 6 + body_length s → first_records n s ≡ []
unfolding first_records
first-stop zero s h = refl
first-stop (suc n) s h = rw (lt-leb (6 + body_length s) (length s) h)

first_step : (n : ℕ) (s : List ℕ) → 6 + body_length s ≤ length s → first_records (suc n) s ≡ front_record s ∷ first_records n (drop (6 + body_length s) s)
unfolding first_records
first_step n s h = rw (le-leb (6 + body_length s) (length s) h)

-- as many as there are bytes are enough
enough : (n m : ℕ) (s : List ℕ) → length s ≤ n → length s ≤ m → first_records n s ≡ first_records m s
unfolding first_records
enough zero m s h k = sym (first-stop m s (omega arith))
enough (suc n) zero s h k = first-stop (suc n) s (omega arith)
enough (suc n) (suc m) s h k =
    let left : List ℕ = drop (6 + body_length s) s in
    let l : length left ≡ length s - (6 + body_length s) = length-drop (6 + body_length s) s in
    elim (dec_le (6 + body_length s) (length s)) [
      | yes y ↦ first_step n s y ∙ ap (λ (l : List Record). front_record s ∷ l) (enough n m left (omega arith) (omega arith)) ∙ sym (first_step m s y)
      | no y ↦ first-stop (suc n) s (lt_of_not-le y) ∙ sym (first-stop (suc m) s (lt_of_not-le y))
    ]

pub records-stop : (s : List ℕ) → length s < 6 + body_length s → records s ≡ []
unfolding records
records-stop s h = first-stop (length s) s h

pub records-step : (s : List ℕ) → 6 + body_length s ≤ length s → records s ≡ front_record s ∷ records (drop (6 + body_length s) s)
unfolding records
records-step s h =
    let left : List ℕ = drop (6 + body_length s) s in
    let e : length s ≡ suc (length s - 1) = omega arith in
    ap (λ (n : ℕ). first_records n s) e ∙ first_step (length s - 1) s h
    ∙ ap (λ (l : List Record). front_record s ∷ l) (enough (length s - 1) (length left) left (simp length-drop (omega arith)) (omega arith))

-- ---- written records

module _ (kind : ℕ) (body rest : List ℕ) (short : length body < 2 ^ 32) (low : kind < 2 ^ 16) where
  abbrev s : List ℕ
  s = record_bytes kind body ++ rest

  parts : s ≡ bytes 4 (length body) ++ (bytes 2 kind ++ (body ++ rest))
  unfolding record_bytes
  parts = simp append_assoc

  body_length_lem : body_length s ≡ length body
  unfolding body_length
  body_length_lem = ap (λ (l : List ℕ). field 4 l 0) parts ∙ field-behind [] (bytes 2 kind ++ (body ++ rest)) 4 (length body) 0 refl (omega arith)

  kind-read : field 2 s 4 ≡ kind
  kind-read =
      ap (λ (l : List ℕ). field 2 l 4) parts ∙ field-behind (bytes 4 (length body)) (body ++ rest) 2 kind 4 (length-bytes 4 (length body)) (omega arith)

  head-length : length (bytes 4 (length body) ++ bytes 2 kind) ≡ 6
  head-length = simp (length-append, length-bytes)

  body-read : part s 6 (length body) ≡ body
  unfolding part record_bytes
  body-read =
      ap (λ (l : List ℕ). take (length body) (drop 6 l)) (parts ∙ sym (append_assoc (bytes 4 (length body)) (bytes 2 kind) (body ++ rest)))
      ∙ rw (drop_at (bytes 4 (length body) ++ bytes 2 kind) (body ++ rest) 6 head-length) (take_at body rest (length body) refl)

  -- a record that was written is read, and then what stands behind it
  pub records-written : records s ≡ record { kind = kind; body = body } ∷ records rest
  unfolding front_record
  records-written =
      let n : length (record_bytes kind body) ≡ 6 + length body = Record-length kind body in
      let e : 6 + body_length s ≡ length (record_bytes kind body) = omega (arith, body_length_lem) in
      let fit : 6 + body_length s ≤ length s = rw length-append (omega (arith, body_length_lem)) in
      let left : drop (6 + body_length s) s ≡ rest = ap (λ (i : ℕ). drop i s) e ∙ drop_at (record_bytes kind body) rest _ refl in
      let read : part s 6 (body_length s) ≡ body = ap (part s 6) body_length_lem ∙ body-read in
      records-step s fit ∙ cc kind-read
