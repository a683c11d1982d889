-- Attributes as records of 20 bytes: their lengths, a loop that writes them, and the answer of the vertex layer as an outcome.
use Rattle.std.proofs.Common.{◌≡◌, refl, sym, ap, subst, ◌∙◌, Bool, true, false, cond, List, [], ◌∷◌, map, ℕ, suc, ◌+◌, ◌*◌, ◌/◌, ◌%◌, ◌≤◌, ◌<◌, length, ltb, Result, Ok, Err, arith, length-append}
use lib.Dec.{T}
use native.Mathlib.Nat.{add_comm, suc-mul}
use lib.ListN.{length-map}
use Rattle.std.specs.Result.{MatchResult, is_ok}
use Rattle.sections.specs.Edit.{overwrite}
use Rattle.sections.specs.Le.{bytes}
use Rattle.sections.proofs.EditLaws.{overwrite-length, overwrite-none, overwrite-then}
use Rattle.vertices.specs.Attribute.{all_inside, attribute_at, attribute_check, attributes_at, attributes_of}
use Rattle.vertices.specs.Declaration.{components_of}
use Rattle.vertices.specs.Runs.{run}
use Rattle.vertices.specs.declared.attribute.VertexAttribute.{VertexAttribute}
use Rattle.vertices.specs.declared.attribute.VertexAttributeValue.{VertexAttributeValue}
use Rattle.vertices.specs.declared.attribute.VertexAttributeValue.TheVariants.{One, Two, Three, Four, Bytes, Unsupported}
use Rattle.vertices.specs.declared.attributes.AttributeError.{AttributeError}
use Rattle.vertices.specs.declared.attributes.AttributeError.TheVariants.{NoSuchVertex, ComponentOutside}
use Rattle.vertices.specs.declared.declaration.VertexDeclaration.{VertexDeclaration}
use Rattle.vertices.specs.declared.values.Bytes4.{Bytes4}
use Rattle.vertices.proofs.ComponentLaws.{components_few}
use Rattle.halls.specs.List.{each}
use Rattle.halls.specs.Outcome.{refusal}
use Rattle.exports.specs.Attributes.{padded_bytes, attribute_bytes, recorded, attributes_outcome}
use Rattle.exports.specs.Told.{Told, fitting}

-- ---- an answer whose error was changed

-- what it held stands in the answer before
pub ok_before : {A E F : Type 0} (r : Result A E) (t : Result A F) (a : A) (Q : E → Type 0) → is_ok t ≡ is_ok r → MatchResult r (λ x. t ≡ Ok x) Q → t ≡ Ok a → r ≡ Ok a
ok_before (Ok x) t a Q v m e = let same : t ≡ Ok x = m in cc
ok_before (Err y) t a Q v m e = let z : true ≡ false = sym (ap is_ok e) ∙ v in absurd (subst T z tt)

-- ---- one record

-- four bytes as one number, and three zeros
pub bytes_word : (b : Bytes4) (n : ℕ) → n ≡ b.a + 256 * b.b + 65536 * b.c + 16777216 * b.d → b.a < 256 → b.b < 256 → b.c < 256 → b.d < 256
    → run 4 (n ∷ 0 ∷ 0 ∷ 0 ∷ []) ≡ padded_bytes (Bytes b)
unfolding padded_bytes run bytes
bytes_word b n e ha hb hc hd =
    let low : n % 256 ≡ b.a % 256 = omega arith in
    let one : n / 256 ≡ b.b + 256 * b.c + 65536 * b.d = omega arith in
    let two : n / 256 / 256 ≡ b.c + 256 * b.d = rw one (omega arith) in
    let three : n / 256 / 256 / 256 ≡ b.d = rw two (omega arith) in
    let second : n / 256 % 256 ≡ b.b % 256 = rw one (omega arith) in
    let third : n / 256 / 256 % 256 ≡ b.c % 256 = rw two (omega arith) in
    let fourth : n / 256 / 256 / 256 % 256 ≡ b.d % 256 = rw three in
    cc (low, second, third, fourth)

padded-length : (v : VertexAttributeValue) → length (padded_bytes v) ≡ 16
unfolding padded_bytes run bytes
padded-length (One f) = refl
padded-length (Two v) = refl
padded-length (Three v) = refl
padded-length (Four v) = refl
padded-length (Bytes b) = refl
padded-length Unsupported = refl

-- a record is 20 bytes
pub Record-length : (a : VertexAttribute) → length (attribute_bytes a) ≡ 20
unfolding attribute_bytes bytes
Record-length a = omega (arith, padded-length a.value)

-- n of them
pub records_length_lem : (l : List VertexAttribute) → length (each attribute_bytes l) ≡ length l * 20
unfolding each
records_length_lem [] = refl
records_length_lem (a ∷ l) = rw (length-append, Record-length a, records_length_lem l, suc-mul) (add_comm 20 (length l * 20))

-- ---- a loop that writes them, one a turn

-- the records of the attributes that are left, put behind those of the k before them, make the whole
pub record Recording (whole b : List ℕ) (k : ℕ) (left : List VertexAttribute) : Type 0 where
  pub room : k * 20 + length left * 20 ≤ length b
  pub is : overwrite b (k * 20) (each attribute_bytes left) ≡ whole

-- before the first
pub recording_start : (all : List VertexAttribute) (out : List ℕ) → length all * 20 ≤ length out → Recording (overwrite out 0 (each attribute_bytes all)) out 0 all
recording_start all out h = record { room = omega arith; is = refl }

module _ {whole b : List ℕ} {k : ℕ} {left : List VertexAttribute} (r : Recording whole b k left) where
  -- there is room for one more
  pub recording_room : {a : VertexAttribute} {rest : List VertexAttribute} → left ≡ a ∷ rest → k * 20 + 20 ≤ length b
  recording_room {a} {rest} e = let n : length left ≡ suc (length rest) = ap length e in omega (arith, r.room)

  -- one more
  pub recording_turn : {a : VertexAttribute} {rest : List VertexAttribute} {t : List ℕ} → left ≡ a ∷ rest → t ≡ overwrite b (k * 20) (attribute_bytes a) → Recording whole t (k + 1) rest
  unfolding each
  recording_turn {a} {rest} {t} e f =
      let n : length left ≡ suc (length rest) = ap length e in
      let here = recording_room e in
      let same : length t ≡ length b = ap length f ∙ overwrite-length b (k * 20) (attribute_bytes a) (rw Record-length here) in
      let next : (k + 1) * 20 ≡ k * 20 + 20 = omega arith in
      let fits : k * 20 + 20 + length (each attribute_bytes rest) ≤ length b = rw records_length_lem (omega (arith, r.room)) in
      record {
        room = omega (arith, r.room, same);
        is = rw (f, next) (overwrite-then b (k * 20) 20 (attribute_bytes a) (each attribute_bytes rest) (Record-length a) fits ∙ rw e at r.is);
      }

  -- after the last
  pub recording_end : left ≡ [] → b ≡ whole
  unfolding each
  recording_end e = sym (overwrite-none b (k * 20)) ∙ rw e at r.is

-- ---- the answer of the vertex layer

module _ {out : List ℕ} where
  -- refused
  pub refused_told : (e : AttributeError) → Told (recorded (length out) (Err e)) out (attribute_check e) out 0
  refused_told e = record { number = refl; output = refl; size = refl }

  -- accepted
  pub accepted_told : (l : List VertexAttribute) {r : ℕ} {t : List ℕ} {n : ℕ} → Told (fitting (length out) (each attribute_bytes l)) out r t n → Told (recorded (length out) (Ok l)) out r t n
  accepted_told l told = told

outcome-of : (first second : Bool) (l : List VertexAttribute) (room : ℕ)
    → recorded room (cond first (cond second (Ok l) (Err ComponentOutside)) (Err NoSuchVertex)) ≡ cond first (cond second (fitting room (each attribute_bytes l)) (refusal 9 0)) (refusal 8 0)
outcome-of true true l room = refl
outcome-of true false l room = refl
outcome-of false second l room = refl

module _ (s : List ℕ) (stride count : ℕ) (d : VertexDeclaration) (index : ℕ) where
  -- those of the vertex
  abbrev attributes : List VertexAttribute
  attributes = map (attribute_at s (index * stride)) (components_of d)

  -- check 8, then check 9, then the room for their records
  answer_outcome_lem : {a : Result (List VertexAttribute) AttributeError} (room : ℕ) → a ≡ attributes_of s stride count d index
      → recorded room a ≡ cond (ltb index count) (cond (all_inside (length s) (index * stride) (components_of d)) (fitting room (each attribute_bytes attributes)) (refusal 9 0)) (refusal 8 0)
  unfolding attributes_of attributes_at
  answer_outcome_lem room e = ap (recorded room) e ∙ outcome-of (ltb index count) (all_inside (length s) (index * stride) (components_of d)) attributes room

-- d is the declaration that was made, e the one that was meant
pub answer_told : (s : List ℕ) (stride count : ℕ) (d : VertexDeclaration) (index : ℕ) {e : VertexDeclaration} → d ≡ e → {a : Result (List VertexAttribute) AttributeError} → a ≡ attributes_of s stride count d index
    → {out : List ℕ} {r : ℕ} {t : List ℕ} {n : ℕ} → Told (recorded (length out) a) out r t n → Told (attributes_outcome s stride count e index (length out)) out r t n
answer_told s stride count d index p {a} h {out} {r} {t} {n} told =
    subst (λ (x : VertexDeclaration). Told (attributes_outcome s stride count x index (length out)) out r t n) p
    (subst (λ (b : Result (List VertexAttribute) AttributeError). Told (recorded (length out) b) out r t n) h told)

accepted_from : (first second : Bool) (l m : List VertexAttribute)
    → ◌≡◌ {A = Result (List VertexAttribute) AttributeError} (Ok l) (cond first (cond second (Ok m) (Err ComponentOutside)) (Err NoSuchVertex)) → l ≡ m
accepted_from true true l m e = cc
accepted_from true false l m e = cc
accepted_from false second l m e = cc

-- at most 16 attributes are accepted
pub accepted_few : (s : List ℕ) (stride count : ℕ) (d : VertexDeclaration) (index : ℕ) {l : List VertexAttribute} → Ok l ≡ attributes_of s stride count d index → length l ≤ 16
unfolding attributes_of attributes_at
accepted_few s stride count d index {l} h =
    let e = accepted_from (ltb index count) (all_inside (length s) (index * stride) (components_of d)) l (map (attribute_at s (index * stride)) (components_of d)) h in
    rw (e, length-map) (components_few d)

-- and so many stand in the answer, whatever it is
pub answer_sound : (s : List ℕ) (stride count : ℕ) (d : VertexDeclaration) (index : ℕ) {a : Result (List VertexAttribute) AttributeError} → a ≡ attributes_of s stride count d index
    → (l : List VertexAttribute) → a ≡ Ok l → length l ≤ 16
answer_sound s stride count d index e l h = accepted_few s stride count d index (sym h ∙ e)
