-- From the libraries' answers to what C is told.
use Rattle.std.specs.Prelude.{Some}
use mathlib.Core.Path.{◌≡◌, refl, sym, ap, subst, ◌∙◌}
use mathlib.Core.Bool.{Bool, true, false, cond, ◌&&◌}
use mathlib.Core.List.{List}
use Prim.Native.Nat.{ℕ, ◌+◌, ◌-◌, ◌*◌, ◌/◌, ◌^◌, ◌≤◌, ◌<◌, min}
use native.Mathlib.Nat.{zero-add}
use native.Mathlib.Omega.{arith}
use borrow.Author.Tests.{le-leb, lt-leb}
use lib.Dec.{leb}
use lib.ListN.{length}
use Rattle.sections.specs.Address.{Sections}
use Rattle.sections.specs.Edit.{overwrite}
use Rattle.sections.specs.Le.{bytes}
use Rattle.sections.specs.declared.lookup.Located.{Located}
use Rattle.sections.specs.declared.lookup.Located.TheVariants.{System, Graphics}
use Rattle.sections.proofs.AddressLaws.{HasBytes}
use Rattle.vertices.specs.Buffer.{vertex_buffer_at}
use Rattle.vertices.specs.ByteRuns.{Widened}
use Rattle.vertices.specs.Runs.{converted, Converted}
use Rattle.vertices.specs.Unified.{Unified, stated, unified_run, vertices_inside}
use Rattle.vertices.specs.declared.buffer.VertexBuffer.{VertexBuffer}
use Rattle.vertices.specs.declared.declaration.VertexDeclaration.{VertexDeclaration}
use Rattle.std.specs.Prelude.{Result, Ok, Err}
use Rattle.vertices.specs.declared.runs.NeedsBytes.{NeedsBytes}
use Rattle.vertices.specs.declared.unify.UnifyError.{UnifyError}
use Rattle.vertices.specs.declared.unify.UnifyError.TheVariants.{OutsideData, NeedsBytes as OutputShort}
use Rattle.vertices.proofs.BufferLaws.{buffer_data}
use Rattle.vertices.proofs.RunLaws.{converted-length}
use Rattle.vertices.proofs.UnifiedBytes.{length-unified_run}
use Rattle.halls.specs.Outcome.{Outcome, refusal, written, answer_of}
use Rattle.exports.specs.Buffers.{section_number, stored_bytes, buffer_bytes}
use Rattle.halls.specs.declared.answer.Refusal.{Refusal}
use Rattle.exports.specs.Told.{Answered, Told, number_of, length_of, fitting, fitting_capped, answer_number, answer_length, run_number, run_length, told_number, told_length}
use Rattle.exports.specs.Unify.{unified_outcome, unify_refusal}

-- an outcome's number and length are those of its answer
answer_number_lem : (o : Outcome) → answer_number (answer_of o) ≡ number_of o
answer_number_lem (refusal check needed) = refl
answer_number_lem (written b) = refl

answer_length_lem : (o : Outcome) → answer_length (answer_of o) ≡ length_of o
answer_length_lem (refusal check needed) = refl
answer_length_lem (written b) = refl

-- what a call comes to, as C is told it
pub Answered-told : {o : Outcome} {d : List ℕ} {a : Result ℕ Refusal} {r : ℕ} {t : List ℕ} {n : ℕ} → Answered o d a t → r ≡ answer_number a → n ≡ answer_length a → Told o d r t n
Answered-told {o} c g h =
    record { number = g ∙ ap answer_number c.answer ∙ answer_number_lem o; output = c.bytes; size = h ∙ ap answer_length c.answer ∙ answer_length_lem o }

-- ---- bytes into an output

module _ (b : List ℕ) {d : List ℕ} where
  -- they fit
  pub fitting-yes : {t : List ℕ} {n : ℕ} → length b ≤ length d → t ≡ overwrite d 0 b → n ≡ length b → Answered (fitting (length d) b) d (Ok n) t
  unfolding fitting
  fitting-yes h e f = rw (le-leb (length b) (length d) h) (record { answer = ap Ok f; bytes = e })

  -- they do not
  pub fitting-no : {n : ℕ} → length d < length b → n ≡ length b → Answered (fitting (length d) b) d (Err (record { check = 10; needed = n })) d
  unfolding fitting
  fitting-no h f = rw (lt-leb (length b) (length d) h) (record { answer = rw f; bytes = refl })

-- ---- runs

-- the run b, of `whole` bytes, of which `needed` are said to be needed where it does not fit
run-told : (ok : Bool) (b d : List ℕ) (whole needed : ℕ) → length b ≡ whole → {a : Result ℕ NeedsBytes} {r : ℕ} {t : List ℕ} {n : ℕ} → a ≡ cond ok (Ok whole) (Err (record { 0 = needed })) → t ≡ cond ok (overwrite d 0 b) d
    → r ≡ run_number a → n ≡ run_length a → Told (cond ok (written b) (refusal 10 needed)) d r t n
run-told true b d whole needed l e f g h = record { number = g ∙ ap run_number e; output = f; size = h ∙ ap run_length e ∙ sym l }
run-told false b d whole needed l e f g h = record { number = g ∙ ap run_number e; output = f; size = h ∙ ap run_length e }

-- a run of numbers
pub converted-told : {k m : ℕ} {f : ℕ → ℕ} {s d : List ℕ} {a : Result ℕ NeedsBytes} {r : ℕ} {t : List ℕ} {n : ℕ} → Converted k m f s d a t → r ≡ run_number a → n ≡ run_length a
    → Told (fitting (length d) (converted k m f (length s / k) s)) d r t n
unfolding fitting
converted-told {k} {m} {f} {s} {d} c g h =
    let whole : ℕ = length s / k * m in
    let b : List ℕ = converted k m f (length s / k) s in
    let l : length b ≡ whole = converted-length k m f (length s / k) s in
    let same : 0 + whole ≡ whole = zero-add whole in
    rw l (run-told (leb whole (length d)) b d whole whole l (rw same at c.answer) (rw same at c.bytes) g h)

-- a run of bytes made floats
pub Widened-told : {f : ℕ → ℕ} {s d : List ℕ} {a : Result ℕ NeedsBytes} {r : ℕ} {t : List ℕ} {n : ℕ} → Widened f s d a t → r ≡ run_number a → n ≡ run_length a
    → Told (fitting_capped (length d) (converted 1 4 f (length s) s)) d r t n
unfolding fitting_capped
Widened-told {f} {s} {d} c g h =
    let whole : ℕ = length s * 4 in
    let b : List ℕ = converted 1 4 f (length s) s in
    let l : length b ≡ whole = converted-length 1 4 f (length s) s in
    let same : 0 + whole ≡ whole = zero-add whole in
    rw l (run-told (leb whole (length d)) b d whole (min whole (2 ^ 64 - 1)) l (rw same at c.answer) (rw same at c.bytes) g h)

-- ---- unified vertices

unify_told : (inside ok : Bool) (b d : List ℕ) (whole : ℕ) → length b ≡ whole → {a : ℕ × ℕ} {r : ℕ} {t : List ℕ} {n : ℕ} → a ≡ cond inside (cond ok (0, whole) (10, whole)) (9, 0)
    → t ≡ cond (inside && ok) (overwrite d 0 b) d → r ≡ a.0 → n ≡ a.1 → Told (cond inside (cond ok (written b) (refusal 10 (length b))) (refusal 9 0)) d r t n
unify_told true true b d whole l e f g h = record { number = g ∙ ap (λ (p : ℕ × ℕ). p.0) e; output = f; size = h ∙ ap (λ (p : ℕ × ℕ). p.1) e ∙ sym l }
unify_told true false b d whole l e f g h = record { number = g ∙ ap (λ (p : ℕ × ℕ). p.0) e; output = f; size = h ∙ ap (λ (p : ℕ × ℕ). p.1) e ∙ sym l }
unify_told false true b d whole l e f g h = record { number = g ∙ ap (λ (p : ℕ × ℕ). p.0) e; output = f; size = h ∙ ap (λ (p : ℕ × ℕ). p.1) e }
unify_told false false b d whole l e f g h = record { number = g ∙ ap (λ (p : ℕ × ℕ). p.0) e; output = f; size = h ∙ ap (λ (p : ℕ × ℕ). p.1) e }

-- an answer of unifying is told as document 01 states it
stated_number : (a : Result ℕ UnifyError) → told_number unify_refusal a ≡ (stated a).0
stated_number (Ok n) = refl
stated_number (Err OutsideData) = refl
stated_number (Err (OutputShort n)) = refl

stated_length : (a : Result ℕ UnifyError) → told_length unify_refusal a ≡ (stated a).1
stated_length (Ok n) = refl
stated_length (Err OutsideData) = refl
stated_length (Err (OutputShort n)) = refl

-- d is the declaration that was made, e the one that was meant
pub Unified-told : {d e : VertexDeclaration} → d ≡ e → {s : List ℕ} {stride count : ℕ} {out : List ℕ} {a : Result ℕ UnifyError} {r : ℕ} {t : List ℕ} {n : ℕ} → Unified d s stride count out a t
    → r ≡ told_number unify_refusal a → n ≡ told_length unify_refusal a
    → Told (unified_outcome e s stride count (length out)) out r t n
unfolding unified_outcome fitting
Unified-told {d} {e} p {s} {stride} {count} {out} {a} {r} {t} {n} c g h =
    let whole : ℕ = 84 * count in
    let b : List ℕ = unified_run d s stride count in
    let l : length b ≡ whole = length-unified_run d s stride count in
    let same : leb (0 + whole) (length out) ≡ leb (length b) (length out) = ap (λ (i : ℕ). leb i (length out)) (zero-add whole ∙ sym l) in
    subst (λ (x : VertexDeclaration). Told (unified_outcome x s stride count (length out)) out r t n) p
    (unify_told (vertices_inside d (length s) stride count) (leb (length b) (length out)) b out whole l (rw same at c.answer) (rw same at c.bytes) (g ∙ stated_number a) (h ∙ stated_length a))

-- ---- located buffers

-- 32 bytes and the declaration
pub buffer_length_lem : (b : VertexBuffer) → length (buffer_bytes b) ≡ 32 + length (stored_bytes b.declaration)
unfolding buffer_bytes bytes
buffer_length_lem b = omega arith

-- the section of a buffer that was found is 0 or 1
pub Found-section : (s : Sections) (va pointer count stride : ℕ) (b : VertexBuffer) → vertex_buffer_at s va pointer count stride ≡ Some b → section_number b.«data» ≤ 1
Found-section s va pointer count stride b e = of-bytes b.«data» _ (buffer_data s va pointer count stride b e).bytes
  where
    of-bytes : (place : Located) (n : ℕ) → HasBytes s place n → section_number place ≤ 1
    of-bytes (System at) n h = omega arith
    of-bytes (Graphics at) n h = omega arith
