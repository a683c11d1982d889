-- A model taken out of a hall: where it begins and ends, and what the call comes to.
use Rattle.std.specs.Prelude.{Option, None, Some}
use mathlib.Core.Path.{◌≡◌, refl, sym, ap, ◌∙◌, subst}
use mathlib.Core.List.{List, ◌++◌}
use Prim.Native.Nat.{ℕ, suc, ◌+◌, ◌-◌, ◌≤◌}
use native.Mathlib.Numerals.{add-one}
use native.Mathlib.Omega.{arith}
use lib.ListN.{length, take, drop, length-append, take-append-drop}
use lib.Seq.{take-take, take_at, drop_at}
use Rattle.halls.specs.Calls.{remove_model, proposed, without}
use Rattle.halls.specs.Hall.{FullModel, Hall, hall_bytes}
use Rattle.halls.specs.Places.{item, model_place}
use Rattle.halls.specs.Reading.{read}
use Rattle.halls.specs.State.{model_state}
use Rattle.halls.specs.Step.{state_in, rewritten, Stepped}
use Rattle.std.specs.Prelude.{Result, Ok, Err}
use Rattle.halls.specs.declared.answer.Refusal.{Refusal}
use Rattle.halls.proofs.edit.SoundEdits.{State-item, hall-without, hall_bytes-append, sound-without}
use Rattle.halls.proofs.edit.StepLaws.{hall_in, Old, stays_barred, becomes-new}

-- ---- what the finder says

pub record ModelThere (h : Hall) (m place : ℕ) : Type 0 where
  pub it : FullModel
  pub is : item m h ≡ Some it
  pub begins : place ≡ length (hall_bytes (take m h))

module _ (h : Hall) (m : ℕ) where
  pub model-none : (model_place h m) ≡ None → item m h ≡ None
  unfolding model_place
  model-none e = by (item m h) refl
    where
      by : (o : Option FullModel) → item m h ≡ o → item m h ≡ None
      by None q = q
      by (Some x) q = let clash : Some (length (hall_bytes (take m h))) ≡ None = rw q at e in let z : ◌≡◌ {A = ℕ} 0 1 = cc in absurd (omega arith)

  pub ModelThere_lem : (place : ℕ) → (model_place h m) ≡ Some place → ModelThere h m place
  unfolding model_place
  ModelThere_lem place e = by (item m h) refl
    where
      by : (o : Option FullModel) → item m h ≡ o → ModelThere h m place
      by None q = let clash : None ≡ Some place = rw q at e in let z : ◌≡◌ {A = ℕ} 0 1 = cc in absurd (omega arith)
      by (Some x) q = let same : Some (length (hall_bytes (take m h))) ≡ Some place = rw q at e in record { it = x; is = q; begins = cc }

-- ---- the hall's bytes before a model, and from one on

parted : (h : Hall) (m : ℕ) → hall_bytes h ≡ hall_bytes (take m h) ++ hall_bytes (drop m h)
parted h m = ap hall_bytes (sym (take-append-drop m h)) ∙ hall_bytes-append (take m h) (drop m h)

-- ---- the call

module _ (b : List ℕ) (n : ℕ) (o : Old b n) (m : ℕ) where
  pub removed-none : (r : Result ℕ Refusal) → (model_place (hall_in b n) m) ≡ None → r ≡ Err (record { check = 21; needed = 0 }) → Stepped (remove_model m) b n r b
  unfolding proposed
  removed-none r e f =
      let none-there : item m (state_in b n) ≡ None = State-item m (hall_in b n) ∙ rw (model-none (hall_in b n) m e) in
      subst (λ (x : Result ℕ Refusal). Stepped (remove_model m) b n x b) (sym f) (stays_barred (remove_model m) b n o 21 (rw none-there))

  module _ (place end : ℕ) (w : ModelThere (hall_in b n) m place) (e : end ≡ length (hall_bytes (take (m + 1) (hall_in b n)))) where
    abbrev h : Hall
    h = hall_in b n

    ends : end ≡ length (hall_bytes (take (suc m) h))
    ends = rw (← (add-one m)) e

    behind-long : n ≡ end + length (hall_bytes (drop (suc m) h))
    behind-long = omega (arith, o.long, ap length (parted h (suc m)), length-append (hall_bytes (take (suc m) h)) (hall_bytes (drop (suc m) h)), ends)

    pub model-spans : (place ≤ end) × (end ≤ n)
    model-spans =
        let front : Hall = take (suc m) h in
        let inner : take m front ≡ take m h = take-take m (suc m) h (omega arith) in
        let all : length (hall_bytes front) ≡ length (hall_bytes (take m front)) + length (hall_bytes (drop m front)) = ap length (parted front m) ∙ length-append (hall_bytes (take m front)) (hall_bytes (drop m front)) in
        let same : length (hall_bytes (take m front)) ≡ place = ap (λ (x : Hall). length (hall_bytes x)) inner ∙ sym w.begins in
        (omega (arith, ends), omega (arith, behind-long))

    proposed-is : proposed (remove_model m) (state_in b n) ≡ read (without m h)
    unfolding proposed
    proposed-is =
        let there : item m (state_in b n) ≡ Some (model_state w.it) = State-item m h ∙ rw w.is in
        rw there (ap read (hall-without m (state_in b n) ∙ ap (without m) o.back))

    bytes-are : take place (take n b) ++ drop end (take n b) ≡ hall_bytes (without m h)
    bytes-are =
        let front : take place (take n b) ≡ hall_bytes (take m h) =
        ap (take place) (sym o.bytes-are ∙ parted h m) ∙ take_at (hall_bytes (take m h)) (hall_bytes (drop m h)) place (sym w.begins) in
        let behind : drop end (take n b) ≡ hall_bytes (drop (suc m) h) =
        ap (drop end) (sym o.bytes-are ∙ parted h (suc m)) ∙ drop_at (hall_bytes (take (suc m) h)) (hall_bytes (drop (suc m) h)) end (sym ends) in
        rw (front, behind) (sym (hall_bytes-append (take m h) (drop (suc m) h)))

    long_is : n - (end - place) ≡ length (hall_bytes (without m h))
    long_is =
        let all : length (hall_bytes (without m h)) ≡ length (hall_bytes (take m h)) + length (hall_bytes (drop (suc m) h)) =
        ap length (hall_bytes-append (take m h) (drop (suc m) h)) ∙ length-append (hall_bytes (take m h)) (hall_bytes (drop (suc m) h)) in
        omega (arith, behind-long, model-spans, w.begins)

    pub removed-one : (t : List ℕ) → t ≡ rewritten b n (take place (take n b) ++ drop end (take n b)) → Stepped (remove_model m) b n (Ok (n - (end - place))) t
    removed-one t f =
        becomes-new (remove_model m) b n o (without m h) proposed-is (sound-without h m o.sound) (n - (end - place)) t long_is (omega (arith, o.within)) (f ∙ ap (rewritten b n) bytes-are)
