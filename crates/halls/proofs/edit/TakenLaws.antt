-- What `take_in` proposes, check by check, and the step that it comes to.
use Rattle.std.specs.Prelude.{Option, None, Some}
use mathlib.Core.Path.{◌≡◌, refl, sym, ap, ◌∙◌}
use mathlib.Core.Bool.{Bool, true, false, cond}
use mathlib.Core.List.{List}
use Prim.Native.Nat.{ℕ, ◌≤◌, ◌<◌}
use native.Mathlib.Omega.{arith}
use borrow.Author.Tests.{le-leb, lt-leb}
use lib.ListN.{length}
use Rattle.sections.specs.Address.{Sections, within_limit}
use Rattle.halls.specs.Calls.{take_in, taken, taken_model, all_of, proposed, test}
use Rattle.halls.specs.Checks.{verdict}
use Rattle.halls.specs.Hall.{Hall, hall_bytes}
use Rattle.halls.specs.List.{Model, each}
use Rattle.halls.specs.Inner.Measure.{whole_numbers}
use Rattle.halls.specs.Inner.Measured.{RefusedAs, ListMeasured, list_read}
use Rattle.halls.specs.Reading.{Reading, refused, read, need, and_then, read_list}
use Rattle.halls.specs.State.{State}
use Rattle.halls.specs.Step.{rewritten, Stepped, state_in}
use Rattle.halls.specs.Inner.Taking.{all_taken, model_taken, model_bytes}
use Rattle.halls.specs.Inner.View.{models_at}
use Rattle.halls.specs.Inner.Order.{passed, check_of, verdict_of}
use Rattle.std.specs.Prelude.{Ok, Err}
use Rattle.halls.specs.Verdict.{Sound, Fails}
use Rattle.halls.specs.declared.answer.Refusal.{Refusal}
use Rattle.halls.specs.declared.edit.judge_read.Taken.{Taken}
use Rattle.halls.specs.declared.read.measure.MeasuredList.{MeasuredList}
use Rattle.halls.proofs.edit.StepLaws.{Old, stays_barred, stays-judged, stays_long, becomes-new}
use Rattle.halls.proofs.edit.TakenBytes.{taken-bytes}
use Rattle.halls.proofs.edit.TakenVerdict.{lowest_taken, taken-verdict}

-- ---- what is proposed, by the list that is read

module _ (s : Sections) (va : ℕ) (st : State) where
  abbrev pub proposal : Reading Hall
  proposal = proposed (take_in s va) st

  by_limit : (within : Bool) (r : Reading (List Model)) → test 1 within (and_then r (λ ms. need 11 (all_of taken_model ms) read)) ≡ and_then (cond within r (refused 1)) (λ ms. need 11 (all_of taken_model ms) read)
  by_limit false r = refl
  by_limit true r = refl

  as_listed : proposal ≡ and_then (list_read s va) (λ ms. need 11 (all_of taken_model ms) read)
  unfolding proposed taken list_read
  as_listed = by_limit (within_limit s) (read_list s va)

  -- checks 1 to 6
  pub taken_refused : (e : Refusal) → RefusedAs (list_read s va) e → RefusedAs proposal e
  taken_refused e r = record { is = as_listed ∙ ap (λ (x : Reading (List Model)). and_then x (λ ms. need 11 (all_of taken_model ms) read)) r.is; needs = r.needs }

  -- check 11, or a hall
  pub taken_is : (list : MeasuredList) → ListMeasured s va list → proposal ≡ need 11 (all_of taken_model (models_at s (whole_numbers 8 list.pointers.now))) read
  taken_is list l = as_listed ∙ ap (λ (x : Reading (List Model)). and_then x (λ ms. need 11 (all_of taken_model ms) read)) l.is

-- ---- the step, by what the reading comes to

module _ (s : Sections) (va : ℕ) (b : List ℕ) (n : ℕ) (old : Old b n) (ps : List ℕ) (is : proposed (take_in s va) (state_in b n) ≡ need 11 (all_of taken_model (models_at s ps)) read) where
  abbrev sum : Taken
  sum = all_taken model_taken (models_at s ps)

  module _ (t : Taken) (e : t ≡ sum) (lowest : ℕ) (l : lowest ≡ lowest_taken t) where
    same_lowest : lowest ≡ lowest_taken sum
    same_lowest = l ∙ ap lowest_taken e

    -- the checks of a hall
    pub taken-fails : lowest < passed → Stepped (take_in s va) b n (Err (record { check = check_of lowest; needed = 0 })) b
    taken-fails low = on (all_of taken_model (models_at s ps)) refl
      where
        on : (o : Option Hall) → all_of taken_model (models_at s ps) ≡ o → Stepped (take_in s va) b n (Err (record { check = check_of lowest; needed = 0 })) b
        on None a = stays_barred (take_in s va) b n old (check_of lowest) (is ∙ ap (λ (o : Option Hall). need 11 o read) a ∙ ap (λ (z : ℕ). refused (check_of z)) (sym (same_lowest ∙ taken-verdict s ps None a)))
        on (Some h) a =
            let judged = taken-verdict s ps (Some h) a in
            let fails : verdict h ≡ Fails (check_of lowest) = sym judged.0 ∙ ap verdict_of (sym same_lowest) ∙ rw (lt-leb passed lowest low) in
            stays-judged (take_in s va) b n old h (is ∙ ap (λ (o : Option Hall). need 11 o read) a) (check_of lowest) fails

    module _ (sound : passed ≤ lowest) where
      -- no part is lacking, and the hall is sound
      pub record Proposed : Type 0 where
        pub hall : Hall
        pub made : all_of taken_model (models_at s ps) ≡ Some hall
        pub verdict-is : verdict hall ≡ Sound
        pub long : t.«length» ≡ length (hall_bytes hall)

      hall-proposed : Proposed
      hall-proposed = on (all_of taken_model (models_at s ps)) refl
        where
          on : (o : Option Hall) → all_of taken_model (models_at s ps) ≡ o → Proposed
          on None a = absurd (omega (arith, same_lowest, taken-verdict s ps None a))
          on (Some h) a =
              let judged = taken-verdict s ps (Some h) a in
              record {
                hall = h;
                made = a;
                verdict-is = sym judged.0 ∙ ap verdict_of (sym same_lowest) ∙ rw (le-leb passed lowest sound);
                long = ap (λ (x : Taken). x.«length») e ∙ judged.1;
              }

      -- the bytes that are written
      pub taken-long : t.«length» ≡ length (each model_bytes (models_at s ps))
      taken-long = let p = hall-proposed in p.long ∙ ap length (sym (taken-bytes (models_at s ps) p.hall p.made))

      -- check 24
      pub taken-short : length b < t.«length» → Stepped (take_in s va) b n (Err (record { check = 24; needed = t.«length» })) b
      taken-short short =
          let p = hall-proposed in
          stays_long (take_in s va) b n old p.hall (is ∙ ap (λ (o : Option Hall). need 11 o read) p.made) p.verdict-is t.«length» p.long short

      pub taken-over : {u : List ℕ} → t.«length» ≤ length b → u ≡ rewritten b n (each model_bytes (models_at s ps)) → Stepped (take_in s va) b n (Ok t.«length») u
      taken-over {u} fit w =
          let p = hall-proposed in
          becomes-new (take_in s va) b n old p.hall (is ∙ ap (λ (o : Option Hall). need 11 o read) p.made) p.verdict-is t.«length» u p.long fit
          (w ∙ ap (rewritten b n) (taken-bytes (models_at s ps) p.hall p.made))
