-- What a call comes to, case by case: refused on the old hall, before the result, on the result or for its length, or done.
use Rattle.std.specs.Prelude.{Option, None, Some}
use mathlib.Core.Path.{◌≡◌, refl, sym, ap, ◌∙◌, subst}
use mathlib.Core.List.{List}
use Prim.Native.Nat.{ℕ, ◌≤◌, ◌<◌}
use native.Mathlib.Omega.{arith}
use borrow.Author.Tests.{le-leb, lt-leb, leb-true}
use lib.Dec.{leb}
use lib.ListN.{length, take, get_or, length-take}
use Rattle.sections.proofs.EditLaws.{take_below}
use Rattle.halls.specs.Calls.{Call, proposed}
use Rattle.halls.specs.Checks.{verdict, judged, hall_verdict}
use Rattle.halls.specs.Hall.{Hall, HallInWidth, hall_bytes}
use Rattle.halls.specs.Inner.HallRecords.{hall_records}
use Rattle.halls.specs.Parsing.{models_in, parse}
use Rattle.halls.specs.Reading.{refused, read}
use Rattle.halls.specs.Records.{records}
use Rattle.halls.specs.State.{hall_of, state_of, state_bytes}
use Rattle.halls.specs.Step.{Step, stays, becomes, settled, state_in, step_in, rewritten, step_answer, step_bytes, Stepped}
use Rattle.std.specs.Prelude.{Result, Ok, Err}
use Rattle.halls.specs.declared.answer.Refusal.{Refusal}
use Rattle.halls.specs.Verdict.{Sound, Fails}
use Rattle.halls.proofs.format.ParsingLaws.{hall-parsed}
use Rattle.halls.proofs.SoundLaws.{required}
use Rattle.halls.proofs.StateLaws.{hall_of-state}

-- ---- a sound hall in the first n bytes

abbrev pub hall_in : List ℕ → ℕ → Hall
hall_in b n = models_in (records (take n b))

pub record Old (b : List ℕ) (n : ℕ) : Type 0 where
  pub within : n ≤ length b
  pub verdict-is : hall_verdict b n ≡ Sound
  pub sound : verdict (hall_in b n) ≡ Sound
  pub back : hall_of (state_in b n) ≡ hall_in b n
  pub bytes-are : hall_bytes (hall_in b n) ≡ take n b
  pub long : length (hall_bytes (hall_in b n)) ≡ n
  pub records-are : hall_records (hall_in b n) ≡ records (take n b)
  pub InWidth_lem : HallInWidth (hall_in b n)

-- by what was parsed
parsed_old : (b : List ℕ) (n : ℕ) → ((i : ℕ) → get_or b i 0 < 256) → n ≤ length b → hall_verdict b n ≡ Sound → (o : Option Hall) → parse (take n b) ≡ o → judged o ≡ Sound → Old b n
parsed_old b n below within e None p v = let z : ◌≡◌ {A = ℕ} 0 1 = cc in absurd (omega arith)
parsed_old b n below within e (Some h) p v =
    let r = hall-parsed (take n b) (take_below n b below) h p in
    let sound : verdict (hall_in b n) ≡ Sound = subst (λ (x : Hall). verdict x ≡ Sound) r.is v in
    let bytes-are : hall_bytes (hall_in b n) ≡ take n b = subst (λ (x : Hall). hall_bytes x ≡ take n b) r.is r.same_bytes in
    record {
      within = within;
      verdict-is = e;
      sound = sound;
      back = hall_of-state (hall_in b n) sound;
      bytes-are = bytes-are;
      long = ap length bytes-are ∙ simp length-take (omega arith);
      records-are = subst (λ (x : Hall). hall_records x ≡ records (take n b)) r.is r.same-records;
      InWidth_lem = subst HallInWidth r.is r.InWidth_lem;
    }

pub old : (b : List ℕ) (n : ℕ) → ((i : ℕ) → get_or b i 0 < 256) → hall_verdict b n ≡ Sound → Old b n
unfolding hall_verdict
old b n below e =
    let r = required 11 (leb n (length b)) (judged (parse (take n b))) e in
    parsed_old b n below (leb-true n (length b) r.0) e (parse (take n b)) refl r.1

-- ---- one call

module _ (c : Call) (b : List ℕ) (n : ℕ) where
  -- the checks of a hall on the old one
  pub stays_old : (check : ℕ) → hall_verdict b n ≡ Fails check → Stepped c b n (Err (record { check = check; needed = 0 })) b
  unfolding step_in
  stays_old check e = record { answer = rw e; bytes = rw e }

  pub stays_refused : {e : Refusal} → (hall_verdict b n ≡ Fails e.check) × (e.needed ≡ 0) → Stepped c b n (Err e) b
  stays_refused {e} h =
      let s = stays_old e.check h.0 in
      record { answer = ap {B = Result ℕ Refusal} (λ (k : ℕ). Err (record { check = e.check; needed = k })) h.1 ∙ s.answer; bytes = s.bytes }

  module _ (o : Old b n) where
    step_is : step_in c b n ≡ settled (length b) (proposed c (state_in b n))
    unfolding step_in
    step_is = rw o.verdict-is

    by-step : (s : Step) → step_in c b n ≡ s → Stepped c b n (step_answer s) (step_bytes b n s)
    by-step s e = record { answer = ap (λ (x : Step). step_answer x) (sym e); bytes = ap (λ (x : Step). step_bytes b n x) (sym e) }

    -- checks 1 to 6 and 21 to 23
    pub stays_barred : (check : ℕ) → proposed c (state_in b n) ≡ refused check → Stepped c b n (Err (record { check = check; needed = 0 })) b
    stays_barred check e = by-step (stays check 0) (step_is ∙ rw e)

    module _ (h : Hall) (e : proposed c (state_in b n) ≡ read h) where
      -- and on the result
      pub stays-judged : (check : ℕ) → verdict h ≡ Fails check → Stepped c b n (Err (record { check = check; needed = 0 })) b
      stays-judged check v = by-step (stays check 0) (step_is ∙ rw (e, v))

      module _ (v : verdict h ≡ Sound) where
        -- check 24
        pub stays_long : (needed : ℕ) → needed ≡ length (hall_bytes h) → length b < needed → Stepped c b n (Err (record { check = 24; needed = needed })) b
        stays_long needed l short =
            by-step (stays 24 needed) (step_is ∙ rw (e, v, ← l, lt-leb needed (length b) short))

        new-bytes : state_bytes (state_of h) ≡ hall_bytes h
        unfolding state_bytes
        new-bytes = ap hall_bytes (hall_of-state h v)

        pub becomes-new : (m : ℕ) (t : List ℕ) → m ≡ length (hall_bytes h) → m ≤ length b → t ≡ rewritten b n (hall_bytes h) → Stepped c b n (Ok m) t
        becomes-new m t l fit w =
            let d : step_in c b n ≡ becomes (state_of h) = step_is ∙ rw (e, v, ← l, le-leb m (length b) fit) in
            let s = by-step (becomes (state_of h)) d in
            record {
              answer = ap {B = (Result ℕ Refusal)} Ok (l ∙ ap length (sym new-bytes)) ∙ s.answer;
              bytes = w ∙ ap (rewritten b n) (sym new-bytes) ∙ s.bytes;
            }

-- the same of an answer that is known by an equation
pub answered : {c : Call} {b : List ℕ} {n : ℕ} {r r' : Result ℕ Refusal} {t : List ℕ} → r ≡ r' → Stepped c b n r' t → Stepped c b n r t
answered e s = record { answer = e ∙ s.answer; bytes = s.bytes }
