-- A list of calls, call by call: the buffer shows a sound state whose numbers fit, so that a call does to the bytes what its step does to the state.
use mathlib.Core.Path.{◌≡◌, refl, sym, ap, ◌∙◌}
use mathlib.Core.Bool.{Bool, true, false, cond}
use mathlib.Core.List.{List, [], ◌∷◌}
use Prim.Native.Nat.{ℕ, ◌≤◌, max}
use native.Mathlib.Omega.{arith}
use borrow.Author.Tests.{le-leb, leb-true}
use lib.Dec.{leb}
use lib.ListN.{length, take, length-append, length-replicate, length-drop}
use lib.Seq.{take_at}
use Rattle.halls.specs.Calls.{Call, proposed}
use Rattle.halls.specs.Checks.{geometry_count, counts_within_limits, image_within_limit, verdict, hall_verdict}
use Rattle.halls.specs.Every.{every, sum_of, Each}
use Rattle.halls.specs.Hall.{Hall, HallInWidth, hall_bytes}
use Rattle.halls.specs.ImageSize.{image_size}
use Rattle.halls.specs.List.{each}
use Rattle.halls.specs.Parsing.{models_in}
use Rattle.halls.specs.Reading.{Reading, refused, read}
use Rattle.halls.specs.Records.{records}
use Rattle.halls.specs.State.{State, hall_of, state_bytes, state_of, StateInWidth, IsState}
use Rattle.halls.specs.Step.{Step, stays, becomes, if_sound, settled, step, step_in, step_answer, step_bytes, Stepped}
use Rattle.halls.specs.Verdict.{Verdict}
use Rattle.halls.specs.Verdict.{Sound, Fails}
use Rattle.halls.proofs.ParsingLaws.{hall-read}
use Rattle.halls.proofs.RecordBytes.{hall_records_lem}
use Rattle.halls.proofs.StateLaws.{hall_of-state, state_of-hall, sound-InWidth, State-sound}
use Rattle.images.specs.Runs.{Fits, Made, next_n, Ran, buffer_after, n_after, state_after_step, state_after, Shows, Agrees}
use Rattle.images.proofs.BufferLaws.{rewritten-shown}
use Rattle.images.proofs.CallWidths.{call_kept}

-- ---- a step that changes the state

record Settled (room : ℕ) (r : Reading Hall) (t : State) : Type 0 where
  hall : Hall
  is : r ≡ read hall
  sound : verdict hall ≡ Sound
  fits : length (hall_bytes hall) ≤ room
  state : state_of hall ≡ t

settled-hall : (room : ℕ) (h : Hall) (t : State) (v : Verdict) (u : Bool) → verdict h ≡ v → leb (length (hall_bytes h)) room ≡ u
    → if_sound v (cond u (becomes (state_of h)) (stays 24 (length (hall_bytes h)))) ≡ becomes t → Settled room (read h) t
settled-hall room h t Sound true p q e = record { hall = h; is = refl; sound = p; fits = leb-true (length (hall_bytes h)) room q; state = cc }
settled-hall room h t Sound false p q e = let z : ◌≡◌ {A = ℕ} 0 1 = cc in absurd (omega arith)
settled-hall room h t (Fails check) u p q e = let z : ◌≡◌ {A = ℕ} 0 1 = cc in absurd (omega arith)

settled-becomes : (room : ℕ) (r : Reading Hall) (t : State) → settled room r ≡ becomes t → Settled room r t
settled-becomes room (refused check) t e = let z : ◌≡◌ {A = ℕ} 0 1 = cc in absurd (omega arith)
settled-becomes room (read h) t e = settled-hall room h t (verdict h) (leb (length (hall_bytes h)) room) refl refl e

written-hall : (t : State) (h : Hall) → hall_of t ≡ h → state_bytes t ≡ hall_bytes h
unfolding state_bytes
written-hall t h e = ap hall_bytes e

-- ---- what holds before and after each call

pub record Held (first b : List ℕ) (n greatest : ℕ) (s : State) : Type 0 where
  pub shows : Shows first b n greatest s
  pub reached : n ≤ greatest
  pub within : greatest ≤ length first
  pub sound : verdict (hall_of s) ≡ Sound
  pub InWidth_lem : StateInWidth s

module _ {first b : List ℕ} {n greatest : ℕ} {s : State} (h : Held first b n greatest s) where
  pub held_bytes : take n b ≡ state_bytes s
  held_bytes = rw h.shows.bytes (take_at (state_bytes s) _ n (sym h.shows.long))

  pub held-length : length b ≡ length first
  held-length = rw h.shows.bytes (simp (length-append, length-replicate, length-drop) (omega (arith, h.reached, h.within, h.shows.long)))

  pub held-state : IsState (take n b) s
  held-state = record { in_width = h.InWidth_lem; sound = h.sound; bytes = sym held_bytes }

  pub held-verdict : hall_verdict b n ≡ Sound
  held-verdict = State-sound b n s (omega (arith, held-length, h.reached, h.within)) held-state

  pub held-hall : models_in (records (take n b)) ≡ hall_of s
  unfolding state_bytes
  held-hall =
      let fits : HallInWidth (hall_of s) = sound-InWidth s h.InWidth_lem h.sound in
      ap (λ (x : List ℕ). models_in (records x)) held_bytes ∙ ap models_in (hall_records_lem (hall_of s) fits) ∙ hall-read (hall_of s) fits

  -- a call on the bytes, and on the state
  pub step_in_lem : (c : Call) → step_in c b n ≡ settled (length first) (proposed c s)
  unfolding step_in
  step_in_lem c = rw (held-verdict, held-hall, state_of-hall s, held-length)

  pub step_is : (c : Call) → step c (length first) s ≡ settled (length first) (proposed c s)
  unfolding step
  step_is c =
      let inside : length (state_bytes s) ≤ length first = omega (arith, h.reached, h.within, h.shows.long) in
      rw (le-leb (length (state_bytes s)) (length first) inside, h.sound)

  -- and what it leaves
  held-step : (c : Call) → Fits c → (o : Step) → settled (length first) (proposed c s) ≡ o
      → Held first (step_bytes b n o) (next_n n (step_answer o)) (max greatest (next_n n (step_answer o))) (state_after_step s o)
  held-step c f (stays check needed) e =
      let m : max greatest n ≡ greatest = omega (arith, h.reached) in
      rw m h
  held-step c f (becomes t) e =
      let r = settled-becomes (length first) (proposed c s) t e in
      let same : hall_of t ≡ r.hall = ap hall_of (sym r.state) ∙ hall_of-state r.hall r.sound in
      let room : length (state_bytes t) ≤ length first = rw (written-hall t r.hall same) r.fits in
      record {
        shows = record { long = refl; bytes = rw h.shows.bytes (rewritten-shown first (state_bytes s) (state_bytes t) n greatest (sym h.shows.long) h.reached) };
        reached = omega arith;
        within = omega (arith, h.within);
        sound = ap verdict same ∙ r.sound;
        InWidth_lem = rw (← r.state) (call_kept c s r.hall f h.InWidth_lem r.is);
      }

  held_next : (x : Made) → Fits x.call → Stepped x.call b n x.answer x.left
      → Held first x.left (next_n n x.answer) (max greatest (next_n n x.answer)) (state_after_step s (step x.call (length first) s))
  held_next x f d =
      let o : Step = settled (length first) (proposed x.call s) in
      rw (d.answer, d.bytes, step_in_lem x.call, step_is x.call) (held-step x.call f o refl)

-- the empty hall, in a buffer of any length and content
pub held_start : (first : List ℕ) → Held first first 0 0 []
unfolding hall_of state_bytes hall_bytes each verdict every counts_within_limits geometry_count sum_of image_within_limit image_size Each
held_start first = record { shows = record { long = refl; bytes = refl }; reached = omega arith; within = omega arith; sound = refl; InWidth_lem = tt }

-- ---- over a whole list

pub run-agrees : {first b : List ℕ} {n greatest : ℕ} {s : State} → Held first b n greatest s → (xs : List Made) → Ran b n xs → Agrees first b n greatest s xs
unfolding Ran Agrees
run-agrees h [] r = h.shows
run-agrees {first = first} {b = b} {n = n} {greatest = greatest} {s = s} h (x ∷ xs) r = (
  h.shows,
  r.1.answer ∙ ap step_answer (step_in_lem h x.call ∙ sym (step_is h x.call)),
  run-agrees {b = x.left} {n = next_n n x.answer} {greatest = max greatest (next_n n x.answer)} {s = state_after_step s (step x.call (length first) s)} (held_next h x r.0 r.1) xs r.2,
)

-- what holds at its end
pub record Ended (first b : List ℕ) (n : ℕ) (s : State) : Type 0 where
  pub greatest : ℕ
  pub held : Held first b n greatest s

pub run-ended : {first b : List ℕ} {n greatest : ℕ} {s : State} → Held first b n greatest s → (xs : List Made) → Ran b n xs
    → Ended first (buffer_after b xs) (n_after n xs) (state_after (length first) s xs)
unfolding Ran buffer_after n_after state_after
run-ended {greatest = greatest} h [] r = record { greatest = greatest; held = h }
run-ended {first = first} {b = b} {n = n} {greatest = greatest} {s = s} h (x ∷ xs) r =
    run-ended {b = x.left} {n = next_n n x.answer} {greatest = max greatest (next_n n x.answer)} {s = state_after_step s (step x.call (length first) s)} (held_next h x r.0 r.1) xs r.2
