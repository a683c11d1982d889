-- What C sees of a call: the number of the check that failed, 0 where none did, the lent output afterwards, and the bytes written or needed.
use Rattle.std.specs.Prelude.{◌≡◌, cond, List, ℕ, ◌-◌, ◌^◌, min, leb, length}
use Rattle.vertices.specs.declared.runs.NeedsBytes.{NeedsBytes}
use Rattle.halls.specs.Outcome.{Outcome, refusal, written, answer_of, after}
use Rattle.std.specs.Prelude.{Result, Ok, Err}
use Prim.{Unit}
use Rattle.halls.specs.declared.answer.Refusal.{Refusal}
use Rattle.halls.specs.Verdict.{Verdict, Sound, Fails}

abbrev pub number_of : Outcome → ℕ
number_of (refusal check needed) = check
number_of (written b) = 0

abbrev pub length_of : Outcome → ℕ
length_of (refusal check needed) = needed
length_of (written b) = length b

-- a call that comes to o returns r, leaves t of its output d, and gives the length n
pub record Told (o : Outcome) (d : List ℕ) (r : ℕ) (t : List ℕ) (n : ℕ) : Type 0 where
  pub number : r ≡ number_of o
  pub output : t ≡ after o d
  pub size : n ≡ length_of o

-- a call that comes to o answers r, and leaves t of its output d
pub record Answered (o : Outcome) (d : List ℕ) (r : Result ℕ Refusal) (t : List ℕ) : Type 0 where
  pub answer : r ≡ answer_of o
  pub bytes : t ≡ after o d

-- ---- outputs of the vertex layer: check 10 is that the output is long enough

-- the bytes b into `room` bytes
unfoldable pub fitting : ℕ → List ℕ → Outcome
fitting room b = cond (leb (length b) room) (written b) (refusal 10 (length b))

-- the same, where 64 bits may not hold the length: the greatest u64 then stands for it
unfoldable pub fitting_capped : ℕ → List ℕ → Outcome
fitting_capped room b = cond (leb (length b) room) (written b) (refusal 10 (min (length b) (2 ^ 64 - 1)))

-- a run's error, as a refusal of check 10

abbrev pub run_refusal : NeedsBytes → Refusal
run_refusal e = record { check = 10; needed = e.0 }

-- ---- number and length of the libraries' answers

module _ {E : Type 0} (refusal_of : E → Refusal) where
  abbrev pub told_number : Result ℕ E → ℕ
  told_number (Ok n) = 0
  told_number (Err e) = (refusal_of e).check

  abbrev pub told_length : Result ℕ E → ℕ
  told_length (Ok n) = n
  told_length (Err e) = (refusal_of e).needed

abbrev pub answer_number : Result ℕ Refusal → ℕ
answer_number = told_number (λ r. r)

abbrev pub answer_length : Result ℕ Refusal → ℕ
answer_length = told_length (λ r. r)

abbrev pub run_number : Result ℕ NeedsBytes → ℕ
run_number = told_number run_refusal

abbrev pub run_length : Result ℕ NeedsBytes → ℕ
run_length = told_length run_refusal

abbrev pub check_number : Result (Unit {0}) Refusal → ℕ
check_number (Ok x) = 0
check_number (Err r) = r.check

abbrev pub verdict_number : Verdict → ℕ
verdict_number Sound = 0
verdict_number (Fails check) = check
