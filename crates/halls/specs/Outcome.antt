-- What a call comes to, and how its answer and the lent buffer show it (document 01, "Questions at the door").
use Rattle.std.specs.Prelude.{List, ℕ, length}
use Rattle.sections.specs.Edit.{overwrite}
use Rattle.std.specs.Prelude.{Result, Ok, Err}
use Rattle.halls.specs.declared.answer.Refusal.{Refusal}

-- the number of the check that failed with the needed bytes, or the bytes to be written
pub data Outcome : Type 0 where
  refusal : ℕ → ℕ → Outcome
  written : List ℕ → Outcome

abbrev pub answer_of : Outcome → Result ℕ Refusal
answer_of (refusal check needed) = Err (record { check = check; needed = needed })
answer_of (written b) = Ok (length b)

-- a refusal changes nothing, and what is beyond the bytes written stays
abbrev pub after : Outcome → List ℕ → List ℕ
after (refusal check needed) d = d
after (written b) d = overwrite d 0 b
