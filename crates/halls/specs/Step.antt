-- One call: the abstract state's step, and the same on the first n bytes of a lent buffer (document 01, "Hall book" and "Calls").
use Rattle.std.specs.Prelude.{◌≡◌, cond, List, ◌++◌, ℕ, ◌-◌, max, leb, length, take, drop, replicate}
use Rattle.halls.specs.Calls.{Call, proposed}
use Rattle.halls.specs.Checks.{hall_verdict, require, verdict}
use Rattle.halls.specs.Hall.{Hall, hall_bytes}
use Rattle.halls.specs.Parsing.{models_in}
use Rattle.halls.specs.Reading.{Reading, refused, read}
use Rattle.halls.specs.Records.{records}
use Rattle.halls.specs.State.{State, hall_of, state_of, state_bytes}
use Rattle.std.specs.Prelude.{Result, Ok, Err}
use Rattle.halls.specs.declared.answer.Refusal.{Refusal}
use Rattle.halls.specs.Verdict.{Verdict}
use Rattle.halls.specs.Verdict.{Sound, Fails}

-- a refused call leaves the state as it is, with the check's number and the needed bytes
pub data Step : Type 0 where
  stays : (check needed : ℕ) → Step
  becomes : State → Step

-- the checks of a hall (`verdict`), then what follows
abbrev pub if_sound : Verdict → Step → Step
if_sound Sound next = next
if_sound (Fails check) next = stays check 0

-- these on the result, then 24 with the needed bytes
abbrev pub settled : ℕ → Reading Hall → Step
settled room (refused check) = stays check 0
settled room (read h) = if_sound (verdict h) (cond (leb (length (hall_bytes h)) room) (becomes (state_of h)) (stays 24 (length (hall_bytes h))))

-- these on the old hall; 11 asks too whether its n is within the buffer
abbrev pub state_verdict : ℕ → State → Verdict
state_verdict room s = require 11 (leb (length (state_bytes s)) room) (verdict (hall_of s))

-- the state's step, in a buffer of `room` bytes
unfoldable pub step : Call → ℕ → State → Step
step c room s = if_sound (state_verdict room s) (settled room (proposed c s))

-- ---- on bytes

-- the state that the first n bytes of a buffer are
abbrev pub state_in : List ℕ → ℕ → State
state_in b n = state_of (models_in (records (take n b)))

unfoldable pub step_in : Call → List ℕ → ℕ → Step
step_in c b n = if_sound (hall_verdict b n) (settled (length b) (proposed c (state_in b n)))

-- the new hall w in the place of the first n bytes: bytes from the new to a longer old n become zero, those beyond both are untouched
unfoldable pub rewritten : List ℕ → ℕ → List ℕ → List ℕ
rewritten b n w = w ++ (replicate (n - length w) 0 ++ drop (max n (length w)) b)

-- an acceptance answers the new n
abbrev pub step_answer : Step → Result ℕ Refusal
step_answer (stays check needed) = Err (record { check = check; needed = needed })
step_answer (becomes s) = Ok (length (state_bytes s))

abbrev pub step_bytes : List ℕ → ℕ → Step → List ℕ
step_bytes b n (stays check needed) = b
step_bytes b n (becomes s) = rewritten b n (state_bytes s)

-- What every call ensures of the buffer b at entry, its n, its answer r and the buffer t at exit.
pub record Stepped (c : Call) (b : List ℕ) (n : ℕ) (r : Result ℕ Refusal) (t : List ℕ) : Type 0 where
  pub answer : r ≡ step_answer (step_in c b n)
  pub bytes : t ≡ step_bytes b n (step_in c b n)
