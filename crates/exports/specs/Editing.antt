-- What C sees of a call that edits the hall in the first n bytes of the buffer b: the number of the check that failed, 0 where none did, the buffer
-- afterwards, and the new n, or the bytes needed.
use Rattle.std.specs.Prelude.{◌≡◌, List, ℕ}
use Rattle.halls.specs.Calls.{Call}
use Rattle.halls.specs.Step.{step_in, step_answer, step_bytes}
use Rattle.exports.specs.Told.{answer_number, answer_length}

-- the call c returns r, leaves t of the buffer, and gives the length m
pub record ToldStep (c : Call) (b : List ℕ) (n r : ℕ) (t : List ℕ) (m : ℕ) : Type 0 where
  pub number : r ≡ answer_number (step_answer (step_in c b n))
  pub buffer : t ≡ step_bytes b n (step_in c b n)
  pub size : m ≡ answer_length (step_answer (step_in c b n))
