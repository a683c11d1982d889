-- What the checks of a hall come to, and how a call answers it.
use Rattle.std.specs.Prelude.{ℕ, Result, Ok, Err}
use Prim.{Unit, tt}
use Rattle.halls.specs.declared.answer.Refusal.{Refusal}

-- no check fails, or the number of the first, in the order in which they are asked, that fails anywhere in the hall
pub data Verdict : Type 0 where
  Sound : Verdict
  Fails : ℕ → Verdict

abbrev pub verdict_result : Verdict → Result (Unit {0}) Refusal
verdict_result Sound = Ok tt
verdict_result (Fails check) = Err (record { check = check; needed = 0 })
