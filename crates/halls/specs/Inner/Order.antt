-- The order of the hall's checks, as ranks: a check's rank is its number, but that of 19, which is asked last, is above 27. So the first check that
-- fails is the one of the lowest rank, whatever a pass finds first. Private contracts speak of ranks; `TallyLaws` ties them to the verdict.
use Prim.{Unit}
use Rattle.std.specs.Prelude.{◌≡◌, Bool, cond, ℕ, ◌<◌, ◌≤◌, eqb, leb, Result, MatchResult}
use Rattle.halls.specs.declared.answer.Refusal.{Refusal}
use Rattle.halls.specs.Verdict.{Verdict}
use Rattle.halls.specs.Verdict.{Sound, Fails}

-- the rank of check 19
abbrev pub too_large : ℕ
too_large = 99

-- above every rank: no check fails
abbrev pub passed : ℕ
passed = 100

-- of one check with its rank
abbrev pub failing : ℕ → Bool → ℕ
failing rank ok = cond ok passed rank

-- the number of the check of a rank
abbrev pub check_of : ℕ → ℕ
check_of rank = cond (eqb rank too_large) 19 rank

abbrev pub verdict_of : ℕ → Verdict
verdict_of rank = cond (leb passed rank) Sound (Fails (check_of rank))

-- a rank told: no check fails, or the refusal by its check
abbrev pub Told : ℕ → Result (Unit {0}) Refusal → Type 0
Told rank r = MatchResult r (λ _. passed ≤ rank) (λ e. (rank < passed) × (e ≡ record { check = check_of rank; needed = 0 }))
