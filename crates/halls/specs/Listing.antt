-- The hall list call (document 01, checks 1 to 7): sections, the address of a LOD header, and the length of the lent buffer.
use Rattle.std.specs.Prelude.{cond, List, ℕ, leb, length}
use Rattle.sections.specs.Address.{Sections, within_limit}
use Rattle.halls.specs.List.{Model, write}
use Rattle.halls.specs.Outcome.{Outcome, refusal, written}
use Rattle.halls.specs.Reading.{Reading, refused, read, read_list}

-- check 7: after the walk, with the needed bytes
abbrev pub fitted : ℕ → Reading (List Model) → Outcome
fitted room (refused check) = refusal check 0
fitted room (read ms) = cond (leb (length (write ms)) room) (written (write ms)) (refusal 7 (length (write ms)))

-- check 1, then what reading says
unfoldable pub hall_list : Sections → ℕ → ℕ → Outcome
hall_list s va room = cond (within_limit s) (fitted room (read_list s va)) (refusal 1 0)
