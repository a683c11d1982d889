-- Save (document 01, "Images" and checks 11 to 20): the image of the hall in the first n bytes of a buffer, over the first bytes of another.
use Rattle.std.specs.Prelude.{◌≡◌, cond, List, ℕ, leb, length, take}
use Rattle.halls.specs.Checks.{hall_verdict}
use Rattle.halls.specs.Hall.{Hall}
use Rattle.halls.specs.Outcome.{Outcome, refusal, written, answer_of, after}
use Rattle.halls.specs.Parsing.{models_in}
use Rattle.halls.specs.Records.{records}
use Rattle.std.specs.Prelude.{Result}
use Rattle.halls.specs.declared.answer.Refusal.{Refusal}
use Rattle.halls.specs.Verdict.{Verdict}
use Rattle.halls.specs.Verdict.{Sound, Fails}
use Rattle.images.specs.Image.{image}

-- the checks of a hall, then 20 with the needed bytes
abbrev pub saved_by : Verdict → ℕ → Hall → Outcome
saved_by (Fails check) room h = refusal check 0
saved_by Sound room h = cond (leb (length (image h)) room) (written (image h)) (refusal 20 (length (image h)))

unfoldable pub saved : List ℕ → ℕ → ℕ → Outcome
saved b n room = saved_by (hall_verdict b n) room (models_in (records (take n b)))

-- What save ensures of the hall's buffer b, its n, the image buffer d at entry, the answer r and the image buffer t at exit.
pub record Saved (b : List ℕ) (n : ℕ) (d : List ℕ) (r : Result ℕ Refusal) (t : List ℕ) : Type 0 where
  pub answer : r ≡ answer_of (saved b n (length d))
  pub bytes : t ≡ after (saved b n (length d)) d
