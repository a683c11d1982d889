-- What saving a hall takes: the checks of a hall, and of a sound one the number of its models and the bytes of its image.
use Rattle.std.specs.Prelude.{List, ℕ, Result, Ok, Err, length, take}
use Rattle.halls.specs.Checks.{hall_verdict}
use Rattle.halls.specs.Hall.{Hall}
use Rattle.halls.specs.ImageSize.{image_size}
use Rattle.halls.specs.Parsing.{models_in}
use Rattle.halls.specs.Records.{records}
use Rattle.halls.specs.declared.check.check.HallSize.{HallSize}
use Rattle.halls.specs.declared.answer.Refusal.{Refusal}
use Rattle.halls.specs.Verdict.{Verdict}
use Rattle.halls.specs.Verdict.{Sound, Fails}

abbrev pub size_by : Verdict → Hall → Result HallSize Refusal
size_by (Fails check) h = Err (record { check = check; needed = 0 })
size_by Sound h = Ok (record { models = length h; bytes = image_size h })

-- of the hall in the first n bytes of a buffer
unfoldable pub hall_size : List ℕ → ℕ → Result HallSize Refusal
hall_size b n = size_by (hall_verdict b n) (models_in (records (take n b)))
