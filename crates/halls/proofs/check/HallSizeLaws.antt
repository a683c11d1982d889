-- What saving a hall takes, by what the walk found.
use Rattle.std.specs.Prelude.{Result, Ok, Err}
use mathlib.Core.Path.{◌≡◌, ap}
use mathlib.Core.List.{List}
use Prim.Native.Nat.{ℕ, ◌+◌, ◌*◌, ◌/◌, ◌≤◌, ◌<◌}
use native.Mathlib.Omega.{arith}
use borrow.Author.Tests.{leb-true}
use lib.ListN.{take, get_or}
use Rattle.halls.specs.Checks.{image_within_limit, hall_verdict}
use Rattle.halls.specs.Hall.{Hall}
use Rattle.halls.specs.HallSize.{hall_size}
use Rattle.halls.specs.ImageSize.{image_size}
use Rattle.halls.specs.Inner.Walk.{Counted}
use Rattle.halls.specs.Parsing.{models_in}
use Rattle.halls.specs.Records.{records}
use Rattle.halls.specs.declared.answer.Refusal.{Refusal}
use Rattle.halls.specs.declared.check.check.HallSize.{HallSize}
use Rattle.halls.specs.Verdict.{Sound, Fails}
use Rattle.halls.specs.declared.check.pass.Summary.{Summary}
use Rattle.halls.proofs.SoundLaws.{verdict-sound}
use Rattle.halls.proofs.edit.StepLaws.{old}

module _ (b : List ℕ) (n : ℕ) where
  pub size-fails : {e : Refusal} → (hall_verdict b n ≡ Fails e.check) × (e.needed ≡ 0) → Err e ≡ hall_size b n
  unfolding hall_size
  size-fails {e} h = rw h.0 (ap {B = Result HallSize Refusal} (λ (k : ℕ). Err (record { check = e.check; needed = k })) h.1)

  module _ (r : Summary) (sound : hall_verdict b n ≡ Sound) (counted : Counted (models_in (records (take n b))) r) where
    abbrev hall : Hall
    hall = models_in (records (take n b))

    bytes-are : 16 * (1 + (r.models + 1) / 2 + r.units) ≡ image_size hall
    bytes-are = omega (arith, counted.image)

    pub size_low : ((i : ℕ) → get_or b i 0 < 256) → 16 * (1 + (r.models + 1) / 2 + r.units) ≤ 67108864
    unfolding image_within_limit
    size_low below =
        let i : image_size hall ≤ 67108864 = leb-true (image_size hall) 67108864 (verdict-sound hall (old b n below sound).sound).image in
        omega (arith, bytes-are)

    pub size-sound : Ok (record { models = r.models; bytes = 16 * (1 + (r.models + 1) / 2 + r.units) }) ≡ hall_size b n
    unfolding hall_size
    size-sound = rw sound (cc (counted.models, bytes-are))
