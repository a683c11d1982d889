-- `clamp` below, above and inside its range. Assumes nothing.
use mathlib.Core.Path.{◌≡◌}
use mathlib.Core.Bool.{true, false}
use lib.Ieee.{Float, lt}
use Rattle.vertices.specs.Normalised.{clamp}

module _ (least most x : Float) where
  -- what is below the range becomes its lower end
  pub clamp-below : lt x least ≡ true → clamp least most x ≡ least
  unfolding clamp
  clamp-below l = rw l

  -- what is above the range becomes its upper end
  pub clamp-above : lt x least ≡ false → lt most x ≡ true → clamp least most x ≡ most
  unfolding clamp
  clamp-above l m = rw (l, m)

  -- what is inside stays as it is
  pub clamp-inside : lt x least ≡ false → lt most x ≡ false → clamp least most x ≡ x
  unfolding clamp
  clamp-inside l m = rw (l, m)
