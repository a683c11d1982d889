-- What `colour_byte` returns on each of its ways. Assumes nothing.
use mathlib.Core.Path.{◌≡◌, refl, sym, ap, subst, ◌∙◌}
use mathlib.Core.Bool.{Bool, true, false, cond}
use Prim.Native.Nat.{ℕ, ◌+◌, ◌*◌, ◌≤◌}
use native.Mathlib.Omega.{arith}
use lib.Pow.{pow_pos}
use lib.Dec.{T}
use lib.Ieee.{Float, nan, inf, fin, binary32, up, down, round, mul, lt, le, to_unsigned}
use lib.Ieee.Fits.{down_pos}
use lib.Ieee.Order.{round_mono}
use borrow.Author.Tests.{ltb-false}
use Rattle.vertices.specs.Normalised.{number, clamp, colour_byte}
use Rattle.vertices.specs.Inner.Small.{plain}
use Rattle.vertices.proofs.FloatRounding.{round_not_nan, round-plain, round-zero}
use Rattle.vertices.proofs.FloatOrder.{above_zero, below_larger, not_above, not_below}
use Rattle.vertices.proofs.NormalisedClamp.{clamp-below, clamp-above, clamp-inside}
use Rattle.vertices.proofs.NormalisedSize.{at_most}

-- times 255, and cut
scaled : Float → ℕ
scaled x = to_unsigned 8 (mul binary32 x (number 255))

-- a zero gives 0, and so does a NaN
zero-scaled : (x : Float) → lt x (number 0) ≡ false → lt (number 0) x ≡ false → scaled x ≡ 0
unfolding scaled lt mul to_unsigned
zero-scaled nan b a = refl
zero-scaled (inf true) b a = absurd (subst T b tt)
zero-scaled (inf false) b a = absurd (subst T a tt)
zero-scaled (fin true m e) b a =
    let z : m * up e ≡ 0 = omega (arith, ltb-false 0 (m * up e * 1 + 0 * 1 * down e) b) in
    rw z (round-zero 8 true (down e * 1) (omega (arith, down_pos e)))
zero-scaled (fin false m e) b a =
    let z : m * up e ≡ 0 = omega (arith, ltb-false (0 * 1 * down e) (m * up e * 1) a) in
    rw z (round-zero 8 false (down e * 1) (omega (arith, down_pos e)))

module _ (x : Float) where
  clamped : {y : Float} → clamp (number 0) (number 1) x ≡ y → scaled y ≡ colour_byte x
  unfolding colour_byte scaled
  clamped e = sym (ap scaled e)

  -- above 1 the byte is 255
  colour_above : lt (number 1) x ≡ true → 255 ≡ colour_byte x
  unfolding scaled mul to_unsigned
  colour_above h = clamped (clamp-above (number 0) (number 1) x (not_below 1 x h) h)

  -- above 0, and not above 1, it is the product, cut
  colour-inside : lt (number 1) x ≡ false → lt (number 0) x ≡ true → to_unsigned 8 (mul binary32 x (number 255)) ≡ colour_byte x
  unfolding scaled
  colour-inside h l = clamped (clamp-inside (number 0) (number 1) x (not_below 0 x l) h)

  -- what is not above 0, a NaN too, gives 0
  colour_not_above : lt (number 1) x ≡ false → lt (number 0) x ≡ false → 0 ≡ colour_byte x
  unfolding scaled mul to_unsigned
  colour_not_above h l = go (lt x (number 0)) refl
    where
      go : (b : Bool) → lt x (number 0) ≡ b → 0 ≡ colour_byte x
      go true b = clamped (clamp-below (number 0) (number 1) x b)
      go false b = sym (zero-scaled x b l) ∙ clamped (clamp-inside (number 0) (number 1) x b h)

-- a NaN gives 0
pub colour_nan : 0 ≡ colour_byte nan
unfolding lt
colour_nan = colour_not_above nan refl refl

most : round binary32 false 255 1 ≡ number 255
unfolding round
most = refl

-- above 0, and not above 1, the product can be cut to a byte
product_whole : (x : Float) → lt (number 1) x ≡ false → lt (number 0) x ≡ true → T (plain (mul binary32 x (number 255))) × T (lt (mul binary32 x (number 255)) (number 256))
unfolding lt mul
product_whole nan h l = absurd (subst T (sym l) tt)
product_whole (inf true) h l = absurd (subst T (sym l) tt)
product_whole (inf false) h l = absurd (subst T h tt)
product_whole (fin true m e) h l = absurd (subst T (sym l) tt)
product_whole (fin false m e) h l =
    let product = round binary32 false (m * up e * 255) (down e * 1) in
    let small : m * up e * 255 * 1 ≤ 255 * (down e * 1) = omega (arith, ltb-false (1 * 1 * down e) (m * up e * 1) h) in
    let ordered = round_mono binary32 (m * up e * 255) (down e * 1) 255 1 (omega (arith, down_pos e)) (pow_pos 0) small in (
      round-plain binary32 (m * up e * 255) (down e * 1),
      below_larger 255 256 product (omega arith) (round_not_nan binary32 false (m * up e * 255) (down e * 1))
          (not_above 255 product (subst (λ (y : Float). T (le product y)) most ordered)),
    )

-- ---- the value from 0 to 1

abbrev pub from_zero : Float → Float
from_zero x = cond (lt (number 0) x) x (number 0)

abbrev pub unit : Float → Float
unit x = at_most (number 1) (from_zero x)

-- the product of u can be cut to the byte of x
pub record ColourOf (x u : Float) : Type 0 where
  pub whole : T (plain (mul binary32 u (number 255))) × T (lt (mul binary32 u (number 255)) (number 256))
  pub byte : to_unsigned 8 (mul binary32 u (number 255)) ≡ colour_byte x

module _ (x : Float) where
  unit-none : lt (number 0) x ≡ false → unit x ≡ number 0
  unfolding lt
  unit-none e = ap (λ (b : Bool). at_most (number 1) (cond b x (number 0))) e

  unit-some : lt (number 0) x ≡ true → (c : Bool) → lt (number 1) x ≡ c → unit x ≡ cond c (number 1) x
  unit-some e c f = ap (λ (b : Bool). at_most (number 1) (cond b x (number 0))) e ∙ ap (λ (b : Bool). cond b (number 1) x) f

  not-one : lt (number 0) x ≡ false → (c : Bool) → lt (number 1) x ≡ c → lt (number 1) x ≡ false
  not-one e true f = f ∙ sym (above_zero 1 x f) ∙ e
  not-one e false f = f

  none : lt (number 0) x ≡ false → ColourOf x (number 0)
  unfolding mul lt round to_unsigned
  none e = record { whole = (tt, tt); byte = colour_not_above x (not-one e (lt (number 1) x) refl) e }

  some : lt (number 0) x ≡ true → (c : Bool) → lt (number 1) x ≡ c → ColourOf x (cond c (number 1) x)
  unfolding mul lt round to_unsigned
  some e true f = record { whole = (tt, tt); byte = colour_above x f }
  some e false f = record { whole = product_whole x f e; byte = colour-inside x f e }

  -- what holds of the product and the byte
  pub colour_of_lem : ColourOf x (unit x)
  colour_of_lem = go (lt (number 0) x) refl
    where
      go : (b : Bool) → lt (number 0) x ≡ b → ColourOf x (unit x)
      go false e = subst (ColourOf x) (sym (unit-none e)) (none e)
      go true e = subst (ColourOf x) (sym (unit-some e (lt (number 1) x) refl)) (some e (lt (number 1) x) refl)
