-- A half's bits below the sign, moved to their places in a float, and the sum that moves a subnormal half down from 2^-15: none for the others.
use mathlib.Core.Path.{◌≡◌, refl, sym, ap, ◌∙◌, subst}
use mathlib.Core.Bool.{Bool, true, false, not, cond, ◌&&◌}
use mathlib.Core.Logic.{inl, inr}
use Prim.Native.Nat.{ℕ, suc, ◌+◌, ◌-◌, ◌*◌, ◌/◌, ◌%◌, ◌^◌, ◌≤◌, ◌<◌}
use native.Mathlib.Nat.{add_comm, add-mul, add-zero, le_of_mul-le-mul_right, le_trans, le_of_eq, mul_assoc, mul_comm, mul-div_cancel, mul-le-mul_right, mul-lt-mul_of_pos_right, mul-mod_left, mul-one, mul-pos, one-mul}
use native.Mathlib.Omega.{arith}
use lib.Count.{count_leading_zeros}
use lib.Dec.{T, eqb, eqb→eq, ltb}
use lib.IntN.{negsuc}
use lib.Pow.{pow-add, pow_mono, pow_pos}
use lib.Ieee.{Float, nan, inf, fin, binary32, up, down, round, sum, add, sub, neg, lt, of_bits, to_bits, nan_bits, is_nan}
use lib.Ieee.Exact.{HasValue}
use lib.Ieee.Fits.{and_l, and_r, down_pos}
use borrow.Author.Tests.{le-ltb, lt-ltb}
use Rattle.vertices.specs.Half.{magnitude, decoded}
use Rattle.vertices.specs.Normalised.{number}
use Rattle.vertices.proofs.AllBelow.{all_below, each}
use Rattle.vertices.proofs.FloatNan.{add_not_nan, not_nan_below}
use Rattle.vertices.proofs.FloatRounding.{round_not_below}
use Rattle.vertices.proofs.HalfBridge.{plain_value}
use Rattle.vertices.proofs.HalfDecode.{decoded-normal, decoded-special}
use Rattle.vertices.proofs.HalfRound.{round_down}
use Rattle.vertices.proofs.HalfSize.{magnitude-at, side}
use Rattle.vertices.proofs.HalfSum.{Closest-even}
use Rattle.vertices.proofs.SumPower.{scaled, sum-bits}

abbrev pub moved : ℕ → Float
moved m = of_bits binary32 (m * 8192 + 939524096)

-- 2^-14, where the normal halves begin, by its bits
abbrev pub least : Float
least = of_bits binary32 947912704

abbrev pub not_above_zero : Float → Float
not_above_zero x = cond (lt x (number 0)) x (number 0)

abbrev pub lifted : ℕ → Float
lifted m = add binary32 (moved m) (not_above_zero (sub binary32 (moved m) least))

-- ---- subnormal: each is computed

right : ℕ → Bool
right m = not (is_nan (lifted m)) && eqb (to_bits binary32 (lifted m)) (decoded m)

all_right : T (all_below right 1024)
unfolding right is_nan lt add sub neg sum round of_bits to_bits decoded count_leading_zeros
all_right = tt

-- ---- normal, infinite and NaN: nothing is added

-- 2^23 + t units of 2^k, and zero
with-zero : (x : Float) (k t : ℕ) → HasValue x false ((8388608 + t) * 2 ^ k) (2 ^ 149) → t < 8388608 → k < 253
    → to_bits binary32 (add binary32 x (number 0)) ≡ suc k * 8388608 + t
unfolding add sum
with-zero nan k t h l b = absurd h
with-zero (inf s) k t h l b = absurd h
with-zero (fin true a e) k t h l b = absurd (subst T h.0 tt)
with-zero (fin false a e) k t h l b =
    let d = down e in
    let D : 0 < d * 1 = omega (arith, down_pos e) in
    let u = d * 1 * 2 ^ k in
    let U : 0 < u = mul-pos D (pow_pos k) in
    let n : a * up e * 1 + 0 * 1 * d ≡ a * up e = omega arith in
    let v : (8388608 + t) * 2 ^ k * d ≡ t * u + 8388608 * u =
    mul_assoc (8388608 + t) (2 ^ k) d
    ∙ ap (λ (y : ℕ). (8388608 + t) * y) (mul_comm (2 ^ k) d ∙ ap (λ (y : ℕ). y * 2 ^ k) (sym (mul-one d)))
    ∙ add-mul 8388608 t u
    ∙ add_comm (8388608 * u) (t * u) in
    let w : (a * up e * 1 + 0 * 1 * d) * 2 ^ 149 ≡ t * u + 8388608 * u = ap (λ (y : ℕ). y * 2 ^ 149) n ∙ h.1 ∙ v in
    let less : t * u < 8388608 * u = mul-lt-mul_of_pos_right l U in
    let whole : t * u % u * 2 < u = subst (λ (y : ℕ). y * 2 < u) (sym (mul-mod_left t u)) (omega arith) in
    sum-bits (a * up e * 1 + 0 * 1 * d) (d * 1) k (t * u) D b w less
    ∙ ap (λ (y : ℕ). suc k * 8388608 + y) (Closest-even (t * u) u ∙ round_down (t * u) u whole ∙ mul-div_cancel t U)

-- 2^-14 or more in units of 2^-149, less 2^-14, is not below zero
not-less : (x : Float) (n : ℕ) → HasValue x false n (2 ^ 149) → 2 ^ 135 ≤ n → lt (sub binary32 x (fin false 1 (negsuc 13))) (number 0) ≡ false
unfolding sub neg add sum
not-less nan n h l = absurd h
not-less (inf s) n h l = absurd h
not-less (fin true a e) n h l = absurd (subst T h.0 tt)
not-less (fin false a e) n h l =
    let d = down e in
    let v : a * up e * 16384 * 2 ^ 135 ≡ n * d = mul_assoc (a * up e) 16384 (2 ^ 135) ∙ ap (λ (y : ℕ). a * up e * y) (sym (pow-add 2 14 135)) ∙ h.1 in
    let w : 1 * 1 * d * 2 ^ 135 ≡ 2 ^ 135 * d = ap (λ (y : ℕ). y * 2 ^ 135) (one-mul d) ∙ mul_comm d (2 ^ 135) in
    let k : 1 * 1 * d ≤ a * up e * 16384 =
    le_of_mul-le-mul_right (le_trans (le_of_eq w) (le_trans (mul-le-mul_right d l) (le_of_eq (sym v)))) (pow_pos 135) in
    subst (λ (b : Bool). lt (cond b (round binary32 true (1 * 1 * d - a * up e * 16384) (d * 16384)) (round binary32 false (a * up e * 16384 - 1 * 1 * d) (d * 16384))) (number 0) ≡ false)
    (sym (le-ltb (a * up e * 16384) (1 * 1 * d) k))
    (round_not_below binary32 (a * up e * 16384 - 1 * 1 * d) (d * 16384))

least-is : least ≡ fin false 1 (negsuc 13)
unfolding of_bits
least-is = refl

-- ---- what holds of the sum of a half's bits below the sign, m

pub record Lifted (m : ℕ) : Type 0 where
  pub real : T (not (nan_bits binary32 (m * 8192 + 939524096)))
  pub number : T (not (is_nan (lifted m)))
  pub bits : to_bits binary32 (lifted m) + cond (ltb m 31744) 0 939524096 ≡ decoded m

Subnormal-lifted : (m : ℕ) → m < 1024 → Lifted m
unfolding right
Subnormal-lifted m h =
    let t = each right 1024 all_right m h in
    let n = not (is_nan (lifted m)) in
    let e = eqb (to_bits binary32 (lifted m)) (decoded m) in
    let l : m < 31744 = omega arith in
    record {
      real = not_nan_below (m * 8192 + 939524096) (omega arith);
      number = and_l n e t;
      bits = ap (λ (b : Bool). to_bits binary32 (lifted m) + cond b 0 939524096) (lt-ltb m 31744 l) ∙ add-zero _ ∙ eqb→eq _ _ (and_r n e t);
    }

module _ (m : ℕ) (g : 1024 ≤ m) (h : m < 32768) where
  field : ℕ
  field = m / 1024 + 111

  value : HasValue (moved m) false ((8388608 + m % 1024 * 8192) * 2 ^ field) (2 ^ 149)
  unfolding field
  value =
      let e : m * 8192 + 939524096 ≡ (field + 1) * 2 ^ 23 + m % 1024 * 8192 = omega arith in
      subst (λ (n : ℕ). HasValue (moved m) false n (2 ^ 149)) (ap (magnitude 23) e ∙ magnitude-at 23 field (m % 1024 * 8192) (omega arith))
      (plain_value (m * 8192 + 939524096) (omega arith))

  none : not_above_zero (sub binary32 (moved m) least) ≡ number 0
  unfolding field
  none =
      let k : 135 ≤ field + 23 = omega arith in
      let l = not-less (moved m) ((8388608 + m % 1024 * 8192) * 2 ^ field) value (le_trans (pow_mono k) (scaled (8388608 + m % 1024 * 8192) field (omega arith))) in
      ap (λ (y : Float). not_above_zero (sub binary32 (moved m) y)) least-is ∙ ap (λ (b : Bool). cond b (sub binary32 (moved m) (fin false 1 (negsuc 13))) (number 0)) l

  same : to_bits binary32 (lifted m) ≡ m * 8192 + 939524096
  unfolding field
  same =
      let e : suc field * 8388608 + m % 1024 * 8192 ≡ m * 8192 + 939524096 = omega arith in
      ap (λ (y : Float). to_bits binary32 (add binary32 (moved m) y)) none ∙ with-zero (moved m) field (m % 1024 * 8192) value (omega arith) (omega arith) ∙ e

  joined : (m * 8192 + 939524096) + cond (ltb m 31744) 0 939524096 ≡ decoded m
  joined =
      elim (side 31744 m) [
        | inl k ↦ rw (le-ltb m 31744 k) (omega (arith, decoded-special m k))
        | inr k ↦ rw (lt-ltb m 31744 k) (omega (arith, decoded-normal m g k))
      ]

  other-lifted : Lifted m
  other-lifted =
      record {
        real = not_nan_below (m * 8192 + 939524096) (omega arith);
        number = subst (λ (y : Float). T (not (is_nan (add binary32 (moved m) y)))) (sym none)
            (add_not_nan binary32 (moved m) (number 0) ((8388608 + m % 1024 * 8192) * 2 ^ field) (2 ^ 149) 0 1 value (refl, refl));
        bits = ap (λ (n : ℕ). n + cond (ltb m 31744) 0 939524096) same ∙ joined;
      }

pub lift : (m : ℕ) → m < 32768 → Lifted m
lift m h = elim (side 1024 m) [ inl g ↦ other-lifted m g h | inr l ↦ Subnormal-lifted m l ]
