-- The half below the normal ones by one sum: 0.5 and the float, whose last place is a half's.
use mathlib.Core.Path.{◌≡◌, refl, sym, ap, ◌∙◌, subst}
use mathlib.Core.Bool.{true, false, not}
use Prim.Native.Nat.{ℕ, ◌+◌, ◌*◌, ◌/◌, ◌%◌, ◌^◌, ◌≤◌, ◌<◌, compare, Ordering}
use native.Mathlib.Nat.{mul_assoc, mul_comm, mul_right_comm, mul-pos, add-mul, one-mul, mul-lt-mul_of_pos_right, lt_of_lt_of_le, le_of_eq, le_of_lt}
use native.Mathlib.Omega.{arith}
use lib.Arith.{lt_of_le-ne}
use lib.Dec.{T, is_le, compare_is_eq, eqb, leb→le, nleb→lt, eqb→eq, eqb_refl}
use lib.IntN.{negsuc}
use lib.Pow.{pow-add, pow_pos, pow-lt}
use lib.Ieee.{Float, nan, inf, fin, binary32, up, down, nearest, sum, add, of_bits, to_bits, nan_bits, is_nan}
use lib.Ieee.Exact.{HasValue}
use lib.Ieee.Fits.{down_pos}
use lib.Ieee.Nearest.{closest, closest_same}
use Rattle.vertices.specs.Half.{magnitude, round_even, encoded}
use Rattle.vertices.proofs.FloatNan.{add_not_nan, not_nan_below}
use Rattle.vertices.proofs.HalfBridge.{plain_value}
use Rattle.vertices.proofs.HalfEncode.{encoded-low}
use Rattle.vertices.proofs.HalfRound.{round_down, round_up, round_tie}
use Rattle.vertices.proofs.HalfSize.{magnitude-lt}
use Rattle.vertices.proofs.SumPower.{sum-bits}

-- ---- `closest` of lib.Ieee is `round_even`

abbrev Cmp : Ordering → ℕ → ℕ → Type 0
Cmp Ordering.lt a b = a < b
Cmp Ordering.eq a b = a ≡ b
Cmp Ordering.gt a b = b < a

cmp : (a b : ℕ) → Cmp (compare a b) a b
cmp a b = go (compare a b) (leb→le a b) (nleb→lt a b) (eqb→eq a b) (λ (e : a ≡ b). subst (λ (x : ℕ). T (eqb a x)) e (eqb_refl a))
  where
    go : (o : Ordering) → (T (is_le o) → a ≤ b) → (T (not (is_le o)) → b < a) → (T (compare_is_eq o) → a ≡ b) → (a ≡ b → T (compare_is_eq o)) → Cmp o a b
    go Ordering.lt h k e n = lt_of_le-ne (h tt) n
    go Ordering.eq h k e n = e tt
    go Ordering.gt h k e n = k tt

pub Closest-even : (a b : ℕ) → closest a b ≡ round_even a b
Closest-even a b = go (compare (a % b * 2) b) (cmp (a % b * 2) b)
  where
    go : (o : Ordering) → Cmp o (a % b * 2) b → nearest (a / b) o ≡ round_even a b
    go Ordering.lt h = sym (round_down a b h)
    go Ordering.eq h = sym (round_tie a b h)
    go Ordering.gt h = omega (arith, round_up a b h)

-- ---- a size in units of 2^-149, with 0.5

powers : (d : ℕ) → 1 * 1 * d * 2 ^ 149 ≡ 8388608 * (d * 2 * 2 ^ 125)
powers d =
    ap (λ (x : ℕ). x * 2 ^ 149) (one-mul d)
    ∙ mul_comm d (2 ^ 149)
    ∙ ap (λ (x : ℕ). x * d) (pow-add 2 23 126)
    ∙ mul_assoc (2 ^ 23) (2 ^ 126) d
    ∙ ap (λ (x : ℕ). 8388608 * x) (mul_comm (2 ^ 126) d ∙ ap (λ (x : ℕ). d * x) (pow-add 2 1 125) ∙ sym (mul_assoc d 2 (2 ^ 125)))

with-half : (x : Float) (M : ℕ) → HasValue x false M (2 ^ 149) → M < 2 ^ 148 → to_bits binary32 (add binary32 x (fin false 1 (negsuc 0))) ≡ 126 * 8388608 + round_even M (2 ^ 125)
unfolding add sum
with-half nan M h l = absurd h
with-half (inf s) M h l = absurd h
with-half (fin true a e) M h l = absurd (subst T h.0 tt)
with-half (fin false a e) M h l =
    let d = down e in
    let D : 0 < d * 2 = mul-pos (down_pos e) (omega arith) in
    let n : a * up e * 2 * 2 ^ 149 ≡ M * (d * 2) = mul_right_comm (a * up e) 2 (2 ^ 149) ∙ ap (λ (x : ℕ). x * 2) h.1 ∙ mul_assoc M d 2 in
    let w : (a * up e * 2 + 1 * 1 * d) * 2 ^ 149 ≡ M * (d * 2) + 8388608 * (d * 2 * 2 ^ 125) =
    add-mul (a * up e * 2) (1 * 1 * d) (2 ^ 149) ∙ ap (λ (x : ℕ). x + 1 * 1 * d * 2 ^ 149) n ∙ ap (λ (x : ℕ). M * (d * 2) + x) (powers d) in
    let b : 2 ^ 148 * (d * 2) ≡ 8388608 * (d * 2 * 2 ^ 125) =
    ap (λ (x : ℕ). x * (d * 2)) (pow-add 2 23 125) ∙ mul_assoc (2 ^ 23) (2 ^ 125) (d * 2) ∙ ap (λ (x : ℕ). 8388608 * x) (mul_comm (2 ^ 125) (d * 2)) in
    let k : M * (d * 2) < 8388608 * (d * 2 * 2 ^ 125) = lt_of_lt_of_le (mul-lt-mul_of_pos_right l D) (le_of_eq b) in
    sum-bits (a * up e * 2 + 1 * 1 * d) (d * 2) 125 (M * (d * 2)) D (omega arith) w k
    ∙ ap (λ (x : ℕ). 126 * 8388608 + x)
    (closest_same (M * (d * 2)) (d * 2 * 2 ^ 125) M (2 ^ 125) (mul-pos D (pow_pos 125)) (pow_pos 125) (mul_assoc M (d * 2) (2 ^ 125)) ∙ Closest-even M (2 ^ 125))

-- ---- the float's bits

least : magnitude 23 947912704 ≡ 2 ^ 135
unfolding magnitude
least = refl

low_sum : (m : ℕ) → m < 947912704 → to_bits binary32 (add binary32 (of_bits binary32 m) (fin false 1 (negsuc 0))) ≡ 1056964608 + encoded m
low_sum m h =
    let small : magnitude 23 m < 2 ^ 135 = subst (λ (x : ℕ). magnitude 23 m < x) least (magnitude-lt 23 m 947912704 h) in
    let g : 135 < 148 = omega arith in
    with-half (of_bits binary32 m) (magnitude 23 m) (plain_value m (omega arith)) (lt_of_lt_of_le small (le_of_lt (pow-lt g)))
    ∙ ap (λ (x : ℕ). 1056964608 + x) (sym (encoded-low m h))

half_is : of_bits binary32 1056964608 ≡ fin false 1 (negsuc 0)
unfolding of_bits
half_is = refl

pub record LowSum (m : ℕ) : Type 0 where
  pub real : T (not (nan_bits binary32 m))
  pub number : T (not (is_nan (add binary32 (of_bits binary32 m) (of_bits binary32 1056964608))))
  pub bits : to_bits binary32 (add binary32 (of_bits binary32 m) (of_bits binary32 1056964608)) ≡ 1056964608 + encoded m

-- what holds of the sum of 0.5 and a float below the normal halves
pub low_sums : (m : ℕ) → m < 947912704 → LowSum m
low_sums m h =
    let real = add_not_nan binary32 (of_bits binary32 m) (fin false 1 (negsuc 0)) (magnitude 23 m) (2 ^ 149) 1 2 (plain_value m (omega arith)) (refl, refl) in
    record {
      real = not_nan_below m (omega arith);
      number = subst (λ (y : Float). T (not (is_nan (add binary32 (of_bits binary32 m) y)))) (sym half_is) real;
      bits = subst (λ (y : Float). to_bits binary32 (add binary32 (of_bits binary32 m) y) ≡ 1056964608 + encoded m) (sym half_is) (low_sum m h);
    }
