-- The half nearest to a finite float, by the bits below the sign: `encoded` gives it, and there is one.
use mathlib.Core.Path.{◌≡◌, refl, sym, ap, ◌∙◌, subst}
use mathlib.Core.Logic.{inl, inr}
use Prim.Native.Nat.{ℕ, ◌+◌, ◌-◌, ◌*◌, ◌/◌, ◌%◌, ◌^◌, ◌≤◌, ◌<◌}
use native.Mathlib.Nat.{add-mul, eq_of_mul-eq-mul_right, lt_of_lt_of_le, mod-lt, mul-le-mul_right, mul-one, mul-pos, mul_right_comm}
use native.Mathlib.Omega.{arith}
use lib.Dec.{lit<, lit≤}
use lib.Pow.{pow_pos, shr_lt, split}
use Rattle.vertices.specs.Half.{magnitude, round_even, encoded}
use Rattle.vertices.specs.Ieee16.{half_size, gap}
use Rattle.vertices.proofs.HalfSize.{side, magnitude-at, magnitude-lt, magnitude-mono, half_size-at, half_size-low, half_size-lt, half_size-mono, half_step-at, half_step_low}
use Rattle.vertices.proofs.HalfRound.{round_cases}
use Rattle.vertices.proofs.HalfEncode.{encoded-low, encoded-normal, encoded-over}

-- of the halves of one sign none is nearer to u than r, and where another is as near, r's last bit is 0
pub record Closest (u r : ℕ) : Type 0 where
  pub number : r ≤ 31744
  pub least : (k : ℕ) → k ≤ 31744 → gap u (half_size r) ≤ gap u (half_size k)
  pub even : (k : ℕ) → k ≤ 31744 → (k ≡ r → ⊥) → gap u (half_size k) ≡ gap u (half_size r) → r % 2 ≡ 0

-- u lies a part R of the step W above the half q
module _ (u q R W : ℕ) (at : half_size q + R ≡ u) (step : half_size (q + 1) ≡ half_size q + W) (pos : 0 < W) (top : q < 31744) where
  lower : R * 2 ≤ W → (R * 2 ≡ W → q % 2 ≡ 0) → Closest u q
  lower h e =
      record {
        number = omega arith;
        least = λ k _. elim (side k q) [ inl l ↦ omega (arith, half_size-mono k q l) | inr l ↦ omega (arith, half_size-mono (q + 1) k (omega arith)) ];
        even = λ k _ ne same.
            elim (side k q) [
              | inl l ↦ omega (arith, half_size-lt k q (omega (arith, ne)))
              | inr l ↦ e (omega (arith, half_size-mono (q + 1) k (omega arith)))
            ];
      }

  upper : W ≤ R * 2 → R ≤ W → (R * 2 ≡ W → q % 2 ≡ 1) → Closest u (q + 1)
  upper h m e =
      record {
        number = omega arith;
        least = λ k _. elim (side k q) [ inl l ↦ omega (arith, half_size-mono k q l) | inr l ↦ omega (arith, half_size-mono (q + 1) k (omega arith)) ];
        even = λ k _ ne same.
            elim (side k q) [
              | inl l ↦ let odd : q % 2 ≡ 1 = e (omega (arith, half_size-mono k q l)) in omega arith
              | inr l ↦ omega (arith, half_size-lt (q + 1) k (omega (arith, ne)))
            ];
      }

-- n / p rounded, where u is n times c, and p times c is the step at the half n / p
module _ (n p c u : ℕ) (C : 0 < c) (P : 0 < p) (at : half_size (n / p) + n % p * c ≡ u) (step : half_size (n / p + 1) ≡ half_size (n / p) + p * c) (top : n / p < 31744) where
  twice : n % p * c * 2 ≡ n % p * 2 * c
  twice = mul_right_comm (n % p) c 2

  tied : n % p * c * 2 ≡ p * c → n % p * 2 ≡ p
  tied e = eq_of_mul-eq-mul_right c C (n % p * 2) p (sym twice ∙ e)

  down : n % p * 2 ≤ p → (n % p * 2 ≡ p → n / p % 2 ≡ 0) → Closest u (n / p)
  down h e = lower u (n / p) (n % p * c) (p * c) at step (mul-pos P C) top (omega (arith, twice, mul-le-mul_right c h)) (λ t. e (tied t))

  up : p ≤ n % p * 2 → (n % p * 2 ≡ p → n / p % 2 ≡ 1) → Closest u (n / p + 1)
  up h e =
      let m : n % p ≤ p = omega (arith, mod-lt n P) in
      upper u (n / p) (n % p * c) (p * c) at step (mul-pos P C) top (omega (arith, twice, mul-le-mul_right c h)) (mul-le-mul_right c m) (λ t. e (tied t))

  to-even : n % p * 2 ≡ p → Closest u (n / p + n / p % 2)
  to-even t =
      elim (side (n / p % 2) 0) [
        | inl e ↦ let s : n / p ≡ n / p + n / p % 2 = omega arith in subst (Closest u) s (down (omega arith) (λ _. omega arith))
        | inr o ↦ let s : n / p + 1 ≡ n / p + n / p % 2 = omega arith in subst (Closest u) s (up (omega arith) (λ _. omega arith))
      ]

  closest : Closest u (round_even n p)
  closest = round_cases (Closest u) n p (λ l. down (omega arith) (λ e. omega arith)) (λ l. up (omega arith) (λ e. omega arith)) to-even

-- ---- the three ranges of a finite float's bits m

top-size : magnitude 23 1199570944 ≡ half_size 31744
unfolding magnitude half_size
top-size = refl

over : (m : ℕ) → 1199570944 ≤ m → Closest (magnitude 23 m) 31744
over m h =
    let t : magnitude 23 1199570944 ≤ magnitude 23 m = magnitude-mono 23 1199570944 m h in
    record {
      number = omega arith;
      least = λ k l. omega (arith, top-size, half_size-mono k 31744 l);
      even = λ k _ _ _. refl;
    }

-- the float of the field x + 113 and the fraction t lies between the half that the upper ten fraction bits make and the next
normal-at : (m q x t : ℕ) → m ≡ (x + 112 + 1) * 2 ^ 23 + t → t < 2 ^ 23 → q ≡ (x + 1) * 1024 + t / 8192 → half_size q + t % 8192 * 2 ^ (x + 112) ≡ magnitude 23 m
normal-at m q x t e h k =
    let s : (1024 + t / 8192) * 8192 + t % 8192 ≡ 2 ^ 23 + t = omega arith in
    ap (λ (a : ℕ). a + t % 8192 * 2 ^ (x + 112)) (ap half_size k ∙ half_size-at x (t / 8192) (omega arith))
    ∙ sym (add-mul ((1024 + t / 8192) * 8192) (t % 8192) (2 ^ (x + 112))) ∙ ap (λ (a : ℕ). a * 2 ^ (x + 112)) s ∙ sym (ap (magnitude 23) e ∙ magnitude-at 23 (x + 112) t h)

normal : (m : ℕ) → 947912704 ≤ m → m < 1199570944 → Closest (magnitude 23 m) (round_even (m - 939524096) 8192)
normal m h l =
    let n = m - 939524096 in
    let x = m / 8388608 - 113 in
    let t = m % 8388608 in
    let q : n / 8192 ≡ (x + 1) * 1024 + t / 8192 = omega arith in
    let d : t % 8192 ≡ n % 8192 = omega arith in
    closest n 8192 (2 ^ (x + 112)) (magnitude 23 m) (pow_pos (x + 112)) (omega arith)
    (subst (λ (k : ℕ). half_size (n / 8192) + k * 2 ^ (x + 112) ≡ magnitude 23 m) d (normal-at m (n / 8192) x t (omega arith) (omega arith) q))
    (subst (λ (k : ℕ). half_size (k + 1) ≡ half_size k + 8192 * 2 ^ (x + 112)) (sym q) (half_step-at x (t / 8192) (omega arith)))
    (omega arith)

least-normal : magnitude 23 947912704 ≡ 2 ^ (10 + 125)
unfolding magnitude
least-normal = refl

low : (m : ℕ) → m < 947912704 → Closest (magnitude 23 m) (round_even (magnitude 23 m) (2 ^ 125))
low m h =
    let u = magnitude 23 m in
    let q : u / 2 ^ 125 < 1024 = shr_lt 10 125 (subst (λ (n : ℕ). u < n) least-normal (magnitude-lt 23 m 947912704 h)) in
    closest u (2 ^ 125) 1 u (lit< tt) (pow_pos 125)
    (ap (λ (n : ℕ). n + u % 2 ^ 125 * 1) (half_size-low (u / 2 ^ 125) q) ∙ ap (λ (n : ℕ). u / 2 ^ 125 * 2 ^ 125 + n) (mul-one (u % 2 ^ 125)) ∙ split u 125)
    (half_step_low (u / 2 ^ 125) q)
    (lt_of_lt_of_le q (lit≤ tt))

-- `encoded` gives the nearest half
pub encoded-closest : (m : ℕ) → m ≤ 2139095040 → Closest (magnitude 23 m) (encoded m)
encoded-closest m h =
    elim (side 947912704 m) [
      | inr l ↦ subst (Closest (magnitude 23 m)) (sym (encoded-low m l)) (low m l)
      | inl g ↦ elim (side 1199570944 m) [
        | inr l ↦ subst (Closest (magnitude 23 m)) (sym (encoded-normal m g l)) (normal m g l)
        | inl o ↦ subst (Closest (magnitude 23 m)) (sym (encoded-over m o h)) (over m o)
      ]
    ]

-- ---- there is one

between : (u x y z : ℕ) → x < y → y < z → gap u x ≡ gap u z → gap u x ≤ gap u y → ⊥
between u x y z l k e d = omega arith

-- were r below s, they would be as near, both even, and the half between them nearer
not_below : (u r s : ℕ) → Closest u r → Closest u s → r < s → ⊥
not_below u r s a b h =
    let e : gap u (half_size r) ≡ gap u (half_size s) = omega (arith, a.least s b.number, b.least r a.number) in
    let er : r % 2 ≡ 0 = a.even s b.number (λ q. omega arith) (sym e) in
    let es : s % 2 ≡ 0 = b.even r a.number (λ q. omega arith) e in
    let m : r + 1 ≤ 31744 = omega (arith, b.number) in
    between u (half_size r) (half_size (r + 1)) (half_size s) (half_size-lt r (r + 1) (omega arith)) (half_size-lt (r + 1) s (omega arith)) e (a.least (r + 1) m)

-- there is one nearest half under a sign
pub one-closest : (u r s : ℕ) → Closest u r → Closest u s → r ≡ s
one-closest u r s a b =
    elim (side r s) [
      | inr l ↦ absurd (not_below u s r b a l)
      | inl l ↦ elim (side s r) [ inl k ↦ omega arith | inr k ↦ absurd (not_below u r s a b k) ]
    ]

-- a half is nearest to its own size
pub exact : (r : ℕ) → r ≤ 31744 → Closest (half_size r) r
exact r h =
    record {
      number = h;
      least = λ k _. omega arith;
      even = λ k _ ne e. elim (side k r) [ inl l ↦ omega (arith, half_size-lt k r (omega (arith, ne))) | inr l ↦ omega (arith, half_size-lt r k l) ];
    }
