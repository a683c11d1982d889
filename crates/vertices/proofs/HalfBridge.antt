-- `magnitude` is the size that `lib.Ieee` reads from a float's bits.
use mathlib.Core.Path.{◌≡◌, sym, ap, ◌∙◌, subst}
use mathlib.Core.Logic.{◌⊎◌, inl, inr}
use mathlib.Core.Bool.{Bool, false, cond}
use Prim.Native.Nat.{ℕ, suc, ◌+◌, ◌-◌, ◌*◌, ◌/◌, ◌%◌, ◌^◌, ◌≤◌, ◌<◌}
use native.Mathlib.Nat.{mul-one}
use native.Mathlib.Omega.{arith}
use lib.Dec.{eqb, eqb→eq, leb, not_T}
use borrow.Author.Tests.{le-leb, lt-leb}
use lib.Ieee.{Float, nan, inf, binary32, odd, of_fields, of_bits}
use lib.Ieee.Bits.{cond_no}
use lib.Ieee.Exact.{HasValue, odd_sign}
use Rattle.vertices.specs.Half.{magnitude, f16_to_f32}
use Rattle.vertices.specs.Ieee16.{infinity16, infinity32, half_size}
use Rattle.vertices.proofs.HalfSize.{side, magnitude-low, magnitude-at}
use Rattle.vertices.proofs.HalfLaws.{decodes}

low_field : (s : Bool) (t : ℕ) → HasValue (of_fields binary32 s 0 t) s t (2 ^ 149)
unfolding of_fields
low_field s t = subst (λ (n : ℕ). HasValue (odd 24 s t 0 149) s n (2 ^ 149)) (mul-one t) (odd_sign 24 s t 0 149)

not_top : (x : ℕ) → suc x < 255 → suc x ≡ 255 → ⊥
not_top x h e = omega arith

high-field : (s : Bool) (x t : ℕ) → suc x < 255 → HasValue (of_fields binary32 s (suc x) t) s ((8388608 + t) * 2 ^ x) (2 ^ 149)
unfolding of_fields
high-field s x t h =
    subst (λ (v : Float). HasValue v s ((8388608 + t) * 2 ^ x) (2 ^ 149))
    (sym (cond_no (eqb (suc x) 255) (cond (eqb t 0) (inf s) nan) (odd 24 s (8388608 + t) x 149) (not_T (eqb (suc x) 255) (λ u. not_top x h (eqb→eq (suc x) 255 u)))))
    (odd_sign 24 s (8388608 + t) x 149)

by_fields : (s : Bool) (m t : ℕ) → m < infinity32 → t ≡ m % 8388608 → HasValue (of_fields binary32 s (m / 8388608) t) s (magnitude 23 m) (2 ^ 149)
by_fields s m t h e = go (side (2 ^ 23) m)
  where
    reads : ℕ → ℕ → Type 0
    reads x n = HasValue (of_fields binary32 s x t) s n (2 ^ 149)

    go : (2 ^ 23 ≤ m) ⊎ (m < 2 ^ 23) → HasValue (of_fields binary32 s (m / 8388608) t) s (magnitude 23 m) (2 ^ 149)
    go (inr l) =
        let x : 0 ≡ m / 8388608 = omega arith in
        let v : t ≡ magnitude 23 m = omega (arith, magnitude-low 23 m l) in
        subst (λ (n : ℕ). reads n (magnitude 23 m)) x (subst (reads 0) v (low_field s t))
    go (inl l) =
        let x : suc (m / 8388608 - 1) ≡ m / 8388608 = omega arith in
        let k : m ≡ (m / 8388608 - 1 + 1) * 2 ^ 23 + t = omega arith in
        let v : (8388608 + t) * 2 ^ (m / 8388608 - 1) ≡ magnitude 23 m = sym (ap (magnitude 23) k ∙ magnitude-at 23 (m / 8388608 - 1) t (omega arith)) in
        subst (λ (n : ℕ). reads n (magnitude 23 m)) x (subst (reads (suc (m / 8388608 - 1))) v (high-field s (m / 8388608 - 1) t (omega arith)))

-- The number that a finite float's bits stand for in `lib.Ieee` is `magnitude 23` of those below the sign, in units of 2^-149.
pub float_value : (b : ℕ) → b % 2 ^ 31 < infinity32 → HasValue (of_bits binary32 b) (leb (2 ^ 31) b) (magnitude 23 (b % 2 ^ 31)) (2 ^ 149)
unfolding of_bits
float_value b h = by_fields (leb (2 ^ 31) b) (b % 2 ^ 31) (b % 8388608) h (omega arith)

-- of bits without a sign
pub plain_value : (b : ℕ) → b < infinity32 → HasValue (of_bits binary32 b) false (magnitude 23 b) (2 ^ 149)
plain_value b h =
    let z : b % 2 ^ 31 ≡ b = omega arith in
    let l : b < 2 ^ 31 = omega arith in
    subst (λ (n : ℕ). HasValue (of_bits binary32 b) false (magnitude 23 n) (2 ^ 149)) z
    (subst (λ (s : Bool). HasValue (of_bits binary32 b) s (magnitude 23 (b % 2 ^ 31)) (2 ^ 149)) (lt-leb (2 ^ 31) b l) (float_value b (omega arith)))

-- the float is negative where the half is
negative : (h : ℕ) → h < 2 ^ 16 → leb (2 ^ 31) (f16_to_f32 h) ≡ leb (2 ^ 15) h
negative h w =
    let sign : f16_to_f32 h / 2 ^ 31 ≡ h / 2 ^ 15 = (decodes h w).sign in
    elim (side (2 ^ 15) h) [
      | inl g ↦ le-leb (2 ^ 31) (f16_to_f32 h) (omega arith) ∙ sym (le-leb (2 ^ 15) h g)
      | inr l ↦ lt-leb (2 ^ 31) (f16_to_f32 h) (omega arith) ∙ sym (lt-leb (2 ^ 15) h l)
    ]

-- A finite half's float stands in `lib.Ieee` for the half's own number.
pub decoded-value : (h : ℕ) → h < 2 ^ 16 → h % 2 ^ 15 < infinity16 → HasValue (of_bits binary32 (f16_to_f32 h)) (leb (2 ^ 15) h) (half_size (h % 2 ^ 15)) (2 ^ 149)
decoded-value h w l =
    let d = decodes h w in
    let b = f16_to_f32 h in
    subst (λ (s : Bool). HasValue (of_bits binary32 b) s (half_size (h % 2 ^ 15)) (2 ^ 149)) (negative h w)
    (subst (λ (n : ℕ). HasValue (of_bits binary32 b) (leb (2 ^ 31) b) n (2 ^ 149)) (d.same l) (float_value b (d.finite l)))
