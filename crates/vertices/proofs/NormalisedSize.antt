-- A float's size and its sign apart, as `f32_to_snorm8` has them: the size times 127, at most 127, cut, and then the sign, in two's complement. Assumes nothing.
use mathlib.Core.Path.{◌≡◌, refl, sym, ap, ap₂, ◌∙◌, subst}
use mathlib.Core.Bool.{Bool, true, false, not, cond}
use mathlib.Core.Logic.{inl, inr}
use Prim.Native.Nat.{ℕ, zero, suc, ◌+◌, ◌-◌, ◌*◌, ◌/◌, ◌%◌, ◌^◌, ◌≤◌, ◌<◌, min}
use native.Mathlib.Nat.{mul_comm, div-le_of_le-mul}
use native.Mathlib.Omega.{arith}
use lib.Dec.{T, eqb, ltb}
use lib.IntN.{ℤ, pos, neg_ℤ}
use lib.Ieee.{Float, nan, inf, fin, binary32, up, down, odd, of_fields, round, neg, mul, lt, is_nan, nan_bits, of_bits, to_unsigned, to_signed}
use lib.Ieee.Bits.{nan_bits_above}
use lib.Ieee.Casts.{to_unsigned-lt}
use lib.Ieee.Exact.{HasValue}
use borrow.Author.Tests.{le-leb, le-ltb, lt-leb, lt-ltb, ltb-false}
use Rattle.vertices.specs.Half.{magnitude}
use Rattle.vertices.specs.Normalised.{number, negative, byte_of, clamp, f32_to_snorm8}
use Rattle.vertices.specs.Inner.Small.{plain}
use Rattle.vertices.proofs.FloatNan.{nan_value, not_nan_below}
use Rattle.vertices.proofs.FloatOrder.{below_larger}
use Rattle.vertices.proofs.FloatRounding.{odd-by_sign, round_neg, round-plain}
use Rattle.vertices.proofs.HalfBridge.{plain_value}
use Rattle.vertices.proofs.HalfSize.{side}

-- ---- numbers without a sign

pub plain-real : (x : Float) → T (plain x) → T (not (is_nan x))
unfolding is_nan
plain-real nan h = absurd h
plain-real (inf s) h = tt
plain-real (fin s m e) h = tt

value-plain : (x : Float) (a c : ℕ) → HasValue x false a c → T (plain x)
value-plain nan a c h = absurd h
value-plain (inf s) a c h = absurd h
value-plain (fin true m e) a c h = absurd (subst T h.0 tt)
value-plain (fin false m e) a c h = tt

infinite : T (plain (of_bits binary32 2139095040))
unfolding of_bits
infinite = tt

-- what bits up to infinity's stand for
plain-bits : (z : ℕ) → z ≤ 2139095040 → T (plain (of_bits binary32 z))
plain-bits z h =
    elim (side 2139095040 z) [
      | inr l ↦ value-plain (of_bits binary32 z) (magnitude 23 z) (2 ^ 149) (plain_value z l)
      | inl g ↦ let e : 2139095040 ≡ z = omega arith in subst (λ (n : ℕ). T (plain (of_bits binary32 n))) e infinite
    ]

mul-plain : (x : Float) → T (plain x) → T (plain (mul binary32 x (number 127)))
unfolding mul
mul-plain nan h = absurd h
mul-plain (inf true) h = absurd h
mul-plain (inf false) h = tt
mul-plain (fin true m e) h = absurd h
mul-plain (fin false m e) h = round-plain binary32 (m * up e * 127) (down e * 1)

-- ---- the sign

odd-neg : (d q k l : ℕ) → odd d true q k l ≡ neg (odd d false q k l)
unfolding neg
odd-neg d q k l = odd-by_sign (λ (x y : Float). x ≡ neg y) true false refl (λ m e. refl) binary32 d q k l

field-neg : (b c : Bool) (t x : ℕ) → cond b (cond c (inf true) nan) (odd 24 true t x 149) ≡ neg (cond b (cond c (inf false) nan) (odd 24 false t x 149))
unfolding neg
field-neg true true t x = refl
field-neg true false t x = refl
field-neg false c t x = odd-neg 24 t x 149

fields_neg : (x t : ℕ) → of_fields binary32 true x t ≡ neg (of_fields binary32 false x t)
unfolding of_fields
fields_neg zero t = odd-neg 24 t 0 149
fields_neg (suc x) t = field-neg (eqb (suc x) 255) (eqb t 0) (8388608 + t) x

-- bits with the sign set stand for the negative of what those below it stand for
bits-neg : (b : ℕ) → 2147483648 ≤ b → b < 4294967296 → of_bits binary32 b ≡ neg (of_bits binary32 (b % 2147483648))
unfolding of_bits
bits-neg b h l =
    let r = b % 2147483648 in
    let low : r < 2147483648 = omega arith in
    let x : r / 8388608 ≡ r % 2147483648 / 8388608 = omega arith in
    let t : b % 8388608 ≡ r % 8388608 = omega arith in
    ap (λ (s : Bool). of_fields binary32 s (r / 8388608) (b % 8388608)) (le-leb 2147483648 b h)
    ∙ fields_neg (r / 8388608) (b % 8388608)
    ∙ ap neg (ap₂ (of_fields binary32 false) x t ∙ ap (λ (s : Bool). of_fields binary32 s (r % 2147483648 / 8388608) (r % 8388608)) (sym (lt-leb 2147483648 r low)))

mul_neg : (x : Float) → T (plain x) → mul binary32 (neg x) (number 127) ≡ neg (mul binary32 x (number 127))
unfolding mul neg
mul_neg nan h = absurd h
mul_neg (inf true) h = absurd h
mul_neg (inf false) h = refl
mul_neg (fin true m e) h = absurd h
mul_neg (fin false m e) h = sym (round_neg binary32 (m * up e * 127) (down e * 1))

-- ---- the byte of a product, p, and of its negative

abbrev pub at_most : Float → Float → Float
at_most most x = cond (lt most x) most x

clamp-plain : (p : Float) → T (plain p) → clamp (negative 127) (number 127) p ≡ at_most (number 127) p
unfolding clamp lt
clamp-plain nan h = absurd h
clamp-plain (inf true) h = absurd h
clamp-plain (inf false) h = refl
clamp-plain (fin true m e) h = absurd h
clamp-plain (fin false m e) h = refl

clamp-neg : (p : Float) → T (plain p) → clamp (negative 127) (number 127) (neg p) ≡ cond (lt (number 127) p) (negative 127) (neg p)
unfolding clamp lt neg
clamp-neg nan h = absurd h
clamp-neg (inf true) h = absurd h
clamp-neg (inf false) h = refl
clamp-neg (fin true m e) h = absurd h
clamp-neg (fin false m e) h = refl

whole_part : (m : ℕ) (e : ℤ) → ltb (127 * 1 * down e) (m * up e * 1) ≡ false → m * up e / down e ≤ 127
whole_part m e h = div-le_of_le-mul (down e) (omega (arith, mul_comm 127 (down e), ltb-false (127 * 1 * down e) (m * up e * 1) h))

two's_complement : (q : ℕ) → q ≤ 127 → (256 - min q 255) % 256 ≡ byte_of (neg_ℤ (pos (min q 128)))
two's_complement zero h = refl
two's_complement (suc q) h =
    let same : min (suc q) 128 ≡ suc q = omega arith in
    rw same (omega arith)

inside : (p : Float) → T (plain p) → lt (number 127) p ≡ false → to_unsigned 8 p ≡ byte_of (to_signed 7 p)
unfolding lt to_unsigned to_signed
inside nan h l = absurd h
inside (inf true) h l = absurd h
inside (inf false) h l = absurd (subst T l tt)
inside (fin true m e) h l = absurd h
inside (fin false m e) h l =
    let q : m * up e / down e ≤ 127 = whole_part m e l in
    omega arith

inside-neg : (p : Float) → T (plain p) → lt (number 127) p ≡ false → (256 - to_unsigned 8 p) % 256 ≡ byte_of (to_signed 7 (neg p))
unfolding lt neg to_unsigned to_signed
inside-neg nan h l = absurd h
inside-neg (inf true) h l = absurd h
inside-neg (inf false) h l = absurd (subst T l tt)
inside-neg (fin true m e) h l = absurd h
inside-neg (fin false m e) h l = two's_complement (m * up e / down e) (whole_part m e l)

byte : (p : Float) → T (plain p) → (b : Bool) → lt (number 127) p ≡ b → to_unsigned 8 (cond b (number 127) p) ≡ byte_of (to_signed 7 (cond b (number 127) p))
unfolding to_unsigned to_signed
byte p h true l = refl
byte p h false l = inside p h l

byte_neg : (p : Float) → T (plain p) → (b : Bool) → lt (number 127) p ≡ b
    → (256 - to_unsigned 8 (cond b (number 127) p)) % 256 ≡ byte_of (to_signed 7 (cond b (negative 127) (neg p)))
unfolding to_unsigned to_signed
byte_neg p h true l = refl
byte_neg p h false l = inside-neg p h l

-- at most 127, it can be cut to a byte
whole : (p : Float) → T (plain p) → (b : Bool) → lt (number 127) p ≡ b → T (plain (cond b (number 127) p)) × T (lt (cond b (number 127) p) (number 256))
unfolding lt
whole p h true l = (tt, tt)
whole p h false l = (h, below_larger 127 256 p (omega arith) (plain-real p h) l)

-- ---- all bits

-- the size, where z are the bits below the sign, or 0 for a NaN's
abbrev pub size : ℕ → Float
size z = at_most (number 127) (mul binary32 (of_bits binary32 z) (number 127))

pub record SignedByte (bits z : ℕ) : Type 0 where
  pub real : T (not (nan_bits binary32 z))
  pub whole : T (plain (size z)) × T (lt (size z) (number 256))
  pub byte : cond (ltb bits 2147483648) (to_unsigned 8 (size z)) (256 - to_unsigned 8 (size z)) % 256 ≡ f32_to_snorm8 bits

nan_byte : (bits : ℕ) → nan_bits binary32 bits ≡ true → f32_to_snorm8 bits ≡ 0
unfolding f32_to_snorm8 clamp lt mul to_signed
nan_byte bits h = rw (nan_value bits h)

no_size : to_unsigned 8 (size 0) ≡ 0
unfolding lt mul round of_bits to_unsigned
no_size = refl

module _ (bits : ℕ) (w : bits < 4294967296) where
  low : ℕ
  low = bits % 2147483648

  sized : (z : ℕ) → z ≤ 2139095040 → cond (ltb bits 2147483648) (to_unsigned 8 (size z)) (256 - to_unsigned 8 (size z)) % 256 ≡ f32_to_snorm8 bits → SignedByte bits z
  sized z h e =
      let p = mul binary32 (of_bits binary32 z) (number 127) in
      record { real = not_nan_below z h; whole = whole p (mul-plain (of_bits binary32 z) (plain-bits z h)) (lt (number 127) p) refl; byte = e }

  not-number : 2139095040 < low → SignedByte bits 0
  unfolding low
  not-number g =
      let n : f32_to_snorm8 bits ≡ 0 = nan_byte bits (nan_bits_above binary32 bits ∙ lt-ltb 2139095040 low g) in
      sized 0 (omega arith) (go (ltb bits 2147483648) ∙ sym n)
    where
      go : (b : Bool) → cond b (to_unsigned 8 (size 0)) (256 - to_unsigned 8 (size 0)) % 256 ≡ 0
      go true = ap (λ (n : ℕ). n % 256) no_size
      go false = ap (λ (n : ℕ). (256 - n) % 256) no_size

  is_number : low ≤ 2139095040 → SignedByte bits low
  unfolding low f32_to_snorm8
  is_number h =
      let x = of_bits binary32 low in
      let X = plain-bits low h in
      let p = mul binary32 x (number 127) in
      let P = mul-plain x X in
      sized low h
      (elim (side 2147483648 bits) [
        | inr l ↦
            let e : low ≡ bits = omega arith in
            rw (lt-ltb bits 2147483648 l) (mod_byte (size low) ∙ byte p P (lt (number 127) p) refl ∙ ap (λ (y : Float). byte_of (to_signed 7 y)) (sym (clamp-plain p P))
            ∙ ap (λ (n : ℕ). byte_of (to_signed 7 (clamp (negative 127) (number 127) (mul binary32 (of_bits binary32 n) (number 127))))) e)
        | inl g ↦
            rw (le-ltb bits 2147483648 g) (byte_neg p P (lt (number 127) p) refl ∙ ap (λ (y : Float). byte_of (to_signed 7 y)) (sym (clamp-neg p P))
            ∙ ap (λ (y : Float). byte_of (to_signed 7 (clamp (negative 127) (number 127) y))) (sym (mul_neg x X) ∙ ap (λ (y : Float). mul binary32 y (number 127)) (sym (bits-neg bits g w))))
      ])
    where
      mod_byte : (y : Float) → to_unsigned 8 y % 256 ≡ to_unsigned 8 y
      mod_byte y = omega (arith, to_unsigned-lt 8 y)

  -- what holds of the size and the byte
  pub signed_byte_lem : (z : ℕ) → z ≡ cond (ltb 2139095040 (bits % 2147483648)) 0 (bits % 2147483648) → SignedByte bits z
  unfolding low
  signed_byte_lem z e =
      elim (side (bits % 2147483648) 2139095040) [
        | inl l ↦ subst (SignedByte bits) (sym (e ∙ ap (λ (b : Bool). cond b 0 low) (le-ltb 2139095040 low l))) (is_number l)
        | inr g ↦ subst (SignedByte bits) (sym (e ∙ ap (λ (b : Bool). cond b 0 low) (lt-ltb 2139095040 low g))) (not-number g)
      ]
