-- Laws of the lookup.
use Rattle.std.specs.Prelude.{Option, None, Some, unwrap_or, option_and_then}
use Rattle.std.specs.Bool.{then_some}
use mathlib.Core.Path.{◌≡◌, refl, sym, subst, ◌∙◌}
use mathlib.Core.Bool.{Bool, true, false, cond, ◌&&◌}
use mathlib.Core.List.{List, []}
use Prim.Native.Nat.{ℕ, ◌+◌, ◌-◌, ◌*◌, ◌/◌, ◌%◌, ◌^◌, ◌≤◌, ◌<◌}
use native.Mathlib.Omega.{arith}
use borrow.Author.Tests.{eq-eqb, ne_eqb, eqb-true, leb-true}
use lib.Bits.{bit_and, and_step, and_shr, and_mod, and_mask}
use lib.Dec.{T, eqb, leb}
use lib.ListN.{length}
use Rattle.sections.specs.Edit.{part, fits}
use Rattle.sections.specs.Address.{Sections, bit, both_set, within, located, part_of, range_of, resolved, within_limit}
use Rattle.std.proofs.lemmas.Option.{same_Some}
use Rattle.sections.proofs.EditLaws.{part_length}
use Rattle.sections.specs.declared.lookup.Located.{Located}
use Rattle.sections.specs.declared.lookup.Located.TheVariants.{System, Graphics}

-- ---- check 1

pub both_true : (t u : Bool) → (t && u) ≡ true → (t ≡ true) × (u ≡ true)
both_true true u e = (refl, e)
both_true false u e = absurd (subst T (sym e) tt)

-- each section is within the limit where both are
pub limit-each : (s : Sections) → within_limit s ≡ true → (length s.system ≤ 67108864) × (length s.graphics ≤ 67108864)
unfolding within_limit
limit-each s e =
    let b = both_true (leb (length s.system) 67108864) (leb (length s.graphics) 67108864) e in
    (leb-true (length s.system) 67108864 b.0, leb-true (length s.graphics) 67108864 b.1)

-- ---- bits

below : (x : ℕ) → x % 2 < 2
below x = omega arith

pub both_set_lem : (j k x : ℕ) → bit j x + bit k x ≡ 2 → both_set j k x ≡ true
unfolding both_set
both_set_lem j k x h =
    rw (eq-eqb (bit j x) 1 (omega (arith, below (x / 2 ^ j), below (x / 2 ^ k))), eq-eqb (bit k x) 1 (omega (arith, below (x / 2 ^ j), below (x / 2 ^ k))))

not-both : (t u : Bool) (a b : ℕ) → eqb a 1 ≡ t → eqb b 1 ≡ u → (a + b ≡ 2 → ⊥) → (t && u) ≡ false
not-both true true a b p q h = absurd (h (omega (arith, eqb-true a 1 p, eqb-true b 1 q)))
not-both true false a b p q h = refl
not-both false true a b p q h = refl
not-both false false a b p q h = refl

pub not-both_set : (j k x : ℕ) → (bit j x + bit k x ≡ 2 → ⊥) → both_set j k x ≡ false
unfolding both_set
not-both_set j k x h = not-both (eqb (bit j x) 1) (eqb (bit k x) 1) (bit j x) (bit k x) refl refl h

-- a base, as a mask, keeps its two bits alone

and_zero : (x : ℕ) → bit_and x 0 ≡ 0
and_zero x = omega (arith, and_mask x 0)

and_five : (x : ℕ) → bit_and x 5 ≡ x % 2 + 4 * (x / 4 % 2)
and_five x = omega (arith, and_step x 5, and_step (x / 2) 2, and_step (x / 2 / 2) 1, and_zero (x / 2 / 2 / 2))

and_six : (x : ℕ) → bit_and x 6 ≡ 2 * (x / 2 % 2) + 4 * (x / 4 % 2)
and_six x = omega (arith, and_step x 6, and_step (x / 2) 3, and_step (x / 2 / 2) 1, and_zero (x / 2 / 2 / 2))

and_system : (x : ℕ) → bit_and x 0x50000000 ≡ 0x10000000 * bit 28 x + 0x40000000 * bit 30 x
and_system x = omega (arith, and_shr x 0x50000000 28, and_mod x 0x50000000 28, and_five (x / 2 ^ 28), and_zero (x % 2 ^ 28))

and_graphics : (x : ℕ) → bit_and x 0x60000000 ≡ 0x20000000 * bit 29 x + 0x40000000 * bit 30 x
and_graphics x = omega (arith, and_shr x 0x60000000 28, and_mod x 0x60000000 28, and_six (x / 2 ^ 28), and_zero (x % 2 ^ 28))

module _ (x : ℕ) where
  pub in_system : bit_and x 0x50000000 ≡ 0x50000000 → bit 30 x + bit 28 x ≡ 2
  in_system e = omega (arith, e, and_system x, below (x / 2 ^ 28), below (x / 2 ^ 30))

  pub system-test : bit 30 x + bit 28 x ≡ 2 → bit_and x 0x50000000 ≡ 0x50000000
  system-test e = omega (arith, e, and_system x, below (x / 2 ^ 28), below (x / 2 ^ 30))

  pub in_graphics : bit_and x 0x60000000 ≡ 0x60000000 → bit 30 x + bit 29 x ≡ 2
  in_graphics e = omega (arith, e, and_graphics x, below (x / 2 ^ 29), below (x / 2 ^ 30))

  pub graphics-test : bit 30 x + bit 29 x ≡ 2 → bit_and x 0x60000000 ≡ 0x60000000
  graphics-test e = omega (arith, e, and_graphics x, below (x / 2 ^ 29), below (x / 2 ^ 30))

-- ---- where an address points, case by case

-- a place where a test holds, as the library says it
pub some_if : (b : Bool) (place : Located) → then_some b place ≡ cond b (Some place) None
some_if true place = refl
some_if false place = refl

module _ (s : Sections) (va n : ℕ) where
  pub located-zero : va ≡ 0 → located s va n ≡ None
  unfolding located
  located-zero e = rw (eq-eqb va 0 e)

  pub located-graphics : (va ≡ 0 → ⊥) → bit 30 va + bit 29 va ≡ 2 → located s va n ≡ within Graphics s.graphics (va - 0x60000000) n
  unfolding located
  located-graphics z g = rw (ne_eqb va 0 z, both_set_lem 30 29 va g)

  pub located-system : (va ≡ 0 → ⊥) → (bit 30 va + bit 29 va ≡ 2 → ⊥) → bit 30 va + bit 28 va ≡ 2 → located s va n ≡ within System s.system (va - 0x50000000) n
  unfolding located
  located-system z g y = rw (ne_eqb va 0 z, not-both_set 30 29 va g, both_set_lem 30 28 va y)

  pub located-nowhere : (va ≡ 0 → ⊥) → (bit 30 va + bit 29 va ≡ 2 → ⊥) → (bit 30 va + bit 28 va ≡ 2 → ⊥) → located s va n ≡ None
  unfolding located
  located-nowhere z g y = rw (ne_eqb va 0 z, not-both_set 30 29 va g, not-both_set 30 28 va y)

-- ---- the bytes behind an address

found_at : (t : Bool) (x b : List ℕ) → cond t (Some x) None ≡ Some b → (t ≡ true) × (x ≡ b)
found_at true x b e = (refl, cc)
found_at false x b e = let z : ◌≡◌ {A = ℕ} 0 1 = cc in absurd (omega arith)

part_of-length : (s : List ℕ) (at n : ℕ) (b : List ℕ) → part_of s at n ≡ Some b → length b ≡ n
unfolding part_of
part_of-length s at n b e =
    let p = found_at (fits s at n) (part s at n) b e in
    rw (← p.1) (part_length s at n (leb-true (at + n) (length s) p.0))

range_length : (s : Sections) (place : Located) (n : ℕ) (b : List ℕ) → range_of s place n ≡ Some b → length b ≡ n
range_length s (System at) n b e = part_of-length s.system at n b e
range_length s (Graphics at) n b e = part_of-length s.graphics at n b e

located-bytes : (s : Sections) (n : ℕ) (o : Option Located) (b : List ℕ) → option_and_then (λ (place : Located). range_of s place n) o ≡ Some b → length b ≡ n
located-bytes s n None b e = let z : ◌≡◌ {A = ℕ} 0 1 = cc in absurd (omega arith)
located-bytes s n (Some place) b e = range_length s place n b e

-- there are as many as were asked for
pub resolved-length : (s : Sections) (va n : ℕ) (b : List ℕ) → resolved s va n ≡ Some b → length b ≡ n
unfolding resolved
resolved-length s va n b e = located-bytes s n (located s va n) b e

whole : (o : Option (List ℕ)) (n : ℕ) → ((b : List ℕ) → o ≡ Some b → length b ≡ n) → 0 < n → n ≤ length (unwrap_or o []) → o ≡ Some (unwrap_or o [])
whole None n f p h = absurd (omega arith)
whole (Some b) n f p h = refl

short : (o : Option (List ℕ)) (n : ℕ) → ((b : List ℕ) → o ≡ Some b → length b ≡ n) → length (unwrap_or o []) < n → o ≡ None
short None n f h = refl
short (Some b) n f h = absurd (omega (arith, f b refl))

-- so, of a slice that is empty where they did not, the length tells whether they resolved
module _ (s : Sections) (va n : ℕ) where
  pub resolved-whole : 0 < n → n ≤ length (unwrap_or (resolved s va n) []) → resolved s va n ≡ Some (unwrap_or (resolved s va n) [])
  resolved-whole p h = whole (resolved s va n) n (resolved-length s va n) p h

  pub resolved-short : length (unwrap_or (resolved s va n) []) < n → resolved s va n ≡ None
  resolved-short h = short (resolved s va n) n (resolved-length s va n) h

-- ---- a place that was found has its bytes

by_tests : (P : Option Located → Type 0) {x y : Option Located} (zero graphics system : Bool) → P None → P x → P y → P (cond zero None (cond graphics x (cond system y None)))
by_tests P true graphics system p q r = p
by_tests P false true system p q r = q
by_tests P false false true p q r = r
by_tests P false false false p q r = p

-- what holds of nothing and of a range in each section holds of wherever an address points
pub located-elim : (P : Option Located → Type 0) (s : Sections) (va n : ℕ) → P None → P (within Graphics s.graphics (va - 0x60000000) n) → P (within System s.system (va - 0x50000000) n)
    → P (located s va n)
unfolding located
located-elim P s va n p q r = by_tests P (eqb va 0) (both_set 30 29 va) (both_set 30 28 va) p q r

-- a place whose n bytes are there
pub record HasBytes (s : Sections) (place : Located) (n : ℕ) : Type 0 where
  pub content : List ℕ
  pub is : range_of s place n ≡ Some content
  pub long : length content ≡ n

HasBytes_lem : (s : Sections) (place : Located) (n : ℕ) (b : List ℕ) → range_of s place n ≡ Some b → HasBytes s place n
HasBytes_lem s place n b e = record { content = b; is = e; long = range_length s place n b e }

-- so has each place that is found
abbrev pub FindsBytes : Sections → ℕ → Option Located → Type 0
FindsBytes s n o = (place : Located) → o ≡ Some place → HasBytes s place n

none-finds : (s : Sections) (n : ℕ) → FindsBytes s n None
none-finds s n place e = let z : ◌≡◌ {A = ℕ} 0 1 = cc in absurd (omega arith)

in-part : (s : Sections) (section : List ℕ) (make : ℕ → Located) → ((at n : ℕ) → range_of s (make at) n ≡ part_of section at n)
    → (at n : ℕ) (t : Bool) → fits section at n ≡ t → FindsBytes s n (cond t (Some (make at)) None)
unfolding part_of
in-part s section make same at n true e place f = subst (λ p. HasBytes s p n) (same_Some _ _ f) (HasBytes_lem s (make at) n (part section at n) (same at n ∙ rw e))
in-part s section make same at n false e place f = none-finds s n place f

pub located-found : (s : Sections) (va n : ℕ) → FindsBytes s n (located s va n)
located-found s va n =
    located-elim (FindsBytes s n) s va n (none-finds s n)
    (in-part s s.graphics Graphics (λ at k. refl) (va - 0x60000000) n (fits s.graphics (va - 0x60000000) n) refl)
    (in-part s s.system System (λ at k. refl) (va - 0x50000000) n (fits s.system (va - 0x50000000) n) refl)
