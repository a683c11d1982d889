-- The bytes of a list's elements, and whether it resolves.
use Rattle.std.specs.Prelude.{Option, None, Some, option_map}
use mathlib.Core.Path.{◌≡◌, refl, ap, ◌∙◌}
use mathlib.Core.Bool.{Bool, true, false, cond}
use mathlib.Core.List.{List, []}
use mathlib.Core.Logic.{◌⊎◌, inl, inr, ⊎_elim}
use Prim.Native.Nat.{ℕ, ◌*◌, ◌/◌, ◌≤◌, ◌<◌}
use native.Mathlib.Nat.{mul-le-mul}
use native.Mathlib.Omega.{arith}
use lib.Dec.{eqb}
use lib.ListN.{length}
use Rattle.sections.specs.Address.{Sections, resolved}
use Rattle.sections.proofs.AddressLaws.{resolved-length}
use Rattle.vertices.specs.Runs.{numbers}
use Rattle.halls.specs.Reading.{Reading, refused, need, or_empty, list_at}
use Rattle.halls.specs.Inner.Measure.{list_bytes, whole_numbers}

-- a list's numbers are those of its bytes
module _ (s : Sections) (width count pointer : ℕ) (none_of : 0 / width ≡ 0) (all_of : count * width / width ≡ count) where
  numbers_of_lem : (o : Option (List ℕ)) → ((b : List ℕ) → o ≡ Some b → length b ≡ count * width) → option_map (numbers width count) o ≡ option_map (whole_numbers width) o
  numbers_of_lem None f = refl
  numbers_of_lem (Some b) f = ap Some (rw (f b refl, all_of))

  tests_of : (t u : Bool) (o p : Option (List ℕ)) → p ≡ option_map (whole_numbers width) o → cond t (Some []) (cond u (Some []) p) ≡ option_map (whole_numbers width) (cond t (Some []) (cond u (Some []) o))
  unfolding numbers
  tests_of true u o p e = rw none_of
  tests_of false true o p e = rw none_of
  tests_of false false o p e = e

  list-numbers : list_at s width count pointer ≡ option_map (whole_numbers width) (list_bytes s width count pointer)
  unfolding list_at list_bytes
  list-numbers =
      tests_of (eqb count 0) (eqb pointer 0) (resolved s pointer (count * width)) (option_map (numbers width count) (resolved s pointer (count * width)))
      (numbers_of_lem (resolved s pointer (count * width)) (λ b. resolved-length s pointer (count * width) b))

  or_empty_lem : (o : Option (List ℕ)) → or_empty (option_map (whole_numbers width) o) ≡ whole_numbers width (or_empty o)
  unfolding numbers
  or_empty_lem None = rw none_of
  or_empty_lem (Some b) = refl

  pub list-or_empty : or_empty (list_at s width count pointer) ≡ whole_numbers width (or_empty (list_bytes s width count pointer))
  list-or_empty = ap or_empty list-numbers ∙ or_empty_lem (list_bytes s width count pointer)

  module _ {A : Type 0} (check : ℕ) (f : List ℕ → Reading A) where
    pub list_absent : list_bytes s width count pointer ≡ None → need check (list_at s width count pointer) f ≡ refused check
    list_absent e = rw (list-numbers, e)

    pub list_found : (b : List ℕ) → list_bytes s width count pointer ≡ Some b → need check (list_at s width count pointer) f ≡ f (whole_numbers width b)
    list_found b e = rw (list-numbers, e)

-- a list's bytes are whole elements
pub list-whole : (s : Sections) (width count pointer : ℕ) → (length (or_empty (list_bytes s width count pointer)) ≡ 0) ⊎ (length (or_empty (list_bytes s width count pointer)) ≡ count * width)
unfolding list_bytes
list-whole s width count pointer = by_tests (eqb count 0) (eqb pointer 0) (resolved s pointer (count * width)) (resolved-length s pointer (count * width))
  where
    by_option : (o : Option (List ℕ)) → ((b : List ℕ) → o ≡ Some b → length b ≡ count * width) → (length (or_empty o) ≡ 0) ⊎ (length (or_empty o) ≡ count * width)
    by_option None f = inl refl
    by_option (Some b) f = inr (f b refl)

    by_tests : (t u : Bool) (o : Option (List ℕ)) → ((b : List ℕ) → o ≡ Some b → length b ≡ count * width)
        → (length (or_empty (cond t (Some []) (cond u (Some []) o))) ≡ 0) ⊎ (length (or_empty (cond t (Some []) (cond u (Some []) o))) ≡ count * width)
    by_tests true u o f = inl refl
    by_tests false true o f = inl refl
    by_tests false false o f = by_option o f

-- the bytes of a list with a count below 2^16
pub list_short : (s : Sections) (width count pointer : ℕ) → count < 65536 → width ≤ 8 → length (or_empty (list_bytes s width count pointer)) ≤ 524280
list_short s width count pointer h l =
    let few : count ≤ 65535 = omega arith in
    let m : count * width ≤ 65535 * 8 = mul-le-mul few l in
    ⊎_elim (λ e. omega arith) (λ e. omega arith) (list-whole s width count pointer)

-- half of an even number, twice
pub even-whole : (s : Sections) (count pointer : ℕ) → length (or_empty (list_bytes s 2 count pointer)) / 2 * 2 ≡ length (or_empty (list_bytes s 2 count pointer))
even-whole s count pointer = ⊎_elim (λ e. omega arith) (λ e. omega arith) (list-whole s 2 count pointer)
