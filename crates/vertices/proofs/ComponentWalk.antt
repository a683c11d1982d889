-- The walk over the flags: what the search for the next set flag keeps, and what is made of the components.
use Rattle.std.proofs.Common.{◌≡◌, refl, sym, ◌∙◌, Bool, true, false, cond, List, [], ◌∷◌, ℕ, zero, suc, ◌+◌, ◌*◌, ◌-◌, ◌/◌, ◌%◌, ◌^◌, ◌≤◌, ◌<◌, eqb, arith}
use Rattle.std.proofs.lemmas.Nat.{pow-add}
use native.Mathlib.Nat.{mul_assoc, mul_comm, mul-add, zero-add}
use Rattle.std.specs.List.{find, sum_by}
use Rattle.std.proofs.lemmas.List.Sums.{sum_by-cons}
use borrow.Author.Tests.{eq-eqb, ne_eqb}
use Rattle.vertices.specs.Types.{component_type_of, nibble_of, size_of}
use Rattle.vertices.specs.Declaration.{component_at, components_from, components_of, declaration_id, id_from, odd, sizes, with_index}
use Rattle.vertices.specs.declared.types.VertexComponent.{VertexComponent}
use Rattle.vertices.specs.declared.declaration.VertexDeclaration.{VertexDeclaration}
use Rattle.vertices.proofs.DeclarationLaws.{id_below}
use Rattle.vertices.proofs.TypeLaws.{size-bound, type_nibble}

-- the components from `index` on are those that were left; so far, components have at most 16 bytes each
pub record Walking (left : List VertexComponent) (index flags types offset : ℕ) : Type 0 where
  pub same : components_from (16 - index) index flags types offset ≡ left
  pub bound : index ≤ 16
  pub room : offset ≤ 16 * index

-- a component has at most 16 bytes
pub component_small : (nibble : ℕ) {index offset : ℕ} {c : VertexComponent} → c ≡ component_at index nibble offset → c.size ≤ 16
component_small nibble e = rw e (size-bound (component_type_of nibble))

-- of no flags: none
none_set : (k index types offset : ℕ) → components_from k index 0 types offset ≡ []
unfolding components_from
none_set zero index types offset = refl
none_set (suc k) index types offset = none_set k (index + 1) (types / 16) offset

-- of the last k flags, where there are no more or none of them is set: none
ended : (k index flags types offset : ℕ) → (0 < k → flags ≡ 0) → components_from k index flags types offset ≡ []
unfolding components_from
ended zero index flags types offset h = refl
ended (suc k) index flags types offset h = rw (h (omega arith)) (none_set (suc k) index types offset)

-- at a flag that is not set: those of the later flags
pub components_clear : (index flags types offset : ℕ) → index < 16 → (flags % 2 ≡ 1 → ⊥)
    → components_from (16 - index) index flags types offset ≡ components_from (16 - (index + 1)) (index + 1) (flags / 2) (types / 16) offset
unfolding components_from
components_clear index flags types offset low e =
    let n : 16 - index ≡ suc (16 - (index + 1)) = omega arith in
    rw (n, ne_eqb (flags % 2) 1 e)

module _ {left : List VertexComponent} {index flags types offset : ℕ} (w : Walking left index flags types offset) where
  -- at a set flag: its component, then those of the later flags
  pub walking_set : index < 16 → flags % 2 ≡ 1 → left ≡ component_at index (types % 16) offset
      ∷ components_from (16 - (index + 1)) (index + 1) (flags / 2) (types / 16) (offset + size_of (component_type_of (types % 16)))
  unfolding components_from
  walking_set low e =
      let n : 16 - index ≡ suc (16 - (index + 1)) = omega arith in
      sym w.same ∙ rw (n, eq-eqb (flags % 2) 1 e)

  -- at a flag that is not set: those of the later flags
  pub walking_clear : index < 16 → (flags % 2 ≡ 1 → ⊥) → Walking left (index + 1) (flags / 2) (types / 16) offset
  walking_clear low e =
      record { same = sym (components_clear index flags types offset low e) ∙ w.same; bound = omega arith; room = omega (arith, w.room) }

  -- past the last flag, or with no flag left: none
  pub walking_end : (index < 16 → flags ≡ 0) → left ≡ []
  walking_end h = sym w.same ∙ ended (16 - index) index flags types offset (λ some. h (omega arith))

-- ---- of a list of components

-- the first with a number, as the library's search finds it
pub first_found : (index : ℕ) (cs : List VertexComponent) → with_index index cs ≡ find (λ c. eqb c.semantic_index index) cs
unfolding with_index
first_found index [] = refl
first_found index (c ∷ cs) = rw (first_found index cs)

-- their sizes, as the library's sum
pub sizes_summed : (cs : List VertexComponent) → sizes cs ≡ sum_by (λ c. c.size) cs
unfolding sizes
sizes_summed [] = refl
sizes_summed (c ∷ cs) = rw (sum_by-cons (λ (c : VertexComponent). c.size) c cs, sizes_summed cs)

-- ---- the id

-- the nibbles of components, each at its number's place
abbrev pub placed : List VertexComponent → ℕ
placed [] = 0
placed (c ∷ cs) = nibble_of c.component_type * 2 ^ (4 * c.semantic_index) + placed cs

-- each number is a flag's
abbrev pub AllFlags : List VertexComponent → Type 0
AllFlags [] = Unit
AllFlags (c ∷ cs) = (c.semantic_index < 16) × AllFlags cs

-- of the components of the flags from `index` on: their id, at the place of `index`
pub placed_from : (k index flags types offset : ℕ) → placed (components_from k index flags types offset) ≡ 2 ^ (4 * index) * id_from k flags types
unfolding components_from id_from
placed_from zero index flags types offset = omega arith
placed_from (suc k) index flags types offset =
    cases _ _ (odd flags) (placed_from k (index + 1) (flags / 2) (types / 16) (offset + size_of (component_type_of (types % 16)))) (placed_from k (index + 1) (flags / 2) (types / 16) offset)
  where
    rest : ℕ
    rest = id_from k (flags / 2) (types / 16)

    next : 2 ^ (4 * (index + 1)) * rest ≡ 2 ^ (4 * index) * (16 * rest)
    next =
        let four : 4 * (index + 1) ≡ 4 * index + 4 = omega arith in
        rw (four, pow-add 2 (4 * index) 4) (mul_assoc (2 ^ (4 * index)) 16 rest)

    cases : (xs ys : List VertexComponent) (b : Bool) → placed xs ≡ 2 ^ (4 * (index + 1)) * rest → placed ys ≡ 2 ^ (4 * (index + 1)) * rest
        → placed (cond b (component_at index (types % 16) offset ∷ xs) ys) ≡ 2 ^ (4 * index) * (cond b (types % 16) 0 + 16 * rest)
    cases xs ys true x y = rw (x, type_nibble (types % 16), next, mul_comm (types % 16) (2 ^ (4 * index))) (sym (mul-add (2 ^ (4 * index)) (types % 16) (16 * rest)))
    cases xs ys false x y = rw (y, next) (rw zero-add)

-- each number is that of a flag
pub flags_from : (k index flags types offset : ℕ) → index + k ≤ 16 → AllFlags (components_from k index flags types offset)
unfolding components_from
flags_from zero index flags types offset h = tt
flags_from (suc k) index flags types offset h =
    cases _ _ (odd flags) (flags_from k (index + 1) (flags / 2) (types / 16) (offset + size_of (component_type_of (types % 16))) (omega arith)) (flags_from k (index + 1) (flags / 2) (types / 16) offset (omega arith))
  where
    cases : (xs ys : List VertexComponent) (b : Bool) → AllFlags xs → AllFlags ys → AllFlags (cond b (component_at index (types % 16) offset ∷ xs) ys)
    cases xs ys true x y = (omega arith, x)
    cases xs ys false x y = y

-- the id so far and the nibbles of the components to come are the whole id, which fits
pub record Placing (whole id : ℕ) (left : List VertexComponent) : Type 0 where
  pub same : id + placed left ≡ whole
  pub flags : AllFlags left
  pub fits : whole < 18446744073709551616

-- as the sum begins
pub placing_start : (d : VertexDeclaration) → Placing (declaration_id d) 0 (components_of d)
unfolding components_of
placing_start d =
    let e : placed (components_from 16 0 d.flags d.types 0) ≡ id_from 16 d.flags d.types = placed_from 16 0 d.flags d.types 0 ∙ omega arith in
    record {
      same = zero-add _ ∙ e;
      flags = flags_from 16 0 d.flags d.types 0 (omega arith);
      fits = id_below 16 d.flags d.types;
    }
