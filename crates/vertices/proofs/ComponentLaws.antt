-- Laws of components: how many there are, where each lies, and which one a semantic's number finds.
use Rattle.std.specs.Prelude.{Option, None, Some}
use mathlib.Core.Path.{◌≡◌, refl, ◌∙◌}
use mathlib.Core.Bool.{Bool, true, false, cond}
use mathlib.Core.List.{List, [], ◌∷◌}
use mathlib.Core.Logic.{⊎_elim}
use Prim.Native.Nat.{ℕ, zero, suc, ◌+◌, ◌*◌, ◌-◌, ◌/◌, ◌%◌, ◌^◌, ◌≤◌, ◌<◌}
use native.Mathlib.Nat.{add_assoc, add-zero, div-div-eq-div-mul, div-one, eq-zero-or-pos, pow-succ', zero-add}
use native.Mathlib.Omega.{arith}
use borrow.Author.Tests.{eq-eqb, ne_eqb, eqb-true}
use lib.Dec.{eqb}
use lib.ListN.{length, get_or, take}
use Rattle.vertices.specs.Types.{component_type_of, size_of}
use Rattle.vertices.specs.Declaration.{component_at, component_of, components_from, components_of, odd, position_only, sizes, total_size, with_index}
use Rattle.vertices.specs.declared.types.VertexComponent.{VertexComponent}
use Rattle.vertices.specs.declared.types.VertexComponentType.TheVariants.{Nothing}
use Rattle.vertices.specs.declared.types.VertexSemantic.TheVariants.{Position}
use Rattle.vertices.specs.declared.declaration.VertexDeclaration.{VertexDeclaration}
use Rattle.vertices.proofs.TypeLaws.{size-bound}

-- what stands for a component that there is not
abbrev pub empty_component : VertexComponent
empty_component = record { semantic = Position; semantic_index = 0; component_type = Nothing; offset = 0; size = 0; component_count = 0 }

-- the i-th component
abbrev pub item : List VertexComponent → ℕ → VertexComponent
item cs i = get_or cs i empty_component

-- ---- by the walk over the flags

-- What holds of no components, is kept by a flag that is not set, and by a component put in front, holds of the components of any flags.
module _ (P : ℕ → ℕ → ℕ → List VertexComponent → Type 0)
    (empty : (index offset : ℕ) → P 0 index offset [])
    (clear : (k index offset : ℕ) (cs : List VertexComponent) → P k (index + 1) offset cs → P (suc k) index offset cs)
    (front : (k index nibble offset : ℕ) (cs : List VertexComponent) → P k (index + 1) (offset + size_of (component_type_of nibble)) cs → P (suc k) index offset (component_at index nibble offset ∷ cs)) where
  pub by_flags : (k index flags types offset : ℕ) → P k index offset (components_from k index flags types offset)
  unfolding components_from
  by_flags zero index flags types offset = empty index offset
  by_flags (suc k) index flags types offset =
      cases (odd flags)
      (front k index (types % 16) offset _ (by_flags k (index + 1) (flags / 2) (types / 16) (offset + size_of (component_type_of (types % 16)))))
      (clear k index offset _ (by_flags k (index + 1) (flags / 2) (types / 16) offset))
    where
      cases : {xs ys : List VertexComponent} (b : Bool) → P (suc k) index offset xs → P (suc k) index offset ys → P (suc k) index offset (cond b xs ys)
      cases true x y = x
      cases false x y = y

-- components that lie one behind the other, the first at `offset`
abbrev pub Consecutive : ℕ → List VertexComponent → Type 0
Consecutive offset [] = Unit
Consecutive offset (c ∷ cs) = (c.offset ≡ offset) × Consecutive (offset + c.size) cs

-- each component's number is `index` or more and finds it
abbrev Numbered : ℕ → List VertexComponent → Type 0
Numbered index cs = (n : ℕ) → n < length cs → (index ≤ (item cs n).semantic_index) × (with_index (item cs n).semantic_index cs ≡ Some (item cs n))

-- and so with one of a lower number in front
Numbered-front : (index nibble offset : ℕ) (cs : List VertexComponent) → Numbered (index + 1) cs → Numbered index (component_at index nibble offset ∷ cs)
unfolding with_index
Numbered-front index nibble offset cs h zero l = (omega arith, rw (eq-eqb index index refl))
Numbered-front index nibble offset cs h (suc n) l =
    let f = h n (omega arith) in
    (omega (arith, f.0), rw (ne_eqb index (item cs n).semantic_index (λ e. omega (arith, f.0))) f.1)

module _ (k index flags types offset : ℕ) where
  -- at most one for each flag
  pub few-from : length (components_from k index flags types offset) ≤ k
  few-from =
      by_flags (λ k i o cs. length cs ≤ k) (λ i o. omega arith) (λ k i o cs h. omega arith) (λ k i n o cs h. omega arith)
      k index flags types offset

  -- of at most 16 bytes each
  Small-from : sizes (components_from k index flags types offset) ≤ 16 * k
  unfolding sizes
  Small-from =
      by_flags (λ k i o cs. sizes cs ≤ 16 * k) (λ i o. omega arith) (λ k i o cs h. omega arith) (λ k i n o cs h. omega (arith, size-bound (component_type_of n)))
      k index flags types offset

  -- one behind the other
  Consecutive-from : Consecutive offset (components_from k index flags types offset)
  Consecutive-from =
      by_flags (λ k i o cs. Consecutive o cs) (λ i o. tt) (λ k i o cs h. h) (λ k i n o cs h. (refl, h))
      k index flags types offset

  -- a number that is none of the k from `index` on finds none
  none-outside : (wanted : ℕ) → ((n : ℕ) → index ≤ n → n < index + k → n ≡ wanted → ⊥) → with_index wanted (components_from k index flags types offset) ≡ None
  unfolding with_index
  none-outside =
      by_flags (λ k i o cs. (wanted : ℕ) → ((n : ℕ) → i ≤ n → n < i + k → n ≡ wanted → ⊥) → with_index wanted cs ≡ None) (λ i o w l. refl)
      (λ k i o cs h w l. h w (λ n a b. l n (omega arith) (omega arith)))
      (λ k i n o cs h w l. rw (ne_eqb i w (l i (omega arith) (omega arith))) (h w (λ n a b. l n (omega arith) (omega arith))))
      k index flags types offset

  -- each is the one that its number finds
  Numbered-from : Numbered index (components_from k index flags types offset)
  Numbered-from =
      by_flags (λ k i o cs. Numbered i cs) (λ i o n l. absurd (omega arith)) (λ k i o cs h n l. (omega (arith, (h n l).0), (h n l).1)) (λ k i n o cs h. Numbered-front i n o cs h)
      k index flags types offset

module _ (index nibble offset : ℕ) where
  -- the lowest flag's own number finds its component, or none
  found_here : (b : Bool) (cs cs' : List VertexComponent) → with_index index cs' ≡ None
      → with_index index (cond b (component_at index nibble offset ∷ cs) cs') ≡ cond b (Some (component_at index nibble offset)) None
  unfolding with_index
  found_here true cs cs' e = rw (eq-eqb index index refl)
  found_here false cs cs' e = e

  -- another number finds what it finds among the later flags
  Found-later : (wanted : ℕ) (b : Bool) (found : ℕ → Option VertexComponent) (cs cs' ds ds' : List VertexComponent) → (index ≡ wanted → ⊥)
      → with_index wanted cs ≡ found (offset + size_of (component_type_of nibble) + sizes ds) → with_index wanted cs' ≡ found (offset + sizes ds')
      → with_index wanted (cond b (component_at index nibble offset ∷ cs) cs') ≡ found (offset + sizes (cond b (component_at index nibble offset ∷ ds) ds'))
  unfolding with_index sizes
  Found-later wanted true found cs cs' ds ds' h e f = rw (ne_eqb index wanted h, ← add_assoc) e
  Found-later wanted false found cs cs' ds ds' h e f = f

-- the component of a set flag: its number, its nibble, and the sizes of the components of lower flags
found_from : (k m index flags types offset : ℕ) → with_index (index + k) (components_from (k + suc m) index flags types offset)
    ≡ cond (odd (flags / 2 ^ k)) (Some (component_at (index + k) (types / 16 ^ k % 16) (offset + sizes (components_from k index flags types offset)))) None
unfolding components_from sizes
found_from zero m index flags types offset =
    rw (add-zero index, zero-add, div-one flags, div-one types, add-zero offset)
    (found_here index (types % 16) offset (odd flags) _ _ (none-outside m (index + 1) (flags / 2) (types / 16) offset index (λ n a b e. omega arith)))
found_from (suc k) m index flags types offset =
    let i : index + suc k ≡ index + 1 + k = omega arith in
    let n : suc k + suc m ≡ suc (k + suc m) = omega arith in
    simp (i, n, pow-succ', ← div-div-eq-div-mul)
    (Found-later index (types % 16) offset (index + 1 + k) (odd flags)
    (λ o. cond (odd (flags / 2 / 2 ^ k)) (Some (component_at (index + 1 + k) (types / 16 / 16 ^ k % 16) o)) None) _ _ _ _ (λ e. omega arith)
    (found_from k m (index + 1) (flags / 2) (types / 16) (offset + size_of (component_type_of (types % 16)))) (found_from k m (index + 1) (flags / 2) (types / 16) offset))

-- c is one of the components, and has this number
abbrev pub Among : List VertexComponent → VertexComponent → ℕ → Type 0
Among cs c index = (i : ℕ) × (i < length cs) × (item cs i ≡ c) × (c.semantic_index ≡ index)

-- what a number finds is among the components
found_among : (index : ℕ) (cs : List VertexComponent) (c : VertexComponent) → with_index index cs ≡ Some c → Among cs c index
unfolding with_index
found_among index [] c e = let z : ◌≡◌ {A = ℕ} 0 1 = cc in absurd (omega arith)
found_among index (x ∷ cs) c e = first (eqb x.semantic_index index) refl e (λ h. found_among index cs c h)
  where
    first : (b : Bool) → eqb x.semantic_index index ≡ b → cond b (Some x) (with_index index cs) ≡ Some c → (with_index index cs ≡ Some c → Among cs c index) → Among (x ∷ cs) c index
    first true t h later = (0, omega arith, cc, cc (eqb-true x.semantic_index index t))
    first false t h later =
        let r = later h in
        (suc r.0, omega (arith, r.1), r.2, r.3)

-- ---- of consecutive components

-- the i-th one's offset is the first's and the sizes before it
offset_at : (offset : ℕ) (cs : List VertexComponent) → Consecutive offset cs → (i : ℕ) → i < length cs → (item cs i).offset ≡ offset + sizes (take i cs)
unfolding sizes
offset_at offset [] f i h = absurd (omega arith)
offset_at offset (c ∷ cs) f zero h = f.0 ∙ omega arith
offset_at offset (c ∷ cs) f (suc i) h = offset_at (offset + c.size) cs f.1 i (omega arith) ∙ omega arith

-- each ends within all of them
within : (offset : ℕ) (cs : List VertexComponent) → Consecutive offset cs → (i : ℕ) → i < length cs
    → (item cs i).offset + (item cs i).size ≤ offset + sizes cs
unfolding sizes
within offset [] f i h = absurd (omega arith)
within offset (c ∷ cs) f zero h = omega (arith, f.0)
within offset (c ∷ cs) f (suc i) h = omega (arith, within (offset + c.size) cs f.1 i (omega arith))

-- each ends before a later one begins
apart : (offset : ℕ) (cs : List VertexComponent) → Consecutive offset cs → (i j : ℕ) → i < j → j < length cs → (item cs i).offset + (item cs i).size ≤ (item cs j).offset
apart offset [] f i j h l = absurd (omega arith)
apart offset (c ∷ cs) f i zero h l = absurd (omega arith)
apart offset (c ∷ cs) f zero (suc j) h l = omega (arith, f.0, offset_at (offset + c.size) cs f.1 j (omega arith))
apart offset (c ∷ cs) f (suc i) (suc j) h l = apart (offset + c.size) cs f.1 i j (omega arith) (omega arith)

-- where each that has a size ends by n, they all do
by-each : (n offset : ℕ) (cs : List VertexComponent) → Consecutive offset cs
    → ((i : ℕ) → i < length cs → 0 < (item cs i).size → (item cs i).offset + (item cs i).size ≤ n)
    → 0 < sizes cs → offset + sizes cs ≤ n
unfolding sizes
by-each n offset [] f g p = absurd (omega arith)
by-each n offset (c ∷ cs) f g p =
    ⊎_elim
    (λ z. omega (arith, f.0, g 0 (omega arith) (omega arith)))
    (λ q. omega (arith, by-each n (offset + c.size) cs f.1 (λ i h s. g (suc i) (omega arith) s) q))
    (eq-zero-or-pos (sizes cs))

-- ---- of a declaration

module _ (d : VertexDeclaration) where
  -- at most 16 components
  pub components_few : length (components_of d) ≤ 16
  unfolding components_of
  components_few = few-from 16 0 d.flags d.types 0

  -- of at most 256 bytes
  pub total-bound : total_size d ≤ 256
  unfolding components_of total_size
  total-bound = Small-from 16 0 d.flags d.types 0

  -- they lie one behind the other from 0 on
  pub components_consecutive : Consecutive 0 (components_of d)
  unfolding components_of
  components_consecutive = Consecutive-from 16 0 d.flags d.types 0

  -- a component's offset is the sum of the sizes before it
  pub component_offset : (i : ℕ) → i < length (components_of d) → (item (components_of d) i).offset ≡ sizes (take i (components_of d))
  component_offset i h = offset_at 0 (components_of d) components_consecutive i h ∙ omega arith

  -- a component ends within the total
  pub component-within : (i : ℕ) → i < length (components_of d) → (item (components_of d) i).offset + (item (components_of d) i).size ≤ total_size d
  unfolding total_size
  component-within i h = omega (arith, within 0 (components_of d) components_consecutive i h)

  -- a component ends before a later one begins
  pub components_apart : (i j : ℕ) → i < j → j < length (components_of d) → (item (components_of d) i).offset + (item (components_of d) i).size ≤ (item (components_of d) j).offset
  components_apart i j h l = apart 0 (components_of d) components_consecutive i j h l

  -- where the total is at most n, each component ends by n
  pub components_inside_lem : (n : ℕ) → total_size d ≤ n → (i : ℕ) → i < length (components_of d) → (item (components_of d) i).offset + (item (components_of d) i).size ≤ n
  components_inside_lem n t i h = omega (arith, component-within i h)

  -- where each component of nonzero size ends by n, the total is at most n
  pub inside-total : (n : ℕ)
      → ((i : ℕ) → i < length (components_of d) → 0 < (item (components_of d) i).size → (item (components_of d) i).offset + (item (components_of d) i).size ≤ n)
      → total_size d ≤ n
  unfolding total_size
  inside-total n g =
      ⊎_elim (λ z. omega arith) (λ p. omega (arith, by-each n 0 (components_of d) components_consecutive g p)) (eq-zero-or-pos (sizes (components_of d)))

  -- the component of a semantic: where its flag is set, of the type that the nibble with its number says, behind those of lower flags
  pub component_is : (index : ℕ) → index < 16
      → component_of d index ≡ cond (odd (d.flags / 2 ^ index)) (Some (component_at index (d.types / 16 ^ index % 16) (sizes (components_from index 0 d.flags d.types 0)))) None
  unfolding component_of components_of
  component_is index h =
      let n : index + suc (15 - index) ≡ 16 = omega arith in
      simp (n, zero-add) at (found_from index (15 - index) 0 d.flags d.types 0)

  -- there is none of a number from 16 on
  pub component-none : (index : ℕ) → 16 ≤ index → component_of d index ≡ None
  unfolding component_of components_of
  component-none index h = none-outside 16 0 d.flags d.types 0 index (λ n a b e. omega arith)

  -- each component is the one that its number finds
  pub item-found : (i : ℕ) → i < length (components_of d) → component_of d (item (components_of d) i).semantic_index ≡ Some (item (components_of d) i)
  unfolding component_of components_of
  item-found i h = (Numbered-from 16 0 d.flags d.types 0 i h).1

  -- what a number finds is among the components
  pub component-among : (index : ℕ) (c : VertexComponent) → component_of d index ≡ Some c → Among (components_of d) c index
  unfolding component_of
  component-among index c e = found_among index (components_of d) c e

  -- and ends within the total
  pub found_within : (index : ℕ) (c : VertexComponent) → component_of d index ≡ Some c → c.offset + c.size ≤ total_size d
  found_within index c e =
      let a = component-among index c e in
      rw a.2 at (component-within a.0 a.1)

-- ---- of a position alone

-- one Float3, at 0
pub position_components : (stride : ℕ) → components_of (position_only stride) ≡ component_at 0 6 0 ∷ []
unfolding components_of components_from
position_components stride = refl

-- of 12 bytes
pub position-total : (stride : ℕ) → total_size (position_only stride) ≡ 12
unfolding total_size sizes components_of components_from component_type_of
position-total stride = refl
