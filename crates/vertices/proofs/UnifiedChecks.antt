-- Check 9: it is enough to test the last vertex, by the sum of the component sizes.
use mathlib.Core.Path.{◌≡◌, refl, sym, ◌∙◌}
use mathlib.Core.Bool.{Bool, true, false}
use mathlib.Core.List.{List, [], ◌∷◌}
use mathlib.Core.Logic.{⊎_elim}
use Prim.Native.Nat.{ℕ, zero, suc, ◌+◌, ◌-◌, ◌*◌, ◌≤◌, ◌<◌}
use native.Mathlib.Nat.{eq-zero-or-pos, mul-le-mul_right}
use native.Mathlib.Omega.{arith}
use borrow.Author.Tests.{eq-eqb, ne_eqb, le-leb, leb-true}
use lib.Dec.{eqb, leb}
use lib.ListN.{length}
use Rattle.sections.proofs.AddressLaws.{both_true}
use Rattle.vertices.specs.Types.{size_of}
use Rattle.vertices.specs.Declaration.{component_at, components_of, total_size}
use Rattle.vertices.specs.Attribute.{component_inside, all_inside}
use Rattle.vertices.specs.Unified.{vertices_inside}
use Rattle.vertices.specs.declared.types.VertexComponent.{VertexComponent}
use Rattle.vertices.specs.declared.declaration.VertexDeclaration.{VertexDeclaration}
use Rattle.vertices.proofs.ComponentLaws.{by_flags, item, component-within, inside-total}

-- ---- no sum wraps

-- ---- as facts

-- each component that has a size ends inside n bytes, in the vertex at `base`
abbrev pub Within : List VertexComponent → ℕ → ℕ → Type 0
Within cs base n = (i : ℕ) → i < length cs → 0 < (item cs i).size → base + (item cs i).offset + (item cs i).size ≤ n

-- each component has the size of its type
abbrev pub Sized : List VertexComponent → Type 0
Sized cs = (i : ℕ) → i < length cs → (item cs i).size ≡ size_of (item cs i).component_type

sized-front : (k index nibble offset : ℕ) (cs : List VertexComponent) → Sized cs → Sized (component_at index nibble offset ∷ cs)
sized-front k index nibble offset cs f zero h = refl
sized-front k index nibble offset cs f (suc i) h = f i (omega arith)

pub components-sized : (d : VertexDeclaration) → Sized (components_of d)
unfolding components_of
components-sized d = by_flags (λ k index offset cs. Sized cs) (λ index offset i h. absurd (omega arith)) (λ k index offset cs f. f) sized-front 16 0 d.flags d.types 0

one-true : (n base : ℕ) (c : VertexComponent) → c.size ≡ size_of c.component_type → component_inside n base c ≡ true → 0 < c.size → base + c.offset + c.size ≤ n
one-true n base c s e p =
    let z : eqb c.size 0 ≡ false = ne_eqb c.size 0 (λ z. omega arith) in
    leb-true _ _ (rw (← s, z) at e)

true-one : (n base : ℕ) (c : VertexComponent) → c.size ≡ size_of c.component_type → (0 < c.size → base + c.offset + c.size ≤ n) → component_inside n base c ≡ true
true-one n base c s f =
    rw (← s) (⊎_elim (λ z. rw (eq-eqb c.size 0 z)) (λ p. rw (ne_eqb c.size 0 (λ z. omega arith), le-leb (base + c.offset + c.size) n (f p))) (eq-zero-or-pos c.size))

-- what the test of one vertex says
pub all_true : (n base : ℕ) (cs : List VertexComponent) → Sized cs → all_inside n base cs ≡ true → Within cs base n
unfolding all_inside
all_true n base [] s e i h p = absurd (omega arith)
all_true n base (c ∷ cs) s e zero h p = one-true n base c (s 0 (omega arith)) (both_true _ _ e).0 p
all_true n base (c ∷ cs) s e (suc i) h p = all_true n base cs (λ j l. s (suc j) (omega arith)) (both_true (component_inside n base c) _ e).1 i (omega arith) p

-- and when it passes
pub true-all : (n base : ℕ) (cs : List VertexComponent) → Sized cs → Within cs base n → all_inside n base cs ≡ true
unfolding all_inside
true-all n base [] s f = refl
true-all n base (c ∷ cs) s f = rw (true-one n base c (s 0 (omega arith)) (f 0 (omega arith)), true-all n base cs (λ j l. s (suc j) (omega arith)) (λ i h. f (suc i) (omega arith)))

module _ (d : VertexDeclaration) (n stride : ℕ) where
  -- what the test of all vertices says
  pub Vertices-true : (count : ℕ) → vertices_inside d n stride count ≡ true → (k : ℕ) → k < count → Within (components_of d) (k * stride) n
  unfolding vertices_inside
  Vertices-true zero e k h = absurd (omega arith)
  Vertices-true (suc count) e k h =
      let b = both_true (vertices_inside d n stride count) _ e in
      ⊎_elim (λ z. let q : k ≡ count = omega arith in rw q (all_true n (count * stride) (components_of d) (components-sized d) b.1)) (λ p. Vertices-true count b.0 k (omega arith)) (eq-zero-or-pos (count - k))

  -- and when it passes
  pub true_vertices : (count : ℕ) → ((k : ℕ) → k < count → Within (components_of d) (k * stride) n) → vertices_inside d n stride count ≡ true
  unfolding vertices_inside
  true_vertices zero f = refl
  true_vertices (suc count) f = rw (true_vertices count (λ k h. f k (omega arith)), true-all n (count * stride) (components_of d) (components-sized d) (f count (omega arith)))

  -- ---- by the sum of the sizes

  -- no vertices
  pub Vertices-none : vertices_inside d n stride 0 ≡ true
  unfolding vertices_inside
  Vertices-none = refl

  -- nothing to read
  pub Vertices-sizeless : (count : ℕ) → total_size d ≡ 0 → vertices_inside d n stride count ≡ true
  Vertices-sizeless count z = true_vertices count (λ k h i l p. absurd (omega (arith, component-within d i l)))

  -- the last vertex inside: all are
  pub Vertices-last : (count : ℕ) → 0 < count → (count - 1) * stride + total_size d ≤ n → vertices_inside d n stride count ≡ true
  Vertices-last count h l =
      true_vertices count (λ k b i f p. let m : k * stride ≤ (count - 1) * stride = mul-le-mul_right stride (omega arith) in
      omega (arith, component-within d i f))

  -- all inside: the last vertex is
  pub last-vertex : (count : ℕ) → 0 < count → 0 < total_size d → vertices_inside d n stride count ≡ true → (count - 1) * stride + total_size d ≤ n
  last-vertex count h p e =
      let w : Within (components_of d) ((count - 1) * stride) n = Vertices-true count e (count - 1) (omega arith) in
      let t : total_size d ≤ n - (count - 1) * stride = inside-total d (n - (count - 1) * stride) (λ i l q. omega (arith, w i l q)) in
      omega arith

  -- so one comparison is check 9
  pub vertices_inside-is : (count : ℕ) → 0 < count → 0 < total_size d → vertices_inside d n stride count ≡ leb ((count - 1) * stride + total_size d) n
  vertices_inside-is count h p =
      by (vertices_inside d n stride count) refl (leb ((count - 1) * stride + total_size d) n) refl
    where
      by : (b : Bool) → vertices_inside d n stride count ≡ b → (c : Bool) → leb ((count - 1) * stride + total_size d) n ≡ c → b ≡ c
      by true e c f = sym (le-leb _ _ (last-vertex count h p e)) ∙ f
      by false e true f = sym e ∙ Vertices-last count h (leb-true _ _ f)
      by false e false f = refl

  -- as the code does it, with the sum and the last vertex's place worked out
  pub last-compared : (count : ℕ) {total base : ℕ} → total ≡ total_size d → base ≡ (count - 1) * stride → 0 < count → 0 < total
      → leb (base + total) n ≡ vertices_inside d n stride count
  last-compared count e f h p = rw (e, f) (sym (vertices_inside-is count h (rw e at p)))

  -- where the sum is 0 every vertex is inside
  pub nothing_read : (count : ℕ) {total : ℕ} → total ≡ total_size d → total ≡ 0 → true ≡ vertices_inside d n stride count
  nothing_read count e z = sym (Vertices-sizeless count (sym e ∙ z))
