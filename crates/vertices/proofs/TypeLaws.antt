-- Laws of component types and semantics.
use mathlib.Core.Path.{◌≡◌, refl, sym, ◌∙◌}
use mathlib.Core.List.{List, [], ◌∷◌}
use Prim.Native.Nat.{ℕ, zero, suc, ◌+◌, ◌≤◌}
use native.Mathlib.Nat.{zero-add}
use native.Mathlib.Omega.{arith}
use lib.ListN.{get_or, get_or-eq_default, get_or-map}
use Rattle.vertices.specs.Types.{named_types, component_type_of, nibble_of, size_of, named_semantics, semantic_of}
use Rattle.vertices.specs.declared.types.VertexComponentType.{VertexComponentType}
use Rattle.vertices.specs.declared.types.VertexComponentType.TheVariants.{Nothing, Half2, Float, Half4, FloatUnknown, Float2, Float3, Float4, UByte4, Colour, Rgba8Snorm, Unknown}
use Rattle.vertices.specs.declared.types.VertexSemantic.TheVariants.{Unknown as UnknownSemantic}

-- a type is its nibble's entry of the table
pub named_type : (n : ℕ) → component_type_of n ≡ get_or named_types n (Unknown n)
unfolding component_type_of
named_type n = refl

-- from 11 on a type is unknown
pub unknown_type : (n : ℕ) → 11 ≤ n → component_type_of n ≡ Unknown n
unfolding component_type_of
unknown_type n h = get_or-eq_default named_types (Unknown n) h

-- the k numbers from m on
numbers : ℕ → ℕ → List ℕ
numbers zero m = []
numbers (suc k) m = m ∷ numbers k (suc m)

numbers-at : (k m n : ℕ) → get_or (numbers k m) n (m + n) ≡ m + n
unfolding numbers
numbers-at zero m n = refl
numbers-at (suc k) m zero = omega arith
numbers-at (suc k) m (suc n) =
    let e : m + suc n ≡ suc m + n = omega arith in
    rw e (numbers-at k (suc m) n)

-- a type keeps the nibble that it was made of
pub type_nibble : (n : ℕ) → nibble_of (component_type_of n) ≡ n
unfolding component_type_of numbers
type_nibble n = sym (get_or-map nibble_of named_types n (Unknown n)) ∙ (rw zero-add at (numbers-at 11 0 n))

-- a type has at most 16 bytes
pub size-bound : (t : VertexComponentType) → size_of t ≤ 16
size-bound Nothing = omega arith
size-bound Half2 = omega arith
size-bound Float = omega arith
size-bound Half4 = omega arith
size-bound FloatUnknown = omega arith
size-bound Float2 = omega arith
size-bound Float3 = omega arith
size-bound Float4 = omega arith
size-bound UByte4 = omega arith
size-bound Colour = omega arith
size-bound Rgba8Snorm = omega arith
size-bound (Unknown n) = omega arith

-- n is none of the k lowest numbers, as a `match` on numbers leaves it
abbrev pub NoneOf : ℕ → ℕ → Type 0
NoneOf zero n = Unit
NoneOf (suc k) n = NoneOf k n × (n ≡ k → ⊥)

-- so it is k or more
pub beyond : (k n : ℕ) → NoneOf k n → k ≤ n
beyond zero n h = omega arith
beyond (suc k) n h =
    let l : k ≤ n = beyond k n h.0 in
    let e : n ≡ k → ⊥ = h.1 in
    omega arith

-- a semantic is its number's entry of the table
pub named_semantic : (n : ℕ) → semantic_of n ≡ get_or named_semantics n (UnknownSemantic n)
unfolding semantic_of
named_semantic n = refl

-- from 16 on a semantic is unknown
pub unknown_semantic : (n : ℕ) → 16 ≤ n → semantic_of n ≡ UnknownSemantic n
unfolding semantic_of
unknown_semantic n h = get_or-eq_default named_semantics (UnknownSemantic n) h
