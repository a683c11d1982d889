-- Laws of attributes: types without bytes, and components that are inside.
use Rattle.std.proofs.Common.{◌≡◌, refl, sym, ap, true, List, [], ◌∷◌, ℕ, ◌+◌, ◌≤◌, length, arith}
use Rattle.std.proofs.lemmas.Bool.{and_parts}
use Rattle.std.specs.List.{list_all}
use borrow.Author.Tests.{leb-true, ne_eqb}
use Rattle.vertices.specs.Types.{size_of}
use Rattle.vertices.specs.Attribute.{value_at, component_inside, all_inside, attribute_at, as_vec2, as_vec3, as_vec4}
use Rattle.vertices.specs.declared.types.VertexComponent.{VertexComponent}
use Rattle.vertices.specs.declared.types.VertexComponentType.{VertexComponentType}
use Rattle.vertices.specs.declared.types.VertexComponentType.TheVariants.{Nothing, Half2, Float, Half4, FloatUnknown, Float2, Float3, Float4, UByte4, Colour, Rgba8Snorm, Unknown}
use Rattle.vertices.specs.declared.attribute.VertexAttribute.{VertexAttribute}
use Rattle.vertices.specs.declared.attribute.VertexAttributeValue.{VertexAttributeValue}
use Rattle.vertices.specs.declared.attribute.VertexAttributeValue.TheVariants.{One, Two, Three, Four, Bytes, Unsupported}

-- a type without bytes has no value
pub value_none : (t : VertexComponentType) (s : List ℕ) (at : ℕ) → size_of t ≡ 0 → value_at t s at ≡ Unsupported
value_none Nothing s at h = refl
value_none Half2 s at h = absurd (omega arith)
value_none Float s at h = absurd (omega arith)
value_none Half4 s at h = absurd (omega arith)
value_none FloatUnknown s at h = refl
value_none Float2 s at h = absurd (omega arith)
value_none Float3 s at h = absurd (omega arith)
value_none Float4 s at h = absurd (omega arith)
value_none UByte4 s at h = absurd (omega arith)
value_none Colour s at h = absurd (omega arith)
value_none Rgba8Snorm s at h = absurd (omega arith)
value_none (Unknown n) s at h = refl

-- a component that has bytes and is inside ends inside the data
pub inside-ends : (s : List ℕ) (base : ℕ) (c : VertexComponent) → component_inside (length s) base c ≡ true → (size_of c.component_type ≡ 0 → ⊥) → base + c.offset + size_of c.component_type ≤ length s
inside-ends s base c h n = leb-true (base + c.offset + size_of c.component_type) (length s) (rw (ne_eqb (size_of c.component_type) 0 n) at h)

-- the attribute of a component
module _ (s : List ℕ) (base : ℕ) (c : VertexComponent) where
  -- unsupported where its type has no bytes
  pub attribute-none : size_of c.component_type ≡ 0 → ◌≡◌ {A = VertexAttribute} (record { component = c; value = Unsupported }) (attribute_at s base c)
  attribute-none h = ap (λ (v : VertexAttributeValue). record { component = c; value = v }) (sym (value_none c.component_type s (base + c.offset) h))

  -- with the value of its type at its place
  pub attribute-some : {v : VertexAttributeValue} → v ≡ value_at c.component_type s (base + c.offset) → ◌≡◌ {A = VertexAttribute} (record { component = c; value = v }) (attribute_at s base c)
  attribute-some h = ap (λ (v : VertexAttributeValue). record { component = c; value = v }) h

-- where all components are inside: the first, and the others
pub inside_parts : (n base : ℕ) (c : VertexComponent) (cs : List VertexComponent) → all_inside n base (c ∷ cs) ≡ true
    → (component_inside n base c ≡ true) × (all_inside n base cs ≡ true)
unfolding all_inside
inside_parts n base c cs h = and_parts (component_inside n base c) (all_inside n base cs) h

-- all of them inside, as the library's test of a list
pub inside-all : (n base : ℕ) (cs : List VertexComponent) → all_inside n base cs ≡ list_all (component_inside n base) cs
unfolding all_inside
inside-all n base [] = refl
inside-all n base (c ∷ cs) = rw (inside-all n base cs)

-- a vector of two or three is the first places of the vector of four
pub two_of_four : (v : VertexAttributeValue) → as_vec2 v ≡ record { x = (as_vec4 v).x; y = (as_vec4 v).y }
two_of_four (One f) = refl
two_of_four (Two v) = refl
two_of_four (Three v) = refl
two_of_four (Four v) = refl
two_of_four (Bytes b) = refl
two_of_four Unsupported = refl

pub three_of_four : (v : VertexAttributeValue) → as_vec3 v ≡ record { x = (as_vec4 v).x; y = (as_vec4 v).y; z = (as_vec4 v).z }
three_of_four (One f) = refl
three_of_four (Two v) = refl
three_of_four (Three v) = refl
three_of_four (Four v) = refl
three_of_four (Bytes b) = refl
three_of_four Unsupported = refl
