-- Attribute values: how a component is read, and how its value is seen as a vector or a colour (document 01, "A value is one float, ..").
use Rattle.std.specs.Prelude.{Bool, true, cond, ◌&&◌, ◌||◌, List, [], ◌∷◌, map, ℕ, ◌+◌, ◌*◌, eqb, leb, ltb, length, Result, Ok, Err}
use Rattle.sections.specs.Le.{field}
use Rattle.vertices.specs.Half.{f16_to_f32}
use Rattle.vertices.specs.Normalised.{snorm8_to_f32, unorm8_to_f32, f32_to_unorm8, snorm_colour8}
use Rattle.vertices.specs.Types.{size_of}
use Rattle.vertices.specs.Declaration.{components_of}
use Rattle.vertices.specs.declared.values.F32.{F32}
use Rattle.vertices.specs.declared.values.Vec2.{Vec2}
use Rattle.vertices.specs.declared.values.Vec3.{Vec3}
use Rattle.vertices.specs.declared.values.Vec4.{Vec4}
use Rattle.vertices.specs.declared.values.Bytes4.{Bytes4}
use Rattle.vertices.specs.declared.types.VertexComponentType.{VertexComponentType}
use Rattle.vertices.specs.declared.types.VertexComponentType.TheVariants.{Nothing, Half2, Float, Half4, FloatUnknown, Float2, Float3, Float4, UByte4, Colour, Rgba8Snorm, Unknown}
use Rattle.vertices.specs.declared.types.VertexComponent.{VertexComponent}
use Rattle.vertices.specs.declared.declaration.VertexDeclaration.{VertexDeclaration}
use Rattle.vertices.specs.declared.attribute.VertexAttribute.{VertexAttribute}
use Rattle.vertices.specs.declared.attribute.VertexAttributeValue.{VertexAttributeValue}
use Rattle.vertices.specs.declared.attribute.VertexAttributeValue.TheVariants.{One, Two, Three, Four, Bytes, Unsupported}
use Rattle.vertices.specs.declared.attributes.AttributeError.{AttributeError}
use Rattle.vertices.specs.declared.attributes.AttributeError.TheVariants.{NoSuchVertex, ComponentOutside}

-- a float of these bits
abbrev pub bits : ℕ → F32
bits n = record { bits = n }

-- ---- reading

-- one element at a place: a float, a half, a signed normalised byte
abbrev pub float_at : List ℕ → ℕ → F32
float_at s at = bits (field 4 s at)

abbrev pub half_at : List ℕ → ℕ → F32
half_at s at = bits (f16_to_f32 (field 2 s at))

abbrev pub snorm_at : List ℕ → ℕ → F32
snorm_at s at = bits (snorm8_to_f32 (field 1 s at))

-- two, three or four elements of a width, one after another
abbrev pub two_at : (List ℕ → ℕ → F32) → ℕ → List ℕ → ℕ → Vec2
two_at element width s at = record { x = element s at; y = element s (at + width) }

abbrev pub three_at : (List ℕ → ℕ → F32) → ℕ → List ℕ → ℕ → Vec3
three_at element width s at = record { x = element s at; y = element s (at + width); z = element s (at + (width + width)) }

abbrev pub four_at : (List ℕ → ℕ → F32) → ℕ → List ℕ → ℕ → Vec4
four_at element width s at = record { x = element s at; y = element s (at + width); z = element s (at + (width + width)); w = element s (at + (width + width + width)) }

abbrev pub bytes_at : List ℕ → ℕ → Bytes4
bytes_at s at = record { a = field 1 s at; b = field 1 s (at + 1); c = field 1 s (at + 2); d = field 1 s (at + 3) }

-- the value of a type at a place
abbrev pub value_at : VertexComponentType → List ℕ → ℕ → VertexAttributeValue
value_at Nothing s at = Unsupported
value_at Half2 s at = Two (two_at half_at 2 s at)
value_at Float s at = One (float_at s at)
value_at Half4 s at = Four (four_at half_at 2 s at)
value_at FloatUnknown s at = Unsupported
value_at Float2 s at = Two (two_at float_at 4 s at)
value_at Float3 s at = Three (three_at float_at 4 s at)
value_at Float4 s at = Four (four_at float_at 4 s at)
value_at UByte4 s at = Bytes (bytes_at s at)
value_at Colour s at = Bytes (bytes_at s at)
value_at Rgba8Snorm s at = Four (four_at snorm_at 1 s at)
value_at (Unknown n) s at = Unsupported

-- ---- as vectors: what is missing is 0, a missing w is 1.0, and a byte is divided by 255

abbrev pub zero32 : F32
zero32 = bits 0

abbrev pub one32 : F32
one32 = bits 0x3F800000

abbrev pub unorm : ℕ → F32
unorm b = bits (unorm8_to_f32 b)

abbrev pub as_vec2 : VertexAttributeValue → Vec2
as_vec2 (One f) = record { x = f; y = zero32 }
as_vec2 (Two v) = v
as_vec2 (Three v) = record { x = v.x; y = v.y }
as_vec2 (Four v) = record { x = v.x; y = v.y }
as_vec2 (Bytes b) = record { x = unorm b.a; y = unorm b.b }
as_vec2 Unsupported = record { x = zero32; y = zero32 }

abbrev pub as_vec3 : VertexAttributeValue → Vec3
as_vec3 (One f) = record { x = f; y = zero32; z = zero32 }
as_vec3 (Two v) = record { x = v.x; y = v.y; z = zero32 }
as_vec3 (Three v) = v
as_vec3 (Four v) = record { x = v.x; y = v.y; z = v.z }
as_vec3 (Bytes b) = record { x = unorm b.a; y = unorm b.b; z = unorm b.c }
as_vec3 Unsupported = record { x = zero32; y = zero32; z = zero32 }

-- an unsupported one is zero four times
abbrev pub as_vec4 : VertexAttributeValue → Vec4
as_vec4 (One f) = record { x = f; y = zero32; z = zero32; w = one32 }
as_vec4 (Two v) = record { x = v.x; y = v.y; z = zero32; w = one32 }
as_vec4 (Three v) = record { x = v.x; y = v.y; z = v.z; w = one32 }
as_vec4 (Four v) = v
as_vec4 (Bytes b) = record { x = unorm b.a; y = unorm b.b; z = unorm b.c; w = unorm b.d }
as_vec4 Unsupported = record { x = zero32; y = zero32; z = zero32; w = zero32 }

-- ---- as colour

-- one of four floats as a byte of a colour: of a snorm first a × 0.5 + 0.5
abbrev pub colour_of : VertexComponentType → F32 → ℕ
colour_of Nothing f = f32_to_unorm8 f.bits
colour_of Half2 f = f32_to_unorm8 f.bits
colour_of Float f = f32_to_unorm8 f.bits
colour_of Half4 f = f32_to_unorm8 f.bits
colour_of FloatUnknown f = f32_to_unorm8 f.bits
colour_of Float2 f = f32_to_unorm8 f.bits
colour_of Float3 f = f32_to_unorm8 f.bits
colour_of Float4 f = f32_to_unorm8 f.bits
colour_of UByte4 f = f32_to_unorm8 f.bits
colour_of Colour f = f32_to_unorm8 f.bits
colour_of Rgba8Snorm f = snorm_colour8 f.bits
colour_of (Unknown n) f = f32_to_unorm8 f.bits

abbrev pub white : Bytes4
white = record { a = 255; b = 255; c = 255; d = 255 }

-- bytes are the colour; fewer than four floats give white
abbrev pub as_rgba8 : VertexComponentType → VertexAttributeValue → Bytes4
as_rgba8 t (One f) = white
as_rgba8 t (Two v) = white
as_rgba8 t (Three v) = white
as_rgba8 t (Four v) = record { a = colour_of t v.x; b = colour_of t v.y; c = colour_of t v.z; d = colour_of t v.w }
as_rgba8 t (Bytes b) = b
as_rgba8 t Unsupported = white

-- ---- the attributes of one vertex, which begins at `base`

-- a component has no bytes, or they end inside n bytes of data
abbrev pub component_inside : ℕ → ℕ → VertexComponent → Bool
component_inside n base c = eqb (size_of c.component_type) 0 || leb (base + c.offset + size_of c.component_type) n

-- check 9: every component does
unfoldable pub all_inside : ℕ → ℕ → List VertexComponent → Bool
all_inside n base [] = true
all_inside n base (c ∷ cs) = component_inside n base c && all_inside n base cs

-- a component beside its value
abbrev pub attribute_at : List ℕ → ℕ → VertexComponent → VertexAttribute
attribute_at s base c = record { component = c; value = value_at c.component_type s (base + c.offset) }

-- the check that an error is about
abbrev pub attribute_check : AttributeError → ℕ
attribute_check NoSuchVertex = 8
attribute_check ComponentOutside = 9

-- the attributes of the vertex that begins at `base`: refused by check 9, or each component in order
unfoldable pub attributes_at : List ℕ → ℕ → List VertexComponent → Result (List VertexAttribute) AttributeError
unfolding all_inside
attributes_at s base cs = cond (all_inside (length s) base cs) (Ok (map (attribute_at s base) cs)) (Err ComponentOutside)

-- the attributes of the vertex `index` of `count`: refused by check 8 where there is none
unfoldable pub attributes_of : List ℕ → ℕ → ℕ → VertexDeclaration → ℕ → Result (List VertexAttribute) AttributeError
unfolding attributes_at
attributes_of s stride count d index = cond (ltb index count) (attributes_at s (index * stride) (components_of d)) (Err NoSuchVertex)
