-- Encoding a value as the bytes of a type (document 01, "Encoding is the value-to-bytes part of `VertexData::read_xml_rows`"; check 23).
use Rattle.std.specs.Prelude.{Bool, List, [], ◌∷◌, map, ℕ, ◌<◌, ◌^◌, eqb, get_or}
use Rattle.vertices.specs.Half.{f16_to_f32, f32_to_f16}
use Rattle.vertices.specs.Normalised.{snorm8_to_f32, f32_to_snorm8}
use Rattle.vertices.specs.Runs.{run}
use Rattle.vertices.specs.Attribute.{bits}
use Rattle.vertices.specs.declared.types.VertexComponentType.{VertexComponentType}
use Rattle.vertices.specs.declared.types.VertexComponentType.TheVariants.{Nothing, Half2, Float, Half4, FloatUnknown, Float2, Float3, Float4, UByte4, Colour, Rgba8Snorm, Unknown}
use Rattle.vertices.specs.declared.attribute.VertexAttributeValue.{VertexAttributeValue}
use Rattle.vertices.specs.declared.attribute.VertexAttributeValue.TheVariants.{One, Two, Three, Four, Bytes, Unsupported}

-- ---- shapes

-- the shape of a value as a number: 1 to 4 floats, 5 for four bytes, 6 for an unsupported value
abbrev pub shape_of : VertexAttributeValue → ℕ
shape_of (One f) = 1
shape_of (Two v) = 2
shape_of (Three v) = 3
shape_of (Four v) = 4
shape_of (Bytes b) = 5
shape_of Unsupported = 6

-- the shape that a type's values have, 0 where its size is 0: no value has that
abbrev pub shape_for : VertexComponentType → ℕ
shape_for Nothing = 0
shape_for Half2 = 2
shape_for Float = 1
shape_for Half4 = 4
shape_for FloatUnknown = 0
shape_for Float2 = 2
shape_for Float3 = 3
shape_for Float4 = 4
shape_for UByte4 = 5
shape_for Colour = 5
shape_for Rgba8Snorm = 4
shape_for (Unknown n) = 0

-- the value has the type's shape
abbrev pub has_shape : VertexComponentType → VertexAttributeValue → Bool
has_shape t v = eqb (shape_for t) (shape_of v)

-- ---- numbers

-- the numbers of a value in order: the bits of its floats, or its bytes
abbrev pub numbers_of : VertexAttributeValue → List ℕ
numbers_of (One f) = f.bits ∷ []
numbers_of (Two v) = v.x.bits ∷ v.y.bits ∷ []
numbers_of (Three v) = v.x.bits ∷ v.y.bits ∷ v.z.bits ∷ []
numbers_of (Four v) = v.x.bits ∷ v.y.bits ∷ v.z.bits ∷ v.w.bits ∷ []
numbers_of (Bytes b) = b.a ∷ b.b ∷ b.c ∷ b.d ∷ []
numbers_of Unsupported = []

-- the bytes that a type has for each number
abbrev pub width_of : VertexComponentType → ℕ
width_of Nothing = 0
width_of Half2 = 2
width_of Float = 4
width_of Half4 = 2
width_of FloatUnknown = 0
width_of Float2 = 4
width_of Float3 = 4
width_of Float4 = 4
width_of UByte4 = 1
width_of Colour = 1
width_of Rgba8Snorm = 1
width_of (Unknown n) = 0

-- a number as a type stores it: a half, a signed normalised byte, or as it is
abbrev pub stored_as : VertexComponentType → ℕ → ℕ
stored_as Nothing n = n
stored_as Half2 n = f32_to_f16 n
stored_as Float n = n
stored_as Half4 n = f32_to_f16 n
stored_as FloatUnknown n = n
stored_as Float2 n = n
stored_as Float3 n = n
stored_as Float4 n = n
stored_as UByte4 n = n
stored_as Colour n = n
stored_as Rgba8Snorm n = f32_to_snorm8 n
stored_as (Unknown m) n = n

-- the bytes of a value: each number as the type stores it, one behind the other
unfoldable pub encoded_bytes : VertexComponentType → VertexAttributeValue → List ℕ
encoded_bytes t v = run (width_of t) (map (stored_as t) (numbers_of v))

-- ---- read again

-- a stored number read again
abbrev pub loaded_as : VertexComponentType → ℕ → ℕ
loaded_as Nothing n = n
loaded_as Half2 n = f16_to_f32 n
loaded_as Float n = n
loaded_as Half4 n = f16_to_f32 n
loaded_as FloatUnknown n = n
loaded_as Float2 n = n
loaded_as Float3 n = n
loaded_as Float4 n = n
loaded_as UByte4 n = n
loaded_as Colour n = n
loaded_as Rgba8Snorm n = snorm8_to_f32 n
loaded_as (Unknown m) n = n

-- a value with each of its numbers changed
abbrev pub each_number : (ℕ → ℕ) → VertexAttributeValue → VertexAttributeValue
each_number f (One a) = One (bits (f a.bits))
each_number f (Two v) = Two (record { x = bits (f v.x.bits); y = bits (f v.y.bits) })
each_number f (Three v) = Three (record { x = bits (f v.x.bits); y = bits (f v.y.bits); z = bits (f v.z.bits) })
each_number f (Four v) = Four (record { x = bits (f v.x.bits); y = bits (f v.y.bits); z = bits (f v.z.bits); w = bits (f v.w.bits) })
each_number f (Bytes b) = Bytes (record { a = f b.a; b = f b.b; c = f b.c; d = f b.d })
each_number f Unsupported = Unsupported

-- what becomes of a value that is stored as a type and read again
abbrev pub stored : VertexComponentType → VertexAttributeValue → VertexAttributeValue
stored t v = each_number (λ n. loaded_as t (stored_as t n)) v

-- the bytes of each number of a value
abbrev pub number_width : VertexAttributeValue → ℕ
number_width (One f) = 4
number_width (Two v) = 4
number_width (Three v) = 4
number_width (Four v) = 4
number_width (Bytes b) = 1
number_width Unsupported = 4

-- each number of a value fits its bytes
abbrev pub InWidth : VertexAttributeValue → Type 0
InWidth v = (i : ℕ) → get_or (numbers_of v) i 0 < 256 ^ number_width v
