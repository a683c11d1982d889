-- Component types and semantics (document 01, "Vertices": "The nibble decides type, size and count").
use Rattle.std.specs.Prelude.{ℕ, List, [], ◌∷◌, get_or}
use Rattle.vertices.specs.declared.types.VertexComponentType.{VertexComponentType}
use Rattle.vertices.specs.declared.types.VertexComponentType.TheVariants.{Nothing, Half2, Float, Half4, FloatUnknown, Float2, Float3, Float4, UByte4, Colour, Rgba8Snorm, Unknown}
use Rattle.vertices.specs.declared.types.VertexSemantic.{VertexSemantic}
use Rattle.vertices.specs.declared.types.VertexSemantic.TheVariants.{Position, BlendWeights, BlendIndices, Normal, Colour0, Colour1, TexCoord0, TexCoord1, TexCoord2, TexCoord3, TexCoord4, TexCoord5, TexCoord6, TexCoord7, Tangent, Binormal}
use Rattle.vertices.specs.declared.types.VertexSemantic.TheVariants.{Unknown as UnknownSemantic}

-- the types of the numbers 0 to 10
abbrev pub named_types : List VertexComponentType
named_types = Nothing ∷ Half2 ∷ Float ∷ Half4 ∷ FloatUnknown ∷ Float2 ∷ Float3 ∷ Float4 ∷ UByte4 ∷ Colour ∷ Rgba8Snorm ∷ []

-- the type of a nibble, Unknown from 11 on
unfoldable pub component_type_of : ℕ → VertexComponentType
component_type_of n = get_or named_types n (Unknown n)

-- the nibble of a type
abbrev pub nibble_of : VertexComponentType → ℕ
nibble_of Nothing = 0
nibble_of Half2 = 1
nibble_of Float = 2
nibble_of Half4 = 3
nibble_of FloatUnknown = 4
nibble_of Float2 = 5
nibble_of Float3 = 6
nibble_of Float4 = 7
nibble_of UByte4 = 8
nibble_of Colour = 9
nibble_of Rgba8Snorm = 10
nibble_of (Unknown n) = n

-- the bytes of a type
abbrev pub size_of : VertexComponentType → ℕ
size_of Nothing = 0
size_of Half2 = 4
size_of Float = 4
size_of Half4 = 8
size_of FloatUnknown = 0
size_of Float2 = 8
size_of Float3 = 12
size_of Float4 = 16
size_of UByte4 = 4
size_of Colour = 4
size_of Rgba8Snorm = 4
size_of (Unknown n) = 0

-- the values of a type
abbrev pub count_of : VertexComponentType → ℕ
count_of Nothing = 0
count_of Half2 = 2
count_of Float = 1
count_of Half4 = 4
count_of FloatUnknown = 0
count_of Float2 = 2
count_of Float3 = 3
count_of Float4 = 4
count_of UByte4 = 4
count_of Colour = 4
count_of Rgba8Snorm = 4
count_of (Unknown n) = 0

-- the semantics of the flags 0 to 15
abbrev pub named_semantics : List VertexSemantic
named_semantics = Position ∷ BlendWeights ∷ BlendIndices ∷ Normal ∷ Colour0 ∷ Colour1 ∷ TexCoord0 ∷ TexCoord1 ∷ TexCoord2 ∷ TexCoord3 ∷ TexCoord4 ∷ TexCoord5 ∷ TexCoord6 ∷ TexCoord7 ∷ Tangent ∷ Binormal ∷ []

-- the semantic of a number, Unknown from 16 on
unfoldable pub semantic_of : ℕ → VertexSemantic
semantic_of n = get_or named_semantics n (UnknownSemantic n)

-- the number of a semantic
abbrev pub index_of : VertexSemantic → ℕ
index_of Position = 0
index_of BlendWeights = 1
index_of BlendIndices = 2
index_of Normal = 3
index_of Colour0 = 4
index_of Colour1 = 5
index_of TexCoord0 = 6
index_of TexCoord1 = 7
index_of TexCoord2 = 8
index_of TexCoord3 = 9
index_of TexCoord4 = 10
index_of TexCoord5 = 11
index_of TexCoord6 = 12
index_of TexCoord7 = 13
index_of Tangent = 14
index_of Binormal = 15
index_of (UnknownSemantic n) = n
