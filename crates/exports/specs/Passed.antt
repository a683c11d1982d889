-- Declarations and values as C passes them, by plain numbers.
use Rattle.std.specs.Prelude.{cond, ◌&&◌, List, [], ◌∷◌, ℕ, leb, get_or}
use Rattle.vertices.specs.declared.attribute.VertexAttributeValue.{VertexAttributeValue}
use Rattle.vertices.specs.declared.attribute.VertexAttributeValue.TheVariants.{One, Two, Three, Four, Bytes, Unsupported}
use Rattle.vertices.specs.declared.declaration.VertexDeclaration.{VertexDeclaration}
use Rattle.vertices.specs.declared.values.F32.{F32}
use Rattle.halls.specs.Calls.{Call, add_geometry}

-- reading, unifying and the id look at flags and types only
abbrev pub declared : ℕ → ℕ → VertexDeclaration
declared flags types = record { flags = flags; stride = 0; unknown_6h = 0; count = 0; types = types }

-- the call add geometry: the declaration's numbers stand between the shader and the stride
abbrev pub passed_addition : (shader flags declared_stride unknown_6h declared_count types stride count : ℕ) → (content indices : List ℕ) → Call
passed_addition shader flags declared_stride unknown_6h declared_count types stride count content indices = add_geometry (record {
  shader = shader;
  declaration = record { flags = flags; stride = declared_stride; unknown_6h = unknown_6h; count = declared_count; types = types };
  stride = stride;
  count = count;
  content = content;
  indices = indices;
})

-- a float by its bits
abbrev pub float : ℕ → F32
float bits = record { bits = bits }

-- four bytes; a number above 255 is none
unfoldable pub passed_bytes : (a b c d : ℕ) → VertexAttributeValue
passed_bytes a b c d = cond (leb a 255 && leb b 255 && leb c 255 && leb d 255) (Bytes (record { a = a; b = b; c = c; d = d })) Unsupported

-- the values of the shapes 0 to 5
abbrev pub shapes : (x y z w : ℕ) → List VertexAttributeValue
shapes x y z w =
    Unsupported
    ∷ One (float x)
    ∷ Two (record { x = float x; y = float y })
    ∷ Three (record { x = float x; y = float y; z = float z })
    ∷ Four (record { x = float x; y = float y; z = float z; w = float w })
    ∷ passed_bytes x y z w
    ∷ []

unfoldable pub passed_value : (shape x y z w : ℕ) → VertexAttributeValue
passed_value shape x y z w = get_or (shapes x y z w) shape Unsupported
