-- Vertex declarations and their components (document 01, "Vertices": "Declaration, 16 bytes").
use Rattle.std.specs.Prelude.{Option, None, Some}
use Rattle.std.specs.Prelude.{Bool, cond, List, [], ◌∷◌, ◌++◌, ℕ, zero, suc, ◌+◌, ◌*◌, ◌/◌, ◌%◌, ◌^◌, ◌<◌, eqb}
use Rattle.sections.specs.Le.{field, bytes}
use Rattle.vertices.specs.Types.{component_type_of, size_of, count_of, semantic_of}
use Rattle.vertices.specs.declared.types.VertexComponent.{VertexComponent}
use Rattle.vertices.specs.declared.declaration.VertexDeclaration.{VertexDeclaration}

-- ---- 16 bytes

-- the declaration at a place: flags u32, stride u16, unknown u8, count u8, types u64
unfoldable pub declaration_at : List ℕ → ℕ → VertexDeclaration
declaration_at s at = record { flags = field 4 s at; stride = field 2 s (at + 4); unknown_6h = field 1 s (at + 6); count = field 1 s (at + 7); types = field 8 s (at + 8) }

-- its 16 bytes
unfoldable pub declaration_bytes : VertexDeclaration → List ℕ
declaration_bytes d = bytes 4 d.flags ++ bytes 2 d.stride ++ bytes 1 d.unknown_6h ++ bytes 1 d.count ++ bytes 8 d.types

-- each number fits its width
pub record InWidth (d : VertexDeclaration) : Type 0 where
  pub flags : d.flags < 256 ^ 4
  pub stride : d.stride < 256 ^ 2
  pub unknown : d.unknown_6h < 256
  pub count : d.count < 256
  pub types : d.types < 256 ^ 8

-- where a resource stores none: one Float3, the position
abbrev pub position_only : ℕ → VertexDeclaration
position_only stride = record { flags = 1; stride = stride; unknown_6h = 0; count = 1; types = 6 }

-- ---- components

-- the lowest flag is set
abbrev pub odd : ℕ → Bool
odd flags = eqb (flags % 2) 1

-- the component of the flag `index`, whose type has this nibble
abbrev pub component_at : ℕ → ℕ → ℕ → VertexComponent
component_at index nibble offset = record { semantic = semantic_of index; semantic_index = index; component_type = component_type_of nibble; offset = offset; size = size_of (component_type_of nibble); component_count = count_of (component_type_of nibble) }

-- of the k flags from `index` on, which are the lowest of `flags`: a component for each that is set, the first at `offset`
unfoldable pub components_from : ℕ → ℕ → ℕ → ℕ → ℕ → List VertexComponent
components_from zero index flags types offset = []
components_from (suc k) index flags types offset =
    cond (odd flags)
    (component_at index (types % 16) offset ∷ components_from k (index + 1) (flags / 2) (types / 16) (offset + size_of (component_type_of (types % 16))))
    (components_from k (index + 1) (flags / 2) (types / 16) offset)

-- the components of the set flags 0 to 15, in rising order
unfoldable pub components_of : VertexDeclaration → List VertexComponent
components_of d = components_from 16 0 d.flags d.types 0

-- the bytes of components
unfoldable pub sizes : List VertexComponent → ℕ
sizes [] = 0
sizes (c ∷ cs) = c.size + sizes cs

-- the bytes of all components together
unfoldable pub total_size : VertexDeclaration → ℕ
total_size d = sizes (components_of d)

-- the first component with this semantic number
unfoldable pub with_index : ℕ → List VertexComponent → Option VertexComponent
with_index index [] = None
with_index index (c ∷ cs) = cond (eqb c.semantic_index index) (Some c) (with_index index cs)

-- the component of a semantic's number, where its flag is one of the 16 and set
unfoldable pub component_of : VertexDeclaration → ℕ → Option VertexComponent
component_of d index = with_index index (components_of d)

-- ---- id

-- the type nibbles of those of the k lowest flags that are set, each at its own place
unfoldable pub id_from : ℕ → ℕ → ℕ → ℕ
id_from zero flags types = 0
id_from (suc k) flags types = cond (odd flags) (types % 16) 0 + 16 * id_from k (flags / 2) (types / 16)

-- the id of a declaration: the nibbles of the flags 0 to 15
abbrev pub declaration_id : VertexDeclaration → ℕ
declaration_id d = id_from 16 d.flags d.types
