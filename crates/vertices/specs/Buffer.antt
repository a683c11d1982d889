-- Where the vertices of a geometry are found (document 01, "Vertices": "Vertex buffer block, 0x80 bytes").
use Rattle.std.specs.Prelude.{Option, None, unwrap_or, option_map, cond, List, ℕ, ◌*◌, eqb}
use Rattle.std.specs.Option.{option_or, option_and_then}
use Rattle.sections.specs.Le.{field}
use Rattle.sections.specs.Address.{Sections, located, resolved}
use Rattle.sections.specs.declared.lookup.Located.{Located}
use Rattle.vertices.specs.Declaration.{declaration_at, position_only}
use Rattle.vertices.specs.declared.declaration.VertexDeclaration.{VertexDeclaration}
use Rattle.vertices.specs.declared.buffer.VertexBufferLayout.{VertexBufferLayout}
use Rattle.vertices.specs.declared.buffer.VertexBufferLayout.TheVariants.{Legacy, LegacyData2, Gen9, GeometryInline}
use Rattle.vertices.specs.declared.buffer.VertexBuffer.{VertexBuffer}

-- document 01's numbers of the layouts
abbrev pub layout_number : VertexBufferLayout → ℕ
layout_number Legacy = 0
layout_number LegacyData2 = 1
layout_number Gen9 = 2
layout_number GeometryInline = 3

-- where count vertices of stride bytes behind a pointer lie; nothing for a zero pointer, count or stride
unfoldable pub vertex_data : Sections → ℕ → ℕ → ℕ → Option Located
vertex_data s pointer count stride =
    cond (eqb pointer 0) None (cond (eqb count 0) None (cond (eqb stride 0) None (located s pointer (count * stride))))

-- the declaration in the 16 bytes behind the info pointer, if they resolve
unfoldable pub stored_declaration : Sections → ℕ → Option VertexDeclaration
stored_declaration s info = option_map (λ b. declaration_at b 0) (resolved s info 16)

-- the declaration that vertices are read by: `position_only` of the buffer's stride where none is stored
abbrev pub or_position_only : Option VertexDeclaration → ℕ → VertexDeclaration
or_position_only d stride = unwrap_or d (position_only stride)

-- an attempt: the buffer, if its data lies somewhere
abbrev pub found_at : VertexBufferLayout → ℕ → ℕ → ℕ → ℕ → Option VertexDeclaration → Option Located → Option VertexBuffer
found_at layout stride count pointer info declaration place =
    option_map (λ at. record { vertex_stride = stride; vertex_count = count; data_pointer = pointer; info_pointer = info; declaration = declaration; «data» = at; layout = layout }) place

-- layouts 0 and 1, which have an info pointer, and layouts 2 and 3, which have none
unfoldable pub legacy_at : Sections → VertexBufferLayout → ℕ → ℕ → ℕ → ℕ → Option VertexBuffer
legacy_at s layout pointer count stride info = found_at layout stride count pointer info (stored_declaration s info) (vertex_data s pointer count stride)

unfoldable pub plain_at : Sections → VertexBufferLayout → ℕ → ℕ → ℕ → Option VertexBuffer
plain_at s layout pointer count stride = found_at layout stride count pointer 0 None (vertex_data s pointer count stride)

-- the block's three layouts, in order
unfoldable pub block_buffer : Sections → List ℕ → Option VertexBuffer
block_buffer s b =
    option_or (legacy_at s Legacy (field 8 b 0x10) (field 4 b 0x18) (field 2 b 0x08) (field 8 b 0x30))
    (option_or (legacy_at s LegacyData2 (field 8 b 0x20) (field 4 b 0x18) (field 2 b 0x08) (field 8 b 0x30))
    (plain_at s Gen9 (field 8 b 0x18) (field 4 b 0x08) (field 2 b 0x0C)))

abbrev pub in_block : Sections → Option (List ℕ) → Option VertexBuffer
in_block s b = option_and_then (block_buffer s) b

-- the block behind va, if it resolves and one of its layouts is found, else the geometry's own pointer, count and stride
unfoldable pub vertex_buffer_at : Sections → ℕ → ℕ → ℕ → ℕ → Option VertexBuffer
vertex_buffer_at s va pointer count stride = option_or (in_block s (resolved s va 0x80)) (plain_at s GeometryInline pointer count stride)
