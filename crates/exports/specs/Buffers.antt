-- A located vertex buffer as bytes: layout u8, stride u16, count u32, data pointer u64, info pointer u64, section u8, offset u64, and the declaration's 16
-- bytes where one is stored.
use Rattle.std.specs.Prelude.{List, [], ◌++◌, ℕ, Option, None, Some}
use Rattle.sections.specs.Address.{Sections}
use Rattle.sections.specs.Le.{bytes}
use Rattle.sections.specs.declared.lookup.Located.{Located}
use Rattle.sections.specs.declared.lookup.Located.TheVariants.{System, Graphics}
use Rattle.vertices.specs.Buffer.{layout_number, vertex_buffer_at}
use Rattle.vertices.specs.Declaration.{declaration_bytes}
use Rattle.vertices.specs.declared.buffer.VertexBuffer.{VertexBuffer}
use Rattle.vertices.specs.declared.declaration.VertexDeclaration.{VertexDeclaration}
use Rattle.halls.specs.Outcome.{Outcome}
use Rattle.exports.specs.Told.{fitting}

-- 0 for system and 1 for graphics; the data of a buffer that was found lies in one of them
abbrev pub section_number : Located → ℕ
section_number (System at) = 0
section_number (Graphics at) = 1

abbrev pub offset_of : Located → ℕ
offset_of (System at) = at
offset_of (Graphics at) = at

abbrev pub stored_bytes : Option VertexDeclaration → List ℕ
stored_bytes (Some d) = declaration_bytes d
stored_bytes None = []

-- layout, stride, count and the two pointers: 23 bytes
abbrev pub head_bytes : VertexBuffer → List ℕ
head_bytes b =
    bytes 1 (layout_number b.layout) ++ bytes 2 b.vertex_stride ++ bytes 4 b.vertex_count ++ bytes 8 b.data_pointer
    ++ bytes 8 b.info_pointer

-- where the data lies: 9 bytes
abbrev pub place_bytes : Located → List ℕ
place_bytes p = bytes 1 (section_number p) ++ bytes 8 (offset_of p)

unfoldable pub buffer_bytes : VertexBuffer → List ℕ
buffer_bytes b = head_bytes b ++ place_bytes b.«data» ++ stored_bytes b.declaration

-- none where no buffer was found
abbrev pub found_bytes : Option VertexBuffer → List ℕ
found_bytes (Some b) = buffer_bytes b
found_bytes None = []

-- of the buffer behind an address into `room` bytes; pointer, count and stride are those of the geometry's block
abbrev pub buffer_outcome : Sections → (va pointer count stride room : ℕ) → Outcome
buffer_outcome s va pointer count stride room = fitting room (found_bytes (vertex_buffer_at s va pointer count stride))
