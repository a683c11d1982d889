-- The attributes of a vertex as bytes: for each component a record of 20 bytes.
use Rattle.std.specs.Prelude.{List, [], ◌∷◌, ◌++◌, ℕ, ◌-◌, length, replicate, Result, Ok, Err}
use Rattle.sections.specs.Le.{bytes}
use Rattle.vertices.specs.Attribute.{attribute_check, attributes_of}
use Rattle.vertices.specs.Runs.{run}
use Rattle.vertices.specs.Types.{nibble_of}
use Rattle.vertices.specs.Unified.{vec2_bytes, vec3_bytes, vec4_bytes, bytes4_bytes}
use Rattle.vertices.specs.declared.attribute.VertexAttribute.{VertexAttribute}
use Rattle.vertices.specs.declared.attribute.VertexAttributeValue.{VertexAttributeValue}
use Rattle.vertices.specs.declared.attribute.VertexAttributeValue.TheVariants.{One, Two, Three, Four, Bytes, Unsupported}
use Rattle.vertices.specs.declared.attributes.AttributeError.{AttributeError}
use Rattle.vertices.specs.declared.declaration.VertexDeclaration.{VertexDeclaration}
use Rattle.vertices.specs.declared.vertices.Vertices.{Vertices}
use Rattle.halls.specs.List.{each}
use Rattle.halls.specs.Outcome.{Outcome, refusal}
use Rattle.halls.specs.declared.answer.Refusal.{Refusal}
use Rattle.exports.specs.Told.{fitting}

-- the value's floats, 4 bytes each, or its four bytes
abbrev pub value_bytes : VertexAttributeValue → List ℕ
value_bytes (One f) = run 4 (f.bits ∷ [])
value_bytes (Two v) = vec2_bytes v
value_bytes (Three v) = vec3_bytes v
value_bytes (Four v) = vec4_bytes v
value_bytes (Bytes b) = bytes4_bytes b
value_bytes Unsupported = []

-- with zeros up to 16 bytes
unfoldable pub padded_bytes : VertexAttributeValue → List ℕ
padded_bytes v = value_bytes v ++ replicate (16 - length (value_bytes v)) 0

-- semantic u8, type nibble u8, offset u16, the value
unfoldable pub attribute_bytes : VertexAttribute → List ℕ
attribute_bytes a =
    bytes 1 a.component.semantic_index ++ bytes 1 (nibble_of a.component.component_type) ++ bytes 2 a.component.offset
    ++ padded_bytes a.value

-- attributes into `room` bytes, or the check that failed
abbrev pub recorded : ℕ → Result (List VertexAttribute) AttributeError → Outcome
recorded room (Ok attributes) = fitting room (each attribute_bytes attributes)
recorded room (Err e) = refusal (attribute_check e) 0

-- the attributes of the vertex `index` of `count` into `room` bytes: checks 8, 9 and 10
abbrev pub attributes_outcome : List ℕ → ℕ → ℕ → VertexDeclaration → ℕ → ℕ → Outcome
attributes_outcome s stride count d index room = recorded room (attributes_of s stride count d index)

abbrev pub vertex_outcome : Vertices → ℕ → ℕ → Outcome
vertex_outcome v index room = attributes_outcome v.«data».now v.stride v.count v.declaration index room

-- an error as a refusal of its check
abbrev pub attribute_refusal : AttributeError → Refusal
attribute_refusal e = record { check = attribute_check e; needed = 0 }
