-- The blocks of a drawable, as the numbers in them (document 01, "Halls").
use Rattle.std.specs.Prelude.{List, ℕ}
use Rattle.sections.specs.Le.{field}

-- 0x30 bytes
pub record ModelBlock : Type 0 where
  pub geometries : ℕ
  pub count : ℕ
  pub mapping : ℕ
  pub binding : ℕ
  pub mask : ℕ

unfoldable pub model_block : List ℕ → ModelBlock
model_block b = record { geometries = field 8 b 0x08; count = field 2 b 0x10; mapping = field 8 b 0x20; binding = field 4 b 0x28; mask = field 2 b 0x2C }

-- 0x98 bytes
pub record GeometryBlock : Type 0 where
  pub vertex_block : ℕ
  pub index_block : ℕ
  pub indices : ℕ
  pub triangles : ℕ
  pub vertices : ℕ
  pub stride : ℕ
  pub inline : ℕ

unfoldable pub geometry_block : List ℕ → GeometryBlock
geometry_block b = record {
  vertex_block = field 8 b 0x18;
  index_block = field 8 b 0x38;
  indices = field 4 b 0x58;
  triangles = field 4 b 0x5C;
  vertices = field 2 b 0x60;
  stride = field 2 b 0x70;
  inline = field 8 b 0x78;
}

-- 0x60 bytes
pub record IndexBlock : Type 0 where
  pub count : ℕ
  pub size : ℕ
  pub legacy : ℕ
  pub sized : ℕ

unfoldable pub index_block : List ℕ → IndexBlock
index_block b = record { count = field 4 b 0x08; size = field 2 b 0x0C; legacy = field 8 b 0x10; sized = field 8 b 0x18 }
