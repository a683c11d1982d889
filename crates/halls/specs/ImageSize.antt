-- How long the image of a hall is (document 01, "Images"): each part starts at a multiple of 16, and the tail is filled up to one.
use Rattle.std.specs.Prelude.{ℕ, ◌+◌, ◌*◌, ◌/◌, length}
use Rattle.halls.specs.Every.{sum_of}
use Rattle.halls.specs.Hall.{FullGeometry, FullModel, Hall}

abbrev pub padded : ℕ → ℕ
padded n = (n + 15) / 16 * 16

-- a geometry's block, vertex block, declaration, vertex bytes, index block and two-byte indices
unfoldable pub geometry_size : FullGeometry → ℕ
geometry_size g = padded 0x98 + padded 0x80 + padded 16 + padded (length g.vertices.content) + padded 0x60 + padded (2 * length g.indices.items)

-- a model's block, geometry pointers and mapping, and its geometries
unfoldable pub model_size : FullModel → ℕ
model_size m = padded 0x30 + padded (8 * length m.geometries) + padded (2 * length m.mapping) + sum_of geometry_size m.geometries

-- header, model pointers and models
unfoldable pub image_size : Hall → ℕ
image_size h = padded 16 + padded (8 * length h) + sum_of model_size h
