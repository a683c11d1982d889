-- Lengths of parts that are written together.
use mathlib.Core.Path.{◌≡◌, ap, ◌∙◌}
use mathlib.Core.List.{List, ◌++◌}
use Prim.Native.Nat.{ℕ, ◌*◌}
use native.Mathlib.Omega.{arith}
use lib.ListN.{length, length-append}
use Rattle.vertices.specs.Runs.{run}
use Rattle.vertices.proofs.RunLaws.{length_run}
use Rattle.halls.specs.Blocks.{GeometryBlock}
use Rattle.halls.specs.ImageSize.{padded}
use Rattle.images.specs.Image.{VertexBlock, geometry_block_bytes, vertex_block_bytes, filled, addresses}
use Rattle.images.proofs.BlockLaws.{geometry_block-length, VertexBlock-length}
use Rattle.images.proofs.LengthLaws.{filled-length, addresses-length}

pub Block-filled-length : (b : GeometryBlock) → length (filled (geometry_block_bytes b)) ≡ 0xA0
Block-filled-length b = filled-length (geometry_block_bytes b) ∙ ap padded (geometry_block-length b)

pub head-length : (b : GeometryBlock) (v : VertexBlock) → length (filled (geometry_block_bytes b) ++ vertex_block_bytes v) ≡ 0x120
head-length b v = length-append (filled (geometry_block_bytes b)) (vertex_block_bytes v) ∙ rw (Block-filled-length, VertexBlock-length)

pub pointers-length : {A : Type 0} (size : A → ℕ) (at : ℕ) (xs : List A) → length (run 8 (addresses size at xs)) ≡ 8 * length xs
pointers-length size at xs = length_run 8 (addresses size at xs) ∙ rw (addresses-length size at xs) (omega arith)
