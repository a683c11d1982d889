-- Its parts are written one behind the other.
use mathlib.Core.Path.{◌∙◌}
use Prim.Native.Nat.{◌+◌}
use native.Mathlib.Omega.{arith}
use lib.ListN.{length-drop}
use Rattle.halls.proofs.WalkLaws.{slice-rest}
use Rattle.images.proofs.FrontLaws.{geometry-measured, GeometryRoom, GeometryRoom_lem, slice-length}
use Rattle.images.proofs.WrittenGeometry.{geometry-written}
use Rattle.images.proofs.geometry.put_geometry.Goals.{After-shape_of-shape}
use Rattle.images.proofs.geometry.put_geometry.Goals as goal

-- the geometry is whole, and its image has room
room : (c : After-shape_of-shape) → GeometryRoom c.args.front.now c.args.at c.args.out.now c.shape_of-shape.result.content c.shape_of-shape.result.held
room c = GeometryRoom_lem c.args.front.now c.requires.0 c.shape_of-shape.result c.shape_of-shape.ensures c.requires.1

pub put_head-requires : goal.put_head-requires
put_head-requires c =
    let g = room (goal.at.put_head-requires c).After-shape_of-shape in
    omega (arith, g.fits, g.low, g.long, c.padded.ensures)

pub slice_bounds-put_copy-end : goal.slice_bounds-put_copy-end
slice_bounds-put_copy-end c =
    let g = room (goal.at.slice_bounds-put_copy-end c).After-shape_of-shape in
    omega (arith, g.long)

pub put_copy-requires : goal.put_copy-requires
put_copy-requires c =
    let g = room (goal.at.put_copy-requires c).After-shape_of-shape in
    let n = slice-length c.args.front.now 55 (55 + c.shape_of-shape.result.content) (omega arith) (omega (arith, g.long)) in
    rw n (omega (arith, g.fits, g.small))

pub put_index_numbers-requires : goal.put_index_numbers-requires
put_index_numbers-requires c =
    let g = room (goal.at.put_index_numbers-requires c).After-shape_of-shape in
    omega (arith, g.fits, g.low, g.long, c.padded.ensures)

pub slice_bounds-put_indices-count : goal.slice_bounds-put_indices-count
slice_bounds-put_indices-count c =
    let g = room (goal.at.slice_bounds-put_indices-count c).After-shape_of-shape in
    omega (arith, g.long)

pub slice_bounds-put_indices-start : goal.slice_bounds-put_indices-start
slice_bounds-put_indices-start c =
    let g = room (goal.at.slice_bounds-put_indices-start c).After-shape_of-shape in
    omega (arith, g.long)

pub put_indices-requires : goal.put_indices-requires
put_indices-requires c =
    let g = room (goal.at.put_indices-requires c).After-shape_of-shape in
    let s = c.args.front.now in
    let l = length-drop (65 + c.shape_of-shape.result.content) s in
    rw (slice-rest s (65 + c.shape_of-shape.result.content)) (omega (arith, g.fits, g.long, g.few, c.padded.ensures))

pub returns : goal.returns
returns c =
    let s = c.args.front.now in
    record {
      measured = c.measure_geometry.ensures ∙ geometry-measured s c.requires.0 c.shape_of-shape.result c.shape_of-shape.ensures;
      bytes =
          geometry-written c.args.out.now c.args.at s (λ i. (c.type_inv.front i).fits) c.requires.0 c.requires.1 c.shape_of-shape.result c.shape_of-shape.ensures
          c.padded.result c.padded.ensures
          c.put_head.ensures c.put_copy.ensures c.put_index_numbers.ensures c.put_indices.ensures;
    }
