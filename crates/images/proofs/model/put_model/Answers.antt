-- Its parts are written one behind the other.
use mathlib.Core.List.{List}
use Prim.Native.Nat.{ℕ, ◌+◌, ◌-◌, ◌*◌, ◌≤◌}
use native.Mathlib.Omega.{arith}
use lib.ListN.{length, take, drop}
use Rattle.halls.specs.Fronts.{front_geometry}
use Rattle.halls.specs.ImageSize.{padded, geometry_size}
use Rattle.images.specs.Fronts.{geometries_size, geometry_length, image_limit}
use Rattle.images.specs.Image.{geometry_image}
use Rattle.images.proofs.FrontLaws.{slice-length}
use Rattle.images.proofs.ItemLaws.{room-here, written-here}
use Rattle.images.proofs.LengthLaws.{geometry_image-length}
use Rattle.images.proofs.WrittenModel.{Record-fits, inner-fits, ModelFits_lem, model-low, model_length-is, model_size-is, model-measured, model-written}
use Rattle.images.proofs.model.put_model.Goals.{After-entries_of-entries}
use Rattle.images.proofs.model.put_model.Goals as goal

-- the model's record is whole, and its image has room
record Fit (s : List ℕ) (n at : ℕ) (out : List ℕ) : Type 0 where
  whole : 12 + 2 * n ≤ length s
  fits : at + (0x30 + padded (8 * n) + padded (2 * n) + geometries_size n (take (length s - (12 + 2 * n)) (drop (12 + 2 * n) s))) ≤ length out
  low : at + (0x30 + padded (8 * n) + padded (2 * n) + geometries_size n (take (length s - (12 + 2 * n)) (drop (12 + 2 * n) s))) ≤ image_limit

fit : (c : After-entries_of-entries) → Fit c.args.front.now c.entries_of-entries.result c.args.at c.args.out.now
fit c =
    let s = c.args.front.now in
    let n = c.entries_of-entries.result in
    let q = c.entries_of-entries.ensures.0 in
    record {
      whole = Record-fits s c.requires.0 n q;
      fits = ModelFits_lem s c.requires.0 n q c.args.at c.args.out.now c.requires.2;
      low = model-low s c.requires.0 n q c.args.at c.args.out.now c.requires.2;
    }

pub put_model_numbers-requires : goal.put_model_numbers-requires
put_model_numbers-requires c =
    let f = fit (goal.at.put_model_numbers-requires c).After-entries_of-entries in
    let x = c.padded.ensures in
    (record { fits = omega (arith, f.fits); low = omega (arith, f.low) }, omega (arith, f.low, x), omega (arith, c.entries_of-entries.ensures.0, c.requires.1))

pub slice_bounds-put_copy-end : goal.slice_bounds-put_copy-end
slice_bounds-put_copy-end c =
    let f = fit (goal.at.slice_bounds-put_copy-end c).After-entries_of-entries in
    omega (arith, f.whole)

pub put_copy-requires : goal.put_copy-requires
put_copy-requires c =
    let f = fit (goal.at.put_copy-requires c).After-entries_of-entries in
    let x = c.padded.ensures in
    let l = slice-length c.args.front.now 12 (12 + 2 * c.entries_of-entries.result) (omega arith) (omega (arith, f.whole)) in
    rw l (omega (arith, f.fits, x, c.entries_of-entries.ensures.0, c.requires.1))

pub slice_bounds-items-count : goal.slice_bounds-items-count
slice_bounds-items-count c =
    let f = fit (goal.at.slice_bounds-items-count c).After-entries_of-entries in
    omega (arith, f.whole)

pub slice_bounds-items-start : goal.slice_bounds-items-start
slice_bounds-items-start c =
    let f = fit (goal.at.slice_bounds-items-start c).After-entries_of-entries in
    omega (arith, f.whole)

pub put_items-inner-requires : goal.put_items-inner-requires
put_items-inner-requires c =
    let f = fit (goal.at.put_items-inner-requires c).After-entries_of-entries in
    let x = c.padded.ensures in
    let y = c.padded-2.ensures in (
      record { sized = λ at s. geometry_image-length at (front_geometry s); fewer = λ k s h. (tt, tt) },
      room-here front_geometry geometry_length geometry_size _ (inner-fits c.args.front.now c.requires.0 c.entries_of-entries.result c.entries_of-entries.ensures.0)
          (record { fits = omega (arith, f.fits, x, y); low = omega (arith, f.low, x, y) }) (omega (arith, x, y)),
      tt,
    )

pub overflow_add-result : goal.overflow_add-result
overflow_add-result c =
    let s = c.args.front.now in
    let n = c.entries_of-entries.result in
    let q = c.entries_of-entries.ensures.0 in
    omega (arith, c.requires.0, model_length-is s c.requires.0 n q (written-here front_geometry geometry_length geometry_size geometry_image _ c.put_items-inner.ensures).measured, c.well_formed)

pub overflow_add-result-2 : goal.overflow_add-result-2
overflow_add-result-2 c =
    let s = c.args.front.now in
    let n = c.entries_of-entries.result in
    let q = c.entries_of-entries.ensures.0 in
    let x = c.padded in
    let y = c.padded-2 in
    let low = c.requires.2.low in
    omega (arith, low, model_size-is s c.requires.0 n q (written-here front_geometry geometry_length geometry_size geometry_image _ c.put_items-inner.ensures).measured x.result y.result x.ensures y.ensures)

pub returns : goal.returns
returns c =
    let s = c.args.front.now in
    let n = c.entries_of-entries.result in
    let q = c.entries_of-entries.ensures.0 in
    record {
      measured = model-measured s c.requires.0 n q (written-here front_geometry geometry_length geometry_size geometry_image _ c.put_items-inner.ensures).measured c.args.at c.padded.result c.padded-2.result c.padded.ensures c.padded-2.ensures;
      bytes =
          model-written s c.requires.0 n q c.args.at c.padded.result c.padded-2.result c.padded.ensures c.padded-2.ensures (λ i. (c.type_inv.front i).fits) c.args.out.now c.requires.2
          c.put_model_numbers.ensures c.put_copy.ensures (written-here front_geometry geometry_length geometry_size geometry_image _ c.put_items-inner.ensures).bytes;
    }
