-- One word a turn.
use mathlib.Core.Path.{refl}
use Prim.Native.Nat.{◌*◌}
use native.Mathlib.Omega.{arith}
use Rattle.vertices.specs.Inner.Lanes.{lane_bytes}
use Rattle.vertices.proofs.LaneLoops.{lane_bytes-length, Words-turn}
use Rattle.vertices.proofs.strips.strip_of.Goals as goal

pub loop-i-preserved : goal.loop-i-preserved
loop-i-preserved g c =
    let word = lane_bytes c.args.lane c.args.vertices.«data».now (c.loop-i.i * c.args.vertices.stride) in
    let made = c.requires.words _ _ c.word.ensures in
    let written = rw (made, c.base_of.ensures.0) at c.put.ensures in
    let fits = c.requires.ready.fits in
    Words-turn c.loop-i.invariant fits.word {v = word} refl (lane_bytes-length c.args.lane _ _) (omega (arith, fits.room, fits.word)) written
