-- A check of the hall refuses, then 21; else the first n bytes are a hall's records, and the finder answers by them.
use mathlib.Core.Path.{◌≡◌}
use native.Mathlib.Omega.{arith}
use lib.ListN.{take, length-take}
use Rattle.halls.specs.Checks.{hall_verdict}
use Rattle.halls.specs.Inner.Walk.{Found}
use Rattle.halls.specs.Verdict.{Sound}
use Rattle.halls.proofs.StateLaws.{SoundBytes, SoundBytes_lem}
use Rattle.halls.proofs.check.ToldLaws.{where-sound}
use Rattle.halls.proofs.check.find.find_placed.Goals as goal
use Rattle.halls.proofs.check.find.find_placed.Goals.{In_ok-found}

passed : (c : In_ok-found) → let a = c.args in (hall_verdict a.hall.now a.n ≡ Sound) × Found (take a.n a.hall.now) a.sought.model a.sought.index c.in_ok-found.found
passed c = where-sound _ c.survey_first.ensures c.in_ok-found.was

sound : (c : In_ok-found) → let a = c.args in SoundBytes a.hall.now a.n
sound c = SoundBytes_lem _ _ (λ i. (c.type_inv.hall i).fits) (passed c).0

pub slice_bounds-geometry_at-end : goal.slice_bounds-geometry_at-end
slice_bounds-geometry_at-end c =
    let k = (goal.at.slice_bounds-geometry_at-end c).In_ok-found in
    simp length-take (omega (arith, (sound k).within))

pub geometry_at-requires : goal.geometry_at-requires
geometry_at-requires c =
    let k = (goal.at.geometry_at-requires c).In_ok-found in
    ((sound k).read.same-records, (passed k).1.nearest)
