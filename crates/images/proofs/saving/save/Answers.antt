-- Behind a passed check the first n bytes are a sound list with the size that is told; where it fails nothing is written.
use Rattle.std.proofs.Common.{rules}
use Rattle.std.specs.Prelude.{Err}
use mathlib.Core.Path.{◌≡◌, ap, ◌∙◌}
use native.Mathlib.Omega.{arith}
use lib.ListN.{length-take}
use Rattle.halls.proofs.StepLaws.{old}
use Rattle.images.proofs.ListLaws.{SoundList_lem}
use Rattle.images.proofs.SavingLaws.{sized-is, unsound_is, saved-fails, saved-sound}
use Rattle.images.proofs.saving.save.Goals as goal

pub returns-in_err-size : goal.returns-in_err-size
returns-in_err-size c =
    let answer : c.from_residual.result ≡ Err c.in_err-size.field-0.0 = search rules in
    let told = unsound_is _ _ _ c.in_err-size.ensures in
    let saved = saved-fails c.args.hall.now c.args.n c.args.out.now _ told.0 in
    record { answer = answer ∙ ap Err told.1 ∙ saved.answer; bytes = saved.bytes }

pub slice_bounds-save_list-end : goal.slice_bounds-save_list-end
slice_bounds-save_list-end c =
    let told = sized-is _ _ _ c.in_ok-size.ensures in
    let hall = old _ _ (λ i. (c.type_inv.hall i).fits) told.0 in
    simp length-take (omega (arith, hall.within))

pub save_list-requires : goal.save_list-requires
save_list-requires c =
    let told = sized-is _ _ _ c.in_ok-size.ensures in
    (SoundList_lem _ _ (old _ _ (λ i. (c.type_inv.hall i).fits) told.0), told.1, told.2)

pub returns : goal.returns
returns c = saved-sound _ _ _ (sized-is _ _ _ c.in_ok-size.ensures).0 c.save_list.ensures
