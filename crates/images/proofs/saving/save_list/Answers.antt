-- The image has the size that is told: it is written where it fits.
use Rattle.std.specs.Prelude.{Err}
use borrow.Author.Rules.{rules}
use mathlib.Core.Path.{◌≡◌, ap, ◌∙◌}
use Rattle.images.proofs.SavingLaws.{saved-short, saved-done}
use Rattle.images.proofs.saving.save_list.Goals as goal

pub returns-in_err-room : goal.returns-in_err-room
returns-in_err-room c =
    let answer : c.from_residual.result ≡ Err c.in_err-room.field-0.0 = search rules in
    let saved = saved-short _ _ _ c.requires.2 c.in_err-room.ensures.0 in
    record { answer = answer ∙ ap Err c.in_err-room.ensures.1 ∙ saved.answer; bytes = saved.bytes }

pub returns : goal.returns
returns c = saved-done _ _ _ c.requires.2 c.in_ok-room.ensures c.put_image.ensures
