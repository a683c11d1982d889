-- The offset is put right behind the section.
use mathlib.Core.Path.{refl, ◌∙◌}
use native.Mathlib.Omega.{arith}
use Rattle.sections.specs.Le.{bytes}
use Rattle.sections.proofs.EditLaws.{Edited-behind, Edited-fits}
use Rattle.exports.proofs.buffers.put_place.Goals as goal

pub returns : goal.returns
unfolding bytes
returns c =
    let section = Edited-fits 1 c.put_u8_le.ensures (omega arith) in
    Edited-behind _ _ _ 1 8 section refl refl c.put_u64_le.ensures (omega arith) ∙ rw (c.place_numbers-section.ensures.0, c.place_numbers-section.ensures.1)
