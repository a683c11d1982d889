-- Each number is put right behind the one before it.
use mathlib.Core.Path.{refl}
use native.Mathlib.Omega.{arith}
use Rattle.sections.specs.Le.{bytes}
use Rattle.sections.proofs.EditLaws.{Edited-behind, Edited-fits}
use Rattle.vertices.specs.Runs.{run}
use Rattle.exports.proofs.attributes.put_words.Goals as goal

pub returns : goal.returns
unfolding run bytes
returns c =
    let first = Edited-fits 4 c.put_u32_le.ensures (omega arith) in
    let second = Edited-behind _ _ _ 4 4 first refl refl c.put_u32_le-2.ensures (omega arith) in
    let third = Edited-behind _ _ _ 8 4 second refl refl c.put_u32_le-3.ensures (omega arith) in
    Edited-behind _ _ _ 12 4 third refl refl c.put_u32_le-4.ensures (omega arith)
