-- Each field is put right behind the one before it, and the value's 16 bytes behind them.
use mathlib.Core.Path.{◌≡◌, refl, ap, ◌∙◌}
use native.Mathlib.Omega.{arith}
use lib.ListN.{length}
use Rattle.sections.specs.Edit.{overwrite}
use Rattle.sections.specs.Le.{bytes}
use Rattle.sections.proofs.EditLaws.{Edited-behind, Edited-fits, overwrite-behind}
use Rattle.vertices.specs.Unified.{vec4_bytes}
use Rattle.vertices.proofs.RunLaws.{length_run}
use Rattle.exports.specs.Attributes.{attribute_bytes}
use Rattle.exports.proofs.attributes.put_attribute.Goals as goal

pub returns : goal.returns
unfolding attribute_bytes bytes
returns c =
    let value = c.words in
    let s = c.args.out.now in
    let at = c.args.at in
    let semantic = Edited-fits 1 c.put_u8_le.ensures (omega arith) in
    let type = Edited-behind s at _ 1 1 semantic refl refl c.put_u8_le-2.ensures (omega (arith, c.requires)) in
    let offset = Edited-behind s at _ 2 2 type refl refl c.put_u16_le.ensures (omega (arith, c.requires)) in
    let size : length (vec4_bytes value.result) ≡ 16 = length_run 4 _ in
    overwrite-behind s at _ 4 (vec4_bytes value.result) offset refl c.put_words.ensures (omega (arith, c.requires)) ∙ ap (overwrite s at) (cc (c.nibble.ensures, value.ensures))
