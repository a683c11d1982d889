-- The declaration's 16 bytes, or nothing.
use mathlib.Core.Path.{◌≡◌, sym, ◌∙◌}
use native.Mathlib.Omega.{arith}
use lib.ListN.{length}
use Rattle.sections.proofs.EditLaws.{Edited-fits, overwrite-none}
use Rattle.vertices.proofs.DeclarationLaws.{declaration_length_lem}
use Rattle.exports.specs.Buffers.{stored_bytes}
use Rattle.exports.proofs.buffers.put_stored.Goals as goal

pub returns-in-Some : goal.returns-in-Some
returns-in-Some c =
    let told = c.in-Some.is in
    let long : length (stored_bytes c.args.declaration) ≡ 16 = rw told (declaration_length_lem _) in
    Edited-fits 16 c.write_declaration.ensures (omega (arith, c.requires)) ∙ rw told

pub returns-in_default : goal.returns-in_default
returns-in_default c = rw c.in_default.is (sym (overwrite-none c.args.out.now c.args.at))
