-- The bytes that fit, as the library reads them.
use Rattle.std.proofs.Common.{rules, ◌≡◌, w16, List, ℕ}
use Rattle.std.proofs.lemmas.Nat.{le_bytes_2}
use Rattle.std.specs.Int.{from_le_bytes}
use Rattle.sections.specs.Edit.{part}
use Rattle.sections.proofs.EditLaws.{part_length, part-below}
use Rattle.sections.proofs.LeLaws.{field_by, le-from}
use Rattle.sections.proofs.fields.u16_le.Goals as goal

pub returns : goal.returns
returns c =
    let a = c.args in
    let there : List ℕ = part a.b.now a.off 2 in
    field_by 2 _ _ _ _ _ c.bytes_at.ensures c.map_or.ensures (λ fit p.
    let read : c.map_or.result ≡ from_le_bytes w16 there = search rules in
    le-from 2 _ there c.map_or.type_inv (le_bytes_2 there _ (part_length a.b.now a.off 2 fit) (part-below a.b.now a.off 2 (λ i. search rules)) read))
