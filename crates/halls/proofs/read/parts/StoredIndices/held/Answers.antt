-- As many as the view holds.
use Rattle.std.proofs.Common.{arith, length, ap}
use Rattle.halls.specs.List.{Indices}
use Rattle.halls.proofs.read.HeldLaws.{held-few, items_length_lem}
use Rattle.halls.proofs.read.parts.StoredIndices.held.Goals as goal

pub returns : goal.returns
returns c =
    let view = c.self.inside.view in
    let bytes = c.self.inside.bytes.now in
    let items = ap (λ (i : Indices). length i.items) c.self.view_is in
    let few = held-few view bytes c.self.invariant in
    (omega (arith, items, items_length_lem view bytes, c.held.ensures), omega (arith, few, c.held.ensures))
