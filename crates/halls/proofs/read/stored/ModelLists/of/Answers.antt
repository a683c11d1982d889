-- The fields are those of the model's block.
use Rattle.std.proofs.Common.{arith, ap, refl, List, ℕ, ◌∙◌, Bor}
use Rattle.sections.specs.Address.{sections_of}
use Rattle.halls.specs.Reading.{or_empty}
use Rattle.halls.proofs.read.StoredLaws.{found_or_empty}
use Rattle.halls.proofs.read.ModelLaws.{lists_of}
use Rattle.halls.proofs.read.stored.ModelLists.of.Goals as goal

pub returns : goal.returns
returns c =
    let mapping = ap (λ (b : Bor (List ℕ)). b.now) c.unwrap_or.ensures ∙ found_or_empty (sections_of c.args.reader.now) c.list_bytes-2.result _ refl ∙ ap or_empty c.list_bytes-2.ensures in
    lists_of (sections_of c.args.reader.now) c.args.raw.now _ _ _ (c.from-count.ensures ∙ c.u16_le.ensures) c.u64_le.ensures c.u64_le-2.ensures (omega arith) c.list_bytes.ensures mapping
