-- The geometries behind the model's two lists.
use Rattle.std.proofs.Common.{◌∙◌, refl, ap, arith, length, List, ℕ, Bor, ◌≡◌, ◌/◌}
use Rattle.halls.specs.Inner.View.{geometries_behind}
use Rattle.halls.specs.List.{Model}
use Rattle.halls.specs.Reading.{or_empty}
use Rattle.halls.specs.Inner.Measure.{whole_numbers}
use Rattle.std.specs.Option.{option_copied}
use Rattle.sections.specs.Address.{sections_of}
use Rattle.vertices.proofs.RunLaws.{numbers-length}
use Rattle.halls.proofs.read.ModelLaws.{pointers_few}
use Rattle.halls.proofs.read.StoredLaws.{entries-length, found_or_empty, geometries_few, model_geometries}
use Rattle.halls.proofs.read.stored.StoredModel.geometries.Goals.{After-unwrap_or}
use Rattle.halls.proofs.read.stored.StoredModel.geometries.Goals as goal

-- the bytes of the pointers
found : (c : After-unwrap_or) → c.unwrap_or.result.now ≡ or_empty (option_copied c.self.inside.lists.pointers)
found c = ap (λ (b : Bor (List ℕ)). b.now) c.unwrap_or.ensures ∙ found_or_empty (sections_of c.self.inside.limited.reader.now) c.self.inside.lists.pointers _ refl

pub returns-clause-those : goal.returns-clause-those
returns-clause-those c =
    let s = (sections_of c.self.inside.limited.reader.now) in
    let k = (goal.at.returns-clause-those c).After-unwrap_or in
    ap (geometries_behind s) c.new.ensures ∙ model_geometries s _ _ _ c.self.invariant (found k) ∙ ap (λ (m : Model). m.geometries) c.self.view_is

pub returns-clause-few : goal.returns-clause-few
returns-clause-few c =
    let s = (sections_of c.self.inside.limited.reader.now) in
    let k = (goal.at.returns-clause-few c).After-unwrap_or in
    let pointers = c.unwrap_or.result.now in
    let many = entries-length s (whole_numbers 2 c.self.inside.lists.mapping.now) (whole_numbers 8 pointers) in
    let few = pointers_few _ _ _ _ c.self.invariant in
    omega (arith, geometries_few s c.new.result, ap length c.new.ensures, many, numbers-length 8 (length pointers / 8) pointers, ap length (found k), few)
