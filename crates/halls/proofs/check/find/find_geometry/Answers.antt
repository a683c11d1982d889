-- What is found of a sound hall, and nothing else, are the geometry's places.
use mathlib.Core.Path.{sym, ◌∙◌}
use Rattle.halls.proofs.check.PlacedLaws.{placed_found, unplaced-found}
use Rattle.halls.proofs.check.find.find_geometry.Goals as goal

pub returns-in_err-found : goal.returns-in_err-found
returns-in_err-found c = c.from_residual.ensures ∙ unplaced-found _ _ _ _ (λ i. (c.type_inv.hall i).fits) _ c.find_placed.ensures (sym c.ok.ensures.value ∙ c.in_err-found.was)

pub returns : goal.returns
returns c = placed_found _ _ _ _ (λ i. (c.type_inv.hall i).fits) _ c.find_placed.ensures (sym c.ok.ensures.value ∙ c.in_ok-found.was)
