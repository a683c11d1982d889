-- What the search over the components finds.
use Rattle.std.proofs.Common.{◌≡◌, eqb, rules, tests, option_map}
use Rattle.std.specs.Prelude.{Option, Some, None}
use mathlib.Core.Path.{refl, ◌∙◌}
use Rattle.std.proofs.lemmas.Iterator.Consumers.{YieldsList-from_first}
use Rattle.std.proofs.lemmas.Iterator.Search.{find_from_yields_List}
use Rattle.vertices.specs.Declaration.{component_of, components_of}
use Rattle.vertices.proofs.ComponentWalk.{first_found}
use Rattle.vertices.proofs.declaration.VertexDeclaration.component.Goals as goal

unmapped : {A : Type 0} (o : Option A) → o ≡ option_map (λ x. x) o
unmapped None = refl
unmapped (Some x) = refl

pub returns : goal.returns
unfolding component_of
returns c =
    unmapped c.find.result
    ∙ rw (first_found c.args.index (components_of c.args.self))
    (find_from_yields_List (λ x. eqb x.semantic_index c.args.index) _ _ c.find.result c.find.ensures.ran
    (YieldsList-from_first (λ x. x) (λ rest. rest) (components_of c.args.self) c.components.ensures) (λ x b q k. search (rules, tests)))
