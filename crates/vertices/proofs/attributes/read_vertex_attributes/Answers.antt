-- Check 8, then check 9 of every component of the vertex at its place, which is below 2^48.
use Rattle.std.proofs.Common.{◌≡◌, true, ◌*◌, ◌≤◌, length, ltb, arith, rules, tests}
use borrow.Author.Tests.{le-ltb, lt-ltb}
use Rattle.std.proofs.lemmas.Iterator.Consumers.{YieldsList-from_first}
use Rattle.std.proofs.lemmas.Iterator.Search.{all_from_yields_List}
use Rattle.vertices.specs.Declaration.{components_of}
use Rattle.vertices.specs.Attribute.{all_inside, attributes_at, attributes_of, component_inside}
use Rattle.vertices.proofs.AttributeLaws.{inside-all}
use Rattle.vertices.proofs.attributes.read_vertex_attributes.Goals as goal
use Rattle.vertices.proofs.attributes.read_vertex_attributes.Goals.{After-all-inside}

-- the test of the components is the definition's
tested : (c : After-all-inside) → c.all-inside.result ≡ all_inside (length c.args.vertices.«data».now) (c.args.index * c.args.vertices.stride) (components_of c.args.vertices.declaration)
tested c =
    rw (← c.base_of-base.ensures.0, inside-all (length c.args.vertices.«data».now) c.base_of-base.result (components_of c.args.vertices.declaration))
    (all_from_yields_List (component_inside (length c.args.vertices.«data».now) c.base_of-base.result) _ _ _ c.all-inside.ensures.ran
    (YieldsList-from_first (λ x. x) (λ rest. rest) (components_of c.args.vertices.declaration) c.components.ensures) (λ x b q k. search (rules, tests)))

-- there is such a vertex
there : (c : After-all-inside) → ltb c.args.index c.args.vertices.count ≡ true
there c = lt-ltb c.args.index c.args.vertices.count (omega arith)

pub returns-then-index-from : goal.returns-then-index-from
unfolding attributes_of
returns-then-index-from c =
    let past : c.args.vertices.count ≤ c.args.index = omega arith in
    rw (le-ltb c.args.index c.args.vertices.count past)

pub returns-then-not-inside : goal.returns-then-not-inside
unfolding attributes_of attributes_at
returns-then-not-inside c =
    let at = (goal.at.returns-then-not-inside c).After-all-inside in
    rw (there at, ← tested at, c.if-not-inside.true)

pub invariant_of-result : goal.invariant_of-result
invariant_of-result c =
    (c.base_of-base.ensures.1, rw (c.components-2.ensures, c.base_of-base.ensures.0, ← tested (goal.at.invariant_of-result c).After-all-inside) c.if-not-inside.false)

pub returns : goal.returns
unfolding attributes_of attributes_at
returns c =
    let at = (goal.at.returns c).After-all-inside in
    rw (there at, ← tested at, c.if-not-inside.false, c.components-2.ensures, c.base_of-base.ensures.0)
