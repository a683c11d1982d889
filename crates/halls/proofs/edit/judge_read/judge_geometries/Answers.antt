-- Each turn adds the next geometry.
use Rattle.std.proofs.Common.{rules, refl, List, ◌≡◌, ◌∙◌, ◌++◌, ap}
use Rattle.std.proofs.lemmas.Fn.{serves_by, fold_over}
use Rattle.std.proofs.lemmas.Iterator.Consumers.{YieldsList-from_first}
use Rattle.std.specs.Iterator.{YieldsFirst}
use Rattle.halls.specs.Inner.Taking.{geometry_taken, all_taken}
use Rattle.halls.specs.List.{Geometry}
use Rattle.halls.specs.declared.edit.judge_read.Taken.{Taken}
use Rattle.halls.proofs.edit.TakingItems.{yielded, taking-start, taking_turn, taking_room}
use Rattle.halls.proofs.edit.judge_read.judge_geometries.Goals as goal

pub fold-requires-clause-callable : goal.fold-requires-clause-callable
fold-requires-clause-callable c =
    serves_by _ (λ xs q. q.1 ≡ all_taken geometry_taken xs) (λ xs q x v j k. taking_turn geometry_taken xs x j (search rules)) _ _ _ _ (taking-start geometry_taken c.nothing_taken.ensures) (λ xs t q x u y n j.
    let all = yielded xs c.args.geometries t y ∙ ap (λ zs. xs ++ zs) n in
    let fits = λ (r : Taken) (e : r ≡ geometry_taken x). taking_room geometry_taken c.args.geometries xs x u c.requires all j e in
    search (rules, fits))

pub returns : goal.returns
returns c =
    fold_over (YieldsFirst (λ (rest : List Geometry). rest)) (λ x. x) _ (λ xs t. t ≡ all_taken geometry_taken xs) _ (λ xs a x b q j k. (taking_turn geometry_taken xs x j (search rules), search rules))
    c.args.geometries c.args.geometries _ _ (YieldsList-from_first (λ x. x) (λ rest. rest) c.args.geometries refl).runs (taking-start geometry_taken c.nothing_taken.ensures) c.fold.ensures.ran
