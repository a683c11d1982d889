-- The view's count.
use Rattle.std.proofs.Common.{ap}
use Rattle.halls.specs.List.{Indices}
use Rattle.halls.specs.Inner.View.{indices_in}
use Rattle.halls.proofs.read.parts.StoredIndices.count.Goals as goal

pub returns : goal.returns
unfolding indices_in
returns c = ap (λ (i : Indices). i.count) c.self.view_is
