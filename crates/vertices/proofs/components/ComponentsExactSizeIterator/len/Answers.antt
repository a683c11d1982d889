-- There is at most one component for each flag.
use Rattle.std.proofs.Common.{inl, ◌-◌, arith}
use Rattle.vertices.proofs.ComponentLaws.{few-from}
use Rattle.vertices.proofs.components.ComponentsExactSizeIterator.len.Goals as goal

pub count-requires-clause-fits : goal.count-requires-clause-fits
count-requires-clause-fits c =
    let rest = c.self.inside in
    inl (omega (arith, few-from (16 - rest.index) rest.index rest.flags rest.types rest.offset))
