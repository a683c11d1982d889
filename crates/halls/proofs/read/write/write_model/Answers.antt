-- The record, and the geometries right behind it.
use Rattle.std.proofs.Common.{arith}
use Rattle.halls.proofs.read.WritingModel.{model-reach, model-written}
use Rattle.halls.proofs.read.write.write_model.Goals as goal

pub put_model-requires : goal.put_model-requires
put_model-requires c =
    let mapping = c.mapping-mapping.ensures in
    (omega (arith, model-reach c.args.model.now _ mapping.numbers mapping.even, c.requires), omega (arith, mapping.few), mapping.even)

pub write_geometries-requires : goal.write_geometries-requires
write_geometries-requires c =
    let mapping = c.mapping-mapping.ensures in
    rw c.geometries.ensures.those (omega (arith, model-reach c.args.model.now _ mapping.numbers mapping.even, c.requires))

pub returns : goal.returns
returns c =
    let mapping = c.mapping-mapping.ensures in
    model-written c.args.model.now _ mapping.numbers mapping.even c.args.out.now c.args.at c.numbers.ensures.binding c.numbers.ensures.mask c.put_model.ensures
    (rw c.geometries.ensures.those at c.write_geometries.ensures) c.requires
