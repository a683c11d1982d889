-- The mapping, the numbers before it, and the geometries right behind it.
use Rattle.std.proofs.Common.{arith, ap, length, refl, ◌∙◌, ◌-◌}
use Rattle.sections.proofs.EditLaws.{overwrite-length}
use Rattle.halls.proofs.edit.TakenBytes.{shaders-length, model_bytes-length, model-put, numbers-length-12}
use Rattle.halls.proofs.edit.write_taken.write_taken_model.Goals as goal

pub write_shaders-next-requires : goal.write_shaders-next-requires
write_shaders-next-requires c = rw c.geometries.ensures.those (omega (arith, c.requires, model_bytes-length c.args.model.now))

pub overflow_cast-body : goal.overflow_cast-body
overflow_cast-body c = omega (arith, c.write_shaders-next.ensures.0, shaders-length c.geometries.result, c.geometries.ensures.few)

pub put_model_numbers-requires : goal.put_model_numbers-requires
put_model_numbers-requires c =
    let shaders = rw c.geometries.ensures.those at c.write_shaders-next.ensures in
    let same = ap length shaders.1 ∙ overwrite-length c.args.out.now _ _ (omega (arith, c.requires, model_bytes-length c.args.model.now)) in
    omega (arith, c.requires, model_bytes-length c.args.model.now, same)

pub write_taken_geometries-requires : goal.write_taken_geometries-requires
write_taken_geometries-requires c =
    let shaders = rw c.geometries.ensures.those at c.write_shaders-next.ensures in
    let long = model_bytes-length c.args.model.now in
    let same = ap length shaders.1 ∙ overwrite-length c.args.out.now _ _ (omega (arith, c.requires, long)) in
    let head = numbers-length-12 (c.write_shaders-next.result - c.args.at - 6) c.numbers.result.binding c.numbers.result.mask in
    let put = ap length c.put_model_numbers.ensures ∙ overwrite-length _ c.args.at _ (omega (arith, c.requires, long, same, head)) in
    rw c.geometries-2.ensures.those (omega (arith, shaders.0, c.requires, long, same, put))

pub returns : goal.returns
returns c =
    let shaders = rw c.geometries.ensures.those at c.write_shaders-next.ensures in
    let last = rw c.geometries-2.ensures.those at c.write_taken_geometries.ensures in
    model-put c.args.model.now c.args.out.now c.args.at shaders refl c.numbers.ensures.binding c.numbers.ensures.mask c.put_model_numbers.ensures last c.requires
