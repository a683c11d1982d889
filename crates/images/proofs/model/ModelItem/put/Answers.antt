-- One model that has few geometries has few entries.
use Rattle.images.proofs.HallLaws.{few_one}
use Rattle.images.proofs.model.ModelItem.put.Goals as goal

pub put_model-requires : goal.put_model-requires
put_model-requires c =
    let p = c.requires in
    (p.0, few_one c.args.front.now p.1, p.2)
