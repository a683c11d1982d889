-- Header, pointers and models are written one behind the other.
use native.Mathlib.Omega.{arith}
use Rattle.halls.specs.ImageSize.{model_size}
use Rattle.images.specs.Fronts.{front_model, model_length}
use Rattle.images.specs.Image.{model_image}
use Rattle.images.proofs.HallLaws.{fewer_models}
use Rattle.images.proofs.ItemLaws.{room-here, written-here}
use Rattle.images.proofs.LengthLaws.{model_image-length}
use Rattle.images.proofs.SavingLaws.{models-within, few-geometries, image-low, image-fits, image-written}
use Rattle.images.proofs.saving.put_image.Goals as goal

pub put_header-requires : goal.put_header-requires
put_header-requires c =
    let p = c.requires in
    omega (arith, image-fits c.args.list.now p.0 c.args.models p.1 c.args.out.now p.2)

pub put_items-requires : goal.put_items-requires
put_items-requires c =
    let s = c.args.list.now in
    let p = c.requires in
    let n = c.args.models in
    let x = c.padded-first.ensures in (
      record { sized = λ at s. model_image-length at (front_model s); fewer = fewer_models },
      room-here front_model model_length model_size _ (models-within s p.0 n p.1)
          (record { fits = omega (arith, x, image-fits s p.0 n p.1 c.args.out.now p.2); low = omega (arith, x, image-low s p.0 n p.1) }) (omega (arith, x)),
      few-geometries s p.0 n p.1,
    )

pub returns : goal.returns
returns c =
    let p = c.requires in
    image-written c.args.list.now p.0 c.args.models p.1 c.args.out.now p.2 c.padded-first.result c.pointer_to.result c.padded-first.ensures c.pointer_to.ensures
    c.put_header.ensures (written-here front_model model_length model_size model_image _ c.put_items.ensures).bytes
