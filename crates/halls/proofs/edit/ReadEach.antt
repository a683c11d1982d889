-- What holds of the geometry of every block that resolves holds of all geometries that are read; and so of models.
use Rattle.std.specs.Prelude.{Option, None, Some}
use mathlib.Core.Path.{◌≡◌, refl}
use mathlib.Core.List.{List, [], ◌∷◌}
use Prim.Native.Nat.{ℕ}
use Rattle.sections.specs.Address.{Sections, resolved}
use Rattle.halls.specs.Blocks.{geometry_block, ModelBlock, model_block}
use Rattle.halls.specs.Every.{Each}
use Rattle.halls.specs.List.{Geometry, Model}
use Rattle.halls.specs.Reading.{first, rest, or_empty, list_at, mapping_of, geometry_of}
use Rattle.halls.specs.Inner.View.{geometry_in, geometries_behind, geometries_at, model_of, model_in, models_at}
use Rattle.halls.proofs.edit.SoundEdits.{each-join}

-- ---- models

module _ (s : Sections) (P : Model → Type 0) (f : (pointer : ℕ) (b : List ℕ) → resolved s pointer 0x30 ≡ Some b → P (model_of s (model_block b))) where
  model_in_lem : (o : Option (List ℕ)) → ((b : List ℕ) → o ≡ Some b → P (model_of s (model_block b))) → Each P (model_in s o)
  unfolding Each
  model_in_lem None g = tt
  model_in_lem (Some b) g = (g b refl, tt)

  pub each-model : (ps : List ℕ) → Each P (models_at s ps)
  unfolding Each models_at
  each-model [] = tt
  each-model (p ∷ ps) = each-join P (model_in s (resolved s p 0x30)) (models_at s ps) (model_in_lem (resolved s p 0x30) (f p)) (each-model ps)

-- ---- their geometries

module _ (s : Sections) (P : Geometry → Type 0)
    (f : (shader pointer : ℕ) (b : List ℕ) → resolved s pointer 0x98 ≡ Some b → P (geometry_of s shader (geometry_block b))) where
  geometry_in_lem : (shader : ℕ) (o : Option (List ℕ)) → ((b : List ℕ) → o ≡ Some b → P (geometry_of s shader (geometry_block b))) → Each P (geometry_in s shader o)
  unfolding Each
  geometry_in_lem shader None g = tt
  geometry_in_lem shader (Some b) g = (g b refl, tt)

  geometries-each : (shaders ps : List ℕ) → Each P (geometries_at s shaders ps)
  unfolding Each geometries_behind
  geometries-each shaders [] = tt
  geometries-each shaders (p ∷ ps) =
      each-join P (geometry_in s (first shaders) (resolved s p 0x98)) (geometries_at s (rest shaders) ps)
      (geometry_in_lem (first shaders) (resolved s p 0x98) (f (first shaders) p)) (geometries-each (rest shaders) ps)

  abbrev InModel : Model → Type 0
  InModel m = Each P m.geometries

  pub model-each : (b : ModelBlock) → InModel (model_of s b)
  unfolding model_of
  model-each b = geometries-each (mapping_of s b) (or_empty (list_at s 8 b.count b.geometries))

  pub models-each : (ps : List ℕ) → Each InModel (models_at s ps)
  models-each ps = each-model s InModel (λ pointer b e. model-each (model_block b)) ps
