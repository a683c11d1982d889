-- A model's image at an offset of a section is read back from there, and so are models one behind the other.
use Rattle.std.specs.Prelude.{Some}
use mathlib.Core.Path.{◌≡◌, refl, ap, ◌∙◌}
use mathlib.Core.Bool.{true}
use mathlib.Core.List.{List, [], ◌∷◌, ◌++◌, map}
use Prim.Native.Nat.{ℕ, zero, suc, ◌+◌, ◌*◌, ◌^◌, ◌≤◌, ◌<◌}
use native.Mathlib.Omega.{arith}
use borrow.Author.Tests.{lt-ltb}
use lib.Dec.{lit<, ltb}
use lib.ListN.{length, get_or, length-map}
use Rattle.vertices.specs.Runs.{run}
use Rattle.vertices.proofs.RunLaws.{length_run}
use Rattle.halls.specs.Blocks.{ModelBlock, model_block}
use Rattle.halls.specs.Checks.{shader_ids, geometry_count}
use Rattle.halls.specs.Every.{sum_of, Each}
use Rattle.halls.specs.Hall.{FullGeometry, FullModel, Hall, FullGeometryInWidth, FullModelInWidth, HallInWidth, listed_geometry, listed_model}
use Rattle.halls.specs.ImageSize.{padded, geometry_size, model_size}
use Rattle.halls.specs.Reading.{read, list_at, mapping_of, read_geometries, read_model, read_models}
use Rattle.halls.proofs.EveryLaws.{each_below}
use Rattle.halls.proofs.SoundLaws.{SoundGeometry, SoundModel}
use Rattle.images.specs.Image.{base, filled, pointer_to, laid, addresses, geometry_block_bytes, geometry_block_of, geometry_image, model_block_bytes, pointers_at, mapping_at, geometries_at, model_block_of, model_image}
use Rattle.images.proofs.BlockLaws.{geometry_block-length, model_block-length, ModelBlockFits, model_block-read}
use Rattle.images.proofs.GeometryLaws.{GeometryPlaced, GeometryPlaced_lem, geometry-read}
use Rattle.images.proofs.LengthLaws.{filled-length, laid-length, addresses-length, addresses-fit, geometry_image-length, model_image-length}
use Rattle.images.proofs.PlacedLaws.{Placed, Placed-left, Placed-right, placed_end, system_only, Placed-resolved, NotZero_lem, Placed-list}

-- a pointer into a section fits eight bytes
pub pointer-fits : (n at : ℕ) → at ≤ 67108864 → pointer_to n at < 256 ^ 8
pointer-fits zero at h = lit< tt
pointer-fits (suc n) at h = omega arith

-- ---- items one behind the other

module _ {A : Type 0} (size : A → ℕ) (image : ℕ → A → List ℕ) {section : List ℕ} (at : ℕ) (x : A) (xs : List A) (p : Placed section at (laid size image at (x ∷ xs))) where
  pub laid-first : Placed section at (image at x)
  unfolding laid
  laid-first = Placed-left (image at x) _ p

  pub laid-others : length (image at x) ≡ size x → Placed section (at + size x) (laid size image (at + size x) xs)
  unfolding laid
  laid-others long = Placed-right (image at x) _ (at + size x) (ap (λ (n : ℕ). at + n) long) p

-- their addresses fit eight bytes
pub laid-addresses : {A : Type 0} (size : A → ℕ) (image : ℕ → A → List ℕ) → ((at : ℕ) (x : A) → length (image at x) ≡ size x) → (section : List ℕ) → length section ≤ 67108864
    → (at : ℕ) (xs : List A) → Placed section at (laid size image at xs) → (i : ℕ) → get_or (addresses size at xs) i 0 < 256 ^ 8
laid-addresses size image long section short at xs p =
    let total : length (laid size image at xs) ≡ sum_of size xs = laid-length size image long at xs in
    each_below (256 ^ 8) (lit< tt) (addresses size at xs) (addresses-fit size at xs (omega (arith, placed_end (laid size image at xs) p)))

-- ---- where a model's parts stand

pub record ModelPlaced (section : List ℕ) (at : ℕ) (m : FullModel) : Type 0 where
  pub block : Placed section at (model_block_bytes (model_block_of at m))
  pub pointers : Placed section (pointers_at at) (filled (run 8 (addresses geometry_size (geometries_at at m) m.geometries)))
  pub mapping : Placed section (mapping_at at m) (filled (run 2 m.mapping))
  pub geometries : Placed section (geometries_at at m) (laid geometry_size geometry_image (geometries_at at m) m.geometries)

pub ModelPlaced_lem : (section : List ℕ) (at : ℕ) (m : FullModel) → Placed section at (model_image at m) → ModelPlaced section at m
unfolding model_image
ModelPlaced_lem section at m p =
    let block : List ℕ = model_block_bytes (model_block_of at m) in
    let pointers : List ℕ = filled (run 8 (addresses geometry_size (geometries_at at m) m.geometries)) in
    let mapping : List ℕ = filled (run 2 m.mapping) in
    let geometries : List ℕ = laid geometry_size geometry_image (geometries_at at m) m.geometries in
    let pointers-long : length pointers ≡ padded (length m.geometries * 8) = simp (filled-length, length_run, addresses-length) in
    let mapping-long : length mapping ≡ padded (length m.mapping * 2) = simp (filled-length, length_run) in
    let behind-block : Placed section (pointers_at at) (pointers ++ (mapping ++ geometries)) = Placed-right block _ (pointers_at at) (omega (arith, model_block-length (model_block_of at m))) p in
    let behind-pointers : Placed section (mapping_at at m) (mapping ++ geometries) = Placed-right pointers _ (mapping_at at m) (omega arith) behind-block in
    record {
      block = Placed-left block _ p;
      pointers = Placed-left pointers _ behind-block;
      mapping = Placed-left mapping _ behind-pointers;
      geometries = Placed-right mapping _ (geometries_at at m) (omega arith) behind-pointers;
    }

module _ (section : List ℕ) (short : length section ≤ 67108864) where
  -- ---- a model's geometries

  pub geometries-read : (at before : ℕ) (gs : List FullGeometry) → Each FullGeometryInWidth gs → Each SoundGeometry gs → Placed section at (laid geometry_size geometry_image at gs)
      → before + length gs ≤ 16384 → read_geometries (system_only section) before (shader_ids gs) (addresses geometry_size at gs) ≡ read (map listed_geometry gs)
  unfolding read_geometries addresses Each
  geometries-read at before [] w f p h = refl
  geometries-read at before (g ∷ gs) w f p h =
      let q : GeometryPlaced section at g = GeometryPlaced_lem section at g (laid-first geometry_size geometry_image at g gs p) in
      let few : ltb before 16384 ≡ true = lt-ltb before 16384 (omega arith) in
      let block = Placed-resolved section short at (geometry_block_bytes (geometry_block_of at g)) 0x98 (geometry_block-length (geometry_block_of at g)) q.block in
      let others = laid-others geometry_size geometry_image at g gs p (geometry_image-length at g) in
      rw (NotZero_lem (base + at) (omega arith), few, block, geometries-read (at + geometry_size g) (suc before) gs w.1 f.1 others (omega arith), geometry-read section short at g q w.0 f.0)

  -- ---- a model

  module _ (at : ℕ) (m : FullModel) (p : ModelPlaced section at m) (w : FullModelInWidth m) (f : SoundModel m) where
    mapping-long : length m.mapping ≡ length m.geometries
    mapping-long = ap length f.mapping ∙ length-map m.geometries (λ (g : FullGeometry). g.shader)

    ModelBlockFits_lem : length m.geometries ≤ 16384 → ModelBlockFits (model_block_of at m)
    unfolding model_block_of
    ModelBlockFits_lem h =
        let e = placed_end (laid geometry_size geometry_image (geometries_at at m) m.geometries) p.geometries in
        record {
          geometries = pointer-fits (length m.geometries) (pointers_at at) (omega arith);
          count = omega arith;
          mapping = pointer-fits (length m.mapping) (mapping_at at m) (omega arith);
          binding = w.binding;
          mask = w.mask;
        }

    pointers-read : list_at (system_only section) 8 (length m.geometries) (pointer_to (length m.geometries) (pointers_at at)) ≡ Some (addresses geometry_size (geometries_at at m) m.geometries)
    pointers-read = Placed-list section short (pointers_at at) 8 (addresses geometry_size (geometries_at at m) m.geometries) (length m.geometries)
        (addresses-length geometry_size (geometries_at at m) m.geometries)
        (laid-addresses geometry_size geometry_image geometry_image-length section short (geometries_at at m) m.geometries p.geometries) p.pointers

    mapping-read : mapping_of (system_only section) (model_block_of at m) ≡ m.mapping
    unfolding mapping_of model_block_of
    mapping-read =
        rw (mapping-long, Placed-list section short (mapping_at at m) 2 m.mapping (length m.geometries) mapping-long (each_below (2 ^ 16) (lit< tt) m.mapping w.entries) p.mapping)

    pub model-read : (before : ℕ) → before + length m.geometries ≤ 16384 → read_model (system_only section) before (model_block (model_block_bytes (model_block_of at m))) ≡ read (listed_model m)
    unfolding read_model model_block_of
    model-read before h =
        let b : ModelBlock = model_block_of at m in
        let pointers : List ℕ = addresses geometry_size (geometries_at at m) m.geometries in
        let gs : read_geometries (system_only section) before m.mapping pointers ≡ read (map listed_geometry m.geometries) =
        ap (λ (l : List ℕ). read_geometries (system_only section) before l pointers) f.mapping ∙ geometries-read (geometries_at at m) before m.geometries w.geometries f.geometries p.geometries h in
        rw (model_block-read b (ModelBlockFits_lem (omega arith)), mapping-read, pointers-read, gs)

  -- ---- the models

  pub models-read : (at before : ℕ) (h : Hall) → HallInWidth h → Each SoundModel h → Placed section at (laid model_size model_image at h) → before + geometry_count h ≤ 16384
      → read_models (system_only section) before (addresses model_size at h) ≡ read (map listed_model h)
  unfolding read_models addresses Each geometry_count sum_of
  models-read at before [] w f p k = refl
  models-read at before (m ∷ ms) w f p k =
      let q : ModelPlaced section at m = ModelPlaced_lem section at m (laid-first model_size model_image at m ms p) in
      let block = Placed-resolved section short at (model_block_bytes (model_block_of at m)) 0x30 (model_block-length (model_block_of at m)) q.block in
      let others = laid-others model_size model_image at m ms p (model_image-length at m) in
      let few : before + length m.geometries + geometry_count ms ≤ 16384 = omega arith in
      rw (NotZero_lem (base + at) (omega arith), block, model-read at m q w.0 f.0 before (omega arith), length-map m.geometries listed_geometry, models-read (at + model_size m) (before + length m.geometries) ms w.1 f.1 others few)
