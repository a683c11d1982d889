-- How long the parts of an image and the whole are.
use mathlib.Core.Path.{◌≡◌, refl, ap}
use mathlib.Core.List.{List, [], ◌∷◌}
use Prim.Native.Nat.{ℕ, suc, ◌+◌, ◌^◌, ◌≤◌, ◌<◌}
use native.Mathlib.Omega.{arith}
use lib.ListN.{length, length-append, length-replicate}
use Rattle.vertices.proofs.DeclarationLaws.{declaration_length_lem}
use Rattle.vertices.proofs.RunLaws.{length_run}
use Rattle.halls.specs.Every.{sum_of, Each}
use Rattle.halls.specs.Hall.{FullGeometry, FullModel, Hall}
use Rattle.halls.specs.ImageSize.{padded, geometry_size, model_size, image_size}
use Rattle.images.specs.Image.{filled, laid, addresses, geometry_image, model_image, image}
use Rattle.images.proofs.BlockLaws.{header_length_lem, model_block-length, geometry_block-length, VertexBlock-length, index_block-length}

pub filled-length : (part : List ℕ) → length (filled part) ≡ padded (length part)
unfolding filled
filled-length part = simp (length-append, length-replicate) (omega arith)

-- ---- items one behind the other, and their addresses

module _ {A : Type 0} (size : A → ℕ) where
  pub laid-length : (image : ℕ → A → List ℕ) → ((at : ℕ) (x : A) → length (image at x) ≡ size x) → (at : ℕ) (xs : List A) → length (laid size image at xs) ≡ sum_of size xs
  unfolding laid sum_of
  laid-length image long at [] = refl
  laid-length image long at (x ∷ xs) = rw (length-append, long at x, laid-length image long (at + size x) xs)

  pub addresses-length : (at : ℕ) (xs : List A) → length (addresses size at xs) ≡ length xs
  unfolding addresses
  addresses-length at [] = refl
  addresses-length at (x ∷ xs) = ap suc (addresses-length (at + size x) xs)

  -- in an image as long as a section may be they fit eight bytes
  pub addresses-fit : (at : ℕ) (xs : List A) → at + sum_of size xs ≤ 67108864 → Each (λ (address : ℕ). address < 256 ^ 8) (addresses size at xs)
  unfolding addresses sum_of Each
  addresses-fit at [] h = tt
  addresses-fit at (x ∷ xs) h = (omega arith, addresses-fit (at + size x) xs (omega arith))

-- ---- geometries, models and the whole

pub geometry_image-length : (at : ℕ) (g : FullGeometry) → length (geometry_image at g) ≡ geometry_size g
unfolding geometry_image geometry_size
geometry_image-length at g =
    simp (length-append, filled-length, geometry_block-length, VertexBlock-length, declaration_length_lem, index_block-length, length_run) (omega arith)

pub model_image-length : (at : ℕ) (m : FullModel) → length (model_image at m) ≡ model_size m
unfolding model_image model_size
model_image-length at m =
    simp (length-append, filled-length, model_block-length, length_run, addresses-length, laid-length geometry_size geometry_image geometry_image-length) (omega arith)

pub image-length : (h : Hall) → length (image h) ≡ image_size h
unfolding image image_size
image-length h =
    simp (length-append, filled-length, header_length_lem, length_run, addresses-length, laid-length model_size model_image model_image-length) (omega arith)
