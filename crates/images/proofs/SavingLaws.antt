-- Save, case by case; and the image written part by part.
use mathlib.Core.Path.{◌≡◌, refl, sym, ap, ◌∙◌}
use mathlib.Core.List.{List, ◌++◌}
use Prim.Native.Nat.{ℕ, ◌+◌, ◌*◌, ◌≤◌, ◌<◌}
use native.Mathlib.Omega.{arith}
use borrow.Author.Tests.{le-leb, lt-leb}
use lib.ListN.{length, take}
use Rattle.sections.specs.Edit.{overwrite}
use Rattle.vertices.specs.Runs.{run}
use Rattle.halls.specs.Checks.{geometry_count, hall_verdict}
use Rattle.halls.specs.Hall.{Hall}
use Rattle.halls.specs.HallSize.{size_by, hall_size}
use Rattle.halls.specs.ImageSize.{padded, model_size, image_size}
use Rattle.halls.specs.Parsing.{models_in}
use Rattle.halls.specs.Records.{records}
use Rattle.std.specs.Prelude.{Result, Ok, Err}
use Rattle.halls.specs.declared.answer.Refusal.{Refusal}
use Rattle.halls.specs.declared.check.check.HallSize.{HallSize}
use Rattle.halls.specs.Verdict.{Verdict}
use Rattle.halls.specs.Verdict.{Sound, Fails}
use Rattle.images.specs.Fronts.{models_from, models_size, models_length, model_length, front_model, image_limit, hall_of_list, model_count, SoundList, SavedList, with_items}
use Rattle.images.specs.Image.{header_bytes, pointer_to, filled, addresses, laid, model_image, image}
use Rattle.images.specs.Saving.{saved, Saved}
use Rattle.images.proofs.BlockLaws.{header_length_lem}
use Rattle.images.proofs.LengthLaws.{filled-length, image-length}
use Rattle.images.proofs.PartLaws.{writing_start, Writing-turn, Writing-last}
use Rattle.images.proofs.SizeLaws.{pointers-length}
use Rattle.images.proofs.WalkLaws.{items_count}

-- ---- the image

module _ (s : List ℕ) (sound : SoundList s) (models : ℕ) (q : models ≡ model_count s) where
  hall-is : models_from models s ≡ hall_of_list s
  hall-is = rw q sound.models_are

  size_is : image_size (hall_of_list s) ≡ 16 + padded (8 * models) + models_size models s
  unfolding image_size
  size_is = rw (hall-is, q) (omega arith)

  pub models-within : models_length models s ≤ length s
  models-within = rw q (omega (arith, sound.lengths))

  pub few-geometries : geometry_count (models_from models s) ≤ 16384
  few-geometries = rw hall-is sound.few-geometries

  pub image-low : 16 + padded (8 * models) + models_size models s ≤ image_limit
  image-low = omega (arith, size_is, sound.low)

  image-parts : (x p : ℕ) → x ≡ padded (8 * models) → p ≡ pointer_to models 16
      → image (hall_of_list s)
      ≡ header_bytes (record { pointer = p; count = models; capacity = models })
      ++ (filled (run 8 (addresses model_size (16 + x) (models_from models s))) ++ laid model_size model_image (16 + x) (models_from models s))
  unfolding image
  image-parts x p a e = rw (e, a, hall-is, q)

  module _ (out : List ℕ) (fits : image_size (hall_of_list s) ≤ length out) where
    pub image-fits : 16 + padded (8 * models) + models_size models s ≤ length out
    image-fits = omega (arith, size_is)

    pub image-written : (x p : ℕ) → x ≡ padded (8 * models) → p ≡ pointer_to models 16 → {t u : List ℕ}
        → t ≡ overwrite out 0 (header_bytes (record { pointer = p; count = models; capacity = models }))
        → u ≡ with_items model_size model_image t 16 (16 + x) (models_from models s)
        → u ≡ overwrite out 0 (image (hall_of_list s))
    image-written x p a e e1 e2 =
        let header : List ℕ = header_bytes (record { pointer = p; count = models; capacity = models }) in
        let pointers : List ℕ = filled (run 8 (addresses model_size (16 + x) (models_from models s))) in
        let last : List ℕ = laid model_size model_image (16 + x) (models_from models s) in
        let all : image (hall_of_list s) ≡ header ++ (pointers ++ last) = image-parts x p a e in
        let long : length (header ++ (pointers ++ last)) ≡ image_size (hall_of_list s) = ap length (sym all) ∙ image-length (hall_of_list s) in
        let pointers-long : length pointers ≡ x = filled-length (run 8 (addresses model_size (16 + x) (models_from models s))) ∙ rw (pointers-length model_size (16 + x) (models_from models s), items_count front_model model_length models s) (sym a) in
        let w1 = Writing-turn (writing_start out 0 (header ++ (pointers ++ last)) (omega arith)) header (pointers ++ last) 16 refl (header_length_lem (record { pointer = p; count = models; capacity = models })) e1 in
        let w2 = Writing-turn w1 pointers last x refl pointers-long refl in
        Writing-last w2 e2 ∙ ap (overwrite out 0) (sym all)

-- ---- the answer

module _ (h : Hall) (d : List ℕ) (size : ℕ) (q : size ≡ image_size h) where
  long : length (image h) ≡ size
  long = image-length h ∙ sym q

  -- check 20
  pub saved-short : length d < size → SavedList h d (Err (record { check = 20; needed = size })) d
  saved-short short = record { answer = rw (long, lt-leb size (length d) short); bytes = rw (long, lt-leb size (length d) short) }

  pub saved-done : size ≤ length d → {t : List ℕ} → t ≡ overwrite d 0 (image h) → SavedList h d (Ok size) t
  saved-done fit e = record { answer = rw (long, le-leb size (length d) fit) (ap {B = (Result ℕ Refusal)} Ok (sym long)); bytes = rw (long, le-leb size (length d) fit) e }

-- what the check tells of a sound hall, and of another list
size_or : HallSize → Result HallSize Refusal → HallSize
size_or default (Ok size) = size
size_or default (Err e) = default

refusal_or : Refusal → Result HallSize Refusal → Refusal
refusal_or default (Ok size) = default
refusal_or default (Err e) = e

sized-by : (v : Verdict) (h : Hall) (size : HallSize) → Ok size ≡ size_by v h → (v ≡ Sound) × (size.models ≡ length h) × (size.bytes ≡ image_size h)
unfolding size_or
sized-by Sound h size e = let same = ap (size_or size) e in (refl, ap (λ (x : HallSize). x.models) same, ap (λ (x : HallSize). x.bytes) same)
sized-by (Fails check) h size e = let z : ◌≡◌ {A = ℕ} 0 1 = cc in absurd (omega arith)

unsound_by : (v : Verdict) (h : Hall) (e : Refusal) → Err e ≡ size_by v h → (v ≡ Fails e.check) × (e ≡ record { check = e.check; needed = 0 })
unfolding refusal_or
unsound_by Sound h e q = let z : ◌≡◌ {A = ℕ} 0 1 = cc in absurd (omega arith)
unsound_by (Fails i) h e q =
    let same = ap (refusal_or e) q in
    let check : e.check ≡ i = ap (λ (x : Refusal). x.check) same in
    (ap Fails (sym check), same ∙ ap (λ (k : ℕ). record { check = k; needed = 0 }) (sym check))

pub sized-is : (b : List ℕ) (n : ℕ) (size : HallSize) → Ok size ≡ hall_size b n
    → (hall_verdict b n ≡ Sound) × (size.models ≡ model_count (take n b)) × (size.bytes ≡ image_size (hall_of_list (take n b)))
unfolding hall_size
sized-is b n size e = sized-by (hall_verdict b n) (hall_of_list (take n b)) size e

pub unsound_is : (b : List ℕ) (n : ℕ) (e : Refusal) → Err e ≡ hall_size b n → (hall_verdict b n ≡ Fails e.check) × (e ≡ record { check = e.check; needed = 0 })
unfolding hall_size
unsound_is b n e q = unsound_by (hall_verdict b n) (hall_of_list (take n b)) e q

module _ (b : List ℕ) (n : ℕ) (d : List ℕ) where
  -- the checks of a hall
  pub saved-fails : (check : ℕ) → hall_verdict b n ≡ Fails check → Saved b n d (Err (record { check = check; needed = 0 })) d
  unfolding saved
  saved-fails check e = record { answer = rw e; bytes = rw e }

  pub saved-sound : {r : Result ℕ Refusal} {t : List ℕ} → hall_verdict b n ≡ Sound → SavedList (models_in (records (take n b))) d r t → Saved b n d r t
  unfolding saved
  saved-sound e w = record { answer = rw e w.answer; bytes = rw e w.bytes }
