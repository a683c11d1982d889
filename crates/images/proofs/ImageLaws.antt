-- The image of a sound hall, read and taken in: it gives that hall. So two states with the same image are one.
use Rattle.std.specs.Prelude.{Some}
use mathlib.Core.Path.{◌≡◌, refl, sym, ap, ◌∙◌}
use mathlib.Core.Bool.{Bool, true, false, cond}
use mathlib.Core.List.{List, [], ◌∷◌, ◌++◌, map}
use Prim.Native.Nat.{ℕ, ◌*◌, ◌≤◌}
use native.Mathlib.Omega.{arith}
use borrow.Author.Tests.{le-leb, leb-true}
use lib.Dec.{eqb, leb}
use lib.ListN.{length}
use Rattle.sections.specs.Address.{sections, within_limit, resolved}
use Rattle.sections.specs.Lists.{header_length}
use Rattle.sections.proofs.AddressLaws.{both_true}
use Rattle.sections.specs.declared.lists.PointerListHeader.{PointerListHeader}
use Rattle.vertices.specs.Runs.{run}
use Rattle.vertices.proofs.RunLaws.{length_run}
use Rattle.halls.specs.Calls.{taken_geometry, all_of, taken_model, taken}
use Rattle.halls.specs.Checks.{geometry_count, counts_within_limits, image_within_limit, verdict}
use Rattle.halls.specs.Every.{Each}
use Rattle.halls.specs.Hall.{FullGeometry, FullModel, Hall, HallInWidth, listed_geometry, listed_model}
use Rattle.halls.specs.ImageSize.{padded, model_size, image_size}
use Rattle.halls.specs.List as list
use Rattle.halls.specs.Reading.{read, need, list_at, read_models, read_header, read_list}
use Rattle.halls.specs.State.{State, StateInWidth, hall_of, state_of}
use Rattle.halls.specs.Verdict.{Sound}
use Rattle.halls.proofs.ReadingLaws.{read-injective}
use Rattle.halls.proofs.SoundLaws.{SoundHall, verdict-sound, SoundGeometry, SoundModel, sound_models}
use Rattle.halls.proofs.StateLaws.{sound-InWidth, state_of-hall}
use Rattle.images.specs.Image.{base, filled, pointer_to, laid, addresses, header_bytes, model_image, models_at, image}
use Rattle.images.proofs.BlockLaws.{header_length_lem, HeaderFits, header_read}
use Rattle.images.proofs.LengthLaws.{filled-length, addresses-length, model_image-length, image-length}
use Rattle.images.proofs.ModelLaws.{pointer-fits, laid-addresses, models-read}
use Rattle.images.proofs.PlacedLaws.{Placed, Placed-whole, Placed-left, Placed-right, system_only, Placed-resolved, Placed-list}

-- ---- read

same-both : (t : Bool) (n : ℕ) → cond t n n ≡ n
same-both true n = refl
same-both false n = refl

-- check 13
hall-counts : (h : Hall) → counts_within_limits h ≡ true → (length h ≤ 256) × (geometry_count h ≤ 16384)
unfolding counts_within_limits
hall-counts h e =
    let b = both_true (leb (length h) 256) (leb (geometry_count h) 16384) e in
    (leb-true (length h) 256 b.0, leb-true (geometry_count h) 16384 b.1)

-- check 19: an image is no longer than a section may be
pub image-short : (h : Hall) → verdict h ≡ Sound → length (image h) ≤ 67108864
unfolding image_within_limit
image-short h e = rw (image-length h) (leb-true (image_size h) 67108864 (verdict-sound h e).image)

pub image-read : (h : Hall) → HallInWidth h → verdict h ≡ Sound → read_list (sections (image h) []) base ≡ read (map listed_model h)
unfolding read_list image
image-read h w e =
    let f : SoundHall h = verdict-sound h e in
    let few = hall-counts h f.counts in
    let section : List ℕ = image h in
    let short : length section ≤ 67108864 = image-short h e in
    let n : ℕ = length h in
    let header : PointerListHeader = record { pointer = pointer_to n 16; count = n; capacity = n } in
    let addressed : List ℕ = addresses model_size (models_at h) h in
    let pointers : List ℕ = filled (run 8 addressed) in
    let models : List ℕ = laid model_size model_image (models_at h) h in
    let pointers-long : length pointers ≡ padded (n * 8) = simp (filled-length, length_run, addresses-length) in
    let whole : Placed section 0 (header_bytes header ++ (pointers ++ models)) = Placed-whole section in
    let behind-header : Placed section 16 (pointers ++ models) = Placed-right (header_bytes header) _ 16 (omega (arith, header_length_lem header)) whole in
    let behind-pointers : Placed section (models_at h) models = Placed-right pointers _ (models_at h) (omega arith) behind-header in
    let found : resolved (system_only section) base 16 ≡ Some (header_bytes header) = Placed-resolved section short 0 (header_bytes header) 16 (header_length_lem header) (Placed-left (header_bytes header) _ whole) in
    let fits : HeaderFits header = record { pointer = pointer-fits n 16 (omega arith); count = omega arith; capacity = omega arith } in
    let listed = Placed-list section short 16 8 addressed n (addresses-length model_size (models_at h) h) (laid-addresses model_size model_image model_image-length section short (models_at h) h behind-pointers) (Placed-left pointers _ behind-header) in
    let counted : read_header (system_only section) (Some (header_bytes header)) ≡ need 2 (list_at (system_only section) 8 (header_length header) (pointer_to n 16)) (read_models (system_only section) 0) =
    ap (λ (x : PointerListHeader). need 2 (list_at (system_only section) 8 (header_length x) x.pointer) (read_models (system_only section) 0)) (header_read header fits) in
    rw (found, counted, same-both (eqb n 0) n, listed) (models-read section short (models_at h) 0 h w (sound_models h f) behind-pointers (omega arith))

-- ---- taken in

geometries-taken : (gs : List FullGeometry) → Each SoundGeometry gs → all_of (λ (g : list.Geometry). taken_geometry g g.vertices g.indices) (map listed_geometry gs) ≡ Some gs
unfolding all_of Each
geometries-taken [] f = refl
geometries-taken (g ∷ gs) f = rw (geometries-taken gs f.1, ← f.0.layout)

model_taken_lem : (m : FullModel) → SoundModel m → taken_model (listed_model m) ≡ Some m
model_taken_lem m f = rw (geometries-taken m.geometries f.geometries, ← f.mapping)

models-taken : (h : Hall) → Each SoundModel h → all_of taken_model (map listed_model h) ≡ Some h
unfolding all_of Each
models-taken [] f = refl
models-taken (m ∷ ms) f = rw (model_taken_lem m f.0, models-taken ms f.1)

pub hall-taken : (h : Hall) → HallInWidth h → verdict h ≡ Sound → taken (sections (image h) []) base ≡ read h
unfolding taken within_limit
hall-taken h w e =
    rw (le-leb (length (image h)) 67108864 (image-short h e), image-read h w e, models-taken h (sound_models h (verdict-sound h e)))

pub image-taken : (s : State) → StateInWidth s → verdict (hall_of s) ≡ Sound → taken (sections (image (hall_of s)) []) base ≡ read (hall_of s)
image-taken s w e = hall-taken (hall_of s) (sound-InWidth s w e) e

-- ---- equal images

pub equal_images : (s t : State) → StateInWidth s → verdict (hall_of s) ≡ Sound → StateInWidth t → verdict (hall_of t) ≡ Sound → image (hall_of s) ≡ image (hall_of t) → s ≡ t
equal_images s t ws es wt et same =
    let halls : hall_of s ≡ hall_of t = read-injective (sym (image-taken s ws es) ∙ ap (λ (x : List ℕ). taken (sections x []) base) same ∙ image-taken t wt et) in
    sym (state_of-hall s) ∙ ap state_of halls ∙ state_of-hall t
