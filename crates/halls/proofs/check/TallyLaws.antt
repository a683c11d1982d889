-- What a walk adds up is what the verdict asks: the first check that fails anywhere, as the lowest rank, the counts, and the image's size.
use mathlib.Core.Path.{◌≡◌, refl, sym, ap, ◌∙◌}
use mathlib.Core.Bool.{Bool, true, false, cond, ◌&&◌, and-true}
use mathlib.Core.List.{List, [], ◌∷◌}
use Prim.{Unit}
use Prim.Native.Nat.{ℕ, suc, ◌+◌, ◌*◌, ◌-◌, ◌/◌, ◌≤◌, ◌<◌, min}
use native.Mathlib.Omega.{arith}
use borrow.Author.Tests.{ne_eqb, eqb-true, lt-leb}
use lib.Dec.{eqb}
use lib.ListN.{length, drop, length-drop}
use Rattle.sections.proofs.AddressLaws.{both_true}
use Rattle.vertices.specs.Runs.{numbers}
use Rattle.vertices.proofs.RunLaws.{numbers-length}
use Rattle.halls.specs.Every.{every, sum_of}
use Rattle.halls.specs.Checks.{vertex_bytes_exact, same_numbers, shader_ids, mapping_matches, geometry_count, counts_within_limits, strides_agree, components_inside, vertex_counts_agree, index_counts_agree, indices_in_range, triangles_distinct, image_within_limit, require, every_geometry, verdict}
use Rattle.halls.specs.Hall.{FullGeometry, FullModel, Hall}
use Rattle.halls.specs.ImageSize.{padded, geometry_size, model_size}
use Rattle.halls.specs.Inner.Judging.{lowest_of}
use Rattle.halls.specs.Inner.Order.{passed, too_large, failing, check_of, verdict_of}
use Rattle.halls.specs.Parsing.{mapping_count, model_in, geometries_in, models_in, geometry_in, body_at}
use Rattle.halls.specs.Records.{Record}
use Rattle.halls.specs.Triangles.{held_count}
use Rattle.halls.specs.Inner.Walk.{leads, rest, is_empty, lowest_from, kind_count, model_units, geometry_units, units_from, geometry_of}
use Rattle.halls.proofs.SoundLaws.{same_numbers_lem}
use Rattle.halls.specs.Verdict.{Verdict}
use Rattle.halls.specs.Verdict.{Sound}

-- ---- the lowest of some checks

-- the first number whose test fails
abbrev lowest_failing : List ℕ → List Bool → ℕ
lowest_failing [] bs = passed
lowest_failing (n ∷ ns) [] = passed
lowest_failing (n ∷ ns) (b ∷ bs) = cond b (lowest_failing ns bs) n

abbrev Rising : ℕ → List ℕ → Type 0
Rising low [] = low ≤ passed
Rising low (n ∷ ns) = (low ≤ n) × Rising n ns

abbrev both_pass : List Bool → List Bool → List Bool
both_pass [] cs = []
both_pass (b ∷ bs) [] = []
both_pass (b ∷ bs) (c ∷ cs) = (b && c) ∷ both_pass bs cs

Rising-passed : (low : ℕ) (ns : List ℕ) → Rising low ns → low ≤ passed
Rising-passed low [] r = r
Rising-passed low (n ∷ ns) r = omega (arith, r.0, Rising-passed n ns r.1)

failing-above : (low : ℕ) (ns : List ℕ) (bs : List Bool) → Rising low ns → low ≤ lowest_failing ns bs
failing-above low [] bs r = r
failing-above low (n ∷ ns) [] r = Rising-passed low (n ∷ ns) r
failing-above low (n ∷ ns) (true ∷ bs) r = omega (arith, r.0, failing-above n ns bs r.1)
failing-above low (n ∷ ns) (false ∷ bs) r = r.0

-- the lower of two is that of both tests together
lowest-both : (low : ℕ) (ns : List ℕ) (bs cs : List Bool) → length bs ≡ length ns → length cs ≡ length ns → Rising low ns
    → min (lowest_failing ns bs) (lowest_failing ns cs) ≡ lowest_failing ns (both_pass bs cs)
lowest-both low [] bs cs e f r = refl
lowest-both low (n ∷ ns) [] cs e f r = absurd (omega arith)
lowest-both low (n ∷ ns) (b ∷ bs) [] e f r = absurd (omega arith)
lowest-both low (n ∷ ns) (true ∷ bs) (true ∷ cs) e f r = lowest-both n ns bs cs (omega arith) (omega arith) r.1
lowest-both low (n ∷ ns) (true ∷ bs) (false ∷ cs) e f r = omega (arith, failing-above n ns bs r.1)
lowest-both low (n ∷ ns) (false ∷ bs) (true ∷ cs) e f r = omega (arith, failing-above n ns cs r.1)
lowest-both low (n ∷ ns) (false ∷ bs) (false ∷ cs) e f r = omega arith

-- ---- checks 12 to 19

abbrev checks : List ℕ
checks = 12 ∷ 13 ∷ 14 ∷ 15 ∷ 16 ∷ 17 ∷ 18 ∷ 27 ∷ too_large ∷ []

rising : Rising 12 checks
rising = omega arith

abbrev lowest_among : Bool → Bool → Bool → Bool → Bool → Bool → Bool → Bool → Bool → ℕ
lowest_among a b c d e f g i h = lowest_failing checks (a ∷ b ∷ c ∷ d ∷ e ∷ f ∷ g ∷ i ∷ h ∷ [])

together : (a b c d e f g i h a' b' c' d' e' f' g' i' h' : Bool)
    → min (lowest_among a b c d e f g i h) (lowest_among a' b' c' d' e' f' g' i' h') ≡ lowest_among (a && a') (b && b') (c && c') (d && d') (e && e') (f && f') (g && g') (i && i') (h && h')
together a b c d e f g i h a' b' c' d' e' f' g' i' h' =
    lowest-both 12 checks (a ∷ b ∷ c ∷ d ∷ e ∷ f ∷ g ∷ i ∷ h ∷ []) (a' ∷ b' ∷ c' ∷ d' ∷ e' ∷ f' ∷ g' ∷ i' ∷ h' ∷ []) refl refl rising

-- of all geometries
unfoldable pub lowest_of_all : List FullGeometry → ℕ
lowest_of_all [] = passed
lowest_of_all (g ∷ gs) = min (lowest_of g) (lowest_of_all gs)

all-geometries : (gs : List FullGeometry)
    → lowest_of_all gs ≡ lowest_among true true (every strides_agree gs) (every components_inside gs) (every vertex_counts_agree gs) (every index_counts_agree gs) (every indices_in_range gs) (every triangles_distinct gs) true
unfolding lowest_of_all lowest_of every
all-geometries [] = refl
all-geometries (g ∷ gs) =
    ap (min (lowest_of g)) (all-geometries gs)
    ∙ together true true (strides_agree g) (components_inside g) (vertex_counts_agree g) (index_counts_agree g) (indices_in_range g) (triangles_distinct g) true
    true true (every strides_agree gs) (every components_inside gs) (every vertex_counts_agree gs) (every index_counts_agree gs) (every indices_in_range gs) (every triangles_distinct gs) true

-- of all models
unfoldable pub lowest_of_models : Hall → ℕ
lowest_of_models [] = passed
lowest_of_models (m ∷ ms) = min (failing 12 (mapping_matches m)) (min (lowest_of_all m.geometries) (lowest_of_models ms))

abbrev models_lowest : Hall → ℕ
models_lowest h =
    lowest_among (every mapping_matches h) true (every_geometry strides_agree h) (every_geometry components_inside h) (every_geometry vertex_counts_agree h) (every_geometry index_counts_agree h) (every_geometry indices_in_range h) (every_geometry triangles_distinct h) true

all_models : (h : Hall) → lowest_of_models h ≡ models_lowest h
unfolding lowest_of_models every
all_models [] = refl
all_models (m ∷ ms) =
    let gs : List FullGeometry = m.geometries in
    rw (all-geometries gs, all_models ms)
    (ap (min (failing 12 (mapping_matches m))) (together true true (every strides_agree gs) (every components_inside gs) (every vertex_counts_agree gs) (every index_counts_agree gs) (every indices_in_range gs) (every triangles_distinct gs) true
    (every mapping_matches ms) true (every_geometry strides_agree ms) (every_geometry components_inside ms) (every_geometry vertex_counts_agree ms) (every_geometry index_counts_agree ms) (every_geometry indices_in_range ms) (every_geometry triangles_distinct ms) true)
    ∙ together (mapping_matches m) true true true true true true true true
    (every mapping_matches ms) true (every strides_agree gs && every_geometry strides_agree ms) (every components_inside gs && every_geometry components_inside ms) (every vertex_counts_agree gs && every_geometry vertex_counts_agree ms) (every index_counts_agree gs && every_geometry index_counts_agree ms) (every indices_in_range gs && every_geometry indices_in_range ms) (every triangles_distinct gs && every_geometry triangles_distinct ms) true)

-- check 12 is the lowest of them
pub mapping-lowest : (h : Hall) → every mapping_matches h ≡ false → lowest_of_models h ≡ 12
mapping-lowest h e = all_models h ∙ rw e

-- ---- the verdict

abbrev require_all : List ℕ → List Bool → Verdict
require_all [] bs = Sound
require_all (n ∷ ns) [] = Sound
require_all (n ∷ ns) (b ∷ bs) = require (check_of n) b (require_all ns bs)

abbrev Low : List ℕ → Type 0
Low [] = Unit {0}
Low (n ∷ ns) = (n < passed) × Low ns

all-required : (ns : List ℕ) (bs : List Bool) → Low ns → verdict_of (lowest_failing ns bs) ≡ require_all ns bs
all-required [] bs l = refl
all-required (n ∷ ns) [] l = refl
all-required (n ∷ ns) (true ∷ bs) l = all-required ns bs l.1
all-required (n ∷ ns) (false ∷ bs) l = rw (lt-leb passed n l.0)

low : Low checks
low = (omega arith, (omega arith, (omega arith, (omega arith, (omega arith, (omega arith, (omega arith, (omega arith, (omega arith, tt)))))))))

module _ (h : Hall) where
  abbrev among : Bool → Bool → Bool → Bool → Bool → Bool → Bool → ℕ
  among a c d e f g i = lowest_among a (counts_within_limits h) c d e f g i (image_within_limit h)

  -- checks 12, 14 to 18 and 27 by models, 13 and 19 of the whole
  lowest-all : min (models_lowest h) (cond (counts_within_limits h) (failing too_large (image_within_limit h)) 13)
      ≡ among (every mapping_matches h) (every_geometry strides_agree h) (every_geometry components_inside h) (every_geometry vertex_counts_agree h) (every_geometry index_counts_agree h) (every_geometry indices_in_range h) (every_geometry triangles_distinct h)
  lowest-all =
      together (every mapping_matches h) true (every_geometry strides_agree h) (every_geometry components_inside h) (every_geometry vertex_counts_agree h) (every_geometry index_counts_agree h) (every_geometry indices_in_range h) (every_geometry triangles_distinct h) true
      true (counts_within_limits h) true true true true true true (image_within_limit h)
      ∙ rw (and-true (every mapping_matches h), and-true (every_geometry strides_agree h), and-true (every_geometry components_inside h), and-true (every_geometry vertex_counts_agree h), and-true (every_geometry index_counts_agree h), and-true (every_geometry indices_in_range h), and-true (every_geometry triangles_distinct h))

  pub verdict-lowest : every_geometry vertex_bytes_exact h ≡ true → verdict_of (min (lowest_of_models h) (cond (counts_within_limits h) (failing too_large (image_within_limit h)) 13)) ≡ verdict h
  unfolding verdict
  verdict-lowest e =
      rw (all_models h, lowest-all, e)
      (all-required checks (every mapping_matches h ∷ counts_within_limits h ∷ every_geometry strides_agree h ∷ every_geometry components_inside h ∷ every_geometry vertex_counts_agree h ∷ every_geometry index_counts_agree h ∷ every_geometry indices_in_range h ∷ every_geometry triangles_distinct h ∷ image_within_limit h ∷ []) low)

-- ---- what the records behind come to

failing-bound : (b : Bool) → failing 12 b ≤ passed
failing-bound true = omega arith
failing-bound false = omega arith

-- check 12, number by number
same_none : (left : List ℕ) → same_numbers left [] ≡ is_empty left
unfolding same_numbers
same_none [] = refl
same_none (x ∷ left) = refl

same_next : (left : List ℕ) (x : ℕ) (xs : List ℕ) → failing 12 (same_numbers left (x ∷ xs)) ≡ min (failing 12 (leads x left)) (failing 12 (same_numbers (rest left) xs))
unfolding same_numbers
same_next [] x xs = omega (arith, twelve (same_numbers [] xs))
  where
    twelve : (b : Bool) → 12 ≤ failing 12 b
    twelve true = omega arith
    twelve false = omega arith
same_next (y ∷ left) x xs = on (eqb y x) (same_numbers left xs)
  where
    on : (a b : Bool) → failing 12 (a && b) ≡ min (failing 12 a) (failing 12 b)
    on true true = refl
    on true false = refl
    on false true = refl
    on false false = refl

-- the lower of five, in another order
regrouped : (a b c d e : ℕ) → min (min a b) (min c (min d e)) ≡ min (min a c) (min (min b d) e)
regrouped a b c d e = swapped a b c (min d e) ∙ ap (min (min a c)) (joined b d e)
  where
    swapped : (a b c y : ℕ) → min (min a b) (min c y) ≡ min (min a c) (min b y)
    swapped a b c y = omega arith

    joined : (b d e : ℕ) → min b (min d e) ≡ min (min b d) e
    joined b d e = omega arith

abbrev lowest_parts : List ℕ → List FullGeometry → Hall → ℕ
lowest_parts left gs ms = min (failing 12 (same_numbers left (shader_ids gs))) (min (lowest_of_all gs) (lowest_of_models ms))

pub lowest_from_lem : (left : List ℕ) (rs : List Record) → lowest_from left rs ≡ lowest_parts left (geometries_in rs) (models_in rs)
unfolding lowest_from geometries_in models_in lowest_of_all lowest_of_models mapping_matches
lowest_from_lem left [] = rw (same_none left) (omega (arith, failing-bound (is_empty left)))
lowest_from_lem left (r ∷ rs) = on (eqb r.kind 1) (eqb r.kind 2) refl refl (λ l. lowest_from_lem l rs)
  where
    mapping : List ℕ
    mapping = numbers 2 (mapping_count r.body) (drop 6 r.body)

    on : (t u : Bool) → eqb r.kind 1 ≡ t → eqb r.kind 2 ≡ u → ((l : List ℕ) → lowest_from l rs ≡ lowest_parts l (geometries_in rs) (models_in rs))
        → lowest_from left (r ∷ rs) ≡ lowest_parts left (geometries_in (r ∷ rs)) (models_in (r ∷ rs))
    on true u h k ih = rw (h, same_none left, ih mapping) (omega (arith, failing-bound (same_numbers mapping (shader_ids (geometries_in rs)))))
    on false true h k ih = rw (h, k, ih (rest left), same_next left (geometry_of r rs).shader (shader_ids (geometries_in rs)))
        (regrouped (failing 12 (leads (geometry_of r rs).shader left)) (lowest_of (geometry_of r rs)) (failing 12 (same_numbers (rest left) (shader_ids (geometries_in rs)))) (lowest_of_all (geometries_in rs)) (lowest_of_models (models_in rs)))
    on false false h k ih = rw (h, k) (ih left)

-- ---- counts

pub count_models : (rs : List Record) → kind_count 1 rs ≡ length (models_in rs)
unfolding kind_count models_in
count_models [] = refl
count_models (r ∷ rs) = on (eqb r.kind 1) refl (count_models rs)
  where
    on : (t : Bool) → eqb r.kind 1 ≡ t → kind_count 1 rs ≡ length (models_in rs) → kind_count 1 (r ∷ rs) ≡ length (models_in (r ∷ rs))
    on true h ih = rw h (omega arith)
    on false h ih = rw h (omega arith)

-- a record of one kind is of no other
other-kind : (k m n : ℕ) → (m ≡ n → ⊥) → eqb k m ≡ true → eqb k n ≡ false
other-kind k m n f e = ne_eqb k n (λ h. f (sym (eqb-true k m e) ∙ h))

pub count-geometries : (rs : List Record) → kind_count 2 rs ≡ length (geometries_in rs) + geometry_count (models_in rs)
unfolding kind_count geometries_in models_in geometry_count sum_of
count-geometries [] = refl
count-geometries (r ∷ rs) = on (eqb r.kind 1) (eqb r.kind 2) refl refl (count-geometries rs)
  where
    on : (t u : Bool) → eqb r.kind 1 ≡ t → eqb r.kind 2 ≡ u → kind_count 2 rs ≡ length (geometries_in rs) + geometry_count (models_in rs)
        → kind_count 2 (r ∷ rs) ≡ length (geometries_in (r ∷ rs)) + geometry_count (models_in (r ∷ rs))
    on true u h k ih = rw (h, other-kind r.kind 1 2 (λ e. omega arith) h) (omega arith)
    on false true h k ih = rw (h, k) (omega arith)
    on false false h k ih = rw (h, k) (omega arith)

-- ---- the image

-- a model's size where its mapping tells how many geometries it has
abbrev pub size_by_mapping : FullModel → ℕ
size_by_mapping m = padded 0x30 + padded (8 * length m.mapping) + padded (2 * length m.mapping) + sum_of geometry_size m.geometries

geometry_units_lem : (b₂ b₃ b₄ b₅ : List ℕ) → geometry_size (geometry_in b₂ b₃ b₄ b₅) ≡ 16 * geometry_units (length b₄ - 7) ((length b₅ - 4) / 4)
unfolding geometry_size
geometry_units_lem b₂ b₃ b₄ b₅ = rw (length-drop 7 b₄, numbers-length 4 (held_count b₅) (drop 4 b₅)) (omega arith)

model_units_lem : (b : List ℕ) (gs : List FullGeometry) → size_by_mapping (model_in b gs) ≡ 16 * model_units (mapping_count b) + sum_of geometry_size gs
model_units_lem b gs = rw (numbers-length 2 (mapping_count b) (drop 6 b)) (omega arith)

pub image-units : (rs : List Record) → 16 * units_from rs ≡ sum_of geometry_size (geometries_in rs) + sum_of size_by_mapping (models_in rs)
unfolding units_from geometries_in models_in sum_of
image-units [] = refl
image-units (r ∷ rs) = on (eqb r.kind 1) (eqb r.kind 2) refl refl (image-units rs)
  where
    on : (t u : Bool) → eqb r.kind 1 ≡ t → eqb r.kind 2 ≡ u → 16 * units_from rs ≡ sum_of geometry_size (geometries_in rs) + sum_of size_by_mapping (models_in rs)
        → 16 * units_from (r ∷ rs) ≡ sum_of geometry_size (geometries_in (r ∷ rs)) + sum_of size_by_mapping (models_in (r ∷ rs))
    on true u h k ih = rw h (omega (arith, model_units_lem r.body (geometries_in rs)))
    on false true h k ih = rw (h, k) (omega (arith, geometry_units_lem r.body (body_at 0 rs) (body_at 1 rs) (body_at 2 rs)))
    on false false h k ih = rw (h, k) ih

-- the same where mappings are the shader ids
same_length : (xs ys : List ℕ) → same_numbers xs ys ≡ true → length xs ≡ length ys
same_length xs ys e = ap length (same_numbers_lem xs ys e)

pub length-shaders : (gs : List FullGeometry) → length (shader_ids gs) ≡ length gs
length-shaders [] = refl
length-shaders (g ∷ gs) = ap suc (length-shaders gs)

pub size_by_mapping_lem : (h : Hall) → every mapping_matches h ≡ true → sum_of size_by_mapping h ≡ sum_of model_size h
unfolding every sum_of model_size mapping_matches
size_by_mapping_lem [] e = refl
size_by_mapping_lem (m ∷ ms) e =
    let b = both_true (mapping_matches m) (every mapping_matches ms) e in
    let l : length m.mapping ≡ length m.geometries = same_length m.mapping (shader_ids m.geometries) b.0 ∙ length-shaders m.geometries in
    rw (l, size_by_mapping_lem ms b.1)
