-- Edits of a hall that keep it sound: a model taken out, or another in its place that is no bigger. The list laws that they need come first.
use Rattle.std.specs.Prelude.{Some, option_map}
use mathlib.Core.Path.{◌≡◌, refl, ap, ◌∙◌, subst}
use mathlib.Core.Bool.{Bool, true}
use mathlib.Core.List.{List, [], ◌∷◌, ◌++◌, map, map-append}
use Prim.Native.Nat.{ℕ, zero, suc, ◌+◌, ◌*◌, ◌≤◌}
use native.Mathlib.Omega.{arith}
use borrow.Author.Tests.{le-leb, leb-true, eq-eqb}
use lib.Dec.{leb}
use lib.ListN.{length, take, drop, length-append, length-take, length-drop}
use Rattle.sections.proofs.AddressLaws.{both_true}
use Rattle.vertices.specs.Declaration.{total_size}
use Rattle.halls.specs.Calls.{without, replaced}
use Rattle.halls.specs.Checks.{vertex_bytes_exact, same_numbers, shader_ids, mapping_matches, geometry_count, counts_within_limits, strides_agree, components_inside, vertex_counts_agree, held, index_counts_agree, indices_in_range, triangles_distinct, image_within_limit, every_geometry, verdict}
use Rattle.halls.specs.Every.{every, sum_of, Each}
use Rattle.halls.specs.Hall.{FullGeometry, FullModel, Hall, listed_model, hall_bytes}
use Rattle.halls.specs.ImageSize.{model_size, image_size}
use Rattle.halls.specs.List.{write_model}
use Rattle.halls.specs.Places.{item}
use Rattle.halls.specs.State.{Model, State, full_model, hall_of, model_state, state_of}
use Rattle.halls.specs.Verdict.{Sound}
use Rattle.halls.proofs.read.EachLaws.{each_append}
use Rattle.halls.proofs.EveryLaws.{each-every}
use Rattle.halls.proofs.SoundLaws.{SoundHall, SoundGeometry, SoundModel, verdict-sound, sound-verdict, sound_models}

-- ---- an item of a list

module _ {A : Type 0} where
  pub split-item : (i : ℕ) (xs : List A) (x : A) → item i xs ≡ Some x → xs ≡ take i xs ++ (x ∷ drop (suc i) xs)
  split-item zero [] x e = let z : ◌≡◌ {A = ℕ} 0 1 = cc in absurd (omega arith)
  split-item (suc i) [] x e = let z : ◌≡◌ {A = ℕ} 0 1 = cc in absurd (omega arith)
  split-item zero (y ∷ ys) x e = let same : y ≡ x = cc in ap (λ (a : A). a ∷ ys) same
  split-item (suc i) (y ∷ ys) x e = ap (λ (l : List A). y ∷ l) (split-item i ys x e)

  -- it stands within the list
  pub item-within : (i : ℕ) (xs : List A) (x : A) → item i xs ≡ Some x → suc i ≤ length xs
  item-within zero [] x e = let z : ◌≡◌ {A = ℕ} 0 1 = cc in absurd (omega arith)
  item-within (suc i) [] x e = let z : ◌≡◌ {A = ℕ} 0 1 = cc in absurd (omega arith)
  item-within zero (y ∷ ys) x e = omega arith
  item-within (suc i) (y ∷ ys) x e = omega (arith, item-within i ys x e)

-- and in the list of what a function makes of each
module _ {A B : Type 0} (f : A → B) where
  pub map-take : (i : ℕ) (xs : List A) → map f (take i xs) ≡ take i (map f xs)
  map-take zero xs = refl
  map-take (suc i) [] = refl
  map-take (suc i) (x ∷ xs) = ap (λ (l : List B). f x ∷ l) (map-take i xs)

  pub map-drop : (i : ℕ) (xs : List A) → map f (drop i xs) ≡ drop i (map f xs)
  map-drop zero xs = refl
  map-drop (suc i) [] = refl
  map-drop (suc i) (x ∷ xs) = map-drop i xs

  pub item-map : (i : ℕ) (xs : List A) → item i (map f xs) ≡ option_map f (item i xs)
  item-map zero [] = refl
  item-map zero (x ∷ xs) = refl
  item-map (suc i) [] = refl
  item-map (suc i) (x ∷ xs) = item-map i xs

  pub map-without : (i : ℕ) (xs : List A) → map f (without i xs) ≡ without i (map f xs)
  map-without i xs = map-append f (take i xs) (drop (suc i) xs) ∙ rw (map-take i xs, map-drop (suc i) xs)

  pub map-replaced : (i : ℕ) (x : A) (xs : List A) → map f (replaced i x xs) ≡ replaced i (f x) (map f xs)
  map-replaced i x xs = map-append f (take i xs) (x ∷ drop (suc i) xs) ∙ rw (map-take i xs, map-drop (suc i) xs)

-- ---- a property of each, and sums

pub each_to : {A : Type 0} {P Q : A → Type 0} → ((x : A) → P x → Q x) → (xs : List A) → Each P xs → Each Q xs
unfolding Each
each_to f [] w = tt
each_to f (x ∷ xs) w = (f x w.0, each_to f xs w.1)

module _ {A : Type 0} (P : A → Type 0) where
  pub each-join : (xs ys : List A) → Each P xs → Each P ys → Each P (xs ++ ys)
  unfolding Each
  each-join [] ys v w = w
  each-join (x ∷ xs) ys v w = (v.0, each-join xs ys v.1 w)

  pub each_take : (i : ℕ) (xs : List A) → Each P xs → Each P (take i xs)
  unfolding Each
  each_take zero xs w = tt
  each_take (suc i) [] w = tt
  each_take (suc i) (x ∷ xs) w = (w.0, each_take i xs w.1)

  pub each-drop : (i : ℕ) (xs : List A) → Each P xs → Each P (drop i xs)
  unfolding Each
  each-drop zero xs w = w
  each-drop (suc i) [] w = tt
  each-drop (suc i) (x ∷ xs) w = each-drop i xs w.1

  pub each_item : (i : ℕ) (xs : List A) (x : A) → item i xs ≡ Some x → Each P xs → P x
  unfolding Each
  each_item zero [] x e w = let z : ◌≡◌ {A = ℕ} 0 1 = cc in absurd (omega arith)
  each_item (suc i) [] x e w = let z : ◌≡◌ {A = ℕ} 0 1 = cc in absurd (omega arith)
  each_item zero (y ∷ ys) x e w = let same : y ≡ x = cc in subst P same w.0
  each_item (suc i) (y ∷ ys) x e w = each_item i ys x e w.1

  pub each-without : (i : ℕ) (xs : List A) → Each P xs → Each P (without i xs)
  each-without i xs w = each-join (take i xs) (drop (suc i) xs) (each_take i xs w) (each-drop (suc i) xs w)

  pub each-replaced : (i : ℕ) (x : A) (xs : List A) → P x → Each P xs → Each P (replaced i x xs)
  unfolding Each
  each-replaced i x xs p w = each-join (take i xs) (x ∷ drop (suc i) xs) (each_take i xs w) (p, each-drop (suc i) xs w)

module _ {A : Type 0} (f : A → ℕ) where
  pub sum-append : (xs ys : List A) → sum_of f (xs ++ ys) ≡ sum_of f xs + sum_of f ys
  unfolding sum_of
  sum-append [] ys = omega arith
  sum-append (x ∷ xs) ys = omega (arith, sum-append xs ys)

  pub sum-without : (i : ℕ) (xs : List A) → sum_of f (without i xs) ≤ sum_of f xs
  unfolding sum_of
  sum-without zero [] = omega arith
  sum-without zero (x ∷ xs) = omega arith
  sum-without (suc i) [] = omega arith
  sum-without (suc i) (x ∷ xs) = omega (arith, sum-without i xs)

  pub sum-item : (i : ℕ) (xs : List A) (x : A) → item i xs ≡ Some x → sum_of f xs ≡ sum_of f (without i xs) + f x
  unfolding sum_of
  sum-item i xs x e =
      let all : sum_of f xs ≡ sum_of f (take i xs ++ (x ∷ drop (suc i) xs)) = ap (sum_of f) (split-item i xs x e) in
      omega (arith, all, sum-append (take i xs) (x ∷ drop (suc i) xs), sum-append (take i xs) (drop (suc i) xs))

  pub sum-replaced : (i : ℕ) (y : A) (xs : List A) → sum_of f (replaced i y xs) ≡ sum_of f (without i xs) + f y
  unfolding sum_of
  sum-replaced i y xs =
      omega (arith, sum-append (take i xs) (y ∷ drop (suc i) xs), sum-append (take i xs) (drop (suc i) xs))

-- ---- a hall and its state

pub hall-item : (i : ℕ) (s : State) → item i (hall_of s) ≡ option_map full_model (item i s)
unfolding hall_of
hall-item i s = item-map full_model i s

pub State-item : (i : ℕ) (h : Hall) → item i (state_of h) ≡ option_map model_state (item i h)
unfolding state_of
State-item i h = item-map model_state i h

pub hall-without : (i : ℕ) (s : State) → hall_of (without i s) ≡ without i (hall_of s)
unfolding hall_of
hall-without i s = map-without full_model i s

pub hall-replaced : (i : ℕ) (m : Model) (s : State) → hall_of (replaced i m s) ≡ replaced i (full_model m) (hall_of s)
unfolding hall_of
hall-replaced i m s = map-replaced full_model i m s

-- ---- a hall's bytes in two parts

pub hall_bytes-append : (xs ys : Hall) → hall_bytes (xs ++ ys) ≡ hall_bytes xs ++ hall_bytes ys
unfolding hall_bytes
hall_bytes-append xs ys = rw (map-append listed_model xs ys) (each_append write_model (map listed_model xs) (map listed_model ys))

-- ---- a hall whose models are sound, within the limits

pub same_itself : (xs : List ℕ) → same_numbers xs xs ≡ true
unfolding same_numbers
same_itself [] = refl
same_itself (x ∷ xs) = rw (eq-eqb x x refl, same_itself xs)

module _ (h : Hall) (w : Each SoundModel h) where
  every_geometry_lem : (test : FullGeometry → Bool) → ((g : FullGeometry) → SoundGeometry g → test g ≡ true) → every_geometry test h ≡ true
  every_geometry_lem test f =
      each-every (λ (m : FullModel). every test m.geometries) h
      (each_to (λ (m : FullModel) (v : SoundModel m). each-every test m.geometries (each_to f m.geometries v.geometries)) h w)

  pub verdict-models : counts_within_limits h ≡ true → image_within_limit h ≡ true → verdict h ≡ Sound
  unfolding vertex_bytes_exact mapping_matches strides_agree components_inside vertex_counts_agree index_counts_agree indices_in_range triangles_distinct
  verdict-models counts image = sound-verdict h (record {
    vertex-bytes = every_geometry_lem vertex_bytes_exact (λ g v. eq-eqb (length g.vertices.content) (g.vertices.count * g.vertices.stride) v.content);
    mappings = each-every mapping_matches h (each_to (λ (m : FullModel) (v : SoundModel m). rw v.mapping (same_itself (shader_ids m.geometries))) h w);
    counts = counts;
    strides = every_geometry_lem strides_agree
        (λ g v. rw (eq-eqb g.vertices.layout 0 v.layout, eq-eqb g.declaration.stride g.stride v.declared-stride, eq-eqb g.vertices.stride g.stride v.Vertices-stride));
    components = every_geometry_lem components_inside (λ g v. rw (v.position, le-leb (total_size g.declaration) g.stride v.inside));
    vertex-counts = every_geometry_lem vertex_counts_agree
        (λ g v. rw (eq-eqb g.vertex_count g.vertices.count v.vertex_count_lem, le-leb 1 g.vertices.count v.some-vertices, le-leb g.vertices.count 65535 v.few_vertices));
    index-counts = every_geometry_lem index_counts_agree
        (λ g v. rw (eq-eqb g.index_count (held g) v.index-count, eq-eqb g.indices.count (held g) v.Indices-count, eq-eqb (held g) (3 * g.triangle_count) v.thirds, le-leb 3 (held g) v.some-indices));
    indices = every_geometry_lem indices_in_range (λ g v. v.in_range_lem);
    triangles = every_geometry_lem triangles_distinct (λ g v. v.three_vertices);
    image = image;
  })

-- ---- checks 13 and 19 of a hall with no more

record NoMore (h' h : Hall) : Type 0 where
  models : length h' ≤ length h
  geometries : geometry_count h' ≤ geometry_count h
  sizes : sum_of model_size h' ≤ sum_of model_size h

NoMore-sound : (h' h : Hall) → NoMore h' h → verdict h ≡ Sound → Each SoundModel h' → verdict h' ≡ Sound
unfolding counts_within_limits image_within_limit image_size
NoMore-sound h' h l e w =
    let s : SoundHall h = verdict-sound h e in
    let c = both_true (leb (length h) 256) (leb (geometry_count h) 16384) s.counts in
    let i : image_size h ≤ 67108864 = leb-true (image_size h) 67108864 s.image in
    let i' : image_size h' ≤ 67108864 = omega (arith, l.models, l.sizes) in
    let m : length h' ≤ 256 = omega (arith, l.models, leb-true (length h) 256 c.0) in
    let g : geometry_count h' ≤ 16384 = omega (arith, l.geometries, leb-true (geometry_count h) 16384 c.1) in
    verdict-models h' w (rw (le-leb (length h') 256 m, le-leb (geometry_count h') 16384 g)) (le-leb (image_size h') 67108864 i')

-- ---- a model taken out

pub sound-without : (h : Hall) (i : ℕ) → verdict h ≡ Sound → verdict (without i h) ≡ Sound
unfolding geometry_count
sound-without h i e =
    let models : length (without i h) ≤ length h = simp (length-append, length-take, length-drop) (omega arith) in
    NoMore-sound (without i h) h
    (record { models = models; geometries = sum-without (λ (m : FullModel). length m.geometries) i h; sizes = sum-without model_size i h }) e
    (each-without SoundModel i h (sound_models h (verdict-sound h e)))

-- ---- a model with another in its place

pub sound-replaced : (h : Hall) (i : ℕ) (x x' : FullModel) → item i h ≡ Some x → verdict h ≡ Sound → SoundModel x' → length x'.geometries ≤ length x.geometries
    → model_size x' ≤ model_size x → verdict (replaced i x' h) ≡ Sound
unfolding geometry_count
sound-replaced h i x x' at e w few small =
    let count : FullModel → ℕ = λ m. length m.geometries in
    let models : length (replaced i x' h) ≤ length h = let d = item-within i h x at in simp (length-append, length-take, length-drop) (omega arith) in
    NoMore-sound (replaced i x' h) h
    (record {
      models = models;
      geometries = omega (arith, sum-item count i h x at, sum-replaced count i x' h);
      sizes = omega (arith, sum-item model_size i h x at, sum-replaced model_size i x' h);
    }) e
    (each-replaced SoundModel i x' h w (sound_models h (verdict-sound h e)))
