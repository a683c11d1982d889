-- A hall with another geometry in the place of one: the checks, the image's length, and the bytes of its list.
use Rattle.std.specs.Prelude.{Some}
use mathlib.Core.Path.{◌≡◌, sym, ap, ◌∙◌}
use mathlib.Core.Bool.{Bool, true}
use mathlib.Core.List.{List, [], ◌∷◌, ◌++◌, map, append_assoc, map-append}
use Prim.Native.Nat.{ℕ, zero, suc, ◌+◌, ◌*◌}
use native.Mathlib.Omega.{arith}
use lib.ListN.{length, take, drop, length-append, length-take, length-drop}
use Rattle.sections.proofs.AddressLaws.{both_true}
use Rattle.halls.specs.Calls.{replaced}
use Rattle.halls.specs.Checks.{vertex_bytes_exact, mapping_matches, geometry_count, counts_within_limits, strides_agree, components_inside, vertex_counts_agree, index_counts_agree, indices_in_range, triangles_distinct, image_within_limit, require, every_geometry, verdict}
use Rattle.halls.specs.Every.{every, sum_of}
use Rattle.halls.specs.Hall.{FullGeometry, FullModel, Hall, listed_geometry, listed_model, hall_bytes}
use Rattle.halls.specs.ImageSize.{geometry_size, model_size, image_size}
use Rattle.halls.specs.List.{each, model_body, model_record, write_geometry, write_geometries, write_model}
use Rattle.halls.specs.Places.{item}
use Rattle.halls.specs.Verdict.{Sound}
use Rattle.halls.proofs.format.BodyLaws.{model_body-length}
use Rattle.halls.proofs.read.EachLaws.{each_append}
use Rattle.halls.proofs.EveryLaws.{and_true, every-each}
use Rattle.halls.proofs.edit.SoundEdits.{split-item, item-within, map-replaced, each_item, sum-item, sum-replaced, hall_bytes-append}
use Rattle.halls.proofs.SoundLaws.{SoundHall}
use Rattle.halls.proofs.read.ViewLaws.{Record-length}

-- ---- lists

module _ {A : Type 0} where
  pub length-replaced : (i : ℕ) (xs : List A) (x y : A) → item i xs ≡ Some x → length (replaced i y xs) ≡ length xs
  length-replaced i xs x y e = let d = item-within i xs x e in simp (length-append, length-take, length-drop) (omega arith)

  module _ (test : A → Bool) where
    every-item : (i : ℕ) (xs : List A) (x : A) → item i xs ≡ Some x → every test xs ≡ true → test x ≡ true
    every-item i xs x e w = each_item (λ (a : A). test a ≡ true) i xs x e (every-each test xs w)

    -- only the new one is left to test
    every-replaced : (i : ℕ) (xs : List A) (x y : A) → item i xs ≡ Some x → every test xs ≡ true → every test (replaced i y xs) ≡ test y
    unfolding every
    every-replaced zero [] x y e w = let z : ◌≡◌ {A = ℕ} 0 1 = cc in absurd (omega arith)
    every-replaced (suc i) [] x y e w = let z : ◌≡◌ {A = ℕ} 0 1 = cc in absurd (omega arith)
    every-replaced zero (a ∷ xs) x y e w = rw (both_true (test a) (every test xs) w).1 (and_true (test y))
    every-replaced (suc i) (a ∷ xs) x y e w =
        let b = both_true (test a) (every test xs) w in
        rw b.0 (every-replaced i xs x y e b.1)

module _ {A B : Type 0} (f : A → B) where
  -- one that is as the old one for f
  pub map_same : (i : ℕ) (xs : List A) (x y : A) → item i xs ≡ Some x → f y ≡ f x → map f (replaced i y xs) ≡ map f xs
  map_same i xs x y e same =
      map-replaced f i y xs ∙ ap (λ (b : B). replaced i b (map f xs)) same ∙ sym (map-replaced f i x xs) ∙ ap (map f) (sym (split-item i xs x e))

-- ---- a geometry of a model of a hall

abbrev pub changed_model : ℕ → FullModel → FullGeometry → FullModel
changed_model g m y = record { binding = m.binding; mask = m.mask; mapping = m.mapping; geometries = replaced g y m.geometries }

abbrev pub changed_hall : ℕ → ℕ → Hall → FullModel → FullGeometry → Hall
changed_hall m g h x y = replaced m (changed_model g x y) h

-- the bytes before it and behind it
abbrev pub bytes_before : ℕ → ℕ → Hall → FullModel → List ℕ
bytes_before m g h x = hall_bytes (take m h) ++ (model_record (listed_model x) ++ write_geometries (map listed_geometry (take g x.geometries)))

abbrev pub bytes_behind : ℕ → ℕ → Hall → FullModel → List ℕ
bytes_behind m g h x = write_geometries (map listed_geometry (drop (suc g) x.geometries)) ++ hall_bytes (drop (suc m) h)

join : (a b c d e f : List ℕ) → a ++ ((b ++ (c ++ (d ++ e))) ++ f) ≡ (a ++ (b ++ c)) ++ (d ++ (e ++ f))
join a b c d e f = simp append_assoc

-- the bytes with any geometry in that place
pub bytes-changed : (m g : ℕ) (h : Hall) (x : FullModel) (y : FullGeometry)
    → hall_bytes (changed_hall m g h x y) ≡ bytes_before m g h x ++ (write_geometry (listed_geometry y) ++ bytes_behind m g h x)
unfolding hall_bytes each write_model model_record
bytes-changed m g h x y =
    let gs : List FullGeometry = x.geometries in
    let geometries : write_geometries (map listed_geometry (replaced g y gs)) ≡ write_geometries (map listed_geometry (take g gs)) ++ write_geometries (map listed_geometry (y ∷ drop (suc g) gs)) =
    ap write_geometries (map-append listed_geometry (take g gs) (y ∷ drop (suc g) gs)) ∙ each_append write_geometry (map listed_geometry (take g gs)) (map listed_geometry (y ∷ drop (suc g) gs)) in
    hall_bytes-append (take m h) (changed_model g x y ∷ drop (suc m) h)
    ∙ ap (λ (l : List ℕ). hall_bytes (take m h) ++ ((model_record (listed_model x) ++ l) ++ hall_bytes (drop (suc m) h))) geometries
    ∙ join (hall_bytes (take m h)) (model_record (listed_model x)) (write_geometries (map listed_geometry (take g gs))) (write_geometry (listed_geometry y)) (write_geometries (map listed_geometry (drop (suc g) gs))) (hall_bytes (drop (suc m) h))

pub before-length : (m g : ℕ) (h : Hall) (x : FullModel)
    → length (bytes_before m g h x) ≡ length (hall_bytes (take m h)) + (12 + 2 * length x.mapping) + length (write_geometries (map listed_geometry (take g x.geometries)))
unfolding model_record
before-length m g h x =
    let head : length (model_record (listed_model x)) ≡ 12 + 2 * length x.mapping = Record-length 1 (model_body (listed_model x)) ∙ omega (arith, model_body-length x) in
    rw (length-append (hall_bytes (take m h)), length-append (model_record (listed_model x))) (omega arith)

module _ (h : Hall) (m g : ℕ) (x : FullModel) (f : FullGeometry) (em : item m h ≡ Some x) (eg : item g x.geometries ≡ Some f) where
  -- with the geometry itself it is the hall
  pub SameHall_lem : changed_hall m g h x f ≡ h
  SameHall_lem = ap (λ (l : List FullGeometry). replaced m (record { binding = x.binding; mask = x.mask; mapping = x.mapping; geometries = l }) h) (sym (split-item g x.geometries f eg)) ∙ sym (split-item m h x em)

  -- what every geometry passes, it passes
  pub passes : (test : FullGeometry → Bool) → every_geometry test h ≡ true → test f ≡ true
  passes test w = every-item test g x.geometries f eg (every-item (λ (a : FullModel). every test a.geometries) m h x em w)

  module _ (y : FullGeometry) where
    every-changed : (test : FullGeometry → Bool) → every_geometry test h ≡ true → every_geometry test (changed_hall m g h x y) ≡ test y
    every-changed test w =
        let all : FullModel → Bool = λ a. every test a.geometries in
        every-replaced all m h x (changed_model g x y) em w ∙ every-replaced test g x.geometries f y eg (every-item all m h x em w)

    mappings-changed : y.shader ≡ f.shader → every mapping_matches h ≡ true → every mapping_matches (changed_hall m g h x y) ≡ true
    unfolding mapping_matches
    mappings-changed same w =
        every-replaced mapping_matches m h x (changed_model g x y) em w
        ∙ rw (map_same (λ (a : FullGeometry). a.shader) g x.geometries f y eg same) (every-item mapping_matches m h x em w)

    counts-changed : counts_within_limits (changed_hall m g h x y) ≡ counts_within_limits h
    unfolding counts_within_limits geometry_count
    counts-changed =
        let count : FullModel → ℕ = λ a. length a.geometries in
        let all : sum_of count (changed_hall m g h x y) ≡ sum_of count h =
        omega (arith, sum-item count m h x em, sum-replaced count m (changed_model g x y) h, length-replaced g x.geometries f y eg) in
        rw (length-replaced m h x (changed_model g x y) em, all)

    -- the image is as much longer as the geometry's part of it
    pub image-changed : image_size (changed_hall m g h x y) + geometry_size f ≡ image_size h + geometry_size y
    unfolding image_size model_size
    image-changed =
        omega (
          arith,
          sum-item model_size m h x em,
          sum-replaced model_size m (changed_model g x y) h,
          sum-item geometry_size g x.geometries f eg,
          sum-replaced geometry_size g y x.geometries,
          length-replaced g x.geometries f y eg,
          length-replaced m h x (changed_model g x y) em,
        )

    -- where the new geometry has the old one's shader id and passes checks 11 and 14 to 16, checks 17, 18, 27 and 19 decide
    pub verdict-changed : SoundHall h → y.shader ≡ f.shader → vertex_bytes_exact y ≡ true → strides_agree y ≡ true → components_inside y ≡ true → vertex_counts_agree y ≡ true
        → verdict (changed_hall m g h x y) ≡ require 17 (index_counts_agree y) (require 18 (indices_in_range y) (require 27 (triangles_distinct y) (require 19 (image_within_limit (changed_hall m g h x y)) Sound)))
    unfolding verdict
    verdict-changed w same a b c d =
        rw (
          every-changed vertex_bytes_exact w.vertex-bytes,
          a,
          mappings-changed same w.mappings,
          counts-changed,
          w.counts,
          every-changed strides_agree w.strides,
          b,
          every-changed components_inside w.components,
          c,
          every-changed vertex_counts_agree w.vertex-counts,
          d,
          every-changed index_counts_agree w.index-counts,
          every-changed indices_in_range w.indices,
          every-changed triangles_distinct w.triangles,
        )
