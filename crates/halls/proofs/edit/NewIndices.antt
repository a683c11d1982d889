-- A geometry's indices replaced: the checks on the result, its length, and its bytes.
use mathlib.Core.Path.{◌≡◌, refl, sym, ap, ◌∙◌, subst}
use mathlib.Core.Bool.{Bool, true, false, ◌&&◌}
use mathlib.Core.List.{List, ◌++◌, append_assoc}
use Prim.Native.Nat.{ℕ, ◌+◌, ◌*◌, ◌-◌, ◌/◌, ◌%◌, ◌≤◌, ◌<◌}
use native.Mathlib.Omega.{arith}
use borrow.Author.Tests.{eq-eqb, ne_eqb, eqb-true, le-leb, lt-leb, leb-true}
use lib.Dec.{T, eqb, leb}
use lib.ListN.{length, take, drop, length-append, length-take, take-append-drop}
use lib.Seq.{take_at, drop_at}
use Rattle.sections.specs.Edit.{overwrite}
use Rattle.sections.specs.Le.{bytes, field}
use Rattle.sections.proofs.AddressLaws.{both_true}
use Rattle.sections.proofs.EditLaws.{overwrite-all}
use Rattle.sections.proofs.LeLaws.{length-bytes}
use Rattle.vertices.specs.Runs.{run}
use Rattle.halls.specs.Calls.{Call, replace_indices, proposed, with_indices, with_geometry}
use Rattle.halls.specs.Checks.{vertex_bytes_exact, strides_agree, components_inside, vertex_counts_agree, index_counts_agree, indices_in_range, triangles_distinct, geometry_count, counts_within_limits, image_within_limit, verdict}
use Rattle.halls.specs.Hall.{FullGeometry, FullModel, Hall, hall_bytes}
use Rattle.halls.specs.ImageSize.{geometry_size, model_size, image_size}
use Rattle.halls.specs.List.{indices_record}
use Rattle.halls.specs.Inner.NewIndices.{indices_verdict, indices_of, with_new_indices}
use Rattle.halls.specs.Reading.{read}
use Rattle.halls.specs.State.{Geometry, vertex_count, full_geometry, full_model, hall_of}
use Rattle.halls.specs.Step.{state_in, rewritten, Stepped}
use Rattle.halls.specs.Inner.Walk.{Counted, units}
use Rattle.halls.specs.Inner.Order.{passed, check_of, verdict_of}
use Rattle.std.specs.Prelude.{Ok, Err}
use Rattle.halls.specs.Verdict.{Sound}
use Rattle.halls.specs.declared.check.pass.Summary.{Summary}
use Rattle.halls.proofs.edit.ChangedLaws.{changed_hall, bytes_before, bytes_behind, bytes-changed, image-changed, verdict-changed}
use Rattle.halls.proofs.check.LimitLaws.{sixteenth}
use Rattle.halls.proofs.edit.IndicesWritten.{record_is, new-record-length}
use Rattle.halls.proofs.edit.SoundEdits.{sum-item}
use Rattle.halls.proofs.SoundLaws.{verdict-sound}
use Rattle.halls.proofs.check.SpotLaws.{Spot, overwrite-inside, Spot-hall, Spot-passes, content_head, head_start, head_rest, head-counts, content-parts, content_head-length, field-there, Spot-bytes, Spot-sound, Spot-InWidth, Spot-count, Spot-stride, new-hall}
use Rattle.halls.proofs.edit.StepLaws.{hall_in, stays-judged, stays_long, becomes-new}

-- check 17 of new indices, as the code asks it
thirds : (k : ℕ) (t : Bool) → eqb (k % 3) 0 ≡ t → eqb k (3 * (k / 3)) ≡ t
thirds k true e = let z : k % 3 ≡ 0 = eqb-true (k % 3) 0 e in eq-eqb k (3 * (k / 3)) (omega arith)
thirds k false e = ne_eqb k (3 * (k / 3)) (λ p. let z : k % 3 ≡ 0 = omega arith in let y = sym (eq-eqb (k % 3) 0 z) ∙ e in absurd (subst T y tt))

module _ {b : List ℕ} {n m g at : ℕ} (w : Spot b n m g at) (xs : List ℕ) where
  abbrev h : Hall
  h = hall_in b n

  abbrev x : FullModel
  x = full_model w.model

  abbrev f : FullGeometry
  f = full_geometry w.geometry

  abbrev changed : Geometry
  changed = with_indices w.geometry xs

  abbrev y : FullGeometry
  y = full_geometry changed

  abbrev after : Hall
  after = hall_of (with_geometry m g (state_in b n) w.model changed)

  abbrev held : ℕ
  held = length w.geometry.indices

  abbrev start : ℕ
  start = at + 55 + length w.geometry.content

  abbrev call : Call
  call = replace_indices m g xs

  -- ---- the bytes

  abbrev before : List ℕ
  before = bytes_before m g h x

  abbrev behind : List ℕ
  behind = bytes_behind m g h x

  abbrev content : List ℕ
  content = w.geometry.content

  abbrev front : List ℕ
  front = before ++ (content_head f ++ content)

  front_length : length front ≡ start
  front_length = rw (length-append before, length-append (content_head f), content_head-length f) (omega (arith, w.place))

  Old-parts : take n b ≡ front ++ (indices_record f.indices ++ behind)
  Old-parts = Spot-bytes w ∙ ap (λ (l : List ℕ). before ++ l) (content-parts f behind) ∙ simp append_assoc

  Old-record : length (indices_record f.indices) ≡ 10 + 4 * held
  Old-record = new-record-length w.geometry.indices

  Old-length : n ≡ start + (10 + 4 * held) + length behind
  Old-length =
      let l : length (take n b) ≡ n = length-take n b ∙ omega (arith, w.old.within) in
      let e : length (take n b) ≡ length front + (length (indices_record f.indices) + length behind) = ap length Old-parts ∙ rw (length-append front, length-append (indices_record f.indices)) in
      omega (arith, front_length, Old-record)

  front-taken : take start (take n b) ≡ front
  front-taken = ap (take start) Old-parts ∙ take_at front (indices_record f.indices ++ behind) start front_length

  behind-left : drop (start + 10 + 4 * held) (take n b) ≡ behind
  behind-left =
      let l : length (front ++ indices_record f.indices) ≡ start + 10 + 4 * held = length-append front (indices_record f.indices) ∙ omega (arith, front_length, Old-record) in
      ap (drop (start + 10 + 4 * held)) (Old-parts ∙ sym (append_assoc front (indices_record f.indices) behind)) ∙ drop_at (front ++ indices_record f.indices) behind (start + 10 + 4 * held) l

  abbrev new : List ℕ
  new = indices_record (indices_of xs)

  new-parts : hall_bytes after ≡ before ++ (content_head y ++ (content ++ (new ++ behind)))
  new-parts = ap hall_bytes (new-hall w changed refl) ∙ bytes-changed m g h x y ∙ ap (λ (l : List ℕ). before ++ l) (content-parts y behind)

  abbrev counts : FullGeometry → List ℕ
  counts z = bytes 4 z.index_count ++ bytes 4 z.triangle_count

  counts-length : (z : FullGeometry) → length (counts z) ≡ 8
  counts-length z = simp (length-append, length-bytes)

  pub new-bytes : with_new_indices (take n b) at start (start + 10 + 4 * held) xs ≡ hall_bytes after
  unfolding with_new_indices
  new-bytes =
      let a : List ℕ = before ++ head_start f in
      let z : List ℕ = head_rest f ++ (content ++ (new ++ behind)) in
      let eight : length (head_start f) ≡ 8 = simp (length-append, length-bytes) in
      let l : length a + 0 ≡ at + 8 = ap (λ (k : ℕ). k + 0) (length-append before (head_start f)) ∙ omega (arith, w.place) in
      let old : front ++ (new ++ behind) ≡ a ++ (counts f ++ z) = ap (λ (t : List ℕ). (before ++ (t ++ content)) ++ (new ++ behind)) (head-counts f) ∙ simp append_assoc in
      let fit : 0 + length (counts y) ≤ length (counts f) = omega (arith, counts-length y, counts-length f) in
      let all : overwrite (counts f) 0 (counts y) ≡ counts y = overwrite-all (counts f) (counts y) (counts-length y ∙ sym (counts-length f)) in
      let target : before ++ (content_head y ++ (content ++ (new ++ behind))) ≡ a ++ (counts y ++ z) =
      ap (λ (t : List ℕ). before ++ (t ++ (content ++ (new ++ behind)))) (head-counts y) ∙ simp append_assoc in
      ap (λ (t : List ℕ). overwrite (t ++ (new ++ drop (start + 10 + 4 * held) (take n b))) (at + 8) (counts y)) front-taken
      ∙ ap (λ (t : List ℕ). overwrite (front ++ (new ++ t)) (at + 8) (counts y)) behind-left
      ∙ ap (λ (t : List ℕ). overwrite t (at + 8) (counts y)) old
      ∙ ap (λ (k : ℕ). overwrite (a ++ (counts f ++ z)) k (counts y)) (sym l)
      ∙ overwrite-inside a (counts f) z (counts y) 0 fit ∙ ap (λ (t : List ℕ). a ++ (t ++ z)) all ∙ sym target ∙ sym new-parts

  pub new-length : n - 4 * held + 4 * length xs ≡ length (hall_bytes after)
  new-length =
      sym (ap length new-parts ∙ rw (length-append before, length-append (content_head y), length-append content, length-append new, content_head-length y)
      (omega (arith, Old-length, new-record-length xs, w.place)))

  pub Old-inside : start + 10 + 4 * held ≤ n
  Old-inside = omega (arith, Old-length)

  -- ---- the checks

  bytes-pass : vertex_bytes_exact y ≡ true
  unfolding vertex_bytes_exact
  bytes-pass = Spot-passes w vertex_bytes_exact (Spot-hall w).vertex-bytes

  strides_pass : strides_agree y ≡ true
  unfolding strides_agree
  strides_pass = Spot-passes w strides_agree (Spot-hall w).strides

  components_pass : components_inside y ≡ true
  unfolding components_inside
  components_pass = Spot-passes w components_inside (Spot-hall w).components

  counts-pass : vertex_counts_agree y ≡ true
  unfolding vertex_counts_agree
  counts-pass = Spot-passes w vertex_counts_agree (Spot-hall w).vertex-counts

  index-counts-are : index_counts_agree y ≡ (eqb (length xs % 3) 0 && leb 3 (length xs))
  unfolding index_counts_agree
  index-counts-are = rw (eq-eqb (length xs) (length xs) refl, thirds (length xs) (eqb (length xs % 3) 0) refl)

  module _ (r : Summary) (c : Counted h r) where
    -- the old indices' part of the image is in the units
    pub Old-units : units (2 * held) ≤ r.units
    unfolding image_size model_size geometry_size
    Old-units = omega (arith, c.image, c.models, sum-item model_size m h x w.in-hall, sum-item geometry_size g x.geometries f w.InModel_lem)

    abbrev parts : ℕ
    parts = r.units - units (2 * held) + units (2 * length xs)

    image-is : 16 * (1 + units (8 * r.models) + parts) ≡ image_size (changed_hall m g h x y)
    unfolding geometry_size
    image-is = omega (arith, c.image, Old-units, image-changed h m g x f w.in-hall w.InModel_lem y)

    pub new-verdict : verdict after ≡ indices_verdict xs (vertex_count w.geometry) r.models parts
    unfolding indices_verdict indices_in_range triangles_distinct image_within_limit
    new-verdict =
        ap verdict (new-hall w changed refl) ∙ verdict-changed h m g x f w.in-hall w.InModel_lem y (Spot-hall w) refl bytes-pass strides_pass components_pass counts-pass
        ∙ rw (index-counts-are, ← image-is, sixteenth (1 + units (8 * r.models) + parts))

  -- ---- as the code finds them

  held-there : field 4 b (start + 6) ≡ held
  held-there =
      let head : List ℕ = bytes 4 (4 + 4 * held) ++ bytes 2 5 in
      let items : List ℕ = run 4 w.geometry.indices in
      let six : length head ≡ 6 = simp (length-append, length-bytes) in
      let e : b ≡ front ++ (head ++ (bytes 4 held ++ (items ++ (behind ++ drop n b)))) =
      sym (take-append-drop n b) ∙ ap (λ (l : List ℕ). l ++ drop n b) (Old-parts ∙ ap (λ (l : List ℕ). front ++ (l ++ behind)) (sym (record_is w.geometry.indices))) ∙ simp append_assoc in
      field-there b front head (items ++ (behind ++ drop n b)) 4 held start 6 (sym front_length) six (Spot-InWidth w).indices_count e

  proposed-is : proposed call (state_in b n) ≡ read after
  unfolding proposed
  proposed-is = rw (w.model_is, w.geometry-is)

  module _ {k l : ℕ} (count : k ≡ field 2 b (at + 16)) (stride : l ≡ field 2 b (at + 18)) where
    start_is : at + 55 + k * l ≡ start
    start_is =
        let p : k * l ≡ vertex_count w.geometry * l = ap (λ (z : ℕ). z * l) (count ∙ Spot-count w) in
        let q : vertex_count w.geometry * l ≡ vertex_count w.geometry * w.geometry.stride = ap (λ (z : ℕ). vertex_count w.geometry * z) (stride ∙ Spot-stride w) in
        omega (arith, (Spot-sound w).content)

    pub start-room : at + 55 + k * l + 10 ≤ n
    start-room = omega (arith, start_is, Old-inside)

    module _ {q : ℕ} (here : q ≡ field 4 b (at + 55 + k * l + 6)) where
      held-is : q ≡ held
      held-is = here ∙ ap (λ (z : ℕ). field 4 b (z + 6)) start_is ∙ held-there

      pub Record-room : at + 55 + k * l + 10 + 4 * q ≤ n
      Record-room = omega (arith, start_is, held-is, Old-inside)

      module _ (r : Summary) (c : Counted h r) where
        pub few-units : (units (2 * q) ≤ r.units) × (r.models ≤ 256) × (r.units ≤ 4194304)
        unfolding counts_within_limits image_within_limit
        few-units =
            let models : length h ≤ 256 = leb-true (length h) 256 (both_true (leb (length h) 256) (leb (geometry_count h) 16384) (Spot-hall w).counts).0 in
            let image : image_size h ≤ 67108864 = leb-true (image_size h) 67108864 (Spot-hall w).image in
            (rw held-is (Old-units r c), omega (arith, c.models), omega (arith, c.image))

        module _ (lowest : ℕ) (v : verdict_of lowest ≡ indices_verdict xs k r.models (r.units - units (2 * q) + units (2 * length xs))) where
          verdict-after : verdict after ≡ verdict_of lowest
          verdict-after =
              new-verdict r c ∙ ap (λ (z : ℕ). indices_verdict xs z r.models (r.units - units (2 * held) + units (2 * length xs))) (sym (count ∙ Spot-count w))
              ∙ ap (λ (z : ℕ). indices_verdict xs k r.models (r.units - units (2 * z) + units (2 * length xs))) (sym held-is) ∙ sym v

          pub replaced-fails : lowest < passed → Stepped call b n (Err (record { check = check_of lowest; needed = 0 })) b
          replaced-fails f = stays-judged call b n w.old after proposed-is (check_of lowest) (verdict-after ∙ rw (lt-leb passed lowest f))

          module _ (p : passed ≤ lowest) where
            after-sound : verdict after ≡ Sound
            after-sound = verdict-after ∙ rw (le-leb passed lowest p)

            pub few_indices : 4 + 4 * length xs ≤ 134217732
            unfolding image_within_limit
            few_indices =
                let image : image_size (changed_hall m g h x y) ≤ 67108864 =
                leb-true (image_size (changed_hall m g h x y)) 67108864 (verdict-sound (changed_hall m g h x y) (sym (ap verdict (new-hall w changed refl)) ∙ after-sound)).image in
                omega (arith, image-is r c)

            needed-is : n - 4 * q + 4 * length xs ≡ length (hall_bytes after)
            needed-is = ap (λ (z : ℕ). n - 4 * z + 4 * length xs) held-is ∙ new-length

            pub replaced-long : length b < n - 4 * q + 4 * length xs → Stepped call b n (Err (record { check = 24; needed = n - 4 * q + 4 * length xs })) b
            replaced-long short = stays_long call b n w.old after proposed-is after-sound (n - 4 * q + 4 * length xs) needed-is short

            pub replaced-done : n - 4 * q + 4 * length xs ≤ length b → {t : List ℕ} → t ≡ rewritten b n (with_new_indices (take n b) at (at + 55 + k * l) (at + 55 + k * l + 10 + 4 * q) xs)
                → Stepped call b n (Ok (n - 4 * q + 4 * length xs)) t
            replaced-done fit {t} e =
                becomes-new call b n w.old after proposed-is after-sound (n - 4 * q + 4 * length xs) t needed-is fit
                (e ∙ ap (λ (z : ℕ). rewritten b n (with_new_indices (take n b) at z (z + 10 + 4 * q) xs)) start_is
                ∙ ap (λ (z : ℕ). rewritten b n (with_new_indices (take n b) at start (start + 10 + 4 * z) xs)) held-is ∙ ap (rewritten b n) new-bytes)
