-- A model without geometries at the end of a sound hall.
use mathlib.Core.Path.{◌≡◌, refl, sym, ap, ◌∙◌}
use mathlib.Core.Bool.{Bool, true}
use mathlib.Core.List.{List, [], ◌∷◌, ◌++◌, append-nil}
use Prim.Native.Nat.{ℕ, ◌+◌, ◌*◌, ◌≤◌, ◌<◌}
use native.Mathlib.Omega.{arith}
use borrow.Author.Tests.{le-leb, lt-leb, leb-true}
use lib.Dec.{leb}
use lib.ListN.{length, take, length-append, length-take}
use Rattle.sections.specs.Edit.{overwrite}
use Rattle.sections.specs.Le.{bytes}
use Rattle.sections.proofs.AddressLaws.{both_true}
use Rattle.vertices.specs.Runs.{run}
use Rattle.halls.specs.Calls.{add_model, proposed}
use Rattle.halls.specs.Checks.{same_numbers, mapping_matches, geometry_count, counts_within_limits, image_within_limit, verdict}
use Rattle.halls.specs.Every.{every, sum_of}
use Rattle.halls.specs.Hall.{FullModel, Hall, hall_bytes}
use Rattle.halls.specs.ImageSize.{model_size, image_size}
use Rattle.halls.specs.List.{each, model_numbers, model_record, write_model}
use Rattle.halls.specs.Reading.{read}
use Rattle.halls.specs.State.{State, full_model, hall_of}
use Rattle.halls.specs.Step.{state_in, rewritten, Stepped}
use Rattle.halls.specs.Inner.Order.{passed, check_of, verdict_of}
use Rattle.halls.specs.Inner.Walk.{units, limits_lowest, Counted}
use Rattle.std.specs.Prelude.{Ok, Err}
use Rattle.halls.specs.Verdict.{Sound}
use Rattle.halls.specs.declared.check.pass.Summary.{Summary}
use Rattle.halls.proofs.check.LimitLaws.{EachPasses, limits_of, limits-verdict}
use Rattle.halls.proofs.format.RecordLaws.{model-parts}
use Rattle.halls.proofs.edit.RewrittenLaws.{rewritten-start, rewritten-more}
use Rattle.halls.proofs.EveryLaws.{every_append}
use Rattle.halls.proofs.edit.SoundEdits.{sum-append, hall_bytes-append}
use Rattle.halls.proofs.SoundLaws.{verdict-sound}
use Rattle.halls.proofs.edit.StepLaws.{hall_in, Old, stays-judged, stays_long, becomes-new}

hall-append : (s t : State) → hall_of (s ++ t) ≡ hall_of s ++ hall_of t
unfolding hall_of
hall-append [] t = refl
hall-append (m ∷ s) t = ap (λ (h : Hall). full_model m ∷ h) (hall-append s t)

module _ (b : List ℕ) (n binding mask : ℕ) (o : Old b n) where
  abbrev hall : Hall
  hall = hall_in b n

  abbrev added : FullModel
  added = record { binding = binding; mask = mask; mapping = []; geometries = [] }

  abbrev result : Hall
  result = hall ++ (added ∷ [])

  proposed-is : proposed (add_model binding mask) (state_in b n) ≡ read result
  unfolding proposed hall_of
  proposed-is = ap read (hall-append (state_in b n) (record { binding = binding; mask = mask; geometries = [] } ∷ []) ∙ ap (λ (h : Hall). h ++ (added ∷ [])) o.back)

  -- what passed of the hall passes of the result
  still : (test : FullModel → Bool) → test added ≡ true → every test hall ≡ true → every test result ≡ true
  unfolding every
  still test a e = every_append test hall (added ∷ []) ∙ rw (e, a)

  passes : EachPasses result
  unfolding every mapping_matches same_numbers
  passes =
      let f = verdict-sound hall o.sound in
      record {
        vertex-bytes = still _ refl f.vertex-bytes;
        mappings = still _ refl f.mappings;
        strides = still _ refl f.strides;
        components = still _ refl f.components;
        vertex-counts = still _ refl f.vertex-counts;
        index-counts = still _ refl f.index-counts;
        indices = still _ refl f.indices;
        triangles = still _ refl f.triangles;
      }

  bytes-are : hall_bytes result ≡ take n b ++ model_numbers 6 binding mask
  unfolding hall_bytes each write_model model_record run
  bytes-are =
      hall_bytes-append hall (added ∷ [])
      ∙ rw (o.bytes-are, append-nil, append-nil)
      (ap (λ (l : List ℕ). take n b ++ l) (sym (model-parts binding mask []) ∙ append-nil (model_numbers 6 binding mask)))

  length-is : length (hall_bytes result) ≡ n + 12
  unfolding bytes
  length-is = ap length bytes-are ∙ simp (length-append, length-take) (omega (arith, o.within))

  module _ (r : Summary) (c : Counted hall r) where
    pub added-few : r.models ≤ 256
    unfolding counts_within_limits
    added-few =
        let l : length hall ≤ 256 = leb-true (length hall) 256 (both_true (leb (length hall) 256) _ (verdict-sound hall o.sound).counts).0 in
        omega (arith, c.models)

    pub added-small : r.units ≤ 4194304
    unfolding image_within_limit
    added-small =
        let i : image_size hall ≤ 67108864 = leb-true (image_size hall) 67108864 (verdict-sound hall o.sound).image in
        omega (arith, c.image)

    size_is : 16 * (1 + units (8 * (r.models + 1)) + (r.units + 3)) ≡ image_size result
    unfolding image_size model_size sum_of
    size_is = rw (sum-append model_size hall (added ∷ []), length-append hall (added ∷ [])) (omega (arith, c.image, c.models))

    verdict-is : (lowest : ℕ) → lowest ≡ limits_lowest (r.models + 1) r.geometries (r.units + 3) → verdict result ≡ verdict_of lowest
    unfolding geometry_count sum_of
    verdict-is lowest e =
        let models : r.models + 1 ≡ length result = rw (length-append hall (added ∷ [])) (omega (arith, c.models)) in
        let geometries : r.geometries ≡ geometry_count result = rw (sum-append (λ (m : FullModel). length m.geometries) hall (added ∷ [])) (omega (arith, c.geometries)) in
        limits-verdict result passes ∙ ap (λ (x : ℕ). verdict_of x) (sym (e ∙ limits_of result (r.models + 1) r.geometries (r.units + 3) models geometries size_is))

    module _ (lowest : ℕ) (e : lowest ≡ limits_lowest (r.models + 1) r.geometries (r.units + 3)) where
      pub added-judged : lowest < passed → Stepped (add_model binding mask) b n (Err (record { check = check_of lowest; needed = 0 })) b
      added-judged h = stays-judged (add_model binding mask) b n o result proposed-is (check_of lowest) (verdict-is lowest e ∙ rw (lt-leb passed lowest h))

      module _ (h : passed ≤ lowest) where
        sound : verdict result ≡ Sound
        sound = verdict-is lowest e ∙ rw (le-leb passed lowest h)

        pub added-long : length b < n + 12 → Stepped (add_model binding mask) b n (Err (record { check = 24; needed = n + 12 })) b
        added-long l = stays_long (add_model binding mask) b n o result proposed-is sound (n + 12) (sym length-is) l

        pub added-done : (t : List ℕ) → n + 12 ≤ length b → t ≡ overwrite b n (model_numbers 6 binding mask) → Stepped (add_model binding mask) b n (Ok (n + 12)) t
        added-done t l w =
            let long : length (take n b) ≡ n = simp length-take (omega (arith, o.within)) in
            let start : b ≡ rewritten b n (take n b) = sym (rewritten-start b n o.within) in
            let more : overwrite (rewritten b n (take n b)) (length (take n b)) (model_numbers 6 binding mask) ≡ rewritten b n (take n b ++ model_numbers 6 binding mask) = rewritten-more b n (take n b) (model_numbers 6 binding mask) (omega arith) in
            becomes-new (add_model binding mask) b n o result proposed-is sound (n + 12) t (sym length-is) l
            (w ∙ ap (λ (x : List ℕ). overwrite x n (model_numbers 6 binding mask)) start ∙ ap (λ (i : ℕ). overwrite (rewritten b n (take n b)) i (model_numbers 6 binding mask)) (sym long) ∙ more ∙ ap (rewritten b n) (sym bytes-are))
