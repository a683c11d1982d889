-- What the walk's ends say of the whole list.
use mathlib.Core.Path.{◌≡◌, refl, sym, ap, ◌∙◌}
use mathlib.Core.Bool.{Bool, true, false, cond, ◌&&◌}
use mathlib.Core.List.{List, [], ◌∷◌}
use Prim.Native.Nat.{ℕ, ◌+◌, ◌*◌, ◌≤◌, ◌<◌, min}
use native.Mathlib.Omega.{arith}
use borrow.Author.Tests.{le-leb, lt-leb}
use lib.Dec.{leb, eqb}
use lib.ListN.{length, take, drop, get_or, drop_of_length-le}
use Rattle.sections.proofs.AddressLaws.{both_true}
use Rattle.halls.specs.Every.{every, sum_of}
use Rattle.halls.specs.Checks.{same_numbers, mapping_matches, geometry_count, counts_within_limits, image_within_limit, verdict, judged, hall_verdict}
use Rattle.halls.specs.Hall.{Hall}
use Rattle.halls.specs.ImageSize.{geometry_size, image_size}
use Rattle.halls.specs.Inner.Order.{passed, too_large, failing, check_of, verdict_of}
use Rattle.halls.specs.Inner.Seeking.{Near}
use Rattle.halls.specs.Parsing.{records_length, whole, follows, may_end, ordered, geometries_in, models_in, structured, parse}
use Rattle.halls.specs.Records.{Record, records}
use Rattle.halls.specs.Inner.Walk.{well_from, lowest_from, kind_count, units, units_from, is_empty, left_of, before_of, Walked, limits_lowest, Found}
use Rattle.halls.specs.Verdict.{Sound, Fails}
use Rattle.halls.specs.declared.check.pass.Mark.{Mark}
use Rattle.halls.specs.declared.check.pass.Findings.{Findings}
use Rattle.halls.specs.declared.check.pass.Tally.{Tally}
use Rattle.halls.proofs.check.LimitLaws.{whole_lowest, limits_of}
use Rattle.halls.proofs.format.ParsingLaws.{structured-hall}
use Rattle.halls.proofs.format.RecordLaws.{records-stop}
use Rattle.halls.proofs.SoundLaws.{verdict-sound}
use Rattle.halls.proofs.check.TallyLaws.{lowest_of_all, lowest_of_models, mapping-lowest, lowest_from_lem, count_models, count-geometries, image-units, size_by_mapping_lem, verdict-lowest}

-- ---- a record that is not a hall's

pub stopped : (s : List ℕ) → structured s ≡ false → judged (parse s) ≡ Fails 11
unfolding parse
stopped s e = rw e

-- ---- all records passed

well-none : (first : Bool) → well_from (cond first 0 5) [] ≡ true
unfolding well_from whole records_length ordered may_end every
well-none true = rw (records-stop [] (omega arith))
well-none false = rw (records-stop [] (omega arith))

no-geometry-first : (rs : List Record) → ordered 0 rs ≡ true → geometries_in rs ≡ []
unfolding ordered follows geometries_in
no-geometry-first [] e = refl
no-geometry-first (r ∷ rs) e = rw (both_true (eqb r.kind 1) _ e).0

pub limits_low : (counts image : Bool) → (13 ≤ cond counts (failing too_large image) 13) × (cond counts (failing too_large image) 13 ≤ passed)
limits_low true true = (omega arith, omega arith)
limits_low true false = (omega arith, omega arith)
limits_low false image = (omega arith, omega arith)

module _ (s : List ℕ) (below : (i : ℕ) → get_or s i 0 < 256) (t : Tally) (w : Walked s t) (end : length s ≤ t.at) where
  abbrev hall : Hall
  hall = models_in (records s)

  none_left : drop t.at s ≡ []
  none_left = drop_of_length-le s {i = t.at} end

  no-records : records (drop t.at s) ≡ []
  no-records = ap records none_left ∙ records-stop [] (omega arith)

  is-structured : structured s ≡ true
  is-structured = w.structure ∙ ap (well_from (before_of t)) none_left ∙ well-none (eqb t.summary.models 0)

  verdict-is : judged (parse s) ≡ verdict hall
  unfolding parse
  verdict-is = rw is-structured

  first-model : geometries_in (records s) ≡ []
  unfolding structured
  first-model = no-geometry-first (records s) (both_true (ordered 0 (records s)) _ (both_true (whole s) _ is-structured).1).0

  lowest_is : min t.lowest (failing 12 (is_empty (left_of t))) ≡ min passed (lowest_of_models hall)
  unfolding lowest_from lowest_of_all same_numbers
  lowest_is =
      let all : lowest_from [] (records s) ≡ min passed (min passed (lowest_of_models hall)) = lowest_from_lem [] (records s) ∙ rw first-model in
      let last : lowest_from (left_of t) (records (drop t.at s)) ≡ failing 12 (is_empty (left_of t)) = ap (lowest_from (left_of t)) no-records in
      sym (ap (min t.lowest) last) ∙ sym w.lowest ∙ rw all (omega arith)

  models_are : t.summary.models ≡ length hall
  unfolding kind_count
  models_are = let e : kind_count 1 (records (drop t.at s)) ≡ 0 = ap (kind_count 1) no-records in omega (arith, w.models, count_models (records s))

  geometries-are : t.summary.geometries ≡ geometry_count hall
  unfolding kind_count
  geometries-are =
      let e : kind_count 2 (records (drop t.at s)) ≡ 0 = ap (kind_count 2) no-records in
      let z : length (geometries_in (records s)) ≡ 0 = ap length first-model in
      omega (arith, w.geometries, count-geometries (records s))

  units-are : every mapping_matches hall ≡ true → 16 * (1 + units (8 * t.summary.models) + t.summary.units) ≡ image_size hall
  unfolding units_from image_size sum_of
  units-are m =
      let e : units_from (records (drop t.at s)) ≡ 0 = ap units_from no-records in
      let z : sum_of geometry_size (geometries_in (records s)) ≡ 0 = ap (sum_of geometry_size) first-model in
      omega (arith, w.image, image-units (records s), size_by_mapping_lem hall m, models_are)

  limits_are : every mapping_matches hall ≡ true → limits_lowest t.summary.models t.summary.geometries t.summary.units ≡ whole_lowest hall
  limits_are m = limits_of hall t.summary.models t.summary.geometries t.summary.units models_are geometries-are (units-are m)

  tally_limits : 13 ≤ limits_lowest t.summary.models t.summary.geometries t.summary.units
  unfolding limits_lowest
  tally_limits = (limits_low (leb t.summary.models 256 && leb t.summary.geometries 16384) (leb (1 + units (8 * t.summary.models) + t.summary.units) 4194304)).0

  pub judged-as : (lowest : ℕ) → lowest ≡ min (min t.lowest (failing 12 (is_empty (left_of t)))) (limits_lowest t.summary.models t.summary.geometries t.summary.units) → judged (parse s) ≡ verdict_of lowest
  judged-as lowest e =
      let same : lowest ≡ min (lowest_of_models hall) (whole_lowest hall) = e ∙ rw lowest_is (both-limits (every mapping_matches hall) refl) in
      verdict-is ∙ sym (ap (λ (n : ℕ). verdict_of n) same ∙ verdict-lowest hall (structured-hall s below is-structured).exact_bytes)
    where
      both-limits : (b : Bool) → every mapping_matches hall ≡ b
          → min (min passed (lowest_of_models hall)) (limits_lowest t.summary.models t.summary.geometries t.summary.units) ≡ min (lowest_of_models hall) (whole_lowest hall)
      both-limits true m = rw (limits_are m) (omega (arith, (limits_low (counts_within_limits hall) (image_within_limit hall)).1))
      both-limits false m = rw (mapping-lowest hall m) (omega (arith, (limits_low (counts_within_limits hall) (image_within_limit hall)).0, tally_limits))

  pub judged-fails : (lowest : ℕ) → lowest ≡ min (min t.lowest (failing 12 (is_empty (left_of t)))) (limits_lowest t.summary.models t.summary.geometries t.summary.units) → lowest < passed → judged (parse s) ≡ Fails (check_of lowest)
  judged-fails lowest e l = judged-as lowest e ∙ rw (lt-leb passed lowest l)

  pub judged-sound : (lowest : ℕ) → lowest ≡ min (min t.lowest (failing 12 (is_empty (left_of t)))) (limits_lowest t.summary.models t.summary.geometries t.summary.units) → passed ≤ lowest → judged (parse s) ≡ Sound
  judged-sound lowest e l = judged-as lowest e ∙ rw (le-leb passed lowest l)

  -- with the place that is nearest
  pub found-all : {m g : ℕ} {p : Mark} {r : Findings} → judged (parse s) ≡ Sound → Near s m g t.summary.models p → r ≡ record { summary = t.summary; nearest = p } → Found s m g r
  found-all v n e =
      let m = (verdict-sound hall (sym verdict-is ∙ v)).mappings in
      rw e (record { counted = record { models = models_are; geometries = geometries-are; image = units-are m }; nearest = rw (← models_are) n })

-- ---- the first n bytes of a buffer

pub verdict-outside : (b : List ℕ) (n : ℕ) → length b < n → hall_verdict b n ≡ Fails 11
unfolding hall_verdict
verdict-outside b n h = rw (lt-leb n (length b) h)

pub verdict-inside : (b : List ℕ) (n : ℕ) → n ≤ length b → judged (parse (take n b)) ≡ hall_verdict b n
unfolding hall_verdict
verdict-inside b n h = rw (le-leb n (length b) h)
