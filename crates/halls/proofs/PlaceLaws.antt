-- The places in a hall: what is sought in its list stands where they say.
use Rattle.std.specs.Prelude.{None, Some, unwrap_or, option_map}
use mathlib.Core.Path.{◌≡◌, refl, sym, ap, ◌∙◌}
use mathlib.Core.List.{List, [], ◌∷◌, ◌++◌, map, append_assoc}
use Prim.Native.Nat.{ℕ, zero, suc, ◌+◌, ◌*◌, ◌-◌, ◌≤◌, ◌<◌}
use native.Mathlib.Numerals.{add-one}
use native.Mathlib.Omega.{arith}
use lib.ListN.{length, take, drop, get_or, length-append, length-drop, take-append-drop}
use lib.Seq.{take-suc, drop-cons, drop-nil}
use Rattle.sections.specs.Le.{field}
use Rattle.vertices.specs.Declaration.{declaration_bytes}
use Rattle.vertices.proofs.DeclarationLaws.{declaration_length_lem}
use Rattle.halls.specs.List.{each, model_body, geometry_body, vertices_body, indices_body, geometry_record, declaration_record, vertices_record, indices_record, write_geometry, write_geometries}
use Rattle.halls.specs.Hall.{FullGeometry, FullModel, Hall, listed_geometry, listed_model, hall_bytes}
use Rattle.halls.specs.Inner.HallRecords.{of_kind, geometries_records, hall_records}
use Rattle.halls.specs.Parsing.{records_length}
use Rattle.halls.specs.Records.{Record, records}
use Rattle.halls.specs.Inner.Seeking.{place_of, sought, model_end}
use Rattle.halls.specs.Places.{item, model_place, geometry_place}
use Rattle.halls.proofs.format.BodyLaws.{model_body-length, geometry_body-length, vertices_body-length}
use Rattle.halls.proofs.format.RecordBytes.{hall-length}
use Rattle.halls.proofs.check.SeekLaws.{place-next, Stand, Stand-front, Stand-behind}
use Rattle.halls.proofs.read.ViewLaws.{Record-length}

-- ---- lengths

records_length-append : (xs ys : List Record) → records_length (xs ++ ys) ≡ records_length xs + records_length ys
unfolding records_length
records_length-append [] ys = omega arith
records_length-append (x ∷ xs) ys = let e = records_length-append xs ys in omega (arith, e)

geometries_length_lem : (gs : List FullGeometry) → length (write_geometries (map listed_geometry gs)) ≡ records_length (geometries_records gs)
unfolding each records_length geometries_records write_geometry geometry_record declaration_record vertices_record indices_record
geometries_length_lem [] = refl
geometries_length_lem (g ∷ gs) = let e = geometries_length_lem gs in simp (length-append, Record-length) (omega (arith, e))

-- ---- the records of a hall in two parts

geometries-append : (a b : List FullGeometry) → geometries_records (a ++ b) ≡ geometries_records a ++ geometries_records b
unfolding geometries_records
geometries-append [] b = refl
geometries-append (g ∷ a) b = rw (geometries-append a b)

hall-append : (a b : Hall) → hall_records (a ++ b) ≡ hall_records a ++ hall_records b
unfolding hall_records
hall-append [] b = refl
hall-append (m ∷ a) b = rw (hall-append a b, append_assoc)

-- ---- what is sought among them

-- geometries are passed on the way to a model
past-geometries : (gs : List FullGeometry) (rs : List Record) (m at : ℕ) → place_of 1 m at (geometries_records gs ++ rs) ≡ place_of 1 m (at + records_length (geometries_records gs)) rs
unfolding place_of geometries_records records_length
past-geometries [] rs m at = let e : at + 0 ≡ at = omega arith in rw e
past-geometries (g ∷ gs) rs m at =
    let a : ℕ = length (geometry_body (listed_geometry g)) in
    let b : ℕ = length (declaration_bytes g.declaration) in
    let c : ℕ = length (vertices_body g.vertices) in
    let d : ℕ = length (indices_body g.indices) in
    let all : ℕ = records_length (geometries_records gs) in
    let e : at + 6 + a + 6 + b + 6 + c + 6 + d + all ≡ at + (6 + a + (6 + b + (6 + c + (6 + d + all)))) = omega arith in
    past-geometries gs rs m (at + 6 + a + 6 + b + 6 + c + 6 + d) ∙ ap (λ (n : ℕ). place_of 1 m n rs) e

-- the number of those before it that are left, behind one of them
one_fewer : (m : ℕ) → suc m - 1 ≡ m
one_fewer m = omega arith

place-model : (h : Hall) (m at : ℕ) → place_of 1 m at (hall_records h) ≡ option_map (λ (x : FullModel). at + records_length (hall_records (take m h))) (item m h)
unfolding place_of hall_records records_length
place-model [] m at = rw (drop-nil m)
place-model (x ∷ h) zero at = ap Some (omega arith)
place-model (x ∷ h) (suc m) at =
    let n : ℕ = length (model_body (listed_model x)) in
    let gs : List Record = geometries_records x.geometries in
    let l = records_length-append gs (hall_records (take m h)) in
    let e : at + 6 + n + records_length gs + records_length (hall_records (take m h)) ≡ at + (6 + n + records_length (gs ++ hall_records (take m h))) = omega (arith, l) in
    place-next 1 (suc m) at (of_kind 1 (model_body (listed_model x))) (gs ++ hall_records h) refl (λ z. omega arith)
    ∙ ap (λ (k : ℕ). place_of 1 k (at + 6 + n) (gs ++ hall_records h)) (one_fewer m)
    ∙ past-geometries x.geometries (hall_records h) m (at + 6 + n) ∙ place-model h m (at + 6 + n + records_length gs)
    ∙ ap (λ (k : ℕ). option_map (λ (x : FullModel). k) (item m h)) e

-- the next model stands at the front of the records that are left; where there are none, the bytes end there
next-model : (h : Hall) (at n : ℕ) → n ≡ at + records_length (hall_records h) → unwrap_or (place_of 1 0 at (hall_records h)) n ≡ at
unfolding place_of hall_records records_length
next-model [] at n e = e ∙ omega arith
next-model (x ∷ h) at n e = refl

place-geometry : (gs : List FullGeometry) (ms : Hall) (g at : ℕ)
    → place_of 2 g at (geometries_records gs ++ hall_records ms) ≡ option_map (λ (x : FullGeometry). at + records_length (geometries_records (take g gs))) (item g gs)
unfolding place_of geometries_records hall_records records_length
place-geometry [] [] g at = rw (drop-nil g)
place-geometry [] (m ∷ ms) g at = rw (drop-nil g)
place-geometry (x ∷ gs) ms zero at = ap Some (omega arith)
place-geometry (x ∷ gs) ms (suc g) at =
    let a : ℕ = length (geometry_body (listed_geometry x)) in
    let b : ℕ = length (declaration_bytes x.declaration) in
    let c : ℕ = length (vertices_body x.vertices) in
    let d : ℕ = length (indices_body x.indices) in
    let others : List Record = geometries_records gs ++ hall_records ms in
    let all : ℕ = records_length (geometries_records (take g gs)) in
    let e : at + 6 + a + 6 + b + 6 + c + 6 + d + all ≡ at + (6 + a + (6 + b + (6 + c + (6 + d + all)))) = omega arith in
    place-next 2 (suc g) at (of_kind 2 (geometry_body (listed_geometry x)))
    (of_kind 3 (declaration_bytes x.declaration) ∷ of_kind 4 (vertices_body x.vertices) ∷ of_kind 5 (indices_body x.indices) ∷ others) refl (λ z. omega arith)
    ∙ ap (λ (k : ℕ). place_of 2 k (at + 6 + a + 6 + b + 6 + c + 6 + d) others) (one_fewer g)
    ∙ place-geometry gs ms g (at + 6 + a + 6 + b + 6 + c + 6 + d) ∙ ap (λ (k : ℕ). option_map (λ (x : FullGeometry). k) (item g gs)) e

-- ---- a model that is found, or none

-- the place of the m-th model's record, in bytes whose records are a hall's
pub record ModelHere (s : List ℕ) (h : Hall) (m at : ℕ) : Type 0 where
  pub it : FullModel
  pub others : Hall
  pub is : drop m h ≡ it ∷ others
  pub place : at ≡ length (hall_bytes (take m h))
  pub length-is : field 4 s at ≡ 6 + 2 * length it.mapping
  pub behind : Stand s (at + (12 + 2 * length it.mapping)) (geometries_records it.geometries ++ hall_records others)

module _ (s : List ℕ) (h : Hall) (same : hall_records h ≡ records s) (m : ℕ) where
  pub sought-model : sought s 0 1 m ≡ option_map (λ (x : FullModel). 0 + records_length (hall_records (take m h))) (item m h)
  unfolding sought
  sought-model = ap (place_of 1 m 0) (sym same) ∙ place-model h m 0

  -- behind the bytes of the models before it
  there : {at : ℕ} (x : FullModel) (xs : Hall) → drop m h ≡ x ∷ xs → at ≡ length (hall_bytes (take m h)) → ModelHere s h m at
  unfolding hall_records
  there {at} x xs e f =
      let body : List ℕ = model_body (listed_model x) in
      let place : at ≡ 0 + records_length (hall_records (take m h)) = omega (arith, f, hall-length (take m h)) in
      let parts : hall_records h ≡ hall_records (take m h) ++ hall_records (x ∷ xs) = ap hall_records (sym (take-append-drop m h)) ∙ hall-append (take m h) (drop m h) ∙ rw e in
      let all : Stand s 0 (hall_records (take m h) ++ hall_records (x ∷ xs)) = record { low = omega arith; are = sym same ∙ parts } in
      let here : Stand s at (hall_records (x ∷ xs)) = rw place (Stand-behind s 0 (hall_records (take m h)) (hall_records (x ∷ xs)) all) in
      let front = Stand-front s at (of_kind 1 body) (geometries_records x.geometries ++ hall_records xs) here in
      let l : length body ≡ 6 + 2 * length x.mapping = model_body-length x in
      let n : at + (12 + 2 * length x.mapping) ≡ at + 6 + length body = omega (arith, l) in
      record { it = x; others = xs; is = e; place = f; length-is = front.length-is ∙ l; behind = rw n front.behind }

  pub model-stands : {at : ℕ} (x : FullModel) → item m h ≡ Some x → at ≡ length (hall_bytes (take m h)) → ModelHere s h m at
  model-stands {at} x i f = by (drop m h) refl
    where
      by : (l : Hall) → drop m h ≡ l → ModelHere s h m at
      by [] q = let clash : None ≡ Some x = rw q at i in let z : ◌≡◌ {A = ℕ} 0 1 = cc in absurd (omega arith)
      by (y ∷ ys) q = there y ys q f

  -- where it is sought
  pub sought-there : {at : ℕ} (x : FullModel) (xs : Hall) → drop m h ≡ x ∷ xs → Some at ≡ sought s 0 1 m → ModelHere s h m at
  sought-there {at} x xs e f =
      let place : Some at ≡ Some (0 + records_length (hall_records (take m h))) = f ∙ sought-model ∙ rw e in
      let place : at ≡ 0 + records_length (hall_records (take m h)) = cc in
      there x xs e (omega (arith, place, hall-length (take m h)))

  pub no-model : None ≡ sought s 0 1 m → item m h ≡ None
  no-model e = by (drop m h) refl
    where
      by : (l : Hall) → drop m h ≡ l → item m h ≡ None
      by [] q = rw q
      by (x ∷ xs) q = let clash : None ≡ Some (0 + records_length (hall_records (take m h))) = e ∙ sought-model ∙ rw q in let z : ◌≡◌ {A = ℕ} 0 1 = cc in absurd (omega arith)

  pub ModelHere_lem : {at : ℕ} → Some at ≡ sought s 0 1 m → ModelHere s h m at
  ModelHere_lem {at} e = by (drop m h) refl
    where
      by : (l : Hall) → drop m h ≡ l → ModelHere s h m at
      by [] q = let clash : Some at ≡ None = e ∙ sought-model ∙ rw q in let z : ◌≡◌ {A = ℕ} 0 1 = cc in absurd (omega arith)
      by (x ∷ xs) q = sought-there x xs q e

-- ---- where it ends

module _ {s : List ℕ} {h : Hall} {m at : ℕ} (w : ModelHere s h m at) where
  abbrev pub start : ℕ
  start = at + (12 + 2 * length w.it.mapping)

  -- the record behind the model's
  pub behind-model : {n : ℕ} → n ≡ field 4 s at → at + 6 + n ≡ start
  behind-model {n} e = omega (arith, w.length-is)

  abbrev end : ℕ
  end = start + records_length (geometries_records w.it.geometries)

  -- with other models behind it
  joined_length : (l : Hall) → length (hall_bytes (take m h ++ (w.it ∷ l))) ≡ end + records_length (hall_records l)
  unfolding hall_records records_length
  joined_length l =
      let before : Hall = take m h in
      let gs : List Record = geometries_records w.it.geometries in
      let all : records_length (hall_records (before ++ (w.it ∷ l))) ≡ records_length (hall_records before) + records_length (hall_records (w.it ∷ l)) =
      ap records_length (hall-append before (w.it ∷ l)) ∙ records_length-append (hall_records before) (hall_records (w.it ∷ l)) in
      omega (arith, all, records_length-append gs (hall_records l), hall-length (before ++ (w.it ∷ l)), hall-length before, w.place, model_body-length w.it)

  -- the models up to it
  up_to : take (m + 1) h ≡ take m h ++ (w.it ∷ [])
  up_to =
      let inside : m < length h = omega (arith, ap length w.is, length-drop m h) in
      let parts = drop-cons h m w.it inside in
      let it-is : get_or h m w.it ≡ w.it = cc in
      rw (add-one m, take-suc h m w.it inside, it-is)

  end_is : length (hall_bytes (take (m + 1) h)) ≡ end
  unfolding hall_records records_length
  end_is = rw up_to (omega (arith, joined_length []))

  -- all
  all-length : length (hall_bytes h) ≡ end + records_length (hall_records w.others)
  all-length = ap (λ (l : Hall). length (hall_bytes l)) (sym (take-append-drop m h) ∙ rw w.is) ∙ joined_length w.others

  -- so the end that is sought is that of its bytes
  pub model-ends : length (hall_bytes h) ≡ length s → model_end s at ≡ length (hall_bytes (take (m + 1) h))
  unfolding model_end sought
  model-ends long =
      let gs : List FullGeometry = w.it.geometries in
      rw (behind-model refl, w.behind.are, past-geometries gs (hall_records w.others) 0 start) (next-model w.others end (length s) (sym long ∙ all-length) ∙ sym end_is)

-- ---- a geometry of it that is found, or none

-- the place of the g-th of some geometries whose records begin at `start`
pub record GeometryHere (s : List ℕ) (start : ℕ) (gs : List FullGeometry) (g at : ℕ) : Type 0 where
  pub it : FullGeometry
  pub found : item g gs ≡ Some it
  pub place : at ≡ start + length (write_geometries (map listed_geometry (take g gs)))
  pub length-is : field 4 s (at + 42) ≡ 7 + length it.vertices.content
  pub low : at + 55 + length it.vertices.content ≤ length s

module _ (s : List ℕ) (start : ℕ) (gs : List FullGeometry) (ms : Hall) (w : Stand s start (geometries_records gs ++ hall_records ms)) (g : ℕ) where
  sought-geometry : sought s start 2 g ≡ option_map (λ (x : FullGeometry). start + records_length (geometries_records (take g gs))) (item g gs)
  unfolding sought
  sought-geometry = ap (place_of 2 g start) w.are ∙ place-geometry gs ms g start

  stands : {at : ℕ} (x : FullGeometry) (xs : List FullGeometry) → drop g gs ≡ x ∷ xs → Some at ≡ sought s start 2 g → GeometryHere s start gs g at
  unfolding geometries_records
  stands {at} x xs e f =
      let before : List Record = geometries_records (take g gs) in
      let two : List ℕ = geometry_body (listed_geometry x) in
      let three : List ℕ = declaration_bytes x.declaration in
      let four : List ℕ = vertices_body x.vertices in
      let others : List Record = of_kind 5 (indices_body x.indices) ∷ (geometries_records xs ++ hall_records ms) in
      let place : Some at ≡ Some (start + records_length before) = f ∙ sought-geometry ∙ rw e in
      let place : at ≡ start + records_length before = cc in
      let parts : geometries_records gs ++ hall_records ms ≡ before ++ (geometries_records (x ∷ xs) ++ hall_records ms) =
      ap (λ (l : List FullGeometry). geometries_records l ++ hall_records ms) (sym (take-append-drop g gs)) ∙ rw (geometries-append (take g gs) (drop g gs), e, append_assoc) in
      let all : Stand s start (before ++ (geometries_records (x ∷ xs) ++ hall_records ms)) = record { low = w.low; are = w.are ∙ parts } in
      let here : Stand s at (geometries_records (x ∷ xs) ++ hall_records ms) = rw place (Stand-behind s start before (geometries_records (x ∷ xs) ++ hall_records ms) all) in
      let second = (Stand-front s at (of_kind 2 two) (of_kind 3 three ∷ of_kind 4 four ∷ others) here).behind in
      let third = (Stand-front s (at + 6 + length two) (of_kind 3 three) (of_kind 4 four ∷ others) second).behind in
      let front = Stand-front s (at + 6 + length two + 6 + length three) (of_kind 4 four) others third in
      let l : length two ≡ 14 = geometry_body-length x in
      let m : length three ≡ 16 = declaration_length_lem x.declaration in
      let n : length four ≡ 7 + length x.vertices.content = vertices_body-length x.vertices in
      let k : at + 42 ≡ at + 6 + length two + 6 + length three = omega (arith, l, m) in
      record {
        it = x;
        found = rw e;
        place = omega (arith, place, geometries_length_lem (take g gs));
        length-is = rw k (front.length-is ∙ n);
        low = omega (arith, l, m, n, front.behind.low);
      }

  pub no-geometry : None ≡ sought s start 2 g → item g gs ≡ None
  no-geometry e = by (drop g gs) refl
    where
      by : (l : List FullGeometry) → drop g gs ≡ l → item g gs ≡ None
      by [] q = rw q
      by (x ∷ xs) q = let clash : None ≡ Some (start + records_length (geometries_records (take g gs))) = e ∙ sought-geometry ∙ rw q in let z : ◌≡◌ {A = ℕ} 0 1 = cc in absurd (omega arith)

  pub GeometryHere_lem : {at : ℕ} → Some at ≡ sought s start 2 g → GeometryHere s start gs g at
  GeometryHere_lem {at} e = by (drop g gs) refl
    where
      by : (l : List FullGeometry) → drop g gs ≡ l → GeometryHere s start gs g at
      by [] q = let clash : Some at ≡ None = e ∙ sought-geometry ∙ rw q in let z : ◌≡◌ {A = ℕ} 0 1 = cc in absurd (omega arith)
      by (x ∷ xs) q = stands x xs q e

-- ---- the answers

module _ (s : List ℕ) (h : Hall) (same : hall_records h ≡ records s) (m : ℕ) where
  pub model-absent : None ≡ sought s 0 1 m → None ≡ model_place h m
  unfolding model_place
  model-absent e = rw (no-model s h same m e)

  pub model_found_lem : {at : ℕ} → Some at ≡ sought s 0 1 m → Some at ≡ model_place h m
  unfolding model_place
  model_found_lem e = let w = ModelHere_lem s h same m e in rw (w.is, ← w.place)

  pub without-model : (g : ℕ) → None ≡ sought s 0 1 m → None ≡ geometry_place h m g
  unfolding geometry_place
  without-model g e = rw (no-model s h same m e)

module _ {s : List ℕ} {h : Hall} {m at : ℕ} (w : ModelHere s h m at) (g : ℕ) where
  abbrev pub GeometryOf : ℕ → Type 0
  GeometryOf place = GeometryHere s (start w) w.it.geometries g place

  module _ {n : ℕ} (e : n ≡ field 4 s at) where
    from_start : sought s (at + 6 + n) 2 g ≡ sought s (start w) 2 g
    from_start = ap (λ (k : ℕ). sought s k 2 g) (behind-model w e)

    pub geometry-absent : None ≡ sought s (at + 6 + n) 2 g → None ≡ geometry_place h m g
    unfolding geometry_place
    geometry-absent f = rw (w.is, no-geometry s (start w) w.it.geometries w.others w.behind g (f ∙ from_start))

    pub geometry-stands : {place : ℕ} → Some place ≡ sought s (at + 6 + n) 2 g → GeometryOf place
    geometry-stands f = GeometryHere_lem s (start w) w.it.geometries w.others w.behind g (f ∙ from_start)

  pub geometry_found_lem : {place n : ℕ} → GeometryOf place → n ≡ field 4 s (place + 42)
      → Some (record { model = at; geometry = place; declaration = place + 20; vertices = place + 42; indices = place + 42 + 6 + n }) ≡ (geometry_place h m g)
  unfolding geometry_place
  geometry_found_lem {place} {n} x e =
      let i : place + 42 + 6 + n ≡ place + 55 + length x.it.vertices.content = omega (arith, e, x.length-is) in
      rw (w.is, x.found, ← w.place, ← x.place, i)
