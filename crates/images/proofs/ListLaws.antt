-- A sound hall's list, read by its own lengths, is that hall.
use mathlib.Core.Path.{◌≡◌, refl, sym, ap, ◌∙◌}
use mathlib.Core.List.{List, [], ◌∷◌, ◌++◌, append_assoc, append-nil, map}
use Prim.Native.Nat.{ℕ, ◌+◌, ◌*◌, ◌^◌, ◌≤◌, ◌<◌}
use native.Mathlib.Omega.{arith}
use borrow.Author.Tests.{leb-true}
use lib.ListN.{length, take, drop, length-append, length-map}
use lib.Seq.{take_at, drop_at}
use Rattle.sections.specs.Edit.{part}
use Rattle.sections.specs.Le.{bytes, field}
use Rattle.sections.proofs.AddressLaws.{both_true}
use Rattle.sections.proofs.LeLaws.{length-bytes}
use Rattle.vertices.specs.Declaration.{declaration_bytes}
use Rattle.vertices.proofs.DeclarationLaws.{declaration_length_lem}
use Rattle.halls.specs.Checks.{counts_within_limits, image_within_limit}
use Rattle.halls.specs.Every.{Each}
use Rattle.halls.specs.Fronts.{entries_at, content_at, held_at, front_geometry}
use Rattle.halls.specs.Hall.{FullGeometry, FullModel, Hall, FullGeometryInWidth, FullModelInWidth, HallInWidth, listed_geometry, listed_model, hall_bytes}
use Rattle.halls.specs.List.{each, record_bytes, model_body, geometry_body, vertices_body, indices_body, model_record, geometry_record, declaration_record, vertices_record, indices_record, write_geometry, write_geometries, write_model}
use Rattle.halls.specs.List as list
use Rattle.halls.proofs.BodyLaws.{model_body-length, model-read-back, geometry_body-length, vertices_body-length, Vertices-read-back, indices_body-length, geometry-read-back}
use Rattle.halls.proofs.JudgingLaws.{field-part}
use Rattle.halls.proofs.RecordLaws.{field-behind}
use Rattle.halls.proofs.SoundLaws.{SoundGeometry, SoundModel, verdict-sound, sound_models}
use Rattle.halls.proofs.StepLaws.{Old}
use Rattle.halls.proofs.ViewLaws.{Record-length}
use Rattle.images.specs.Fronts.{items_from, items_length, geometry_length, geometries_from, geometries_length, front_model, model_length, SoundList}

-- ---- bytes behind other bytes

part-behind : (before x after : List ℕ) (at n : ℕ) → length before ≡ at → length x ≡ n → part (before ++ (x ++ after)) at n ≡ x
unfolding part
part-behind before x after at n e l = rw (drop_at before (x ++ after) at e, take_at x after n l)

-- the length before a record's body, and the body
module _ (before : List ℕ) (kind : ℕ) (body after : List ℕ) (at : ℕ) (e : length before ≡ at) where
  abbrev all : List ℕ
  all = before ++ (record_bytes kind body ++ after)

  Record-long : length body < 2 ^ 32 → field 4 all at ≡ length body
  unfolding record_bytes
  Record-long h =
      ap (λ (l : List ℕ). field 4 (before ++ l) at) (append_assoc (bytes 4 (length body)) (bytes 2 kind ++ body) after)
      ∙ field-behind before ((bytes 2 kind ++ body) ++ after) 4 (length body) at e (omega arith)

  Record-body : part all (at + 6) (length body) ≡ body
  unfolding record_bytes
  Record-body =
      let front : List ℕ = before ++ (bytes 4 (length body) ++ bytes 2 kind) in
      let n : length front ≡ at + 6 = simp (length-append, length-bytes) (omega arith) in
      ap (λ (l : List ℕ). part l (at + 6) (length body)) (regroup before (bytes 4 (length body)) (bytes 2 kind) body after) ∙ part-behind front body after (at + 6) (length body) n refl
    where
      regroup : (a b c d f : List ℕ) → a ++ ((b ++ (c ++ d)) ++ f) ≡ (a ++ (b ++ c)) ++ (d ++ f)
      regroup a b c d f = simp append_assoc

-- ---- a geometry

module _ (g : FullGeometry) (w : FullGeometryInWidth g) (exact : length g.vertices.content ≡ g.vertices.count * g.vertices.stride) (after : List ℕ) where
  abbrev b2 : List ℕ
  b2 = geometry_body (listed_geometry g)

  abbrev b3 : List ℕ
  b3 = declaration_bytes g.declaration

  abbrev b4 : List ℕ
  b4 = vertices_body g.vertices

  abbrev b5 : List ℕ
  b5 = indices_body g.indices

  abbrev content : ℕ
  content = length g.vertices.content

  abbrev held : ℕ
  held = length g.indices.items

  s : List ℕ
  s = write_geometry (listed_geometry g) ++ after

  -- its four records
  abbrev r2 : List ℕ
  r2 = record_bytes 2 b2

  abbrev r3 : List ℕ
  r3 = record_bytes 3 b3

  abbrev r4 : List ℕ
  r4 = record_bytes 4 b4

  abbrev r5 : List ℕ
  r5 = record_bytes 5 b5

  four : s ≡ r2 ++ (r3 ++ (r4 ++ (r5 ++ after)))
  unfolding s write_geometry geometry_record declaration_record vertices_record indices_record
  four = simp append_assoc

  long2 : length r2 ≡ 20
  long2 = Record-length 2 b2 ∙ omega (arith, geometry_body-length g)

  long23 : length (r2 ++ r3) ≡ 42
  long23 = length-append r2 r3 ∙ omega (arith, long2, Record-length 3 b3, declaration_length_lem g.declaration)

  long234 : length (r2 ++ (r3 ++ r4)) ≡ 55 + content
  long234 = simp length-append (omega (arith, long2, Record-length 3 b3, declaration_length_lem g.declaration, Record-length 4 b4, vertices_body-length g.vertices))

  as4 : s ≡ (r2 ++ r3) ++ (r4 ++ (r5 ++ after))
  as4 = four ∙ sym (append_assoc r2 r3 (r4 ++ (r5 ++ after)))

  as5 : s ≡ (r2 ++ (r3 ++ r4)) ++ (r5 ++ after)
  as5 = four ∙ simp append_assoc

  part2 : part s 6 14 ≡ b2
  part2 = ap (λ (l : List ℕ). part l 6 14) four ∙ rw (geometry_body-length g) at (Record-body [] 2 b2 (r3 ++ (r4 ++ (r5 ++ after))) 0 refl)

  part3 : part s 26 16 ≡ b3
  part3 = ap (λ (l : List ℕ). part l 26 16) four ∙ rw (declaration_length_lem g.declaration) at (Record-body r2 3 b3 (r4 ++ (r5 ++ after)) 20 long2)

  part4 : part s 48 (7 + content) ≡ b4
  part4 = ap (λ (l : List ℕ). part l 48 (7 + content)) as4 ∙ rw (vertices_body-length g.vertices) at (Record-body (r2 ++ r3) 4 b4 (r5 ++ after) 42 long23)

  part5 : part s (61 + content) (4 + 4 * held) ≡ b5
  part5 =
      let place : 55 + content + 6 ≡ 61 + content = omega arith in
      ap (λ (l : List ℕ). part l (61 + content) (4 + 4 * held)) as5 ∙ rw (indices_body-length g.indices, place) at (Record-body (r2 ++ (r3 ++ r4)) 5 b5 after (55 + content) long234)

  total : length s ≡ 65 + content + 4 * held + length after
  total = ap length as5 ∙ simp length-append (omega (arith, long234, length-append r2 (r3 ++ r4), length-append r3 r4, Record-length 5 b5, indices_body-length g.indices))

  content-is : content_at s ≡ content
  unfolding content_at
  content-is =
      let fit : 48 + (7 + content) ≤ length s = omega (arith, total) in
      let read = Vertices-read-back g.vertices w.layout w.vertices_stride w.vertices_count in
      let count : field 4 s 51 ≡ g.vertices.count = sym (field-part 4 s 48 (7 + content) 3 (omega arith) fit) ∙ ap (λ (l : List ℕ). field 4 l 3) part4 ∙ ap (λ (x : list.Vertices). x.count) read in
      let stride : field 2 s 49 ≡ g.vertices.stride = sym (field-part 2 s 48 (7 + content) 1 (omega arith) fit) ∙ ap (λ (l : List ℕ). field 2 l 1) part4 ∙ ap (λ (x : list.Vertices). x.stride) read in
      rw (count, stride) (sym exact)

  held-is : held_at s ≡ held
  unfolding held_at
  held-is =
      let n : field 4 s (55 + content) ≡ length b5 = ap (λ (l : List ℕ). field 4 l (55 + content)) as5 ∙ Record-long (r2 ++ (r3 ++ r4)) 5 b5 after (55 + content) long234 (omega (arith, indices_body-length g.indices, w.held)) in
      rw (content-is, n) (omega (arith, indices_body-length g.indices))

  geometry-read : front_geometry s ≡ g
  unfolding front_geometry
  geometry-read = rw (content-is, held-is, part2, part3, part4, part5) (geometry-read-back g w)

  geometry-long : geometry_length s ≡ length (write_geometry (listed_geometry g))
  unfolding geometry_length s
  geometry-long = rw (content-is, held-is) (omega (arith, total, length-append (write_geometry (listed_geometry g)) after))

-- ---- geometries

abbrev Exact : FullGeometry → Type 0
Exact g = length g.vertices.content ≡ g.vertices.count * g.vertices.stride

record Read {A : Type 0} (front : List ℕ → A) (len : List ℕ → ℕ) (xs : List A) (written after : List ℕ) : Type 0 where
  items : items_from front len (length xs) (written ++ after) ≡ xs
  lengths : items_length len (length xs) (written ++ after) ≡ length written

-- one more in front
read_more : {A : Type 0} (front : List ℕ → A) (len : List ℕ → ℕ) (x : A) (xs : List A) (one written after : List ℕ) → front (one ++ (written ++ after)) ≡ x → len (one ++ (written ++ after)) ≡ length one
    → Read front len xs written after → Read front len (x ∷ xs) (one ++ written) after
unfolding items_from items_length
read_more front len x xs one written after f l r =
    let e : (one ++ written) ++ after ≡ one ++ (written ++ after) = append_assoc one written after in
    let d : drop (length one) (one ++ (written ++ after)) ≡ written ++ after = drop_at one (written ++ after) (length one) refl in
    record { items = rw (e, f, l, d, r.items); lengths = rw (e, l, d, r.lengths, length-append) }

geometries-read : (gs : List FullGeometry) → Each FullGeometryInWidth gs → Each SoundGeometry gs → (after : List ℕ) → Read front_geometry geometry_length gs (write_geometries (map listed_geometry gs)) after
unfolding Each each items_from items_length s
geometries-read [] w q after = record { items = refl; lengths = refl }
geometries-read (g ∷ gs) w q after =
    let rest : List ℕ = write_geometries (map listed_geometry gs) in
    read_more front_geometry geometry_length g gs (write_geometry (listed_geometry g)) rest after (geometry-read g w.0 q.0.content (rest ++ after)) (geometry-long g w.0 q.0.content (rest ++ after))
    (geometries-read gs w.1 q.1 after)

-- ---- a model

module _ (m : FullModel) (w : FullModelInWidth m) (q : SoundModel m) (after : List ℕ) where
  abbrev body : List ℕ
  body = model_body (listed_model m)

  abbrev inner : List ℕ
  inner = write_geometries (map listed_geometry m.geometries)

  abbrev n : ℕ
  n = length m.mapping

  model-s : List ℕ
  model-s = write_model (listed_model m) ++ after

  as_record : model-s ≡ record_bytes 1 body ++ (inner ++ after)
  unfolding model-s write_model model_record
  as_record = append_assoc (record_bytes 1 body) inner after

  body-long : length body ≡ 6 + 2 * n
  body-long = model_body-length m

  entries_are : entries_at model-s ≡ n
  entries_are =
      let l : field 4 model-s 0 ≡ length body = ap (λ (l : List ℕ). field 4 l 0) as_record ∙ Record-long [] 1 body (inner ++ after) 0 refl (omega (arith, body-long, w.mapping)) in
      omega (arith, body-long)

  as_many : n ≡ length m.geometries
  as_many = ap length q.mapping ∙ length-map m.geometries _

  behind : drop (12 + 2 * n) model-s ≡ inner ++ after
  behind =
      let l : length (record_bytes 1 body) ≡ 12 + 2 * n = Record-length 1 body ∙ omega (arith, body-long) in
      ap (drop (12 + 2 * n)) as_record ∙ drop_at (record_bytes 1 body) (inner ++ after) (12 + 2 * n) l

  body-read : part model-s 6 (6 + 2 * n) ≡ body
  body-read = ap (λ (l : List ℕ). part l 6 (6 + 2 * n)) as_record ∙ rw body-long at (Record-body [] 1 body (inner ++ after) 0 refl)

  read : Read front_geometry geometry_length m.geometries inner after
  read = geometries-read m.geometries w.geometries q.geometries after

  inner-read : geometries_from n (inner ++ after) ≡ m.geometries
  inner-read = rw as_many read.items

  inner-long : geometries_length n (inner ++ after) ≡ length inner
  inner-long = rw as_many read.lengths

  model-read : front_model model-s ≡ m
  unfolding front_model
  model-read = rw (entries_are, behind, body-read, inner-read) (model-read-back m w)

  model-long : model_length model-s ≡ length (write_model (listed_model m))
  unfolding model_length write_model model_record
  model-long = rw (entries_are, behind, inner-long, length-append) (omega (arith, Record-length 1 body, body-long))

models-read : (h : Hall) → HallInWidth h → Each SoundModel h → Read front_model model_length h (hall_bytes h) []
unfolding Each each hall_bytes items_from items_length model-s
models-read [] w q = record { items = refl; lengths = refl }
models-read (m ∷ ms) w q =
    let rest : List ℕ = hall_bytes ms in
    read_more front_model model_length m ms (write_model (listed_model m)) rest [] (model-read m w.0 q.0 (rest ++ [])) (model-long m w.0 q.0 (rest ++ [])) (models-read ms w.1 q.1)

-- ---- a sound list

pub SoundList_lem : (b : List ℕ) (n : ℕ) → Old b n → SoundList (take n b)
unfolding counts_within_limits image_within_limit
SoundList_lem b n o =
    let sound = verdict-sound _ o.sound in
    let read = models-read _ o.InWidth_lem (sound_models _ sound) in
    let few = both_true _ _ sound.counts in
    let whole = append-nil (hall_bytes _) ∙ o.bytes-are in
    record {
      models_are = rw whole at read.items;
      lengths = rw whole at read.lengths ∙ ap length o.bytes-are;
      few_models = leb-true _ _ few.0;
      few-geometries = leb-true _ _ few.1;
      low = leb-true _ _ sound.image;
    }
