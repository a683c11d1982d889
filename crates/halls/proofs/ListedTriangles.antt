-- The triangles of what `hall_list` wrote are those of the models read: what is read fits, since a field of four bytes is below 2^32, and since a section within
-- the limit holds no more than a record can.
use Rattle.std.specs.Prelude.{Option, None, Some}
use mathlib.Core.Path.{◌≡◌, refl, sym, subst, ap, ◌∙◌}
use mathlib.Core.Bool.{Bool, true, false, cond}
use mathlib.Core.List.{List, [], ◌∷◌}
use Prim.Native.Nat.{ℕ, ◌+◌, ◌*◌, ◌-◌, ◌/◌, ◌^◌, ◌≤◌, ◌<◌, min}
use native.Mathlib.Omega.{arith}
use borrow.Author.Tests.{leb-true}
use lib.Dec.{eqb, leb}
use lib.ListN.{length, take, length-append}
use Rattle.sections.specs.Address.{Sections, resolved, within_limit}
use Rattle.sections.specs.Edit.{part, overwrite}
use Rattle.sections.specs.Lists.{header_of, header_length}
use Rattle.sections.proofs.AddressLaws.{limit-each}
use Rattle.sections.proofs.EditLaws.{part_same}
use Rattle.sections.proofs.LeLaws.{field_bound, length-bytes}
use Rattle.vertices.specs.Runs.{numbers}
use Rattle.vertices.proofs.RunLaws.{length_run, numbers-length}
use Rattle.halls.specs.Blocks.{ModelBlock, model_block, geometry_block}
use Rattle.halls.specs.Every.{Each}
use Rattle.halls.specs.List.{Vertices, Indices, Geometry, Model, optional, model_body, model_record, vertices_record, indices_record, write}
use Rattle.halls.specs.Listing.{fitted, hall_list}
use Rattle.halls.specs.Outcome.{Outcome, refusal, written, answer_of, after}
use Rattle.halls.specs.Reading.{Reading, refused, read, list_at, mapping_of, geometry_with, geometry_of, read_models, read_header, read_list}
use Rattle.halls.specs.Records.{records}
use Rattle.halls.specs.Triangles.{held_by, triangles_of, triangles_of_all, triangles, triangles_in, Short, FittingGeometry, FittingModel, Fitting, CountsRead}
use Rattle.halls.specs.Inner.Measure.{geometries_in}
use Rattle.halls.specs.Inner.Taking.{content_in, held_in}
use Rattle.halls.specs.Inner.View.{model_of}
use Rattle.std.specs.Prelude.{Result, Ok}
use Rattle.halls.specs.declared.answer.Refusal.{Refusal}
use Rattle.halls.proofs.edit.FittingLaws.{SmallGeometry, read_small}
use Rattle.halls.proofs.edit.ReadEach.{each-model, model-each}
use Rattle.halls.proofs.read.ReadFew.{read-few}
use Rattle.halls.proofs.format.BodyLaws.{AllBytes}
use Rattle.halls.proofs.format.TriangleLaws.{triangles-written}
use Rattle.halls.proofs.read.ReadBytes.{IfThere, there-map, there_or, there-cond, resolved-below}
use Rattle.halls.proofs.read.ReadingLaws.{read-injective, need-read}
use Rattle.halls.proofs.read.SecondPass.{models-read}
use Rattle.halls.proofs.read.ViewLaws.{Record-length, vertices_record-length, indices_record-length}
use Rattle.halls.specs.Inner.Small.{Small}

-- ---- records whose body is short

Vertices-short : (o : Option Vertices) → content_in o < 2 ^ 31 → Short (optional vertices_record o)
Vertices-short None h = omega arith
Vertices-short (Some v) h = omega (arith, vertices_record-length v)

Indices-short : (o : Option Indices) → held_in o < 2 ^ 29 → Short (optional indices_record o)
Indices-short None h = omega arith
Indices-short (Some i) h = omega (arith, indices_record-length i)

model-short : (m : Model) → length m.mapping < 2 ^ 16 → Short (model_record m)
unfolding model_record
model-short m h =
    let body : length (model_body m) ≡ 6 + length m.mapping * 2 = simp (length-append, length-bytes, length_run) (omega arith) in
    omega (arith, Record-length 1 (model_body m))

-- ---- a reading fits its fields

-- what is read, with check 5
record ReadFits (ms : List Model) : Type 0 where
  fitting : Fitting ms
  few : geometries_in ms ≤ 16384

module _ (s : Sections) (system : AllBytes s.system) (graphics : AllBytes s.graphics) where
  Block-bytes : (pointer n : ℕ) (b : List ℕ) → resolved s pointer n ≡ Some b → AllBytes b
  Block-bytes pointer n b e = subst (IfThere AllBytes) e (resolved-below s system graphics pointer n)

  -- a mapping has no more entries than its model has geometry pointers
  mapping-few : (b : ModelBlock) → length (mapping_of s b) ≤ b.count
  unfolding mapping_of list_at
  mapping-few b =
      let Few : List ℕ → Type 0 = λ (l : List ℕ). length l ≤ b.count in
      let none-few : Few [] = omega arith in
      let all-few : (raw : List ℕ) → AllBytes raw → Few (numbers 2 b.count raw) = λ raw f. rw (numbers-length 2 b.count raw) (omega arith) in
      there_or Few (list_at s 2 b.count b.mapping) []
      (there-cond Few (eqb b.count 0) (Some []) _ none-few
      (there-cond Few (eqb b.mapping 0) (Some []) _ none-few
      (there-map AllBytes Few (numbers 2 b.count) all-few (resolved s b.mapping _) (resolved-below s system graphics b.mapping _))))
      none-few

  module _ (within : within_limit s ≡ true) where
    small : Small s
    small = let l = limit-each s within in record { system = l.0; graphics = l.1 }

    GeometryFits_lem : (shader pointer : ℕ) (b : List ℕ) → resolved s pointer 0x98 ≡ Some b → FittingGeometry (geometry_of s shader (geometry_block b))
    unfolding geometry_of geometry_with geometry_block
    GeometryFits_lem shader pointer b e =
        let g : Geometry = geometry_of s shader (geometry_block b) in
        let few : SmallGeometry g = read_small s small shader (geometry_block b) in
        record {
          index_count = field_bound 4 b 0x58 (Block-bytes pointer 0x98 b e);
          vertices = Vertices-short g.vertices few.content;
          indices = Indices-short g.indices few.held;
        }

    ModelFits_lem : (pointer : ℕ) (b : List ℕ) → resolved s pointer 0x30 ≡ Some b → FittingModel (model_of s (model_block b))
    unfolding model_of model_block
    ModelFits_lem pointer b e =
        let count_fits : (model_block b).count < 2 ^ 16 = field_bound 2 b 0x10 (Block-bytes pointer 0x30 b e) in
        record {
          short = model-short (model_of s (model_block b)) (omega (arith, mapping-few (model_block b)));
          geometries = model-each s FittingGeometry GeometryFits_lem (model_block b);
        }

    HeaderFits_lem : (o : Option (List ℕ)) (ms : List Model) → read_header s o ≡ read ms → ReadFits ms
    unfolding Each
    HeaderFits_lem None ms e = subst ReadFits (read-injective e) (record { fitting = tt; few = omega arith })
    HeaderFits_lem (Some b) ms e =
        let n = need-read 2 (list_at s 8 (header_length (header_of b)) (header_of b).pointer) (read_models s 0) ms e in
        subst ReadFits (models-read s n.found 0 ms n.onward)
        (record { fitting = each-model s FittingModel ModelFits_lem n.found; few = read-few s n.found ms n.onward })

    read_fits : (address : ℕ) (ms : List Model) → read_list s address ≡ read ms → ReadFits ms
    unfolding read_list
    read_fits address ms e = HeaderFits_lem (resolved s address 16) ms e

    -- what is read fits its fields: every stored index count, and the length of every record
    pub reading-fits : (address : ℕ) (ms : List Model) → read_list s address ≡ read ms → Fitting ms
    reading-fits address ms e = (read_fits address ms e).fitting

-- ---- the sum is below 2^64

geometry-triangles : (g : Geometry) → FittingGeometry g → triangles_of g ≤ 2 ^ 32
unfolding triangles_of
geometry-triangles g fit =
    let held : held_by g.indices ≤ 2 ^ 32 = held-few g.indices fit.indices in
    whichever (eqb g.index_count 0) held fit.index_count
  where
    whichever : (b : Bool) {h c : ℕ} → h ≤ 2 ^ 32 → c < 2 ^ 32 → cond b h c / 3 ≤ 2 ^ 32
    whichever true v w = omega arith
    whichever false v w = omega arith

    held-few : (o : Option Indices) → Short (optional indices_record o) → held_by o ≤ 2 ^ 32
    held-few None h = omega arith
    held-few (Some i) h = omega (arith, indices_record-length i)

geometries-triangles : (gs : List Geometry) → Each FittingGeometry gs → triangles_of_all gs ≤ length gs * 2 ^ 32
unfolding triangles_of_all Each
geometries-triangles [] fit = omega arith
geometries-triangles (g ∷ gs) fit = omega (arith, geometry-triangles g fit.0, geometries-triangles gs fit.1)

models-triangles : (ms : List Model) → Fitting ms → triangles ms ≤ geometries_in ms * 2 ^ 32
unfolding triangles Each
models-triangles [] fit = omega arith
models-triangles (m ∷ ms) fit = omega (arith, geometries-triangles m.geometries fit.0.geometries, models-triangles ms fit.1)

-- ---- what was listed

-- where the call accepts: the models that it read and wrote
record Listed (s : Sections) (address room n : ℕ) : Type 0 where
  within : within_limit s ≡ true
  models : List Model
  are : read_list s address ≡ read models
  bytes : hall_list s address room ≡ written (write models)
  long : n ≡ length (write models)
  fits : length (write models) ≤ room

module _ (s : Sections) (address room n : ℕ) where
  by_room : (ms : List Model) (t : Bool) → within_limit s ≡ true → read_list s address ≡ read ms → leb (length (write ms)) room ≡ t
      → Ok n ≡ answer_of (cond t (written (write ms)) (refusal 7 (length (write ms)))) → Listed s address room n
  unfolding hall_list
  by_room ms true w e f a = record { within = w; models = ms; are = e; bytes = rw (w, e, f); long = cc; fits = leb-true (length (write ms)) room f }
  by_room ms false w e f a = let z : ◌≡◌ {A = ℕ} 0 1 = cc in absurd (omega arith)

  by-reading : (t : Bool) (r : Reading (List Model)) → within_limit s ≡ t → read_list s address ≡ r → Ok n ≡ answer_of (cond t (fitted room r) (refusal 1 0))
      → Listed s address room n
  by-reading false r w e a = let z : ◌≡◌ {A = ℕ} 0 1 = cc in absurd (omega arith)
  by-reading true (refused check) w e a = let z : ◌≡◌ {A = ℕ} 0 1 = cc in absurd (omega arith)
  by-reading true (read ms) w e a = by_room ms (leb (length (write ms)) room) w e refl a

  accepted : Ok n ≡ answer_of (hall_list s address room) → Listed s address room n
  unfolding hall_list
  accepted a = by-reading (within_limit s) (read_list s address) refl refl a

-- Where `hall_list` accepts, the n bytes that it wrote over the front of the list buffer say as many triangles as the models read: c, which `triangle_count`
-- answers of them, is the Rust's sum. Both are taken by their contracts.
pub Listed-triangles : (s : Sections) → AllBytes s.system → AllBytes s.graphics → (address : ℕ) (list : List ℕ) (r : Result ℕ Refusal) (list' : List ℕ)
    → (r ≡ answer_of (hall_list s address (length list))) × (list' ≡ after (hall_list s address (length list)) list)
    → (n : ℕ) → r ≡ Ok n → (c : ℕ) → c ≡ min (triangles_in (records (take n list'))) (2 ^ 64 - 1) → CountsRead s address c
unfolding part
Listed-triangles s system graphics address list r list' listed n e c counted =
    let w : Listed s address (length list) n = accepted s address (length list) n (sym e ∙ listed.0) in
    let ms : List Model = w.models in
    let fit : ReadFits ms = read_fits s system graphics w.within address ms w.are in
    let over : list' ≡ overwrite list 0 (write ms) = listed.1 ∙ ap (λ (o : Outcome). after o list) w.bytes in
    let front : take n list' ≡ write ms = rw over (part_same list 0 (write ms) (omega (arith, w.fits)) n (sym w.long)) in
    let said : triangles_in (records (take n list')) ≡ triangles ms = ap (λ (b : List ℕ). triangles_in (records b)) front ∙ triangles-written ms fit.fitting in
    let low : triangles ms ≤ 2 ^ 46 = omega (arith, models-triangles ms fit.fitting, fit.few) in
    record { models = ms; are = w.are; sum = omega (arith, counted, said) }
