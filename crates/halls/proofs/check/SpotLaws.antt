-- A geometry that was found in a sound hall: what stands at its place, and the hall with another in it.
use Rattle.std.specs.Prelude.{Option, None, Some, option_map}
use mathlib.Core.Path.{◌≡◌, refl, sym, ap, ◌∙◌}
use mathlib.Core.Bool.{Bool, true}
use mathlib.Core.List.{List, ◌++◌, map, append_assoc}
use Prim.Native.Nat.{ℕ, ◌+◌, ◌*◌, ◌^◌, ◌≤◌, ◌<◌}
use native.Mathlib.Omega.{arith}
use lib.ListN.{length, take, drop, length-append, length-take, take-append-drop}
use lib.Seq.{take_at, take-append-add, take-append-le, drop_at, drop-append-add, drop-append-le}
use Rattle.sections.specs.Edit.{part, overwrite}
use Rattle.sections.specs.Le.{bytes, field}
use Rattle.sections.proofs.LeLaws.{length-bytes}
use Rattle.vertices.specs.Declaration.{declaration_at, declaration_bytes}
use Rattle.vertices.proofs.DeclarationLaws.{declaration_inverse, declaration_length_lem}
use Rattle.halls.specs.Calls.{replaced, with_geometries, with_geometry, on_geometry}
use Rattle.halls.specs.Checks.{every_geometry}
use Rattle.halls.specs.Hall.{FullGeometry, FullModel, Hall, FullGeometryInWidth, FullModelInWidth, listed_geometry, hall_bytes}
use Rattle.halls.specs.List.{geometry_body, vertices_body, record_bytes, geometry_record, declaration_record, vertices_record, indices_record, write_geometry}
use Rattle.halls.specs.Places.{item, places_from, geometry_place, GeometryIn}
use Rattle.halls.specs.Reading.{Reading, refused}
use Rattle.halls.specs.State.{Geometry, Model, vertex_count, full_geometry, full_model, hall_of}
use Rattle.halls.specs.Step.{state_in}
use Rattle.halls.specs.declared.check.find.GeometryPlace.{GeometryPlace}
use Rattle.halls.proofs.format.BodyLaws.{geometry_body-length, vertices_body-length}
use Rattle.halls.proofs.edit.ChangedLaws.{changed_model, changed_hall, bytes_before, bytes_behind, map_same, bytes-changed, before-length, SameHall_lem, passes}
use Rattle.halls.proofs.check.JudgingLaws.{declaration-part}
use Rattle.halls.proofs.format.RecordLaws.{field-behind}
use Rattle.halls.proofs.edit.SoundEdits.{item-map, map-replaced, each_item, hall-item, hall-replaced}
use Rattle.halls.proofs.SoundLaws.{SoundHall, SoundGeometry, SoundModel, verdict-sound, sound_models}
use Rattle.halls.proofs.edit.StepLaws.{hall_in, Old}
use Rattle.halls.proofs.read.ViewLaws.{Record-length}

-- ---- the place, by what is there

module _ (h : Hall) (m g : ℕ) where
  no-model : item m h ≡ None → geometry_place h m g ≡ None
  unfolding geometry_place
  no-model e = rw e

  module _ (x : FullModel) (e : item m h ≡ Some x) where
    no-geometry : item g x.geometries ≡ None → geometry_place h m g ≡ None
    unfolding geometry_place
    no-geometry f = rw (e, f)

    some-geometry : (y : FullGeometry) → item g x.geometries ≡ Some y → geometry_place h m g ≡ Some (places_from (length (hall_bytes (take m h))) (length (bytes_before m g h x)) y)
    unfolding geometry_place
    some-geometry y f = rw (e, f, before-length m g h x)

-- ---- found, or not

-- geometry g of model m, in the hall of the first n bytes and in its state
pub record Spot (b : List ℕ) (n m g at : ℕ) : Type 0 where
  pub old : Old b n
  pub model : Model
  pub geometry : Geometry
  pub model_is : item m (state_in b n) ≡ Some model
  pub geometry-is : item g model.geometries ≡ Some geometry
  pub in-hall : item m (hall_in b n) ≡ Some (full_model model)
  pub InModel_lem : item g (map full_geometry model.geometries) ≡ Some (full_geometry geometry)
  pub place : at ≡ length (bytes_before m g (hall_in b n) (full_model model))

module _ {b : List ℕ} {n : ℕ} (o : Old b n) (m g : ℕ) where
  model-item : (x : Option Model) → item m (state_in b n) ≡ x → item m (hall_in b n) ≡ option_map full_model x
  model-item x e = ap (λ (l : Hall). item m l) (sym o.back) ∙ hall-item m (state_in b n) ∙ ap (λ (y : Option Model). option_map full_model y) e

  geometry-item : (x : Model) (y : Option Geometry) → item g x.geometries ≡ y → item g (map full_geometry x.geometries) ≡ option_map full_geometry y
  geometry-item x y e = item-map full_geometry g x.geometries ∙ ap (λ (z : Option Geometry). option_map full_geometry z) e

  module _ (at : ℕ) (e : GeometryIn b n m g at) where
    by-geometry : (x : Model) → item m (state_in b n) ≡ Some x → (y : Option Geometry) → item g x.geometries ≡ y → Spot b n m g at
    by-geometry x p None q =
        let there = no-geometry (hall_in b n) m g (full_model x) (model-item (Some x) p) (geometry-item x None q) in
        let clash : None ≡ Some at = ap (λ (z : Option GeometryPlace). option_map (λ (a : GeometryPlace). a.geometry) z) (sym there) ∙ e in
        let z : ◌≡◌ {A = ℕ} 0 1 = cc in absurd (omega arith)
    by-geometry x p (Some y) q =
        let in-hall = model-item (Some x) p in
        let InModel_lem = geometry-item x (Some y) q in
        let there = some-geometry (hall_in b n) m g (full_model x) in-hall (full_geometry y) InModel_lem in
        let same : Some (length (bytes_before m g (hall_in b n) (full_model x))) ≡ Some at = ap (λ (z : Option GeometryPlace). option_map (λ (a : GeometryPlace). a.geometry) z) (sym there) ∙ e in
        record { old = o; model = x; geometry = y; model_is = p; geometry-is = q; in-hall = in-hall; InModel_lem = InModel_lem; place = cc }

    by-model : (x : Option Model) → item m (state_in b n) ≡ x → Spot b n m g at
    by-model None p =
        let there = no-model (hall_in b n) m g (model-item None p) in
        let clash : None ≡ Some at = ap (λ (z : Option GeometryPlace). option_map (λ (a : GeometryPlace). a.geometry) z) (sym there) ∙ e in
        let z : ◌≡◌ {A = ℕ} 0 1 = cc in absurd (omega arith)
    by-model (Some x) p = by-geometry x p (item g x.geometries) refl

    pub spot : Spot b n m g at
    spot = by-model (item m (state_in b n)) refl

  module _ (f : Model → Geometry → Reading Hall) (e : None ≡ (geometry_place (hall_in b n) m g)) where
    none-by-geometry : (x : Model) → item m (state_in b n) ≡ Some x → (y : Option Geometry) → item g x.geometries ≡ y → on_geometry m g (state_in b n) f ≡ refused 21
    none-by-geometry x p None q = rw (p, q)
    none-by-geometry x p (Some y) q =
        let there = some-geometry (hall_in b n) m g (full_model x) (model-item (Some x) p) (full_geometry y) (geometry-item x (Some y) q) in
        let clash = e ∙ ap (λ (z : Option GeometryPlace). z) there in
        let z : ◌≡◌ {A = ℕ} 0 1 = cc in absurd (omega arith)

    none-by-model : (x : Option Model) → item m (state_in b n) ≡ x → on_geometry m g (state_in b n) f ≡ refused 21
    none-by-model None p = rw p
    none-by-model (Some x) p = none-by-geometry x p (item g x.geometries) refl

    -- check 21
    pub not_there : on_geometry m g (state_in b n) f ≡ refused 21
    not_there = none-by-model (item m (state_in b n)) refl

-- what was found is there
by_place : (o : Option GeometryPlace) (p : GeometryPlace) → Some p ≡ o → option_map (λ (a : GeometryPlace). a.geometry) o ≡ Some p.geometry
by_place None p e = let z : ◌≡◌ {A = ℕ} 0 1 = cc in absurd (omega arith)
by_place (Some q) p e = let same : p ≡ q = cc in ap (λ (a : GeometryPlace). Some a.geometry) (sym same)

pub Found-there : (b : List ℕ) (n m g : ℕ) (p : GeometryPlace) → Some p ≡ (geometry_place (hall_in b n) m g) → GeometryIn b n m g p.geometry
Found-there b n m g p e = by_place (geometry_place (hall_in b n) m g) p e

-- ---- a geometry's bytes in parts

two-parts : (f : FullGeometry) (rest : List ℕ) → geometry_record (listed_geometry f) ++ rest
    ≡ bytes 4 14 ++ (bytes 2 2 ++ (bytes 2 f.shader ++ (bytes 4 f.index_count ++ (bytes 4 f.triangle_count ++ (bytes 2 f.vertex_count ++ (bytes 2 f.stride ++ rest))))))
unfolding geometry_record record_bytes
two-parts f rest = ap (λ (n : ℕ). (bytes 4 n ++ (bytes 2 2 ++ geometry_body (listed_geometry f))) ++ rest) (geometry_body-length f) ∙ simp append_assoc

three-parts : (f : FullGeometry) (rest : List ℕ) → declaration_record f.declaration ++ rest ≡ (bytes 4 16 ++ bytes 2 3) ++ (declaration_bytes f.declaration ++ rest)
unfolding declaration_record record_bytes
three-parts f rest = ap (λ (n : ℕ). (bytes 4 n ++ (bytes 2 3 ++ declaration_bytes f.declaration)) ++ rest) (declaration_length_lem f.declaration) ∙ simp append_assoc

-- the head of the vertices' record
abbrev vertices_head : FullGeometry → List ℕ
vertices_head f = bytes 4 (7 + length f.vertices.content) ++ (bytes 2 4 ++ (bytes 1 f.vertices.layout ++ (bytes 2 f.vertices.stride ++ bytes 4 f.vertices.count)))

four-parts : (f : FullGeometry) (rest : List ℕ) → vertices_record f.vertices ++ rest ≡ vertices_head f ++ (f.vertices.content ++ rest)
unfolding vertices_record record_bytes
four-parts f rest = ap (λ (n : ℕ). (bytes 4 n ++ (bytes 2 4 ++ vertices_body f.vertices)) ++ rest) (vertices_body-length f.vertices) ∙ simp append_assoc

geometry-records : (f : FullGeometry) (rest : List ℕ)
    → write_geometry (listed_geometry f) ++ rest ≡ geometry_record (listed_geometry f) ++ (declaration_record f.declaration ++ (vertices_record f.vertices ++ (indices_record f.indices ++ rest)))
unfolding write_geometry
geometry-records f rest = simp append_assoc

-- the 55 bytes in front of the vertex bytes
unfoldable pub content_head : FullGeometry → List ℕ
content_head f = geometry_record (listed_geometry f) ++ (declaration_record f.declaration ++ vertices_head f)

-- in it the numbers of indices and triangles
abbrev pub head_start : FullGeometry → List ℕ
head_start f = bytes 4 14 ++ (bytes 2 2 ++ bytes 2 f.shader)

abbrev pub head_rest : FullGeometry → List ℕ
head_rest f = bytes 2 f.vertex_count ++ (bytes 2 f.stride ++ (declaration_record f.declaration ++ vertices_head f))

pub head-counts : (f : FullGeometry) → content_head f ≡ head_start f ++ ((bytes 4 f.index_count ++ bytes 4 f.triangle_count) ++ head_rest f)
unfolding content_head
head-counts f = two-parts f (declaration_record f.declaration ++ vertices_head f) ∙ simp append_assoc

pub content-parts : (f : FullGeometry) (rest : List ℕ) → write_geometry (listed_geometry f) ++ rest ≡ content_head f ++ (f.vertices.content ++ (indices_record f.indices ++ rest))
unfolding content_head
content-parts f rest =
    geometry-records f rest
    ∙ ap (λ (l : List ℕ). geometry_record (listed_geometry f) ++ (declaration_record f.declaration ++ l)) (four-parts f (indices_record f.indices ++ rest))
    ∙ simp append_assoc

pub content_head-length : (f : FullGeometry) → length (content_head f) ≡ 55
unfolding content_head geometry_record declaration_record
content_head-length f =
    let two : length (geometry_record (listed_geometry f)) ≡ 20 = Record-length 2 (geometry_body (listed_geometry f)) ∙ ap (λ (n : ℕ). 6 + n) (geometry_body-length f) in
    let three : length (declaration_record f.declaration) ≡ 22 = Record-length 3 (declaration_bytes f.declaration) ∙ ap (λ (n : ℕ). 6 + n) (declaration_length_lem f.declaration) in
    let four : length (vertices_head f) ≡ 13 = simp (length-append, length-bytes) in
    rw (length-append (geometry_record (listed_geometry f)), length-append (declaration_record f.declaration), two, three, four)

-- ---- bytes over bytes in the middle

pub overwrite-inside : (a c z v : List ℕ) (i : ℕ) → i + length v ≤ length c → overwrite (a ++ (c ++ z)) (length a + i) v ≡ a ++ (overwrite c i v ++ z)
unfolding overwrite
overwrite-inside a c z v i h =
    let k : i ≤ length c = omega arith in
    let s : length a + i + length v ≡ length a + (i + length v) = omega arith in
    rw (s, take-append-add a (c ++ z) i, drop-append-add a (c ++ z) (i + length v), take-append-le i c z, drop-append-le (i + length v) c z) (simp append_assoc)

-- ---- what stands there

pub field-there : (s p q r : List ℕ) (k v at i : ℕ) → at ≡ length p → length q ≡ i → v < 256 ^ k → s ≡ p ++ (q ++ (bytes k v ++ r)) → field k s (at + i) ≡ v
field-there s p q r k v at i a b h e =
    let l : length (p ++ q) ≡ at + i = rw (length-append p q) (omega arith) in
    ap (λ (x : List ℕ). field k x (at + i)) (e ∙ sym (append_assoc p q (bytes k v ++ r))) ∙ field-behind (p ++ q) r k v (at + i) l h

module _ {b : List ℕ} {n m g at : ℕ} (w : Spot b n m g at) where
  abbrev h : Hall
  h = hall_in b n

  abbrev x : FullModel
  x = full_model w.model

  abbrev f : FullGeometry
  f = full_geometry w.geometry

  abbrev before : List ℕ
  before = bytes_before m g h x

  abbrev behind : List ℕ
  behind = bytes_behind m g h x

  pub Spot-bytes : take n b ≡ before ++ (write_geometry (listed_geometry f) ++ behind)
  Spot-bytes = sym w.old.bytes-are ∙ ap hall_bytes (sym (SameHall_lem h m g x f w.in-hall w.InModel_lem)) ∙ bytes-changed m g h x f

  Spot-buffer : b ≡ before ++ (write_geometry (listed_geometry f) ++ (behind ++ drop n b))
  Spot-buffer = sym (take-append-drop n b) ∙ ap (λ (l : List ℕ). l ++ drop n b) Spot-bytes ∙ simp append_assoc

  taken-length : length (take n b) ≡ n
  taken-length = length-take n b ∙ omega (arith, w.old.within)

  -- its vertex bytes end inside the hall
  pub Spot-inside : at + 55 + length w.geometry.content ≤ n
  Spot-inside =
      let content : List ℕ = w.geometry.content in
      let z : List ℕ = indices_record f.indices ++ behind in
      let e : length (take n b) ≡ length before + (55 + (length content + length z)) =
      ap length (Spot-bytes ∙ ap (λ (l : List ℕ). before ++ l) (content-parts f behind))
      ∙ rw (length-append before (content_head f ++ (content ++ z)), length-append (content_head f) (content ++ z), length-append content z, content_head-length f) in
      omega (arith, w.place, taken-length)

  pub Spot-hall : SoundHall h
  Spot-hall = verdict-sound h w.old.sound

  -- what every geometry passes, it passes
  pub Spot-passes : (test : FullGeometry → Bool) → every_geometry test h ≡ true → test f ≡ true
  Spot-passes test p = passes h m g x f w.in-hall w.InModel_lem test p

  pub Spot-sound : SoundGeometry f
  Spot-sound =
      let model : SoundModel x = each_item SoundModel m h x w.in-hall (sound_models h Spot-hall) in
      each_item SoundGeometry g x.geometries f w.InModel_lem model.geometries

  pub Spot-InWidth : FullGeometryInWidth f
  Spot-InWidth =
      let model : FullModelInWidth x = each_item FullModelInWidth m h x w.in-hall w.old.InWidth_lem in
      each_item FullGeometryInWidth g x.geometries f w.InModel_lem model.geometries

  -- its numbers, as the code reads them
  Spot-numbers : b ≡ before ++ (bytes 4 14 ++ (bytes 2 2 ++ (bytes 2 f.shader ++ (bytes 4 f.index_count ++ (bytes 4 f.triangle_count ++ (bytes 2 f.vertex_count ++ (bytes 2 f.stride
      ++ (declaration_record f.declaration ++ (vertices_record f.vertices ++ (indices_record f.indices ++ (behind ++ drop n b)))))))))))
  Spot-numbers = Spot-buffer ∙ ap (λ (l : List ℕ). before ++ l) (geometry-records f (behind ++ drop n b) ∙ two-parts f (declaration_record f.declaration ++ (vertices_record f.vertices ++ (indices_record f.indices ++ (behind ++ drop n b)))))

  pub Spot-count : field 2 b (at + 16) ≡ vertex_count w.geometry
  Spot-count =
      let q : List ℕ = bytes 4 14 ++ (bytes 2 2 ++ (bytes 2 f.shader ++ (bytes 4 f.index_count ++ bytes 4 f.triangle_count))) in
      let r : List ℕ = declaration_record f.declaration ++ (vertices_record f.vertices ++ (indices_record f.indices ++ (behind ++ drop n b))) in
      let l : length q ≡ 16 = simp (length-append, length-bytes) in
      let e : b ≡ before ++ (q ++ (bytes 2 f.vertex_count ++ (bytes 2 f.stride ++ r))) = Spot-numbers ∙ simp append_assoc in
      field-there b before q (bytes 2 f.stride ++ r) 2 f.vertex_count at 16 w.place l Spot-InWidth.vertex_count e

  pub Spot-stride : field 2 b (at + 18) ≡ w.geometry.stride
  Spot-stride =
      let q : List ℕ = bytes 4 14 ++ (bytes 2 2 ++ (bytes 2 f.shader ++ (bytes 4 f.index_count ++ (bytes 4 f.triangle_count ++ bytes 2 f.vertex_count)))) in
      let r : List ℕ = declaration_record f.declaration ++ (vertices_record f.vertices ++ (indices_record f.indices ++ (behind ++ drop n b))) in
      let l : length q ≡ 18 = simp (length-append, length-bytes) in
      let e : b ≡ before ++ (q ++ (bytes 2 f.stride ++ r)) = Spot-numbers ∙ simp append_assoc in
      field-there b before q r 2 f.stride at 18 w.place l Spot-InWidth.stride e

  -- where its indices begin, as the finder tells it
  pub Spot-indices : {p : GeometryPlace} → geometry_place (hall_in b n) m g ≡ Some p → p.indices ≡ at + 55 + field 2 b (at + 16) * field 2 b (at + 18)
  Spot-indices {p} e =
      let there = some-geometry (hall_in b n) m g x w.in-hall f w.InModel_lem in
      let same : places_from (length (hall_bytes (take m (hall_in b n)))) (length before) f ≡ p = cc in
      let s = Spot-sound in
      rw (← same, Spot-count, Spot-stride) (omega (arith, w.place, s.content))

  -- and its declaration and its vertex bytes
  pub Spot-records : {p : GeometryPlace} → geometry_place (hall_in b n) m g ≡ Some p → (p.declaration + 6 ≡ at + 26) × (p.vertices + 13 ≡ at + 55)
  Spot-records {p} e =
      let there = some-geometry (hall_in b n) m g x w.in-hall f w.InModel_lem in
      let same : places_from (length (hall_bytes (take m (hall_in b n)))) (length before) f ≡ p = cc in
      (rw (← same) (omega (arith, w.place)), rw (← same) (omega (arith, w.place)))

  pub Spot-declaration : declaration_at b (at + 26) ≡ w.geometry.declaration
  unfolding part
  Spot-declaration =
      let d : List ℕ = declaration_bytes f.declaration in
      let r : List ℕ = vertices_record f.vertices ++ (indices_record f.indices ++ (behind ++ drop n b)) in
      let q : List ℕ = bytes 4 14 ++ (bytes 2 2 ++ (bytes 2 f.shader ++ (bytes 4 f.index_count ++ (bytes 4 f.triangle_count ++ (bytes 2 f.vertex_count ++ (bytes 2 f.stride ++ (bytes 4 16 ++ bytes 2 3))))))) in
      let k : length q ≡ 26 = simp (length-append, length-bytes) in
      let p : List ℕ = before ++ q in
      let l : length p ≡ at + 26 = rw (length-append before q) (omega (arith, w.place)) in
      let e : b ≡ p ++ (d ++ r) = Spot-numbers ∙ rw (three-parts f r) (simp append_assoc) in
      let is : part b (at + 26) 16 ≡ d = ap (λ (s : List ℕ). part s (at + 26) 16) e ∙ rw (drop_at p (d ++ r) (at + 26) l, take_at d r 16 (declaration_length_lem f.declaration)) in
      let fit : at + 26 + 16 ≤ length b = rw e (rw (length-append p (d ++ r), length-append d r) (omega (arith, declaration_length_lem f.declaration))) in
      let same : at + 26 + 0 ≡ at + 26 = omega arith in
      ap (declaration_at b) (sym same) ∙ sym (declaration-part b (at + 26) 16 0 (omega arith) fit) ∙ ap (λ (s : List ℕ). declaration_at s 0) is
      ∙ declaration_inverse f.declaration Spot-InWidth.declaration

  -- ---- the state with another geometry of its shader id there

  module _ (y : Geometry) (same : y.shader ≡ w.geometry.shader) where
    model-changed : full_model (with_geometries w.model (replaced g y w.model.geometries)) ≡ changed_model g x (full_geometry y)
    model-changed =
        let gs : List Geometry = w.model.geometries in
        let made : List ℕ → List FullGeometry → FullModel = λ l fs. record { binding = w.model.binding; mask = w.model.mask; mapping = l; geometries = fs } in
        ap (λ (l : List ℕ). made l (map full_geometry (replaced g y gs))) (map_same (λ (a : Geometry). a.shader) g gs w.geometry y w.geometry-is same)
        ∙ ap (made (map (λ (a : Geometry). a.shader) gs)) (map-replaced full_geometry g y gs)

    pub new-hall : hall_of (with_geometry m g (state_in b n) w.model y) ≡ changed_hall m g h x (full_geometry y)
    new-hall =
        let changed : Model = with_geometries w.model (replaced g y w.model.geometries) in
        hall-replaced m changed (state_in b n) ∙ ap (λ (l : Hall). replaced m (full_model changed) l) w.old.back ∙ ap (λ (z : FullModel). replaced m z h) model-changed
