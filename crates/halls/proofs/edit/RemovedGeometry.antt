-- A geometry taken out of a hall: where its records and its mapping entry stand, and what the call comes to.
use Rattle.std.specs.Prelude.{Option, None, Some}
use mathlib.Core.Path.{◌≡◌, refl, sym, ap, ◌∙◌}
use mathlib.Core.Bool.{Bool, ◌&&◌}
use mathlib.Core.List.{List, ◌∷◌, ◌++◌, map, map-append, append_assoc}
use Prim.Native.Nat.{ℕ, suc, ◌+◌, ◌*◌, ◌-◌, ◌^◌, ◌≤◌, ◌<◌}
use native.Mathlib.Omega.{arith}
use borrow.Author.Tests.{le-leb}
use lib.ListN.{length, take, drop, length-append, length-take, length-drop, length-map, take-append-drop}
use lib.Seq.{length-take-le}
use Rattle.sections.specs.Edit.{part, overwrite, fits, Edited}
use Rattle.sections.specs.Le.{bytes, field}
use Rattle.sections.proofs.EditLaws.{overwrite-length, Edited-fits}
use Rattle.sections.proofs.LeLaws.{length-bytes}
use Rattle.vertices.specs.Runs.{run}
use Rattle.vertices.proofs.RunLaws.{length_run}
use Rattle.halls.specs.Calls.{remove_geometry, proposed, without, replaced, with_geometries}
use Rattle.halls.specs.Checks.{shader_ids, verdict}
use Rattle.halls.specs.Hall.{FullGeometry, FullModel, Hall, FullGeometryInWidth, FullModelInWidth, listed_geometry, hall_bytes}
use Rattle.halls.specs.ImageSize.{geometry_size, model_size}
use Rattle.halls.specs.List.{record_bytes, indices_body, geometry_record, declaration_record, vertices_record, indices_record, write_geometry}
use Rattle.halls.specs.Places.{item, places_from, geometry_place}
use Rattle.halls.specs.Reading.{refused, read}
use Rattle.halls.specs.State.{Geometry, geometry_state, model_state, hall_of}
use Rattle.halls.specs.Step.{state_in, rewritten, Stepped}
use Rattle.std.specs.Prelude.{Ok}
use Rattle.halls.specs.Verdict.{Sound}
use Rattle.halls.specs.declared.check.find.GeometryPlace.{GeometryPlace}
use Rattle.halls.proofs.format.BodyLaws.{indices_body-length}
use Rattle.halls.proofs.check.CutLaws.{number-between, over-between, moved-part, cut_others, cut_parts, geometries_bytes, record_front, whole_parts, less-parts}
use Rattle.halls.proofs.check.SpotLaws.{not_there}
use Rattle.halls.proofs.edit.RewrittenLaws.{rewritten-others}
use Rattle.halls.proofs.edit.SoundEdits.{split-item, item-within, item-map, map-without, each_item, each-without, sum-without, State-item, hall-replaced, sound-replaced}
use Rattle.halls.proofs.SoundLaws.{SoundGeometry, SoundModel, verdict-sound, sound_models}
use Rattle.halls.proofs.StateLaws.{model_of-state}
use Rattle.halls.proofs.edit.StepLaws.{hall_in, Old, becomes-new}
use Rattle.halls.proofs.read.ViewLaws.{geometry_record-length, declaration_record-length, vertices_record-length, indices_record-length}

-- ---- what the finder says

pub record GeometryThere (h : Hall) (m g : ℕ) (places : GeometryPlace) : Type 0 where
  pub it : FullModel
  pub is : item m h ≡ Some it
  pub geometry : FullGeometry
  pub has : item g it.geometries ≡ Some geometry
  pub begin : places ≡ places_from (length (hall_bytes (take m h))) (length (hall_bytes (take m h)) + (12 + 2 * length it.mapping) + length (geometries_bytes (take g it.geometries))) geometry

module _ (h : Hall) (m g : ℕ) where
  -- found is what is there
  pub place_found : (places : GeometryPlace) → (geometry_place h m g) ≡ Some places → geometry_place h m g ≡ Some places
  place_found places e = by (geometry_place h m g) refl
    where
      by : (o : Option GeometryPlace) → geometry_place h m g ≡ o → geometry_place h m g ≡ Some places
      by None q = let clash : None ≡ Some places = rw q at e in let z : ◌≡◌ {A = ℕ} 0 1 = cc in absurd (omega arith)
      by (Some p) q = let same : Some p ≡ Some places = rw q at e in q ∙ cc

  pub GeometryThere_lem : (places : GeometryPlace) → geometry_place h m g ≡ Some places → GeometryThere h m g places
  unfolding geometry_place
  GeometryThere_lem places e = by (item m h) refl
    where
      by-geometry : (x : FullModel) → item m h ≡ Some x → (o : Option FullGeometry) → item g x.geometries ≡ o → GeometryThere h m g places
      by-geometry x q None r = let clash : None ≡ Some places = rw (q, r) at e in let z : ◌≡◌ {A = ℕ} 0 1 = cc in absurd (omega arith)
      by-geometry x q (Some y) r =
          let same : Some (places_from (length (hall_bytes (take m h))) (length (hall_bytes (take m h)) + (12 + 2 * length x.mapping) + length (geometries_bytes (take g x.geometries))) y) ≡ Some places = rw (q, r) at e in
          record { it = x; is = q; geometry = y; has = r; begin = cc }

      by : (o : Option FullModel) → item m h ≡ o → GeometryThere h m g places
      by None q = let clash : None ≡ Some places = rw q at e in let z : ◌≡◌ {A = ℕ} 0 1 = cc in absurd (omega arith)
      by (Some x) q = by-geometry x q (item g x.geometries) refl

-- ---- no such geometry

pub barred : (b : List ℕ) (n : ℕ) → Old b n → (m g : ℕ) → geometry_place (hall_in b n) m g ≡ None → proposed (remove_geometry m g) (state_in b n) ≡ refused 21
unfolding proposed
barred b n o m g e = not_there o m g _ (sym e)

-- ---- one that is there

-- over lists that stay shut
all-behind : (a q f e m g c z : List ℕ) → (a ++ (q ++ (f ++ (e ++ (m ++ (g ++ c)))))) ++ z ≡ a ++ (q ++ (f ++ (e ++ (m ++ (g ++ (c ++ z))))))
all-behind a q f e m g c z = simp append_assoc

three-first : (a q f z : List ℕ) → a ++ (q ++ (f ++ z)) ≡ (a ++ (q ++ f)) ++ z
three-first a q f z = simp append_assoc

all-length : (a q f e m g c : List ℕ) → length (a ++ (q ++ (f ++ (e ++ (m ++ (g ++ c)))))) ≡ length a + length q + length f + length e + length m + length g + length c
all-length a q f e m g c = simp length-append (omega arith)

last-record : (a q f e m two three four length-bytes kind body z : List ℕ)
    → a ++ (q ++ (f ++ (e ++ (m ++ ((two ++ (three ++ (four ++ (length-bytes ++ (kind ++ body))))) ++ z)))))
    ≡ (a ++ (q ++ (f ++ (e ++ (m ++ (two ++ (three ++ four))))))) ++ (length-bytes ++ ((kind ++ body) ++ z))
last-record a q f e m two three four length-bytes kind body z = simp append_assoc

module _ (b : List ℕ) (n : ℕ) (o : Old b n) (m g : ℕ) (places : GeometryPlace) (w : GeometryThere (hall_in b n) m g places) where
  abbrev h : Hall
  h = hall_in b n

  abbrev x : FullModel
  x = w.it

  abbrev y : FullGeometry
  y = w.geometry

  abbrev gs : List FullGeometry
  gs = x.geometries

  abbrev before : List FullGeometry
  before = take g gs

  abbrev after : List FullGeometry
  after = drop (suc g) gs

  SoundModel_lem : SoundModel x
  SoundModel_lem = each_item SoundModel m h x w.is (sound_models h (verdict-sound h o.sound))

  ModelFits_lem : FullModelInWidth x
  ModelFits_lem = each_item FullModelInWidth m h x w.is o.InWidth_lem

  GeometryFits_lem : FullGeometryInWidth y
  GeometryFits_lem = each_item FullGeometryInWidth g gs y w.has ModelFits_lem.geometries

  geometries-are : gs ≡ before ++ (y ∷ after)
  geometries-are = split-item g gs y w.has

  mapping-is : x.mapping ≡ shader_ids before ++ (y.shader ∷ shader_ids after)
  mapping-is = SoundModel_lem.mapping ∙ ap (λ (l : List FullGeometry). shader_ids l) geometries-are ∙ map-append (λ (k : FullGeometry). k.shader) before (y ∷ after)

  -- the model without it
  abbrev less : FullModel
  less = record { binding = x.binding; mask = x.mask; mapping = shader_ids (without g gs); geometries = without g gs }

  less-sound : SoundModel less
  less-sound = record { mapping = refl; geometries = each-without SoundGeometry g gs SoundModel_lem.geometries }

  proposed-is : proposed (remove_geometry m g) (state_in b n) ≡ read (replaced m less h)
  unfolding proposed
  proposed-is =
      let there : item m (state_in b n) ≡ Some (model_state x) = State-item m h ∙ rw w.is in
      let has : item g (map geometry_state gs) ≡ Some (geometry_state y) = item-map geometry_state g gs ∙ rw w.has in
      rw (there, has) (ap read
      (ap (λ (l : List Geometry). hall_of (replaced m (with_geometries (model_state x) l) (state_in b n))) (sym (map-without geometry_state g gs))
      ∙ hall-replaced m (model_state less) (state_in b n)
      ∙ ap (λ (k : FullModel). replaced m k (hall_of (state_in b n))) (model_of-state less less-sound)
      ∙ ap (replaced m less) o.back))

  fewer : length (without g gs) ≤ length gs
  fewer = simp (length-append, length-take, length-drop) (omega arith)

  hall-sound : verdict (replaced m less h) ≡ Sound
  unfolding model_size
  hall-sound =
      let entries : length x.mapping ≡ length gs = ap length SoundModel_lem.mapping ∙ length-map gs (λ (k : FullGeometry). k.shader) in
      let left : length less.mapping ≡ length (without g gs) = length-map (without g gs) (λ (k : FullGeometry). k.shader) in
      let smaller : model_size less ≤ model_size x = omega (arith, fewer, sum-without geometry_size g gs) in
      sound-replaced h m x less w.is o.sound less-sound fewer smaller

  -- ---- the bytes, in order: the models before, the record's length, the record up to the entry, the entry, what stands between, the geometry, what stands behind

  abbrev models-before : List ℕ
  models-before = hall_bytes (take m h)

  abbrev sized : ℕ → List ℕ
  sized entries = bytes 4 (6 + 2 * entries)

  abbrev front : List ℕ
  front = record_front x (shader_ids before)

  abbrev entry-bytes : List ℕ
  entry-bytes = bytes 2 y.shader

  abbrev between : List ℕ
  between = run 2 (shader_ids after) ++ geometries_bytes before

  abbrev gone : List ℕ
  gone = write_geometry (listed_geometry y)

  abbrev behind : List ℕ
  behind = geometries_bytes after ++ hall_bytes (drop (suc m) h)

  whole_is : take n b ≡ models-before ++ (sized (length x.mapping) ++ (front ++ (entry-bytes ++ (between ++ (gone ++ behind)))))
  whole_is =
      sym o.bytes-are ∙ ap hall_bytes (split-item m h x w.is)
      ∙ whole_parts (take m h) (drop (suc m) h) x (shader_ids before) (shader_ids after) before after y.shader y mapping-is geometries-are

  less-is : hall_bytes (replaced m less h) ≡ models-before ++ (sized (length less.mapping) ++ (front ++ (between ++ behind)))
  less-is = less-parts (take m h) (drop (suc m) h) less (shader_ids before) (shader_ids after) before after (map-append (λ (k : FullGeometry). k.shader) before after) refl

  buffer_is : b ≡ models-before ++ (sized (length x.mapping) ++ (front ++ (entry-bytes ++ (between ++ (gone ++ (behind ++ drop n b))))))
  buffer_is = sym (take-append-drop n b) ∙ ap (λ (l : List ℕ). l ++ drop n b) whole_is ∙ all-behind models-before (sized (length x.mapping)) front entry-bytes between gone behind (drop n b)

  -- ---- lengths and places

  Ids-long : (l : List FullGeometry) → length (shader_ids l) ≡ length l
  Ids-long l = length-map l (λ (k : FullGeometry). k.shader)

  before-long : length before ≡ g
  before-long = length-take-le g gs (omega (arith, item-within g gs y w.has))

  entries_are : length x.mapping ≡ g + suc (length after)
  entries_are =
      ap length mapping-is ∙ length-append (shader_ids before) (y.shader ∷ shader_ids after) ∙ rw (Ids-long before, Ids-long after, before-long)

  entries-left : length less.mapping ≡ g + length after
  entries-left = Ids-long (without g gs) ∙ length-append before after ∙ rw before-long

  model_place_lem : length models-before ≡ places.model
  model_place_lem = sym (ap (λ (p : GeometryPlace). p.model) w.begin)

  front_long : length front ≡ 8 + 2 * g
  front_long = simp (length-append, length-bytes, length_run, Ids-long, before-long) (omega arith)

  between-long : length between ≡ 2 * length after + length (geometries_bytes before)
  between-long = simp (length-append, length_run, Ids-long) (omega arith)

  gone_long : length gone ≡ 65 + length y.vertices.content + 4 * length y.indices.items
  unfolding write_geometry
  gone_long = simp (length-append, geometry_record-length, declaration_record-length, vertices_record-length, indices_record-length) (omega arith)

  geometry_place_lem : places.geometry ≡ places.model + 12 + 2 * g + 2 + length between
  geometry_place_lem =
      let e : places.geometry ≡ length models-before + (12 + 2 * length x.mapping) + length (geometries_bytes before) = ap (λ (p : GeometryPlace). p.geometry) w.begin in
      omega (arith, model_place_lem, entries_are, between-long)

  Indices-place : places.indices ≡ places.geometry + 55 + length y.vertices.content
  Indices-place =
      let e : places.indices ≡ length models-before + (12 + 2 * length x.mapping) + length (geometries_bytes before) + 55 + length y.vertices.content = ap (λ (p : GeometryPlace). p.indices) w.begin in
      let f : places.geometry ≡ length models-before + (12 + 2 * length x.mapping) + length (geometries_bytes before) = ap (λ (p : GeometryPlace). p.geometry) w.begin in
      omega arith

  all-long : n ≡ places.geometry + length gone + length behind
  all-long =
      let size : List ℕ = sized (length x.mapping) in
      let four : length size ≡ 4 = length-bytes 4 (6 + 2 * length x.mapping) in
      let two : length entry-bytes ≡ 2 = length-bytes 2 y.shader in
      let all : n ≡ length models-before + length size + length front + length entry-bytes + length between + length gone + length behind = sym (length-take-le n b o.within) ∙ ap length whole_is ∙ all-length models-before size front entry-bytes between gone behind in
      omega (arith, model_place_lem, geometry_place_lem, front_long)

  model_length_lem : field 4 b places.model ≡ 6 + 2 * length x.mapping
  model_length_lem =
      ap (λ (l : List ℕ). field 4 l places.model) buffer_is
      ∙ number-between models-before (front ++ (entry-bytes ++ (between ++ (gone ++ (behind ++ drop n b))))) 4 (6 + 2 * length x.mapping) places.model model_place_lem (omega (arith, ModelFits_lem.mapping))

  indices_length_lem : field 4 b places.indices ≡ 4 + 4 * length y.indices.items
  unfolding write_geometry indices_record record_bytes
  indices_length_lem =
      let two : List ℕ = geometry_record (listed_geometry y) in
      let three : List ℕ = declaration_record y.declaration in
      let four : List ℕ = vertices_record y.vertices in
      let body : List ℕ = indices_body y.indices in
      let size : List ℕ = sized (length x.mapping) in
      let ahead : List ℕ = models-before ++ (size ++ (front ++ (entry-bytes ++ (between ++ (two ++ (three ++ four)))))) in
      let long : length body ≡ 4 + 4 * length y.indices.items = indices_body-length y.indices in
      let low : length body < 256 ^ 4 = omega (arith, GeometryFits_lem.held) in
      let s4 : length size ≡ 4 = length-bytes 4 (6 + 2 * length x.mapping) in
      let s2 : length entry-bytes ≡ 2 = length-bytes 2 y.shader in
      let sum : length ahead ≡ length models-before + length size + length front + length entry-bytes + length between + length two + length (three ++ four) = all-length models-before size front entry-bytes between two (three ++ four) in
      let records : length (three ++ four) ≡ 22 + (13 + length y.vertices.content) = length-append three four ∙ rw (declaration_record-length y.declaration, vertices_record-length y.vertices) in
      let place : length ahead ≡ places.indices = omega (arith, model_place_lem, geometry_place_lem, Indices-place, front_long, geometry_record-length (listed_geometry y)) in
      ap (λ (l : List ℕ). field 4 l places.indices) (buffer_is ∙ last-record models-before size front entry-bytes between two three four (bytes 4 (length body)) (bytes 2 5) body (behind ++ drop n b))
      ∙ number-between ahead ((bytes 2 5 ++ body) ++ (behind ++ drop n b)) 4 (length body) places.indices place low ∙ long

  -- ---- what the edits need

  pub record Spot (held : ℕ) : Type 0 where
    pub model-low : places.model + 4 ≤ n
    pub Indices-low : places.indices + 10 ≤ n
    pub entry-low : places.model + 12 + 2 * g + 2 ≤ places.geometry
    pub end_is : places.indices + 6 + held ≡ places.geometry + length gone
    pub end_low : places.indices + 6 + held ≤ n
    pub some-entry : 8 ≤ field 4 b places.model

  pub spot : (held : ℕ) → held ≡ field 4 b places.indices → Spot held
  spot held e = record {
    model-low = omega (arith, geometry_place_lem, all-long);
    Indices-low = omega (arith, Indices-place, gone_long, all-long);
    entry-low = omega (arith, geometry_place_lem);
    end_is = omega (arith, indices_length_lem, Indices-place, gone_long);
    end_low = omega (arith, indices_length_lem, Indices-place, gone_long, all-long);
    some-entry = omega (arith, model_length_lem, entries_are);
  }

  -- ---- the call

  module _ (held : ℕ) (f : held ≡ field 4 b places.indices) (size : ℕ) (k : size ≡ field 4 b places.model) {r r₂ : Bool} {t t₂ u : List ℕ}
      (shortened : Edited (fits b places.model 4) b places.model (bytes 4 (size - 2)) r t)
      (moved : Edited (fits t (places.model + 12 + 2 * g + 2) (places.geometry - (places.model + 12 + 2 * g + 2)) && fits t (places.model + 12 + 2 * g) (places.geometry - (places.model + 12 + 2 * g + 2))) t
      (places.model + 12 + 2 * g) (part t (places.model + 12 + 2 * g + 2) (places.geometry - (places.model + 12 + 2 * g + 2))) r₂ t₂)
      (closed : u ≡ rewritten t₂ n (take (places.geometry - 2) (take n t₂) ++ drop (places.indices + 6 + held) (take n t₂))) where
    abbrev entry : ℕ
    entry = places.model + 12 + 2 * g

    abbrev at : ℕ
    at = places.geometry

    abbrev end : ℕ
    end = places.indices + 6 + held

    abbrev kept : List ℕ
    kept = models-before ++ (sized (length less.mapping) ++ front)

    shortened_is : t ≡ kept ++ (entry-bytes ++ (between ++ (gone ++ (behind ++ drop n b))))
    shortened_is =
        let v : List ℕ = bytes 4 (size - 2) in
        let number : size - 2 ≡ 6 + 2 * length less.mapping = omega (arith, model_length_lem, entries_are, entries-left) in
        let others : List ℕ = front ++ (entry-bytes ++ (between ++ (gone ++ (behind ++ drop n b)))) in
        let same : length (sized (length x.mapping)) ≡ length (sized (length less.mapping)) = length-bytes 4 (6 + 2 * length x.mapping) ∙ sym (length-bytes 4 (6 + 2 * length less.mapping)) in
        Edited-fits 4 shortened (omega (arith, (spot held f).model-low, o.within)) ∙ ap (λ (l : List ℕ). overwrite l places.model v) buffer_is
        ∙ ap (λ (i : ℕ). overwrite (models-before ++ (sized (length x.mapping) ++ others)) places.model (bytes 4 i)) number
        ∙ over-between models-before (sized (length x.mapping)) (sized (length less.mapping)) others places.model model_place_lem same
        ∙ three-first models-before (sized (length less.mapping)) front (entry-bytes ++ (between ++ (gone ++ (behind ++ drop n b))))

    same_length : length t ≡ length b
    same_length =
        let v : List ℕ = bytes 4 (size - 2) in
        let room : places.model + 4 ≤ length b = omega (arith, (spot held f).model-low, o.within) in
        ap length (Edited-fits 4 shortened room) ∙ overwrite-length b places.model v (rw (length-bytes 4 (size - 2)) room)

    kept-long : length kept ≡ entry
    kept-long =
        let four : length (sized (length less.mapping)) ≡ 4 = length-bytes 4 (6 + 2 * length less.mapping) in
        length-append models-before (sized (length less.mapping) ++ front) ∙ rw (length-append (sized (length less.mapping)) front) (omega (arith, model_place_lem, front_long))

    between-place : entry + 2 + length between ≡ at
    between-place = sym geometry_place_lem

    gone-place : at + length gone ≡ end
    gone-place = sym (spot held f).end_is

    behind-place : end + length behind ≡ n
    behind-place = omega (arith, (spot held f).end_is, all-long)

    moved-is : t₂ ≡ overwrite (kept ++ (entry-bytes ++ (between ++ (gone ++ (behind ++ drop n b))))) entry between
    moved-is =
        let d : ℕ = at - (entry + 2) in
        let q = spot held f in
        let there : entry + 2 + d ≤ length t = omega (arith, same_length, q.entry-low, q.end_low, q.end_is, o.within) in
        let here : entry + d ≤ length t = omega arith in
        let done : t₂ ≡ overwrite t entry (part t (entry + 2) d) = rw (le-leb (entry + 2 + d) (length t) there, le-leb (entry + d) (length t) here) at moved.bytes in
        done ∙ ap (λ (l : List ℕ). overwrite l entry (part l (entry + 2) d)) shortened_is
        ∙ ap (overwrite (kept ++ (entry-bytes ++ (between ++ (gone ++ (behind ++ drop n b))))) entry) (moved-part kept entry-bytes between gone behind (drop n b) entry at end n kept-long (length-bytes 2 y.shader) between-place gone-place behind-place)

    new-long : n - (end - at) - 2 ≡ length (hall_bytes (replaced m less h))
    new-long =
        let four : length (sized (length less.mapping)) ≡ 4 = length-bytes 4 (6 + 2 * length less.mapping) in
        let all : length (hall_bytes (replaced m less h)) ≡ length kept + length (between ++ behind) = ap length (less-is ∙ three-first models-before (sized (length less.mapping)) front (between ++ behind)) ∙ length-append kept (between ++ behind) in
        omega (arith, kept-long, length-append between behind, between-place, gone-place, behind-place)

    pub geometry-cut : Stepped (remove_geometry m g) b n (Ok (n - (end - at) - 2)) u
    geometry-cut =
        let v : List ℕ = kept ++ (between ++ behind) in
        let two : length entry-bytes ≡ 2 = length-bytes 2 y.shader in
        let parts : take (at - 2) (take n t₂) ++ drop end (take n t₂) ≡ v =
        ap (λ (l : List ℕ). take (at - 2) (take n l) ++ drop end (take n l)) moved-is ∙ cut_parts kept entry-bytes between gone behind (drop n b) entry at end n kept-long two between-place gone-place behind-place in
        let others : drop n t₂ ≡ drop n b = ap (drop n) moved-is ∙ cut_others kept entry-bytes between gone behind (drop n b) entry at end n kept-long two between-place gone-place behind-place in
        let short : length v ≤ n = rw (length-append kept (between ++ behind), length-append between behind) (omega (arith, kept-long, between-place, gone-place, behind-place)) in
        let is : v ≡ hall_bytes (replaced m less h) = sym (less-is ∙ three-first models-before (sized (length less.mapping)) front (between ++ behind)) in
        becomes-new (remove_geometry m g) b n o (replaced m less h) proposed-is hall-sound (n - (end - at) - 2) u new-long (omega (arith, o.within))
        (closed ∙ ap (rewritten t₂ n) parts ∙ rewritten-others t₂ b n v others short ∙ ap (rewritten b n) is)
