-- One attribute of one vertex set: the checks before it, where its bytes stand, and the hall that they leave.
use Rattle.std.specs.Prelude.{Option, None, Some}
use mathlib.Core.Path.{◌≡◌, refl, sym, ap, ◌∙◌}
use mathlib.Core.Bool.{Bool, true, false, ◌&&◌}
use mathlib.Core.List.{List, ◌++◌, append_assoc}
use Prim.Native.Nat.{ℕ, suc, ◌+◌, ◌*◌, ◌≤◌, ◌<◌}
use native.Mathlib.Nat.{mul-le-mul_right, suc-mul}
use native.Mathlib.Omega.{arith}
use borrow.Author.Tests.{le-leb, le-ltb, lt-ltb}
use lib.ListN.{length, take, length-append, length-take}
use Rattle.sections.specs.Edit.{overwrite, fits, Edited}
use Rattle.sections.specs.Le.{field}
use Rattle.sections.proofs.EditLaws.{overwrite-length}
use Rattle.vertices.specs.Declaration.{component_of, declaration_at}
use Rattle.vertices.specs.Encode.{has_shape, encoded_bytes}
use Rattle.vertices.specs.Types.{size_of}
use Rattle.vertices.specs.declared.attribute.VertexAttributeValue.{VertexAttributeValue}
use Rattle.vertices.specs.declared.declaration.VertexDeclaration.{VertexDeclaration}
use Rattle.vertices.specs.declared.types.VertexComponent.{VertexComponent}
use Rattle.vertices.proofs.ComponentLaws.{component-among, found_within}
use Rattle.vertices.proofs.EncodeLaws.{encoded-length}
use Rattle.vertices.proofs.UnifiedChecks.{components-sized}
use Rattle.halls.specs.Calls.{Call, set_attribute, proposed, attribute_set, with_content, with_geometry}
use Rattle.halls.specs.Checks.{vertex_bytes_exact, strides_agree, components_inside, vertex_counts_agree, index_counts_agree, indices_in_range, triangles_distinct, image_within_limit, verdict}
use Rattle.halls.specs.Hall.{FullGeometry, FullModel, Hall, hall_bytes}
use Rattle.halls.specs.ImageSize.{geometry_size, image_size}
use Rattle.halls.specs.List.{record_bytes, geometry_record, indices_record}
use Rattle.halls.specs.Reading.{read}
use Rattle.halls.specs.State.{Geometry, vertex_count, full_geometry, full_model, hall_of}
use Rattle.halls.specs.Step.{state_in, rewritten, Stepped}
use Rattle.std.specs.Prelude.{Ok, Err}
use Rattle.halls.specs.Verdict.{Sound}
use Rattle.halls.proofs.edit.ChangedLaws.{changed_hall, bytes_before, bytes_behind, bytes-changed, image-changed, verdict-changed}
use Rattle.halls.proofs.edit.RewrittenLaws.{rewritten-start, rewritten-over}
use Rattle.halls.proofs.SoundLaws.{SoundGeometry}
use Rattle.halls.proofs.check.SpotLaws.{Spot, overwrite-inside, Spot-hall, Spot-passes, content_head, content-parts, content_head-length, Spot-bytes, Spot-inside, Spot-sound, Spot-count, Spot-stride, Spot-declaration, new-hall}
use Rattle.halls.proofs.edit.StepLaws.{hall_in, stays_barred, becomes-new}

-- ---- the hall with other bytes in the geometry's vertex bytes

module _ {b : List ℕ} {n m g at : ℕ} (w : Spot b n m g at) (i : ℕ) (v : List ℕ) (fit : i + length v ≤ length w.geometry.content) where
  abbrev content : List ℕ
  content = w.geometry.content

  abbrev h : Hall
  h = hall_in b n

  abbrev x : FullModel
  x = full_model w.model

  abbrev f : FullGeometry
  f = full_geometry w.geometry

  abbrev changed : Geometry
  changed = with_content w.geometry (overwrite content i v)

  abbrev y : FullGeometry
  y = full_geometry changed

  abbrev after : Hall
  after = hall_of (with_geometry m g (state_in b n) w.model changed)

  same_length : length (overwrite content i v) ≡ length content
  same_length = overwrite-length content i v fit

  same_head : content_head y ≡ content_head f
  unfolding content_head geometry_record record_bytes
  same_head = rw same_length

  content-bytes : hall_bytes after ≡ overwrite (take n b) (at + 55 + i) v
  content-bytes =
      let z : List ℕ = indices_record f.indices ++ bytes_behind m g h x in
      let front : List ℕ = bytes_before m g h x ++ content_head f in
      let front_length : length front ≡ at + 55 = rw (length-append (bytes_before m g h x), content_head-length f) (omega (arith, w.place)) in
      let old : take n b ≡ front ++ (content ++ z) =
      Spot-bytes w ∙ ap (λ (l : List ℕ). bytes_before m g h x ++ l) (content-parts f (bytes_behind m g h x)) ∙ sym (append_assoc (bytes_before m g h x) (content_head f) (content ++ z)) in
      let new : hall_bytes after ≡ front ++ (overwrite content i v ++ z) =
      ap hall_bytes (new-hall w changed refl) ∙ bytes-changed m g h x y ∙ ap (λ (l : List ℕ). bytes_before m g h x ++ l) (content-parts y (bytes_behind m g h x))
      ∙ ap (λ (l : List ℕ). bytes_before m g h x ++ (l ++ (overwrite content i v ++ z))) same_head ∙ sym (append_assoc (bytes_before m g h x) (content_head f) (overwrite content i v ++ z)) in
      new ∙ sym (overwrite-inside front content z v i fit) ∙ ap (λ (k : ℕ). overwrite (front ++ (content ++ z)) (k + i) v) front_length
      ∙ ap (λ (l : List ℕ). overwrite l (at + 55 + i) v) (sym old)

  taken-length : length (take n b) ≡ n
  taken-length = length-take n b ∙ omega (arith, w.old.within)

  content-fits : at + 55 + i + length v ≤ length (take n b)
  content-fits = omega (arith, taken-length, Spot-inside w)

  content_length_lem : n ≡ length (hall_bytes after)
  content_length_lem = sym (ap length content-bytes ∙ overwrite-length (take n b) (at + 55 + i) v content-fits ∙ taken-length)

  content-buffer : overwrite b (at + 55 + i) v ≡ rewritten b n (hall_bytes after)
  content-buffer =
      ap (λ (l : List ℕ). overwrite l (at + 55 + i) v) (sym (rewritten-start b n w.old.within))
      ∙ rewritten-over b n (take n b) (at + 55 + i) v content-fits ∙ ap (rewritten b n) (sym content-bytes)

  -- ---- it is sound

  bytes-pass : vertex_bytes_exact y ≡ true
  unfolding vertex_bytes_exact
  bytes-pass = rw same_length (Spot-passes w vertex_bytes_exact (Spot-hall w).vertex-bytes)

  strides_pass : strides_agree y ≡ true
  unfolding strides_agree
  strides_pass = Spot-passes w strides_agree (Spot-hall w).strides

  components_pass : components_inside y ≡ true
  unfolding components_inside
  components_pass = Spot-passes w components_inside (Spot-hall w).components

  counts-pass : vertex_counts_agree y ≡ true
  unfolding vertex_counts_agree
  counts-pass = rw same_length (Spot-passes w vertex_counts_agree (Spot-hall w).vertex-counts)

  index-counts-pass : index_counts_agree y ≡ true
  unfolding index_counts_agree
  index-counts-pass = Spot-passes w index_counts_agree (Spot-hall w).index-counts

  Indices-pass : indices_in_range y ≡ true
  unfolding indices_in_range
  Indices-pass = rw same_length (Spot-passes w indices_in_range (Spot-hall w).indices)

  triangles-pass : triangles_distinct y ≡ true
  unfolding triangles_distinct
  triangles-pass = Spot-passes w triangles_distinct (Spot-hall w).triangles

  image-passes : image_within_limit (changed_hall m g h x y) ≡ true
  unfolding image_within_limit geometry_size
  image-passes =
      let size : geometry_size y ≡ geometry_size f = rw same_length in
      let same : image_size (changed_hall m g h x y) ≡ image_size h = omega (arith, image-changed h m g x f w.in-hall w.InModel_lem y) in
      rw same (Spot-hall w).image

  content-sound : verdict after ≡ Sound
  content-sound =
      ap verdict (new-hall w changed refl) ∙ verdict-changed h m g x f w.in-hall w.InModel_lem y (Spot-hall w) refl bytes-pass strides_pass components_pass counts-pass
      ∙ rw (index-counts-pass, Indices-pass, triangles-pass, image-passes)

  -- a call that proposes it
  pub content-step : (c : Call) → proposed c (state_in b n) ≡ read after → (t : List ℕ) → t ≡ overwrite b (at + 55 + i) v → Stepped c b n (Ok n) t
  content-step c e t q = becomes-new c b n w.old after e content-sound n t content_length_lem w.old.within (q ∙ content-buffer)

-- ---- the call

missing-none : (o : Option VertexComponent) → None ≡ o → o ≡ None
missing-none None e = refl
missing-none (Some c) e = let z : ◌≡◌ {A = ℕ} 0 1 = cc in absurd (omega arith)

pub component-some : (o : Option VertexComponent) (c : VertexComponent) → Some c ≡ o → o ≡ Some c
component-some None c e = let z : ◌≡◌ {A = ℕ} 0 1 = cc in absurd (omega arith)
component-some (Some d) c e = let same : c ≡ d = cc in ap Some (sym same)

module _ (b : List ℕ) (n m g vertex semantic : ℕ) (value : VertexAttributeValue) where
  abbrev call : Call
  call = set_attribute m g vertex semantic value

  abbrev Refuses : ℕ → Type 0
  Refuses check = Stepped call b n (Err (record { check = check; needed = 0 })) b

  module _ {at : ℕ} (w : Spot b n m g at) where
    pub set-no_vertex : {k : ℕ} → k ≡ field 2 b (at + 16) → k ≤ vertex → Refuses 21
    unfolding proposed attribute_set
    set-no_vertex e l =
        let s : vertex_count w.geometry ≤ vertex = omega (arith, e, Spot-count w) in
        stays_barred call b n w.old 21 (rw (w.model_is, w.geometry-is, le-ltb vertex (vertex_count w.geometry) s))

    module _ (there : vertex < field 2 b (at + 16)) where
      below : vertex < vertex_count w.geometry
      below = omega (arith, Spot-count w)

      pub set-missing : None ≡ (component_of (declaration_at b (at + 26)) semantic) → Refuses 22
      unfolding proposed attribute_set
      set-missing e =
          let absent : component_of w.geometry.declaration semantic ≡ None = ap (λ (d : VertexDeclaration). component_of d semantic) (sym (Spot-declaration w)) ∙ missing-none (component_of (declaration_at b (at + 26)) semantic) e in
          stays_barred call b n w.old 22 (rw (w.model_is, w.geometry-is, lt-ltb vertex (vertex_count w.geometry) below, absent))

      module _ (c : VertexComponent) (found : component_of (declaration_at b (at + 26)) semantic ≡ Some c) where
        component_is : component_of w.geometry.declaration semantic ≡ Some c
        component_is = ap (λ (d : VertexDeclaration). component_of d semantic) (sym (Spot-declaration w)) ∙ found

        pub set-no-size : c.size ≡ 0 → Refuses 22
        unfolding proposed attribute_set
        set-no-size z =
            let l : c.size ≤ 0 = omega arith in
            stays_barred call b n w.old 22 (rw (w.model_is, w.geometry-is, lt-ltb vertex (vertex_count w.geometry) below, component_is, le-ltb 0 c.size l))

        pub set-no_shape : (c.size ≡ 0 → ⊥) → {r : Bool} → r ≡ has_shape c.component_type value → r ≡ false → Refuses 23
        unfolding proposed attribute_set
        set-no_shape z e u =
            let l : 0 < c.size = omega arith in
            let shape : has_shape c.component_type value ≡ false = sym e ∙ u in
            stays_barred call b n w.old 23 (rw (w.model_is, w.geometry-is, lt-ltb vertex (vertex_count w.geometry) below, component_is, lt-ltb 0 c.size l, shape))

        -- the component ends inside the vertex bytes
        component_inside_lem : vertex * w.geometry.stride + c.offset + c.size ≤ length w.geometry.content
        component_inside_lem =
            let s : SoundGeometry (full_geometry w.geometry) = Spot-sound w in
            let one : suc vertex ≤ vertex_count w.geometry = omega (arith, below) in
            let all : suc vertex * w.geometry.stride ≤ vertex_count w.geometry * w.geometry.stride = mul-le-mul_right w.geometry.stride one in
            let last : vertex * w.geometry.stride + w.geometry.stride ≤ vertex_count w.geometry * w.geometry.stride = rw suc-mul at all in
            omega (arith, s.content, s.inside, found_within w.geometry.declaration semantic c component_is)

        -- and so does the sum that is its place
        pub set_room : {k : ℕ} → k ≡ field 2 b (at + 18) → at + 55 + vertex * k + c.offset + c.size ≤ n
        set_room {k} e =
            let p : vertex * k ≡ vertex * w.geometry.stride = ap (λ (z : ℕ). vertex * z) (e ∙ Spot-stride w) in
            omega (arith, component_inside_lem, Spot-inside w)

        pub set-done : (c.size ≡ 0 → ⊥) → has_shape c.component_type value ≡ true → {k : ℕ} → k ≡ field 2 b (at + 18) → {place : ℕ} → place ≡ at + 55 + vertex * k + c.offset
            → {r : Bool} {t : List ℕ} → Edited (has_shape c.component_type value && fits b place (size_of c.component_type)) b place (encoded_bytes c.component_type value) r t
            → Stepped call b n (Ok n) t
        unfolding proposed attribute_set
        set-done z shape {k} e {place} q {r} {t} edited =
            let v : List ℕ = encoded_bytes c.component_type value in
            let i : ℕ = vertex * w.geometry.stride + c.offset in
            let among = component-among w.geometry.declaration semantic c component_is in
            let sized : c.size ≡ size_of c.component_type = rw among.2 at (components-sized w.geometry.declaration among.0 among.1) in
            let long : length v ≡ size_of c.component_type = encoded-length c.component_type value shape in
            let fit : i + length v ≤ length w.geometry.content = omega (arith, component_inside_lem) in
            let same : vertex * k ≡ vertex * w.geometry.stride = ap (λ (a : ℕ). vertex * a) (e ∙ Spot-stride w) in
            let at-is : place ≡ at + 55 + i = omega arith in
            let room : place + size_of c.component_type ≤ length b = omega (arith, set_room e, w.old.within) in
            let written : t ≡ overwrite b place v = rw (shape, le-leb (place + size_of c.component_type) (length b) room) at edited.bytes in
            let some_size : 0 < c.size = omega arith in
            content-step w i v fit call
            (rw (w.model_is, w.geometry-is, lt-ltb vertex (vertex_count w.geometry) below, component_is, lt-ltb 0 c.size some_size, shape))
            t (written ∙ ap (λ (a : ℕ). overwrite b a v) at-is)
