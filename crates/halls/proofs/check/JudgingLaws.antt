-- One geometry, as the code judges it: its numbers at the front of some bytes, and each check of them.
use Rattle.std.specs.Prelude.{Option, None, Some}
use mathlib.Core.Path.{◌≡◌, refl, sym, ap, ◌∙◌}
use mathlib.Core.Bool.{Bool, true, false, cond, ◌&&◌}
use mathlib.Core.List.{List}
use Prim.Native.Nat.{ℕ, suc, ◌+◌, ◌*◌, ◌≤◌, ◌<◌}
use native.Mathlib.Nat.{add_assoc, add-zero, mul-le-mul_right, suc-mul}
use native.Mathlib.Omega.{arith}
use borrow.Author.Tests.{eqb-true, le-ltb, lt-ltb}
use lib.Dec.{eqb, leb, ltb}
use lib.ListN.{length, drop}
use lib.Seq.{drop-drop, ext_get_or}
use Rattle.sections.specs.Edit.{part}
use Rattle.sections.specs.Le.{field, le}
use Rattle.sections.proofs.AddressLaws.{both_true}
use Rattle.sections.proofs.EditLaws.{part_length, part-part}
use Rattle.sections.proofs.LeLaws.{field_in}
use Rattle.vertices.specs.Declaration.{declaration_at}
use Rattle.vertices.specs.Runs.{numbers}
use Rattle.vertices.specs.declared.types.VertexComponent.{VertexComponent}
use Rattle.vertices.proofs.RunLaws.{numbers-get_or, numbers-length}
use Rattle.halls.specs.Checks.{strides_agree, components_inside, vertex_counts_agree, index_counts_agree, indices_in_range, triangles_distinct, has_size}
use Rattle.halls.specs.Hall.{FullGeometry}
use Rattle.halls.specs.Fronts.{GeometryFront, front_geometry}
use Rattle.halls.specs.Inner.Judging.{inside_stride, HeadJudged, HeadTested, head_of, indices_lowest, indices_lowest_of, lowest_of}
use Rattle.halls.specs.Inner.Order.{passed}
use Rattle.halls.specs.Triangles.{held_count}
use Rattle.halls.specs.declared.check.geometry.GeometryHead.{GeometryHead}

-- ---- parts

-- a field of a part
pub field-part : (k : ℕ) (s : List ℕ) (at n i : ℕ) → i + k ≤ n → at + n ≤ length s → field k (part s at n) i ≡ field k s (at + i)
field-part k s at n i h l =
    let e : length (part s at n) ≡ n = part_length s at n l in
    field_in k (part s at n) i (omega arith) ∙ ap le (part-part s at n i k h) ∙ sym (field_in k s (at + i) (omega arith))

-- a declaration of a part
pub declaration-part : (s : List ℕ) (at n i : ℕ) → i + 16 ≤ n → at + n ≤ length s → declaration_at (part s at n) i ≡ declaration_at s (at + i)
unfolding declaration_at
declaration-part s at n i h l =
    rw (
      add_assoc at i 4,
      add_assoc at i 6,
      add_assoc at i 7,
      add_assoc at i 8,
      field-part 4 s at n i (omega arith) l,
      field-part 2 s at n (i + 4) (omega arith) l,
      field-part 1 s at n (i + 6) (omega arith) l,
      field-part 1 s at n (i + 7) (omega arith) l,
      field-part 8 s at n (i + 8) (omega arith) l,
    )

part-drop : (s : List ℕ) (i at k : ℕ) → part (drop i s) at k ≡ part s (i + at) k
unfolding part
part-drop s i at k = rw (drop-drop at i s)

-- numbers of a part
pub numbers-part : (k n : ℕ) (s : List ℕ) (at m i : ℕ) → i + n * k ≤ m → numbers k n (drop i (part s at m)) ≡ numbers k n (drop (at + i) s)
numbers-part k n s at m i h =
    ext_get_or 0 (numbers k n (drop i (part s at m))) (numbers k n (drop (at + i) s)) (numbers-length k n _ ∙ sym (numbers-length k n _)) (λ j l.
    let b : j < n = rw (numbers-length k n (drop i (part s at m))) at l in
    let q : suc j * k ≤ n * k = mul-le-mul_right k b in
    let e : j * k + k ≤ n * k = rw suc-mul at q in
    numbers-get_or k n j (drop i (part s at m)) b
    ∙ ap le (part-drop (part s at m) i (j * k) k ∙ part-part s at m (i + j * k) k (omega arith) ∙ rw (← add_assoc at i (j * k)) (sym (part-drop s (at + i) (j * k) k)))
    ∙ sym (numbers-get_or k n j (drop (at + i) s) b))

-- ---- the geometry at the front

module _ {s : List ℕ} {content held : ℕ} (f : GeometryFront s content held) where
  abbrev g : FullGeometry
  g = front_geometry s

  abbrev last : ℕ
  last = 4 + 4 * held

  index-fits : 61 + content + last ≤ length s
  index-fits = omega (arith, f.long)

  held_count_lem : held_count (part s (61 + content) last) ≡ held
  held_count_lem = omega (arith, part_length s (61 + content) last index-fits)

  pub items_are : g.indices.items ≡ numbers 4 held (drop (65 + content) s)
  unfolding front_geometry
  items_are =
      let at : 61 + content + 4 ≡ 65 + content = omega arith in
      rw (← f.content-is, ← f.held-is, held_count_lem, ← at) (numbers-part 4 held s (61 + content) last 4 (omega arith))

  pub front-held : length g.indices.items ≡ held
  front-held = rw items_are (numbers-length 4 held (drop (65 + content) s))

  -- its numbers, each at its place
  numbers_fit : 6 + 14 ≤ length s
  numbers_fit = omega (arith, f.long)

  VerticesFit_lem : 48 + (7 + content) ≤ length s
  VerticesFit_lem = omega (arith, f.long)

  front-shader : g.shader ≡ field 2 s 6
  unfolding front_geometry
  front-shader = field-part 2 s 6 14 0 (omega arith) numbers_fit

  pub front-index-count : g.index_count ≡ field 4 s 8
  unfolding front_geometry
  front-index-count = field-part 4 s 6 14 2 (omega arith) numbers_fit

  pub front-triangle_count : g.triangle_count ≡ field 4 s 12
  unfolding front_geometry
  front-triangle_count = field-part 4 s 6 14 6 (omega arith) numbers_fit

  pub front-vertex_count : g.vertex_count ≡ field 2 s 16
  unfolding front_geometry
  front-vertex_count = field-part 2 s 6 14 10 (omega arith) numbers_fit

  pub front-stride : g.stride ≡ field 2 s 18
  unfolding front_geometry
  front-stride = field-part 2 s 6 14 12 (omega arith) numbers_fit

  pub front-declaration : g.declaration ≡ declaration_at s 26
  unfolding front_geometry
  front-declaration = declaration-part s 26 16 0 (omega arith) (omega (arith, f.long))

  front-layout : g.vertices.layout ≡ field 1 s 48
  unfolding front_geometry
  front-layout = rw (← f.content-is) (field-part 1 s 48 (7 + content) 0 (omega arith) VerticesFit_lem)

  pub front-own-stride : g.vertices.stride ≡ field 2 s 49
  unfolding front_geometry
  front-own-stride = rw (← f.content-is) (field-part 2 s 48 (7 + content) 1 (omega arith) VerticesFit_lem)

  pub front-count : g.vertices.count ≡ field 4 s 51
  unfolding front_geometry
  front-count = rw (← f.content-is) (field-part 4 s 48 (7 + content) 3 (omega arith) VerticesFit_lem)

  pub front-stored : g.indices.count ≡ field 4 s (61 + content)
  unfolding front_geometry
  front-stored =
      rw (← f.content-is, ← f.held-is) (field-part 4 s (61 + content) last 0 (omega arith) index-fits ∙ ap (field 4 s) (add-zero (61 + content)))

  -- all of them
  pub front-head : head_of g
      ≡ record {
        numbers = record {
          shader = field 2 s 6;
          index_count = field 4 s 8;
          triangle_count = field 4 s 12;
          vertex_count = field 2 s 16;
          stride = field 2 s 18;
        };
        declaration = declaration_at s 26;
        layout = field 1 s 48;
        vertices_stride = field 2 s 49;
        vertices_count = field 4 s 51;
        indices_count = field 4 s (61 + content);
        held = held;
      }
  front-head =
      cc (
        front-shader,
        front-index-count,
        front-triangle_count,
        front-vertex_count,
        front-stride,
        front-declaration,
        front-layout,
        front-own-stride,
        front-count,
        front-stored,
        front-held,
      )

-- ---- checks 14 to 17 of the numbers

abbrev strides_test : GeometryHead → Bool
strides_test h = eqb h.layout 0 && (eqb h.declaration.stride h.numbers.stride && eqb h.vertices_stride h.numbers.stride)

abbrev components_test : GeometryHead → Bool
components_test h = inside_stride h.declaration h.numbers.stride

abbrev vertices_test : GeometryHead → Bool
vertices_test h = eqb h.numbers.vertex_count h.vertices_count && (leb 1 h.vertices_count && leb h.vertices_count 65535)

abbrev indices_test : GeometryHead → Bool
indices_test h = eqb h.numbers.index_count h.held && (eqb h.indices_count h.held && (eqb h.held (3 * h.numbers.triangle_count) && leb 3 h.held))

module _ (h : GeometryHead) {r : Bool} where
  pub strides_tested : r ≡ strides_test h → HeadTested strides_agree h r
  unfolding strides_agree
  strides_tested e = record { answer = λ g q. e ∙ ap strides_test q }

  pub components_tested : r ≡ components_test h → HeadTested components_inside h r
  unfolding components_inside inside_stride
  components_tested e = record { answer = λ g q. e ∙ ap components_test q }

  pub Vertices-tested : r ≡ vertices_test h → HeadTested vertex_counts_agree h r
  unfolding vertex_counts_agree
  Vertices-tested e = record { answer = λ g q. e ∙ ap vertices_test q }

  pub Indices-tested : r ≡ indices_test h → HeadTested index_counts_agree h r
  unfolding index_counts_agree
  Indices-tested e = record { answer = λ g q. e ∙ ap indices_test q }

-- ---- the lowest that fails

-- an answer that is known
pub tested_as : {test : FullGeometry → Bool} {h : GeometryHead} {r t : Bool} → HeadTested test h r → r ≡ t → HeadTested test h t
tested_as a e = record { answer = λ g q. sym e ∙ a.answer g q }

module _ {h : GeometryHead} where
  pub judged-14 : HeadTested strides_agree h false → HeadJudged h 14
  judged-14 a = record { lowest = λ g e. rw (← a.answer g e) }

  pub judged-15 : HeadTested strides_agree h true → HeadTested components_inside h false → HeadJudged h 15
  judged-15 a b = record { lowest = λ g e. rw (← a.answer g e, ← b.answer g e) }

  pub judged-16 : HeadTested strides_agree h true → HeadTested components_inside h true → HeadTested vertex_counts_agree h false → HeadJudged h 16
  judged-16 a b c = record { lowest = λ g e. rw (← a.answer g e, ← b.answer g e, ← c.answer g e) }

  module _ (a : HeadTested strides_agree h true) (b : HeadTested components_inside h true) (c : HeadTested vertex_counts_agree h true) where
    pub judged-17 : HeadTested index_counts_agree h false → HeadJudged h 17
    judged-17 d = record { lowest = λ g e. rw (← a.answer g e, ← b.answer g e, ← c.answer g e, ← d.answer g e) }

    pub judged-none : HeadTested index_counts_agree h true → HeadJudged h passed
    judged-none d = record { lowest = λ g e. rw (← a.answer g e, ← b.answer g e, ← c.answer g e, ← d.answer g e) }

abbrev chain : Bool → Bool → Bool → Bool → ℕ → ℕ
chain a b c d next = cond a (cond b (cond c (cond d next 17) 16) 15) 14

chain-stops : (a b c d : Bool) (next : ℕ) → (chain a b c d passed ≡ passed → ⊥) → chain a b c d passed ≡ chain a b c d next
chain-stops false b c d next f = refl
chain-stops true false c d next f = refl
chain-stops true true false d next f = refl
chain-stops true true true false next f = refl
chain-stops true true true true next f = absurd (f refl)

chain-passes : (a b c d : Bool) (next : ℕ) → chain a b c d passed ≡ passed → next ≡ chain a b c d next
chain-passes false b c d next e = absurd (omega (arith, e))
chain-passes true false c d next e = absurd (omega (arith, e))
chain-passes true true false d next e = absurd (omega (arith, e))
chain-passes true true true false next e = absurd (omega (arith, e))
chain-passes true true true true next e = refl

chain-counts : (a b c d : Bool) → chain a b c d passed ≡ passed → (c ≡ true) × (d ≡ true)
chain-counts false b c d e = absurd (omega (arith, e))
chain-counts true false c d e = absurd (omega (arith, e))
chain-counts true true false d e = absurd (omega (arith, e))
chain-counts true true true false e = absurd (omega (arith, e))
chain-counts true true true true e = (refl, refl)

module _ (g : FullGeometry) {h : GeometryHead} {r : ℕ} (e : h ≡ head_of g) (j : HeadJudged h r) where
  -- one of checks 14 to 17 fails
  pub lowest-head : (r ≡ passed → ⊥) → r ≡ lowest_of g
  unfolding lowest_of
  lowest-head f =
      let q = j.lowest g e in
      q ∙ chain-stops (strides_agree g) (components_inside g) (vertex_counts_agree g) (index_counts_agree g) (indices_lowest g) (λ z. f (q ∙ z))

  -- none of them does: the vertex counts agree, the indices make whole triangles, and checks 18 and 27 decide
  module _ (z : r ≡ passed) where
    agree : (vertex_counts_agree g ≡ true) × (index_counts_agree g ≡ true)
    agree = chain-counts (strides_agree g) (components_inside g) (vertex_counts_agree g) (index_counts_agree g) (sym (j.lowest g e) ∙ z)

    pub lowest_vertices : g.vertex_count ≡ g.vertices.count
    unfolding vertex_counts_agree
    lowest_vertices = eqb-true g.vertex_count g.vertices.count (both_true (eqb g.vertex_count g.vertices.count) _ agree.0).0

    pub lowest-triangles : length g.indices.items ≡ 3 * g.triangle_count
    unfolding index_counts_agree
    lowest-triangles =
        let n = length g.indices.items in
        let own = (both_true (eqb g.index_count n) _ agree.1).1 in
        let both = (both_true (eqb g.indices.count n) _ own).1 in
        eqb-true n (3 * g.triangle_count) (both_true (eqb n (3 * g.triangle_count)) _ both).0

    pub lowest_scanned : {t : ℕ} → t ≡ indices_lowest_of g.vertices.count g.indices.items → t ≡ lowest_of g
    unfolding lowest_of indices_lowest_of indices_in_range triangles_distinct
    lowest_scanned q = q ∙ chain-passes (strides_agree g) (components_inside g) (vertex_counts_agree g) (index_counts_agree g) (indices_lowest g) (sym (j.lowest g e) ∙ z)

-- so of the geometry at the front, whose indices stand behind its vertex bytes
module _ {s : List ℕ} {content held : ℕ} (f : GeometryFront s content held) {h : GeometryHead} {r : ℕ} (e : h ≡ head_of (front_geometry s)) (j : HeadJudged h r) (z : r ≡ passed) where
  pub front-triangles : held ≡ 3 * h.numbers.triangle_count
  front-triangles =
      sym (ap length (items_are f) ∙ numbers-length 4 held (drop (65 + content) s)) ∙ lowest-triangles (front_geometry s) e j z ∙ ap (λ (x : GeometryHead). 3 * x.numbers.triangle_count) (sym e)

  pub front-scanned : {t : ℕ} → t ≡ indices_lowest_of h.vertices_count (numbers 4 (3 * h.numbers.triangle_count) (drop (65 + content) s)) → t ≡ lowest_of (front_geometry s)
  front-scanned q =
      let limit : h.vertices_count ≡ (front_geometry s).vertices.count = ap (λ (x : GeometryHead). x.vertices_count) e in
      let items : numbers 4 (3 * h.numbers.triangle_count) (drop (65 + content) s) ≡ (front_geometry s).indices.items = ap (λ (n : ℕ). numbers 4 n (drop (65 + content) s)) (sym front-triangles) ∙ sym (items_are f) in
      lowest_scanned (front_geometry s) e j z (q ∙ rw (limit, items) refl)

-- ---- the position

pub position-missing : (o : Option VertexComponent) → None ≡ o → has_size o ≡ false
position-missing None e = refl
position-missing (Some c) e = let z : ◌≡◌ {A = ℕ} 0 1 = cc in absurd (omega arith)

position_found : (o : Option VertexComponent) (c : VertexComponent) → Some c ≡ o → has_size o ≡ ltb 0 c.size
position_found None c e = let z : ◌≡◌ {A = ℕ} 0 1 = cc in absurd (omega arith)
position_found (Some x) c e = cc

module _ (o : Option VertexComponent) (c : VertexComponent) (e : Some c ≡ o) where
  pub position_empty : c.size ≡ 0 → has_size o ≡ false
  position_empty z = position_found o c e ∙ le-ltb 0 c.size (omega arith)

  pub position-sized : (c.size ≡ 0 → ⊥) → has_size o ≡ true
  position-sized f = position_found o c e ∙ lt-ltb 0 c.size (omega (arith, f))
