-- The bodies of a hall's records: numbers that were written are read back, bytes that were read are written back, and what was read fits its widths.
use mathlib.Core.Path.{◌≡◌, refl, sym, ap, ◌∙◌}
use mathlib.Core.Bool.{true}
use mathlib.Core.List.{List, [], ◌∷◌, ◌++◌, append_assoc, append-nil}
use Prim.{Unit}
use Prim.Native.Nat.{ℕ, zero, suc, ◌+◌, ◌*◌, ◌^◌, ◌≤◌, ◌<◌}
use native.Mathlib.Nat.{pow-le-pow_right}
use native.Mathlib.Omega.{arith}
use borrow.Author.Tests.{eq-eqb}
use lib.Dec.{lit<}
use lib.ListN.{length, take, drop, get_or, length-append, length-take, length-drop, take-append-drop, drop_of_length-le}
use lib.Seq.{drop_at, drop-drop, get_or-drop, take_all}
use Rattle.sections.specs.Edit.{part}
use Rattle.sections.specs.Le.{le, bytes, field}
use Rattle.sections.proofs.EditLaws.{part-add, take_below}
use Rattle.sections.proofs.LeLaws.{field_bound, field-bytes, le-bound, length-bytes}
use Rattle.vertices.specs.Declaration.{declaration_at, declaration_bytes}
use Rattle.vertices.specs.Runs.{numbers, run}
use Rattle.vertices.proofs.DeclarationLaws.{declaration_in-width, declaration_inverse, declaration_written_back}
use Rattle.vertices.proofs.RunLaws.{length_run, numbers-length, numbers-run, run-numbers}
use Rattle.vertices.specs.declared.declaration.VertexDeclaration.{VertexDeclaration}
use Rattle.halls.specs.List.{Vertices, Indices, model_body, geometry_body, vertices_body, indices_body}
use Rattle.halls.specs.Every.{Each}
use Rattle.halls.specs.Hall.{FullGeometry, FullModel, FullGeometryInWidth, FullModelInWidth, listed_geometry, listed_model}
use Rattle.halls.specs.Parsing.{mapping_count, content_length, due_length, model_in, geometry_in}
use Rattle.halls.specs.Triangles.{held_count}
use Rattle.halls.specs.Checks.{vertex_bytes_exact}
use Rattle.halls.proofs.EveryLaws.{each_below}
use Rattle.halls.proofs.format.RecordLaws.{field-behind}

-- every element is a byte
abbrev pub AllBytes : List ℕ → Type 0
AllBytes s = (i : ℕ) → get_or s i 0 < 256

pub drop-below : (n : ℕ) (s : List ℕ) → AllBytes s → AllBytes (drop n s)
drop-below n s f i = rw (get_or-drop n s i 0) (f (n + i))

-- ---- numbers of given widths, one behind the other

-- each number fits its width
abbrev Fit : (widths values : List ℕ) → Type 0
Fit [] [] = Unit {0}
Fit [] (v ∷ vs) = ⊥
Fit (w ∷ ws) [] = ⊥
Fit (w ∷ ws) (v ∷ vs) = (v < 256 ^ w) × Fit ws vs

-- their bytes, and more behind them
abbrev put : (widths values more : List ℕ) → List ℕ
put [] vs more = more
put (w ∷ ws) [] more = more
put (w ∷ ws) (v ∷ vs) more = bytes w v ++ put ws vs more

abbrev total : List ℕ → ℕ
total [] = 0
total (w ∷ ws) = w + total ws

-- the numbers that stand in s from a place on
abbrev fields_from : (widths s : List ℕ) → ℕ → List ℕ
fields_from [] s at = []
fields_from (w ∷ ws) s at = field w s at ∷ fields_from ws s (at + w)

put-length : (ws vs : List ℕ) → Fit ws vs → (more : List ℕ) → length (put ws vs more) ≡ total ws + length more
put-length [] [] f more = omega arith
put-length [] (v ∷ vs) f more = absurd f
put-length (w ∷ ws) [] f more = absurd f
put-length (w ∷ ws) (v ∷ vs) f more = rw (length-append, length-bytes, put-length ws vs f.1 more) (omega arith)

put-behind : (ws vs : List ℕ) → Fit ws vs → (more : List ℕ) → drop (total ws) (put ws vs more) ≡ more
put-behind [] [] f more = refl
put-behind [] (v ∷ vs) f more = absurd f
put-behind (w ∷ ws) [] f more = absurd f
put-behind (w ∷ ws) (v ∷ vs) f more =
    sym (drop-drop (total ws) w (bytes w v ++ put ws vs more))
    ∙ ap (drop (total ws)) (drop_at (bytes w v) (put ws vs more) w (length-bytes w v)) ∙ put-behind ws vs f.1 more

-- written and read
fields-put : (ws vs : List ℕ) → Fit ws vs → (before more : List ℕ) (at : ℕ) → length before ≡ at → fields_from ws (before ++ put ws vs more) at ≡ vs
fields-put [] [] f before more at e = refl
fields-put [] (v ∷ vs) f before more at e = absurd f
fields-put (w ∷ ws) [] f before more at e = absurd f
fields-put (w ∷ ws) (v ∷ vs) f before more at e =
    let behind : List ℕ = put ws vs more in
    let n : length (before ++ bytes w v) ≡ at + w = simp (length-append, length-bytes) (omega arith) in
    let one : field w (before ++ (bytes w v ++ behind)) at ≡ v = field-behind before behind w v at e f.0 in
    let others : fields_from ws (before ++ (bytes w v ++ behind)) (at + w) ≡ vs =
    ap (λ (l : List ℕ). fields_from ws l (at + w)) (sym (append_assoc before (bytes w v) behind)) ∙ fields-put ws vs f.1 (before ++ bytes w v) more (at + w) n in
    cc

-- read and written
put-fields : (ws s : List ℕ) (at : ℕ) → AllBytes s → at + total ws ≤ length s → (more : List ℕ) → put ws (fields_from ws s at) more ≡ part s at (total ws) ++ more
unfolding part
put-fields [] s at f h more = refl
put-fields (w ∷ ws) s at f h more =
    rw (field-bytes w s at f (omega arith), put-fields ws s (at + w) f (omega arith) more) (sym (append_assoc (part s at w) (part s (at + w) (total ws)) more))
    ∙ ap (λ (l : List ℕ). l ++ more) (sym (part-add s at w (total ws)))

-- all of s: its numbers, and what is behind them
put_whole : (ws s : List ℕ) → AllBytes s → total ws ≤ length s → put ws (fields_from ws s 0) (drop (total ws) s) ≡ s
unfolding part
put_whole ws s f h = put-fields ws s 0 f (omega arith) (drop (total ws) s) ∙ take-append-drop (total ws) s

-- ---- runs

pub numbers-below : (k n : ℕ) (s : List ℕ) → AllBytes s → Each (λ (i : ℕ). i < 256 ^ k) (numbers k n s)
unfolding Each numbers
numbers-below k zero s f = tt
numbers-below k (suc n) s f =
    let short : length (take k s) ≤ k = rw length-take (omega arith) in
    let most : 256 ^ length (take k s) ≤ 256 ^ k = pow-le-pow_right (lit< tt) short in
    let below : le (take k s) < 256 ^ length (take k s) = le-bound (take k s) (take_below k s f) in
    (omega arith, numbers-below k n (drop k s) (drop-below k s f))

-- the whole of some bytes as a run
run-whole : (k n : ℕ) (s : List ℕ) → AllBytes s → length s ≡ n * k → run k (numbers k n s) ≡ s
run-whole k n s f e = run-numbers k n s f (omega arith) ∙ take_all (n * k) s (omega arith)

-- ---- a body that is exact in length

pub record Proper (kind : ℕ) (body : List ℕ) : Type 0 where
  pub below : AllBytes body
  pub short : length body < 2 ^ 32
  pub long : length body ≡ due_length kind body

-- ---- kind 1

abbrev model_widths : List ℕ
model_widths = 4 ∷ 2 ∷ []

pub model_body-length : (m : FullModel) → length (model_body (listed_model m)) ≡ 6 + 2 * length m.mapping
model_body-length m = simp (length-append, length-bytes, length_run) (omega arith)

pub model-read-back : (m : FullModel) → FullModelInWidth m → model_in (model_body (listed_model m)) m.geometries ≡ m
model-read-back m w =
    let b : List ℕ = model_body (listed_model m) in
    let values : List ℕ = m.binding ∷ m.mask ∷ [] in
    let fit : Fit model_widths values = (w.binding, (w.mask, tt)) in
    let more : List ℕ = run 2 m.mapping in
    let made : ℕ → ℕ → List ℕ → FullModel = λ x y l. record { binding = x; mask = y; mapping = l; geometries = m.geometries } in
    let fields : fields_from model_widths b 0 ≡ values = fields-put model_widths values fit [] more 0 refl in
    let behind : drop 6 b ≡ more = put-behind model_widths values fit more in
    let count : mapping_count b ≡ length m.mapping = omega (arith, model_body-length m) in
    let mapping : numbers 2 (mapping_count b) (drop 6 b) ≡ m.mapping = rw (count, behind) (numbers-run 2 m.mapping (each_below (2 ^ 16) (lit< tt) m.mapping w.entries)) in
    ap (λ (l : List ℕ). made (get_or l 0 0) (get_or l 1 0) (numbers 2 (mapping_count b) (drop 6 b))) fields ∙ ap (made m.binding m.mask) mapping

module _ {b : List ℕ} (p : Proper 1 b) where
  model-long : length b ≡ 6 + 2 * mapping_count b
  unfolding due_length
  model-long = p.long

  model-left : length (drop 6 b) ≡ mapping_count b * 2
  model-left = length-drop 6 b ∙ omega (arith, model-long)

  pub model-written_back : (gs : List FullGeometry) → model_body (listed_model (model_in b gs)) ≡ b
  model-written_back gs =
      ap (λ (l : List ℕ). put model_widths (fields_from model_widths b 0) l) (run-whole 2 (mapping_count b) (drop 6 b) (drop-below 6 b p.below) model-left)
      ∙ put_whole model_widths b p.below (omega (arith, model-long))

  pub ModelInWidth_lem : (gs : List FullGeometry) → Each FullGeometryInWidth gs → FullModelInWidth (model_in b gs)
  ModelInWidth_lem gs w = record {
    binding = field_bound 4 b 0 p.below;
    mask = field_bound 2 b 4 p.below;
    entries = numbers-below 2 (mapping_count b) (drop 6 b) (drop-below 6 b p.below);
    mapping = rw (numbers-length 2 (mapping_count b) (drop 6 b)) (omega (arith, model-long, p.short));
    geometries = w;
  }

-- ---- kind 2

abbrev geometry_widths : List ℕ
geometry_widths = 2 ∷ 4 ∷ 4 ∷ 2 ∷ 2 ∷ []

abbrev geometry_values : FullGeometry → List ℕ
geometry_values g = g.shader ∷ g.index_count ∷ g.triangle_count ∷ g.vertex_count ∷ g.stride ∷ []

put-geometry : (g : FullGeometry) → put geometry_widths (geometry_values g) [] ≡ geometry_body (listed_geometry g)
put-geometry g = rw (append-nil (bytes 2 g.stride))

pub geometry_body-length : (g : FullGeometry) → length (geometry_body (listed_geometry g)) ≡ 14
geometry_body-length g = simp (length-append, length-bytes)

geometry_numbers_lem : (g : FullGeometry) → FullGeometryInWidth g → fields_from geometry_widths (geometry_body (listed_geometry g)) 0 ≡ geometry_values g
geometry_numbers_lem g w =
    ap (λ (l : List ℕ). fields_from geometry_widths l 0) (sym (put-geometry g))
    ∙ fields-put geometry_widths (geometry_values g) (w.shader, (w.index_count, (w.triangle_count, (w.vertex_count, (w.stride, tt))))) [] [] 0 refl

module _ {b : List ℕ} (p : Proper 2 b) where
  geometry-long : length b ≡ 14
  unfolding due_length
  geometry-long = p.long

  pub geometry-written_back : (b3 b4 b5 : List ℕ) → geometry_body (listed_geometry (geometry_in b b3 b4 b5)) ≡ b
  geometry-written_back b3 b4 b5 =
      sym (put-geometry (geometry_in b b3 b4 b5))
      ∙ ap (put geometry_widths (fields_from geometry_widths b 0)) (sym (drop_of_length-le b {i = 14} (omega (arith, geometry-long))))
      ∙ put_whole geometry_widths b p.below (omega (arith, geometry-long))

-- ---- kind 3

module _ {b : List ℕ} (p : Proper 3 b) where
  declaration_long : length b ≡ 16
  unfolding due_length
  declaration_long = p.long

  pub declaration_back : declaration_bytes (declaration_at b 0) ≡ b
  unfolding part
  declaration_back = declaration_written_back b 0 p.below (omega (arith, declaration_long)) ∙ take_all 16 b (omega (arith, declaration_long))

-- ---- kind 4

abbrev vertices_widths : List ℕ
vertices_widths = 1 ∷ 2 ∷ 4 ∷ []

abbrev pub vertices_in : List ℕ → Vertices
vertices_in b = record { layout = field 1 b 0; stride = field 2 b 1; count = field 4 b 3; content = drop 7 b }

pub vertices_body-length : (v : Vertices) → length (vertices_body v) ≡ 7 + length v.content
vertices_body-length v = simp (length-append, length-bytes) (omega arith)

pub Vertices-read-back : (v : Vertices) → v.layout < 2 ^ 8 → v.stride < 2 ^ 16 → v.count < 2 ^ 32 → vertices_in (vertices_body v) ≡ v
Vertices-read-back v h i j =
    let b : List ℕ = vertices_body v in
    let values : List ℕ = v.layout ∷ v.stride ∷ v.count ∷ [] in
    let fit : Fit vertices_widths values = (h, (i, (j, tt))) in
    let made : List ℕ → List ℕ → Vertices = λ l c. record { layout = get_or l 0 0; stride = get_or l 1 0; count = get_or l 2 0; content = c } in
    let fields : fields_from vertices_widths b 0 ≡ values = fields-put vertices_widths values fit [] v.content 0 refl in
    ap (λ (l : List ℕ). made l (drop 7 b)) fields ∙ ap (made values) (put-behind vertices_widths values fit v.content)

module _ {b : List ℕ} (p : Proper 4 b) where
  Vertices-long : length b ≡ 7 + content_length b
  unfolding due_length
  Vertices-long = p.long

  pub VerticesWritten-back : vertices_body (vertices_in b) ≡ b
  VerticesWritten-back = put_whole vertices_widths b p.below (omega (arith, Vertices-long))

-- ---- kind 5

abbrev indices_widths : List ℕ
indices_widths = 4 ∷ []

abbrev pub indices_in : List ℕ → Indices
indices_in b = record { count = field 4 b 0; items = numbers 4 (held_count b) (drop 4 b) }

pub indices_body-length : (i : Indices) → length (indices_body i) ≡ 4 + 4 * length i.items
indices_body-length i = simp (length-append, length-bytes, length_run) (omega arith)

pub Indices-read-back : (i : Indices) → i.count < 2 ^ 32 → Each (λ (n : ℕ). n < 2 ^ 32) i.items → indices_in (indices_body i) ≡ i
Indices-read-back i h w =
    let b : List ℕ = indices_body i in
    let values : List ℕ = i.count ∷ [] in
    let fit : Fit indices_widths values = (h, tt) in
    let made : List ℕ → List ℕ → Indices = λ l items. record { count = get_or l 0 0; items = items } in
    let fields : fields_from indices_widths b 0 ≡ values = fields-put indices_widths values fit [] (run 4 i.items) 0 refl in
    let behind : drop 4 b ≡ run 4 i.items = put-behind indices_widths values fit (run 4 i.items) in
    let count : held_count b ≡ length i.items = omega (arith, indices_body-length i) in
    let items : numbers 4 (held_count b) (drop 4 b) ≡ i.items = rw (count, behind) (numbers-run 4 i.items (each_below (2 ^ 32) (lit< tt) i.items w)) in
    ap (λ (l : List ℕ). made l (numbers 4 (held_count b) (drop 4 b))) fields ∙ ap (made values) items

module _ {b : List ℕ} (p : Proper 5 b) where
  Indices-long : length b ≡ 4 + 4 * held_count b
  unfolding due_length
  Indices-long = p.long

  Indices-left : length (drop 4 b) ≡ held_count b * 4
  Indices-left = length-drop 4 b ∙ omega (arith, Indices-long)

  pub Indices-written_back : indices_body (indices_in b) ≡ b
  Indices-written_back =
      ap (λ (l : List ℕ). put indices_widths (fields_from indices_widths b 0) l) (run-whole 4 (held_count b) (drop 4 b) (drop-below 4 b p.below) Indices-left)
      ∙ put_whole indices_widths b p.below (omega (arith, Indices-long))

-- ---- the four of a geometry

pub geometry-read-back : (g : FullGeometry) → FullGeometryInWidth g
    → geometry_in (geometry_body (listed_geometry g)) (declaration_bytes g.declaration) (vertices_body g.vertices) (indices_body g.indices) ≡ g
geometry-read-back g w =
    let made : List ℕ → VertexDeclaration → Vertices → Indices → FullGeometry = λ l d v i. record {
      shader = get_or l 0 0;
      index_count = get_or l 1 0;
      triangle_count = get_or l 2 0;
      vertex_count = get_or l 3 0;
      stride = get_or l 4 0;
      declaration = d;
      vertices = v;
      indices = i;
    } in
    let d : VertexDeclaration = declaration_at (declaration_bytes g.declaration) 0 in
    let v : Vertices = vertices_in (vertices_body g.vertices) in
    let i : Indices = indices_in (indices_body g.indices) in
    ap (λ (l : List ℕ). made l d v i) (geometry_numbers_lem g w)
    ∙ ap (λ (d : VertexDeclaration). made (geometry_values g) d v i) (declaration_inverse g.declaration w.declaration)
    ∙ ap (λ (v : Vertices). made (geometry_values g) g.declaration v i) (Vertices-read-back g.vertices w.layout w.vertices_stride w.vertices_count)
    ∙ ap (made (geometry_values g) g.declaration g.vertices) (Indices-read-back g.indices w.indices_count w.items)

module _ {b2 b3 b4 b5 : List ℕ} (p2 : Proper 2 b2) (p3 : Proper 3 b3) (p4 : Proper 4 b4) (p5 : Proper 5 b5) where
  pub GeometryInWidth_lem : FullGeometryInWidth (geometry_in b2 b3 b4 b5)
  GeometryInWidth_lem = record {
    shader = field_bound 2 b2 0 p2.below;
    index_count = field_bound 4 b2 2 p2.below;
    triangle_count = field_bound 4 b2 6 p2.below;
    vertex_count = field_bound 2 b2 10 p2.below;
    stride = field_bound 2 b2 12 p2.below;
    declaration = declaration_in-width b3 0 p3.below;
    layout = field_bound 1 b4 0 p4.below;
    vertices_stride = field_bound 2 b4 1 p4.below;
    vertices_count = field_bound 4 b4 3 p4.below;
    content = rw (length-drop 7 b4) (omega (arith, Vertices-long p4, p4.short));
    indices_count = field_bound 4 b5 0 p5.below;
    items = numbers-below 4 (held_count b5) (drop 4 b5) (drop-below 4 b5 p5.below);
    held = rw (numbers-length 4 (held_count b5) (drop 4 b5)) (omega (arith, Indices-long p5, p5.short));
  }

  -- check 11 of it
  pub geometry-vertex-bytes : vertex_bytes_exact (geometry_in b2 b3 b4 b5) ≡ true
  unfolding vertex_bytes_exact
  geometry-vertex-bytes = eq-eqb (length (drop 7 b4)) (field 4 b4 3 * field 2 b4 1) (length-drop 7 b4 ∙ omega (arith, Vertices-long p4))
