-- What is read from sections of bytes fits its widths, and so does the state of a hall that is taken in.
use Rattle.std.specs.Prelude.{Option, None, Some}
use Rattle.std.specs.Option.{option_or}
use mathlib.Core.Path.{◌≡◌, subst}
use mathlib.Core.Bool.{Bool, true, false, cond}
use mathlib.Core.List.{List, [], ◌∷◌, map}
use Prim.{Unit}
use Prim.Native.Nat.{ℕ, suc, ◌+◌, ◌^◌, ◌≤◌, ◌<◌}
use native.Mathlib.Omega.{arith}
use lib.Dec.{eqb, ltb, lit<}
use lib.ListN.{length}
use Rattle.sections.specs.Address.{Sections, within_limit, range_of, resolved}
use Rattle.sections.specs.Le.{field}
use Rattle.sections.specs.Lists.{header_of, header_length}
use Rattle.sections.specs.declared.lookup.Located.{Located}
use Rattle.sections.proofs.LeLaws.{field_bound}
use Rattle.vertices.specs.Buffer.{stored_declaration, vertex_data, found_at, legacy_at, plain_at, block_buffer, in_block, vertex_buffer_at}
use Rattle.vertices.specs.Declaration.{InWidth}
use Rattle.vertices.specs.Runs.{numbers}
use Rattle.vertices.specs.declared.declaration.VertexDeclaration.{VertexDeclaration}
use Rattle.vertices.specs.declared.buffer.VertexBuffer.{VertexBuffer}
use Rattle.vertices.specs.declared.buffer.VertexBufferLayout.{VertexBufferLayout}
use Rattle.vertices.specs.declared.buffer.VertexBufferLayout.TheVariants.{Legacy, LegacyData2, Gen9, GeometryInline}
use Rattle.vertices.proofs.DeclarationLaws.{declaration_in-width, position-InWidth}
use Rattle.halls.specs.Blocks.{ModelBlock, model_block, geometry_block, IndexBlock, index_block}
use Rattle.halls.specs.Calls.{test, taken_geometry, both, all_of, taken_model, taken}
use Rattle.halls.specs.Every.{Each}
use Rattle.halls.specs.Hall.{FullGeometry, FullModel, Hall}
use Rattle.halls.specs.List.{Vertices, Indices, Geometry, Model}
use Rattle.halls.specs.Reading.{
  Reading,
  refused,
  read,
  need,
  and_then,
  list_at,
  indices_at,
  sized_indices,
  indices_of,
  stored_in,
  vertices_of,
  geometry_with,
  geometry_of,
  first,
  rest,
  mapping_of,
  read_geometries,
  read_model,
  read_models,
  read_header,
  read_list,
}
use Rattle.halls.specs.State.{geometry_state, model_state, state_of, GeometryInWidth, ModelInWidth, StateInWidth}
use Rattle.halls.proofs.BodyLaws.{AllBytes, numbers-below}
use Rattle.halls.proofs.EveryLaws.{below_each}
use Rattle.halls.proofs.ReadBytes.{IfThere, there-map, there_or, there-cond, range_below, resolved-below}
use Rattle.halls.proofs.ReadingLaws.{read-injective, not-read, then-read}
use Rattle.halls.proofs.SoundEdits.{each_to}

-- ---- what may be there has a property

there_else : {A : Type 0} (P : A → Type 0) (x y : Option A) → IfThere P x → IfThere P y → IfThere P (option_or x y)
there_else P None y v w = w
there_else P (Some a) y v w = v

-- ---- what was read has a property

abbrev IfRead : {A : Type 0} → (A → Type 0) → Reading A → Type 0
IfRead P (refused check) = Unit {0}
IfRead P (read x) = P x

read-cond : {A : Type 0} (P : A → Type 0) (t : Bool) (x y : Reading A) → IfRead P x → IfRead P y → IfRead P (cond t x y)
read-cond P true x y v w = v
read-cond P false x y v w = w

read-need : {A B : Type 0} (Q : A → Type 0) (P : B → Type 0) (check : ℕ) (o : Option A) (f : A → Reading B) → IfThere Q o → ((x : A) → Q x → IfRead P (f x))
    → IfRead P (need check o f)
read-need Q P check None f v h = tt
read-need Q P check (Some x) f v h = h x v

read-then : {A B : Type 0} (Q : A → Type 0) (P : B → Type 0) (r : Reading A) (f : A → Reading B) → IfRead Q r → ((x : A) → Q x → IfRead P (f x))
    → IfRead P (and_then r f)
read-then Q P (refused check) f v h = tt
read-then Q P (read x) f v h = h x v

-- ---- a list whose numbers fit

record BufferFits (b : VertexBuffer) : Type 0 where
  stride : b.vertex_stride < 2 ^ 16
  declaration : IfThere InWidth b.declaration

record VerticesFit (v : Vertices) : Type 0 where
  stride : v.stride < 2 ^ 16
  content : Each (λ (b : ℕ). b < 256) v.content

abbrev IndicesFit : Indices → Type 0
IndicesFit i = Each (λ (x : ℕ). x < 2 ^ 32) i.items

record GeometryFits (g : Geometry) : Type 0 where
  shader : g.shader < 2 ^ 16
  stride : g.stride < 2 ^ 16
  declaration : IfThere InWidth g.declaration
  vertices : IfThere VerticesFit g.vertices
  indices : IfThere IndicesFit g.indices

record ModelFits (m : Model) : Type 0 where
  binding : m.binding < 2 ^ 32
  mask : m.mask < 2 ^ 16
  geometries : Each GeometryFits m.geometries

abbrev Ids : List ℕ → Type 0
Ids l = Each (λ (i : ℕ). i < 2 ^ 16) l

-- ---- read from sections of bytes

module _ (s : Sections) (system : AllBytes s.system) (graphics : AllBytes s.graphics) where
  -- ---- bytes

  resolved-bytes : (address n : ℕ) → IfThere AllBytes (resolved s address n)
  resolved-bytes = resolved-below s system graphics

  list-fits : (width count pointer : ℕ) → IfThere (Each (λ (i : ℕ). i < 256 ^ width)) (list_at s width count pointer)
  unfolding list_at Each
  list-fits width count pointer =
      let Fit : List ℕ → Type 0 = Each (λ (i : ℕ). i < 256 ^ width) in
      there-cond Fit (eqb count 0) (Some []) _ tt
      (there-cond Fit (eqb pointer 0) (Some []) _ tt
      (there-map AllBytes Fit (numbers width count) (λ b f. numbers-below width count b f) (resolved s pointer _) (resolved-bytes pointer _)))

  -- ---- indices

  indices_at-fit : (width count pointer : ℕ) → 256 ^ width ≤ 2 ^ 32 → IfThere IndicesFit (indices_at s width count pointer)
  unfolding indices_at
  indices_at-fit width count pointer h =
      there-cond IndicesFit (eqb pointer 0) None _ tt
      (there-cond IndicesFit (eqb count 0) None _ tt
      (there-map AllBytes IndicesFit _ (λ b f. each_to (λ (x : ℕ) (l : x < 256 ^ width). omega arith) (numbers width count b) (numbers-below width count b f)) (resolved s pointer _) (resolved-bytes pointer _)))

  IndicesFit_lem : (b : IndexBlock) → IndicesFit (indices_of s b)
  unfolding indices_of sized_indices Each
  IndicesFit_lem b =
      let two : (pointer : ℕ) → IfThere IndicesFit (indices_at s 2 b.count pointer) = λ pointer. indices_at-fit 2 b.count pointer (omega arith) in
      let four : IfThere IndicesFit (indices_at s 4 b.count b.sized) = indices_at-fit 4 b.count b.sized (omega arith) in
      let sized : IfThere IndicesFit (sized_indices s b.size b.count b.sized) =
      there-cond IndicesFit (eqb b.size 2) _ _ (two b.sized) (there-cond IndicesFit (eqb b.size 4) _ None four tt) in
      there_or IndicesFit (option_or (indices_at s 2 b.count b.legacy) (sized_indices s b.size b.count b.sized)) _
      (there_else IndicesFit (indices_at s 2 b.count b.legacy) (sized_indices s b.size b.count b.sized) (two b.legacy) sized) tt

  -- ---- vertices

  stored-fits : (info : ℕ) → IfThere InWidth (stored_declaration s info)
  unfolding stored_declaration
  stored-fits info = there-map AllBytes InWidth _ (λ b f. declaration_in-width b 0 f) (resolved s info 16) (resolved-bytes info 16)

  Found-fits : (layout : VertexBufferLayout) (stride count pointer info : ℕ) (d : Option VertexDeclaration) → stride < 2 ^ 16 → IfThere InWidth d → (place : Option Located)
      → IfThere BufferFits (found_at layout stride count pointer info d place)
  Found-fits layout stride count pointer info d h w None = tt
  Found-fits layout stride count pointer info d h w (Some at) = record { stride = h; declaration = w }

  legacy-fits : (layout : VertexBufferLayout) (pointer count stride info : ℕ) → stride < 2 ^ 16 → IfThere BufferFits (legacy_at s layout pointer count stride info)
  unfolding legacy_at
  legacy-fits layout pointer count stride info h = Found-fits layout stride count pointer info (stored_declaration s info) h (stored-fits info) (vertex_data s pointer count stride)

  plain_fits : (layout : VertexBufferLayout) (pointer count stride : ℕ) → stride < 2 ^ 16 → IfThere BufferFits (plain_at s layout pointer count stride)
  unfolding plain_at
  plain_fits layout pointer count stride h = Found-fits layout stride count pointer 0 None h tt (vertex_data s pointer count stride)

  Block-fits : (o : Option (List ℕ)) → IfThere AllBytes o → IfThere BufferFits (in_block s o)
  unfolding block_buffer
  Block-fits None f = tt
  Block-fits (Some b) f =
      there_else BufferFits (legacy_at s Legacy _ _ _ _) _ (legacy-fits Legacy _ _ _ _ (field_bound 2 b 0x08 f))
      (there_else BufferFits (legacy_at s LegacyData2 _ _ _ _) _ (legacy-fits LegacyData2 _ _ _ _ (field_bound 2 b 0x08 f)) (plain_fits Gen9 _ _ _ (field_bound 2 b 0x0C f)))

  BufferFits_lem : (address pointer count stride : ℕ) → stride < 2 ^ 16 → IfThere BufferFits (vertex_buffer_at s address pointer count stride)
  unfolding vertex_buffer_at
  BufferFits_lem address pointer count stride h =
      there_else BufferFits (in_block s (resolved s address 0x80)) _ (Block-fits (resolved s address 0x80) (resolved-bytes address 0x80)) (plain_fits GeometryInline pointer count stride h)

  VerticesFit_lem : (b : VertexBuffer) → BufferFits b → VerticesFit (vertices_of s b)
  unfolding vertices_of
  VerticesFit_lem b w = record {
    stride = w.stride;
    content = below_each 256 _ (there_or AllBytes (range_of s b.«data» _) [] (range_below s system graphics b.«data» _) (λ i. lit< tt));
  }

  -- ---- geometries

  stored_in-fits : (o : Option VertexBuffer) → IfThere BufferFits o → IfThere InWidth (stored_in o)
  stored_in-fits None w = tt
  stored_in-fits (Some b) w = w.declaration

  GeometryFits_lem : (shader : ℕ) (b : List ℕ) → shader < 2 ^ 16 → AllBytes b → GeometryFits (geometry_of s shader (geometry_block b))
  unfolding geometry_of geometry_with geometry_block
  GeometryFits_lem shader b h f =
      let buffer : Option VertexBuffer = vertex_buffer_at s (field 8 b 0x18) (field 8 b 0x78) (field 2 b 0x60) (field 2 b 0x70) in
      let found : IfThere BufferFits buffer = BufferFits_lem (field 8 b 0x18) (field 8 b 0x78) (field 2 b 0x60) (field 2 b 0x70) (field_bound 2 b 0x70 f) in
      record {
        shader = h;
        stride = field_bound 2 b 0x70 f;
        declaration = stored_in-fits buffer found;
        vertices = there-map BufferFits VerticesFit (vertices_of s) VerticesFit_lem buffer found;
        indices = there-map AllBytes IndicesFit _ (λ raw w. IndicesFit_lem (index_block raw)) (resolved s (field 8 b 0x38) 0x60) (resolved-bytes (field 8 b 0x38) 0x60);
      }

  first_fits : (mapping : List ℕ) → Ids mapping → first mapping < 2 ^ 16
  unfolding Each
  first_fits [] w = lit< tt
  first_fits (x ∷ xs) w = w.0

  rest-fit : (mapping : List ℕ) → Ids mapping → Ids (rest mapping)
  unfolding Each
  rest-fit [] w = tt
  rest-fit (x ∷ xs) w = w.1

  geometries-fit : (pointers : List ℕ) (before : ℕ) (mapping : List ℕ) → Ids mapping → IfRead (Each GeometryFits) (read_geometries s before mapping pointers)
  unfolding read_geometries Each
  geometries-fit [] before mapping w = tt
  geometries-fit (p ∷ ps) before mapping w =
      let Fit : List Geometry → Type 0 = Each GeometryFits in
      let later : (n : ℕ) → IfRead Fit (read_geometries s n (rest mapping) ps) = λ n. geometries-fit ps n (rest mapping) (rest-fit mapping w) in
      read-cond Fit (eqb p 0) _ _ (later before)
      (read-cond Fit (ltb before 16384) _ (refused 5)
      (read-need AllBytes Fit 6 (resolved s p 0x98) _ (resolved-bytes p 0x98) (λ b f.
      read-then Fit Fit (read_geometries s (suc before) (rest mapping) ps) _ (later (suc before)) (λ gs v.
      (GeometryFits_lem (first mapping) b (first_fits mapping w) f, v)))) tt)

  -- ---- models

  mapping-fits : (b : ModelBlock) → Ids (mapping_of s b)
  unfolding mapping_of Each
  mapping-fits b = there_or (λ (l : List ℕ). Ids l) (list_at s 2 b.count b.mapping) [] (list-fits 2 b.count b.mapping) tt

  ModelFits_lem : (before : ℕ) (b : List ℕ) → AllBytes b → IfRead ModelFits (read_model s before (model_block b))
  unfolding read_model model_block
  ModelFits_lem before b f =
      let block : ModelBlock = model_block b in
      let Pointers : List ℕ → Type 0 = Each (λ (i : ℕ). i < 256 ^ 8) in
      let mapping : List ℕ = mapping_of s block in
      read-need Pointers ModelFits 4 (list_at s 8 block.count block.geometries) _ (list-fits 8 block.count block.geometries) (λ ps w.
      read-then (Each GeometryFits) ModelFits (read_geometries s before mapping ps) _ (geometries-fit ps before mapping (mapping-fits block)) (λ gs v.
      record { binding = field_bound 4 b 0x28 f; mask = field_bound 2 b 0x2C f; geometries = v }))

  models_fit : (pointers : List ℕ) (before : ℕ) → IfRead (Each ModelFits) (read_models s before pointers)
  unfolding read_models Each
  models_fit [] before = tt
  models_fit (p ∷ ps) before =
      let Fit : List Model → Type 0 = Each ModelFits in
      read-cond Fit (eqb p 0) _ _ (models_fit ps before)
      (read-need AllBytes Fit 3 (resolved s p 0x30) _ (resolved-bytes p 0x30) (λ b f.
      read-then ModelFits Fit (read_model s before (model_block b)) _ (ModelFits_lem before b f) (λ m v.
      read-then Fit Fit (read_models s (before + length m.geometries) ps) _ (models_fit ps (before + length m.geometries)) (λ ms w. (v, w)))))

  HeaderFits_lem : (o : Option (List ℕ)) → IfRead (Each ModelFits) (read_header s o)
  unfolding Each
  HeaderFits_lem None = tt
  HeaderFits_lem (Some b) =
      let pointer : ℕ = (header_of b).pointer in
      let Pointers : List ℕ → Type 0 = Each (λ (i : ℕ). i < 256 ^ 8) in
      read-need Pointers (Each ModelFits) 2 (list_at s 8 (header_length (header_of b)) pointer) (read_models s 0)
      (list-fits 8 (header_length (header_of b)) pointer) (λ ps w. models_fit ps 0)

-- ---- taken in

abbrev GeometryKept : FullGeometry → Type 0
GeometryKept g = GeometryInWidth (geometry_state g)

abbrev ModelKept : FullModel → Type 0
ModelKept m = ModelInWidth (model_state m)

geometry_taken-fits : (g : Geometry) → GeometryFits g → (v : Option Vertices) (i : Option Indices) → IfThere VerticesFit v → IfThere IndicesFit i
    → IfThere GeometryKept (taken_geometry g v i)
geometry_taken-fits g w None i x y = tt
geometry_taken-fits g w (Some v) None x y = tt
geometry_taken-fits g w (Some v) (Some i) x y = record {
  shader = w.shader;
  declaration = there_or InWidth g.declaration _ w.declaration (position-InWidth v.stride x.stride);
  stride = w.stride;
  content = x.content;
  indices = y;
}

both-there : {B : Type 0} (P : B → Type 0) (o : Option B) (os : Option (List B)) → IfThere P o → IfThere (Each P) os → IfThere (Each P) (both (λ y ys. y ∷ ys) o os)
unfolding Each
both-there P None os v w = tt
both-there P (Some y) None v w = tt
both-there P (Some y) (Some ys) v w = (v, w)

all_there : {A B : Type 0} (P : B → Type 0) (f : A → Option B) (xs : List A) → Each (λ (x : A). IfThere P (f x)) xs → IfThere (Each P) (all_of f xs)
unfolding all_of Each
all_there P f [] w = tt
all_there P f (x ∷ xs) w = both-there P (f x) (all_of f xs) w.0 (all_there P f xs w.1)

-- a property of what a function makes of each
each_map : {A B : Type 0} (P : B → Type 0) (f : A → B) (xs : List A) → Each (λ (x : A). P (f x)) xs → Each P (map f xs)
unfolding Each
each_map P f [] w = tt
each_map P f (x ∷ xs) w = (w.0, each_map P f xs w.1)

model_taken-fits : (m : Model) → ModelFits m → IfThere ModelKept (taken_model m)
model_taken-fits m w =
    let made : Geometry → Option FullGeometry = λ (g : Geometry). taken_geometry g g.vertices g.indices in
    let each : (g : Geometry) → GeometryFits g → IfThere GeometryKept (made g) = λ g v. geometry_taken-fits g v g.vertices g.indices v.vertices v.indices in
    there-map (Each GeometryKept) ModelKept _ (λ gs v. record { binding = w.binding; mask = w.mask; geometries = each_map GeometryInWidth geometry_state gs v })
    (all_of made m.geometries) (all_there GeometryKept made m.geometries (each_to each m.geometries w.geometries))

-- a test that was passed
pub test-passed : {A : Type 0} (check : ℕ) (t : Bool) (next : Reading A) (x : A) → test check t next ≡ read x → next ≡ read x
test-passed check true next x e = e
test-passed check false next x e = absurd (not-read e)

models-kept : (o : Option Hall) (h : Hall) → IfThere (Each ModelKept) o → need 11 o read ≡ read h → StateInWidth (state_of h)
unfolding state_of
models-kept None h w e = absurd (not-read e)
models-kept (Some x) h w e = rw (← read-injective e) (each_map ModelInWidth model_state x w)

pub taken-InWidth : (s : Sections) → AllBytes s.system → AllBytes s.graphics → (address : ℕ) (h : Hall) → taken s address ≡ read h → StateInWidth (state_of h)
unfolding taken read_list
taken-InWidth s system graphics address h e =
    let r = then-read (read_list s address) _ h (test-passed 1 (within_limit s) _ h e) in
    let models : Each ModelFits r.value = subst (IfRead (Each ModelFits)) r.is (HeaderFits_lem s system graphics (resolved s address 16)) in
    models-kept (all_of taken_model r.value) h (all_there ModelKept taken_model r.value (each_to model_taken-fits r.value models)) r.onward
