-- The bytes of what is taken in: those of a view's four records, of a model's geometries, and of the hall that `take_in` proposes.
use Rattle.std.specs.Prelude.{Option, None, Some, option_map}
use mathlib.Core.Path.{◌≡◌, refl, sym, ap, ◌∙◌}
use mathlib.Core.List.{List, [], ◌∷◌, ◌++◌, map}
use Prim.Native.Nat.{ℕ, ◌+◌, ◌-◌, ◌*◌, ◌≤◌}
use native.Mathlib.Omega.{arith}
use lib.ListN.{length, length-append}
use Rattle.std.specs.Option.{is_some}
use mathlib.Core.Bool.{true}
use Rattle.sections.specs.Address.{Sections, resolved}
use Rattle.sections.specs.Edit.{overwrite}
use Rattle.sections.specs.Le.{bytes}
use Rattle.sections.proofs.EditLaws.{overwrite-none, overwrite-ahead, overwrite-behind}
use Rattle.sections.proofs.LeLaws.{length-bytes}
use Rattle.vertices.specs.Runs.{run}
use Rattle.halls.specs.Calls.{taken_geometry, taken_model, both, all_of}
use Rattle.halls.specs.Hall.{FullGeometry, FullModel, Hall, listed_geometry, listed_model, hall_bytes}
use Rattle.halls.specs.List.{Vertices, Indices, Geometry, Model, optional, each, record_bytes, model_numbers, model_record, write_geometry, write_geometries, write_model}
use Rattle.halls.specs.Blocks.{geometry_block, ModelBlock, model_block}
use Rattle.halls.specs.Reading.{or_empty, geometry_with, geometry_of}
use Rattle.halls.specs.Inner.Small.{Wrote}
use Rattle.halls.specs.Inner.Measure.{whole_numbers}
use Rattle.halls.specs.Inner.View.{ListsOf, geometry_view, geometry_in, geometries_at, model_of, model_in}
use Rattle.halls.specs.Inner.Taking.{as_halls, geometry_shown, geometry_bytes, model_bytes, shader_bytes}
use Rattle.halls.specs.declared.read.view.GeometryView.{GeometryView}
use Rattle.halls.proofs.edit.ShownLaws.{shown-is}
use Rattle.halls.proofs.read.EachLaws.{each-one}
use Rattle.halls.proofs.read.StoredLaws.{model_geometries}
use Rattle.halls.proofs.read.ViewLaws.{Record-length, geometry_record-length, declaration_record-length, vertices_record-length, indices_record-length}

-- nothing was written
pub wrote-none : (s : List ℕ) (at : ℕ) {w : List ℕ} → w ≡ [] → Wrote s at w at s
wrote-none s at e = rw e (omega arith, sym (overwrite-none s at))

-- ---- a geometry

-- the records of a whole geometry
pub whole-length : (f : FullGeometry) → length (write_geometry (listed_geometry f)) ≡ 65 + length f.vertices.content + 4 * length f.indices.items
unfolding write_geometry
whole-length f = simp (length-append, geometry_record-length, declaration_record-length, vertices_record-length, indices_record-length) (omega arith)

pub whole-room : {f g : FullGeometry} (at n : ℕ) → f ≡ g → at + length (write_geometry (listed_geometry g)) ≤ n → at + (65 + length f.vertices.content + 4 * length f.indices.items) ≤ n
whole-room {f} {g} at n e room = omega (arith, room, ap (λ (x : FullGeometry). length (write_geometry (listed_geometry x))) e, whole-length f)

pub full-bytes : (g : Geometry) (f : FullGeometry) → as_halls g ≡ Some f → geometry_bytes g ≡ write_geometry (listed_geometry f)
unfolding geometry_bytes
full-bytes g f e = ap (optional (λ (x : FullGeometry). write_geometry (listed_geometry x))) e

pub lacking : (g : Geometry) → as_halls g ≡ None → geometry_bytes g ≡ []
unfolding geometry_bytes
lacking g e = ap (optional (λ (x : FullGeometry). write_geometry (listed_geometry x))) e

-- ---- behind a pointer

pub shader_in : (s : Sections) (shader : ℕ) (o : Option (List ℕ)) → is_some o ≡ true → each shader_bytes (geometry_in s shader o) ≡ bytes 2 shader
unfolding geometry_of geometry_with
shader_in s shader None e = let z : ◌≡◌ {A = ℕ} 0 1 = cc in absurd (omega arith)
shader_in s shader (Some raw) e = each-one shader_bytes (geometry_of s shader (geometry_block raw))

pub model_bytes-in : (s : Sections) (pointer : ℕ) (raw : List ℕ) → resolved s pointer 0x30 ≡ Some raw → model_bytes (model_of s (model_block raw)) ≡ each model_bytes (model_in s (resolved s pointer 0x30))
model_bytes-in s pointer raw e = sym (each-one model_bytes (model_of s (model_block raw))) ∙ ap (λ (o : Option (List ℕ)). each model_bytes (model_in s o)) (sym e)

pub geometry_in_lem : (s : Sections) (shader pointer : ℕ) (raw : List ℕ) → resolved s pointer 0x98 ≡ Some raw → (v : GeometryView) → v ≡ geometry_view s shader (geometry_block raw)
    → geometry_bytes (geometry_shown s v) ≡ each geometry_bytes (geometry_in s shader (resolved s pointer 0x98))
geometry_in_lem s shader pointer raw e v q =
    ap (λ (x : GeometryView). geometry_bytes (geometry_shown s x)) q ∙ ap geometry_bytes (shown-is s shader (geometry_block raw))
    ∙ sym (each-one geometry_bytes (geometry_of s shader (geometry_block raw))) ∙ ap (λ (o : Option (List ℕ)). each geometry_bytes (geometry_in s shader o)) (sym e)

-- the bytes of a block's model are those of its numbers and of the geometries behind its lists
pub Block-bytes : (s : Sections) (b : ModelBlock) (pointers : Option (List ℕ)) (mapping : List ℕ) → ListsOf s b pointers mapping → (binding mask : ℕ) → binding ≡ b.binding → mask ≡ b.mask
    → model_bytes (record { binding = binding; mask = mask; mapping = []; geometries = geometries_at s (whole_numbers 2 mapping) (whole_numbers 8 (or_empty pointers)) }) ≡ model_bytes (model_of s b)
unfolding model_bytes model_of
Block-bytes s b pointers mapping l binding mask e f =
    ap (λ (gs : List Geometry). model_bytes (record { binding = binding; mask = mask; mapping = []; geometries = gs })) (model_geometries s b pointers mapping l refl) ∙ rw (e, f)

-- ---- a model: the mapping, its numbers before it, and the geometries behind

shaders-run : (gs : List Geometry) → each shader_bytes gs ≡ run 2 (map (λ (g : Geometry). g.shader) gs)
unfolding each run
shaders-run [] = refl
shaders-run (g ∷ gs) = rw (shaders-run gs)

-- two bytes each
pub shaders-length : (gs : List Geometry) → length (each shader_bytes gs) ≡ 2 * length gs
unfolding each
shaders-length [] = refl
shaders-length (g ∷ gs) = rw (length-append, length-bytes, shaders-length gs) (omega arith)

pub numbers-length-12 : (body binding mask : ℕ) → length (model_numbers body binding mask) ≡ 12
unfolding bytes
numbers-length-12 body binding mask = refl

module _ (m : Model) where
  abbrev shaders : List ℕ
  shaders = each shader_bytes m.geometries

  abbrev inside : List ℕ
  inside = each geometry_bytes m.geometries

  parts : (body : ℕ) → body ≡ 6 + length shaders → (model_numbers body m.binding m.mask ++ shaders) ++ inside ≡ model_bytes m
  unfolding model_bytes record_bytes bytes
  parts body e =
      let r : List ℕ = run 2 (map (λ (g : Geometry). g.shader) m.geometries) in
      let q : body ≡ length (bytes 4 m.binding ++ (bytes 2 m.mask ++ r)) = omega (arith, e, ap length (shaders-run m.geometries)) in
      ap (λ (x : List ℕ). (model_numbers body m.binding m.mask ++ x) ++ inside) (shaders-run m.geometries) ∙ ap (λ (k : ℕ). (model_numbers k m.binding m.mask ++ r) ++ inside) q

  pub model_bytes-length : length (model_bytes m) ≡ 12 + length shaders + length inside
  unfolding model_bytes
  model_bytes-length = rw (← shaders-run m.geometries) (simp (length-append, Record-length, length-bytes) (omega arith))

  pub model-put : (out : List ℕ) (at : ℕ) {body binding mask next r : ℕ} {one two t : List ℕ} → Wrote out (at + 12) shaders next one → body ≡ next - at - 6 → binding ≡ m.binding → mask ≡ m.mask
      → two ≡ overwrite one at (model_numbers body binding mask) → Wrote two next inside r t → at + length (model_bytes m) ≤ length out → Wrote out at (model_bytes m) r t
  model-put out at {body} {mask = mask} {next} {one = one} {two} w b e f put g fit =
      let head : List ℕ = model_numbers body m.binding m.mask in
      let told : two ≡ overwrite one at head = put ∙ ap (λ (k : ℕ). overwrite one at (model_numbers body k mask)) e ∙ ap (λ (k : ℕ). overwrite one at (model_numbers body m.binding k)) f in
      let first : two ≡ overwrite out at (head ++ shaders) =
      told ∙ ap (λ (x : List ℕ). overwrite x at head) w.1 ∙ overwrite-ahead out at 12 head shaders (numbers-length-12 body m.binding m.mask) (omega (arith, model_bytes-length)) in
      let long : length (head ++ shaders) ≡ 12 + length shaders = length-append head shaders ∙ ap (λ (k : ℕ). k + length shaders) (numbers-length-12 body m.binding m.mask) in
      let place : next ≡ at + (12 + length shaders) = omega (arith, w.0) in (
        omega (arith, w.0, g.0, model_bytes-length),
        overwrite-behind out at (head ++ shaders) (12 + length shaders) inside first long (g.1 ∙ ap (λ (k : ℕ). overwrite two k inside) place) (omega (arith, model_bytes-length))
            ∙ ap (overwrite out at) (parts body (omega (arith, b, w.0))),
      )

-- ---- the hall

-- what each of two lists gives, where both give something
module _ {A B : Type 0} (f : A → Option B) where
  pub record First (x : A) (xs : List A) (zs : List B) : Type 0 where
    pub one : B
    pub others : List B
    pub is : zs ≡ one ∷ others
    pub one-is : f x ≡ Some one
    pub others_are : all_of f xs ≡ Some others

  pub all_first : (x : A) (xs : List A) (zs : List B) → all_of f (x ∷ xs) ≡ Some zs → First x xs zs
  unfolding all_of
  all_first x xs zs e = on (f x) (all_of f xs) refl refl e
    where
      on : (o : Option B) (p : Option (List B)) → f x ≡ o → all_of f xs ≡ p → both (λ (y : B) (ys : List B). y ∷ ys) o p ≡ Some zs → First x xs zs
      on None p a b e = let z : ◌≡◌ {A = ℕ} 0 1 = cc in absurd (omega arith)
      on (Some y) None a b e = let z : ◌≡◌ {A = ℕ} 0 1 = cc in absurd (omega arith)
      on (Some y) (Some ys) a b e = record { one = y; others = ys; is = cc; one-is = a; others_are = b }

full_shader : (g : Geometry) (f : FullGeometry) → as_halls g ≡ Some f → g.shader ≡ f.shader
full_shader g f e = on g.vertices g.indices e
  where
    on : (v : Option Vertices) (i : Option Indices) → taken_geometry g v i ≡ Some f → g.shader ≡ f.shader
    on None i e = let z : ◌≡◌ {A = ℕ} 0 1 = cc in absurd (omega arith)
    on (Some v) None e = let z : ◌≡◌ {A = ℕ} 0 1 = cc in absurd (omega arith)
    on (Some v) (Some i) e = cc

full-geometries : (gs : List Geometry) (fs : List FullGeometry) → all_of as_halls gs ≡ Some fs
    → (each geometry_bytes gs ≡ write_geometries (map listed_geometry fs)) × (map (λ (g : Geometry). g.shader) gs ≡ map (λ (f : FullGeometry). f.shader) fs)
unfolding each all_of
full-geometries [] fs e = let z : fs ≡ [] = cc in rw z (refl, refl)
full-geometries (g ∷ gs) fs e =
    let f = all_first as_halls g gs fs e in
    let ih = full-geometries gs f.others f.others_are in
    let one = full-bytes g f.one f.one-is in
    let shader = full_shader g f.one f.one-is in (
      (λ i. one i ++ ih.0 i) ∙ ap (λ (xs : List FullGeometry). write_geometries (map listed_geometry xs)) (sym f.is),
      (λ i. shader i ∷ ih.1 i) ∙ ap (λ (xs : List FullGeometry). map (λ (x : FullGeometry). x.shader) xs) (sym f.is),
    )

abbrev model_with : Model → List FullGeometry → FullModel
model_with m gs = record { binding = m.binding; mask = m.mask; mapping = map (λ (g : FullGeometry). g.shader) gs; geometries = gs }

with_geometries_lem : (m : Model) (gs : List FullGeometry) → each geometry_bytes m.geometries ≡ write_geometries (map listed_geometry gs)
    → map (λ (g : Geometry). g.shader) m.geometries ≡ map (λ (g : FullGeometry). g.shader) gs → model_bytes m ≡ write_model (listed_model (model_with m gs))
unfolding model_bytes write_model model_record
with_geometries_lem m gs e f = λ i. record_bytes 1 (bytes 4 m.binding ++ (bytes 2 m.mask ++ run 2 (f i))) ++ e i

full_model_lem : (m : Model) (f : FullModel) → taken_model m ≡ Some f → model_bytes m ≡ write_model (listed_model f)
full_model_lem m f e = on (all_of as_halls m.geometries) refl e
  where
    on : (o : Option (List FullGeometry)) → all_of as_halls m.geometries ≡ o → option_map (model_with m) o ≡ Some f → model_bytes m ≡ write_model (listed_model f)
    on None a e = let z : ◌≡◌ {A = ℕ} 0 1 = cc in absurd (omega arith)
    on (Some gs) a e =
        let all = full-geometries m.geometries gs a in
        let same : model_with m gs ≡ f = cc in
        with_geometries_lem m gs all.0 all.1 ∙ ap (λ (x : FullModel). write_model (listed_model x)) same

-- the bytes of what was read are those of the hall that is proposed
pub taken-bytes : (ms : List Model) (h : Hall) → all_of taken_model ms ≡ Some h → each model_bytes ms ≡ hall_bytes h
unfolding each all_of hall_bytes
taken-bytes [] h e = let z : h ≡ [] = cc in rw z
taken-bytes (m ∷ ms) h e =
    let f = all_first taken_model m ms h e in
    let one = full_model_lem m f.one f.one-is in
    let ih = taken-bytes ms f.others f.others_are in
    (λ i. one i ++ ih i) ∙ ap (λ (x : Hall). hall_bytes x) (sym f.is)
