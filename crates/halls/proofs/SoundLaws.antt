-- What the checks of a hall say of one that is sound: the checks one by one, and as facts of its numbers.
use Rattle.std.specs.Prelude.{Option, None, Some}
use mathlib.Core.Path.{◌≡◌, refl, sym, subst}
use mathlib.Core.Bool.{Bool, true, false}
use mathlib.Core.List.{List, [], ◌∷◌}
use Prim.Native.Nat.{ℕ, ◌*◌, ◌≤◌, ◌<◌}
use native.Mathlib.Omega.{arith}
use borrow.Author.Tests.{eqb-true, leb-true, ltb-true}
use lib.Dec.{T, eqb, leb, ltb}
use lib.ListN.{length}
use Rattle.sections.proofs.AddressLaws.{both_true}
use Rattle.vertices.specs.Declaration.{component_of, total_size}
use Rattle.vertices.proofs.ComponentLaws.{found_within}
use Rattle.vertices.specs.declared.declaration.VertexDeclaration.{VertexDeclaration}
use Rattle.vertices.specs.declared.types.VertexComponent.{VertexComponent}
use Rattle.halls.specs.Every.{every, Each}
use Rattle.halls.specs.Hall.{FullGeometry, FullModel, Hall}
use Rattle.halls.specs.Checks.{vertex_bytes_exact, same_numbers, shader_ids, mapping_matches, counts_within_limits, strides_agree, has_size, components_inside, vertex_counts_agree, held, index_counts_agree, indices_in_range, triangles_of, has_three_vertices, triangles_distinct, image_within_limit, require, every_geometry, verdict}
use Rattle.halls.specs.Verdict.{Verdict}
use Rattle.halls.specs.Verdict.{Sound}

-- ---- the verdict, check by check

pub record SoundHall (h : Hall) : Type 0 where
  pub vertex-bytes : every_geometry vertex_bytes_exact h ≡ true
  pub mappings : every mapping_matches h ≡ true
  pub counts : counts_within_limits h ≡ true
  pub strides : every_geometry strides_agree h ≡ true
  pub components : every_geometry components_inside h ≡ true
  pub vertex-counts : every_geometry vertex_counts_agree h ≡ true
  pub index-counts : every_geometry index_counts_agree h ≡ true
  pub indices : every_geometry indices_in_range h ≡ true
  pub triangles : every_geometry triangles_distinct h ≡ true
  pub image : image_within_limit h ≡ true

pub required : (check : ℕ) (t : Bool) (next : Verdict) → require check t next ≡ Sound → (t ≡ true) × (next ≡ Sound)
required check true next e = (refl, e)
required check false next e = let z : ◌≡◌ {A = ℕ} 0 1 = cc in absurd (omega arith)

pub verdict-sound : (h : Hall) → verdict h ≡ Sound → SoundHall h
unfolding verdict
verdict-sound h e =
    let a = required 11 (every_geometry vertex_bytes_exact h) _ e in
    let b = required 12 (every mapping_matches h) _ a.1 in
    let c = required 13 (counts_within_limits h) _ b.1 in
    let d = required 14 (every_geometry strides_agree h) _ c.1 in
    let f = required 15 (every_geometry components_inside h) _ d.1 in
    let g = required 16 (every_geometry vertex_counts_agree h) _ f.1 in
    let i = required 17 (every_geometry index_counts_agree h) _ g.1 in
    let j = required 18 (every_geometry indices_in_range h) _ i.1 in
    let l = required 27 (every_geometry triangles_distinct h) _ j.1 in
    let k = required 19 (image_within_limit h) Sound l.1 in
    record {
      vertex-bytes = a.0;
      mappings = b.0;
      counts = c.0;
      strides = d.0;
      components = f.0;
      vertex-counts = g.0;
      index-counts = i.0;
      indices = j.0;
      triangles = l.0;
      image = k.0;
    }

pub sound-verdict : (h : Hall) → SoundHall h → verdict h ≡ Sound
unfolding verdict
sound-verdict h w =
    rw (w.vertex-bytes, w.mappings, w.counts, w.strides, w.components, w.vertex-counts, w.index-counts, w.indices, w.triangles, w.image)

-- ---- one geometry

pub record SoundGeometry (g : FullGeometry) : Type 0 where
  pub content : length g.vertices.content ≡ g.vertices.count * g.vertices.stride
  pub layout : g.vertices.layout ≡ 0
  pub declared-stride : g.declaration.stride ≡ g.stride
  pub Vertices-stride : g.vertices.stride ≡ g.stride
  pub position : has_size (component_of g.declaration 0) ≡ true
  pub inside : total_size g.declaration ≤ g.stride
  pub some-stride : 0 < g.stride
  pub vertex_count_lem : g.vertex_count ≡ g.vertices.count
  pub some-vertices : 1 ≤ g.vertices.count
  pub few_vertices : g.vertices.count ≤ 65535
  pub index-count : g.index_count ≡ held g
  pub Indices-count : g.indices.count ≡ held g
  pub thirds : held g ≡ 3 * g.triangle_count
  pub some-indices : 3 ≤ held g
  pub in_range_lem : every (λ (i : ℕ). ltb i g.vertices.count) g.indices.items ≡ true
  pub three_vertices : every has_three_vertices (triangles_of g.indices.items) ≡ true

-- a position with a size is within the components' total
sized : (d : VertexDeclaration) (o : Option VertexComponent) → component_of d 0 ≡ o → has_size o ≡ true → 0 < total_size d
sized d None e h = absurd (subst T (sym h) tt)
sized d (Some c) e h = let p : 0 < c.size = ltb-true 0 c.size h in omega (arith, found_within d 0 c e)

pub SoundGeometry_lem : (g : FullGeometry) → vertex_bytes_exact g ≡ true → strides_agree g ≡ true → components_inside g ≡ true → vertex_counts_agree g ≡ true → index_counts_agree g ≡ true
    → indices_in_range g ≡ true → triangles_distinct g ≡ true → SoundGeometry g
unfolding vertex_bytes_exact strides_agree components_inside vertex_counts_agree index_counts_agree indices_in_range triangles_distinct
SoundGeometry_lem g a b c d e f t =
    let b1 = both_true (eqb g.vertices.layout 0) _ b in
    let b2 = both_true (eqb g.declaration.stride g.stride) (eqb g.vertices.stride g.stride) b1.1 in
    let c1 = both_true (has_size (component_of g.declaration 0)) (leb (total_size g.declaration) g.stride) c in
    let d1 = both_true (eqb g.vertex_count g.vertices.count) _ d in
    let d2 = both_true (leb 1 g.vertices.count) (leb g.vertices.count 65535) d1.1 in
    let e1 = both_true (eqb g.index_count (held g)) _ e in
    let e2 = both_true (eqb g.indices.count (held g)) _ e1.1 in
    let e3 = both_true (eqb (held g) (3 * g.triangle_count)) (leb 3 (held g)) e2.1 in
    record {
      content = eqb-true (length g.vertices.content) (g.vertices.count * g.vertices.stride) a;
      layout = eqb-true g.vertices.layout 0 b1.0;
      declared-stride = eqb-true g.declaration.stride g.stride b2.0;
      Vertices-stride = eqb-true g.vertices.stride g.stride b2.1;
      position = c1.0;
      inside = leb-true (total_size g.declaration) g.stride c1.1;
      some-stride = omega (arith, sized g.declaration (component_of g.declaration 0) refl c1.0, leb-true (total_size g.declaration) g.stride c1.1);
      vertex_count_lem = eqb-true g.vertex_count g.vertices.count d1.0;
      some-vertices = leb-true 1 g.vertices.count d2.0;
      few_vertices = leb-true g.vertices.count 65535 d2.1;
      index-count = eqb-true g.index_count (held g) e1.0;
      Indices-count = eqb-true g.indices.count (held g) e2.0;
      thirds = eqb-true (held g) (3 * g.triangle_count) e3.0;
      some-indices = leb-true 3 (held g) e3.1;
      in_range_lem = f;
      three_vertices = t;
    }

-- ---- all of them

pub record SoundModel (m : FullModel) : Type 0 where
  pub mapping : m.mapping ≡ shader_ids m.geometries
  pub geometries : Each SoundGeometry m.geometries

pub same_numbers_lem : (xs ys : List ℕ) → same_numbers xs ys ≡ true → xs ≡ ys
unfolding same_numbers
same_numbers_lem [] [] e = refl
same_numbers_lem [] (y ∷ ys) e = absurd (subst T (sym e) tt)
same_numbers_lem (x ∷ xs) [] e = absurd (subst T (sym e) tt)
same_numbers_lem (x ∷ xs) (y ∷ ys) e =
    let b = both_true (eqb x y) (same_numbers xs ys) e in
    rw (eqb-true x y b.0, same_numbers_lem xs ys b.1)

sound-geometries : (gs : List FullGeometry) → every vertex_bytes_exact gs ≡ true → every strides_agree gs ≡ true → every components_inside gs ≡ true → every vertex_counts_agree gs ≡ true
    → every index_counts_agree gs ≡ true → every indices_in_range gs ≡ true → every triangles_distinct gs ≡ true → Each SoundGeometry gs
unfolding every Each
sound-geometries [] a b c d e f t = tt
sound-geometries (g ∷ gs) a b c d e f t =
    let a1 = both_true (vertex_bytes_exact g) (every vertex_bytes_exact gs) a in
    let b1 = both_true (strides_agree g) (every strides_agree gs) b in
    let c1 = both_true (components_inside g) (every components_inside gs) c in
    let d1 = both_true (vertex_counts_agree g) (every vertex_counts_agree gs) d in
    let e1 = both_true (index_counts_agree g) (every index_counts_agree gs) e in
    let f1 = both_true (indices_in_range g) (every indices_in_range gs) f in
    let t1 = both_true (triangles_distinct g) (every triangles_distinct gs) t in
    (SoundGeometry_lem g a1.0 b1.0 c1.0 d1.0 e1.0 f1.0 t1.0, sound-geometries gs a1.1 b1.1 c1.1 d1.1 e1.1 f1.1 t1.1)

models_sound : (h : Hall) → every mapping_matches h ≡ true → every_geometry vertex_bytes_exact h ≡ true → every_geometry strides_agree h ≡ true → every_geometry components_inside h ≡ true
    → every_geometry vertex_counts_agree h ≡ true → every_geometry index_counts_agree h ≡ true → every_geometry indices_in_range h ≡ true → every_geometry triangles_distinct h ≡ true → Each SoundModel h
unfolding every Each mapping_matches
models_sound [] m a b c d e f t = tt
models_sound (x ∷ xs) m a b c d e f t =
    let gs : List FullGeometry = x.geometries in
    let m1 = both_true (same_numbers x.mapping (shader_ids gs)) (every mapping_matches xs) m in
    let a1 = both_true (every vertex_bytes_exact gs) (every_geometry vertex_bytes_exact xs) a in
    let b1 = both_true (every strides_agree gs) (every_geometry strides_agree xs) b in
    let c1 = both_true (every components_inside gs) (every_geometry components_inside xs) c in
    let d1 = both_true (every vertex_counts_agree gs) (every_geometry vertex_counts_agree xs) d in
    let e1 = both_true (every index_counts_agree gs) (every_geometry index_counts_agree xs) e in
    let f1 = both_true (every indices_in_range gs) (every_geometry indices_in_range xs) f in
    let t1 = both_true (every triangles_distinct gs) (every_geometry triangles_distinct xs) t in (
      record { mapping = same_numbers_lem x.mapping (shader_ids gs) m1.0; geometries = sound-geometries gs a1.0 b1.0 c1.0 d1.0 e1.0 f1.0 t1.0 },
      models_sound xs m1.1 a1.1 b1.1 c1.1 d1.1 e1.1 f1.1 t1.1,
    )

pub sound_models : (h : Hall) → SoundHall h → Each SoundModel h
sound_models h w = models_sound h w.mappings w.vertex-bytes w.strides w.components w.vertex-counts w.index-counts w.indices w.triangles
