-- Laws of unified vertices: the plan gives the same vertices, its components are inside where check 9 passes, and when whole vertices unify.
use Rattle.std.specs.Prelude.{Option, None, Some}
use mathlib.Core.Path.{◌≡◌, refl, sym, ap, ◌∙◌}
use mathlib.Core.Bool.{Bool, true, false, cond}
use mathlib.Core.List.{List}
use Prim.Native.Nat.{ℕ, zero, suc, ◌+◌, ◌-◌, ◌*◌, ◌/◌, ◌%◌, ◌^◌, ◌≤◌, ◌<◌}
use native.Mathlib.Nat.{mul-le-mul_right, suc-mul}
use native.Mathlib.Omega.{arith}
use borrow.Author.Tests.{le-leb, lt-leb}
use lib.Dec.{lit<}
use lib.ListN.{length}
use Rattle.sections.specs.Edit.{overwrite}
use Rattle.vertices.specs.Types.{size_of}
use Rattle.vertices.specs.Declaration.{component_at, component_of, components_of, odd}
use Rattle.vertices.specs.Unified.{shown, unified_vertex, run_of, unified_run, vertices_inside, stated, Unified}
use Rattle.vertices.specs.Inner.Plan.{plan_of, planned, planned_vertex, Inside, Ends, Readable}
use Rattle.vertices.specs.declared.types.VertexComponent.{VertexComponent}
use Rattle.vertices.specs.declared.types.VertexComponentType.{VertexComponentType}
use Rattle.vertices.specs.declared.attribute.VertexAttributeValue.{VertexAttributeValue}
use Rattle.vertices.specs.declared.declaration.VertexDeclaration.{VertexDeclaration}
use Rattle.vertices.specs.declared.unify.UnifiedVertex.{UnifiedVertex}
use Rattle.std.specs.Prelude.{Result, Ok, Err}
use Rattle.vertices.specs.declared.unify.UnifyError.{UnifyError}
use Rattle.vertices.specs.declared.unify.UnifyError.TheVariants.{OutsideData, NeedsBytes}
use Rattle.std.proofs.lemmas.Bool.Decides.{leb_tells}
use mathlib.Core.Logic.{⊎_elim}
use Rattle.vertices.specs.Inner.Capped.{fitting}
use Rattle.vertices.proofs.ComponentLaws.{item, component-among, component_is}
use Rattle.vertices.proofs.UnifiedChecks.{Within, true_vertices, Vertices-true}

-- ---- the plan

-- a field by the plan is the field
planned-shown : {A : Type 0} (see : VertexComponentType → VertexAttributeValue → A) (default : A) (s : List ℕ) (base : ℕ) (o : Option VertexComponent)
    → planned see default s base (o) ≡ shown see default s base o
unfolding planned
planned-shown see default s base None = refl
planned-shown see default s base (Some c) = refl

-- so a vertex by the plan is the vertex
pub planned_vertex_lem : (d : VertexDeclaration) (s : List ℕ) (base : ℕ) → planned_vertex (plan_of d) s base ≡ unified_vertex d s base
unfolding planned_vertex unified_vertex
planned_vertex_lem d s base = cc (
  planned-shown _ _ s base (component_of d 0),
  planned-shown _ _ s base (component_of d 3),
  planned-shown _ _ s base (component_of d 4),
  planned-shown _ _ s base (component_of d 5),
  planned-shown _ _ s base (component_of d 6),
  planned-shown _ _ s base (component_of d 7),
  planned-shown _ _ s base (component_of d 14),
  planned-shown _ _ s base (component_of d 1),
  planned-shown _ _ s base (component_of d 2),
)

-- runs of the same vertices are the same
run-same : (f g : ℕ → UnifiedVertex) → ((i : ℕ) → f i ≡ g i) → (n : ℕ) → run_of f n ≡ run_of g n
unfolding run_of
run-same f g e zero = refl
run-same f g e (suc n) = rw (run-same f g e n, e n)

-- all vertices by the plan are all vertices
pub planned-run : (d : VertexDeclaration) (s : List ℕ) (stride count : ℕ) → run_of (λ (i : ℕ). planned_vertex (plan_of d) s (i * stride)) count ≡ unified_run d s stride count
unfolding unified_run
planned-run d s stride count = run-same _ _ (λ i. planned_vertex_lem d s (i * stride)) count

-- ---- reading inside the data

-- a component's size is its type's
Found-size : (d : VertexDeclaration) (index : ℕ) → index < 16 → (c : VertexComponent) → component_of d index ≡ Some c → c.size ≡ size_of c.component_type
Found-size d index h c e = chosen (odd (d.flags / 2 ^ index)) index (d.types / 16 ^ index % 16) _ (sym (component_is d index h) ∙ e)
  where
    chosen : (b : Bool) (i n o : ℕ) → cond b (Some (component_at i n o)) None ≡ Some c → c.size ≡ size_of c.component_type
    chosen true i n o f = let q : component_at i n o ≡ c = cc in rw (← q)
    chosen false i n o f = let z : ◌≡◌ {A = ℕ} 0 1 = cc in absurd (omega arith)

module _ (d : VertexDeclaration) (base n : ℕ) (w : Within (components_of d) base n) where
  found_inside : (index : ℕ) → index < 16 → (c : VertexComponent) → component_of d index ≡ Some c → Inside c base n
  found_inside index h c e =
      let a = component-among d index c e in
      record { size = Found-size d index h c e; ends = rw a.2 at (w a.0 a.1) }

  Found-ends : (index : ℕ) → index < 16 → Ends ((component_of d index)) base n
  Found-ends index h = either (component_of d index) (found_inside index h)
    where
      either : (o : Option VertexComponent) → ((c : VertexComponent) → o ≡ Some c → Inside c base n) → Ends (o) base n
      either None f = tt
      either (Some c) f = f c refl

  -- each component that the plan names is inside, where all of the vertex's are
  pub plan_readable : Readable (plan_of d) base n
  plan_readable = record {
    position = Found-ends 0 (lit< tt);
    normal = Found-ends 3 (lit< tt);
    color0 = Found-ends 4 (lit< tt);
    color1 = Found-ends 5 (lit< tt);
    texcoord0 = Found-ends 6 (lit< tt);
    texcoord1 = Found-ends 7 (lit< tt);
    tangent = Found-ends 14 (lit< tt);
    blend_weights = Found-ends 1 (lit< tt);
    blend_indices = Found-ends 2 (lit< tt);
  }

-- ---- the answer

-- what `fitting` tells where it accepts
pub room_told : (n room : ℕ) {m : ℕ} → fitting n room ≡ Ok m → (n ≤ room) × (m ≡ n)
room_told n room h = ⊎_elim (λ p. (p.1, grind (arith, p.0, h))) (λ p. absurd (grind (arith, p.0, h))) (leb_tells n room)

module _ {d : VertexDeclaration} {s : List ℕ} {stride count : ℕ} {out : List ℕ} where
  -- check 9 fails
  pub Unified-outside : vertices_inside d (length s) stride count ≡ false → Unified d s stride count out (Err OutsideData) out
  Unified-outside e = record { answer = rw e; bytes = rw e }

  -- check 10 fails
  pub Unified-short : vertices_inside d (length s) stride count ≡ true → length out < 84 * count → Unified d s stride count out (Err (NeedsBytes (record { 0 = 84 * count }))) out
  Unified-short e h =
      let no = lt-leb (0 + 84 * count) (length out) (omega arith) in
      record { answer = rw (e, no); bytes = rw (e, no) }

  -- accepted
  pub Unified-written : {t : List ℕ} → vertices_inside d (length s) stride count ≡ true → 84 * count ≤ length out → t ≡ overwrite out 0 (unified_run d s stride count)
      → Unified d s stride count out (Ok (84 * count)) t
  Unified-written e h f =
      let ok = le-leb (0 + 84 * count) (length out) (omega arith) in
      record { answer = rw (e, ok); bytes = rw (e, ok) f }

-- ---- what unifies (of a located buffer: `LocatedLaws`)

-- each component that has a size ends within the stride
abbrev pub InsideStride : VertexDeclaration → ℕ → Type 0
InsideStride d stride =
    (i : ℕ) → i < length (components_of d) → 0 < (item (components_of d) i).size → (item (components_of d) i).offset + (item (components_of d) i).size ≤ stride

-- Of count × stride bytes, with room in out: they unify to 84 × count bytes exactly when each component of nonzero size ends within the stride.
pub record Exactly (d : VertexDeclaration) (s : List ℕ) (stride count : ℕ) (out : List ℕ) (r : Result ℕ UnifyError) (t : List ℕ) : Type 0 where
  pub gives : InsideStride d stride → (r ≡ Ok (84 * count)) × (t ≡ overwrite out 0 (unified_run d s stride count))
  pub only : (stated r).0 ≡ 0 → InsideStride d stride

module _ (d : VertexDeclaration) (s : List ℕ) (stride count : ℕ) (whole : length s ≡ count * stride) (some-count : 0 < count) where
  -- all vertices are inside where the stride holds a vertex
  stride-inside : InsideStride d stride → vertices_inside d (length s) stride count ≡ true
  stride-inside f =
      true_vertices d (length s) stride count (λ k h i l p. let m : suc k * stride ≤ count * stride = mul-le-mul_right stride (omega arith) in
      let q : suc k * stride ≡ k * stride + stride = suc-mul k stride in
      omega (arith, f i l p))

  -- and only there: the last vertex ends where the data ends
  inside_stride_lem : vertices_inside d (length s) stride count ≡ true → InsideStride d stride
  inside_stride_lem e i l p =
      let n : count ≡ suc (count - 1) = omega arith in
      let q : count * stride ≡ (count - 1) * stride + stride = ap (λ (m : ℕ). m * stride) n ∙ suc-mul (count - 1) stride in
      omega (arith, Vertices-true d (length s) stride count e (count - 1) (omega arith) i l p)

  -- they give count vertices exactly when each component of nonzero size ends within the stride
  pub unify_exactly : (out : List ℕ) → 84 * count ≤ length out → (r : Result ℕ UnifyError) (t : List ℕ) → Unified d s stride count out r t → Exactly d s stride count out r t
  unify_exactly out room r t u =
      let ok = le-leb (0 + 84 * count) (length out) (omega arith) in
      record {
        gives = λ f. (written r (rw (stride-inside f, ok) at u.answer), rw (stride-inside f, ok) at u.bytes);
        only = λ e. inside_stride_lem (accepted (vertices_inside d (length s) stride count) _ (sym (ap (λ (x : ℕ × ℕ). x.0) u.answer) ∙ e));
      }
    where
      written : (r : Result ℕ UnifyError) → stated r ≡ (0, 84 * count) → r ≡ Ok (84 * count)
      written (Ok n) e = ap (λ (m : ℕ). Ok m) (ap (λ (x : ℕ × ℕ). x.1) e)
      written (Err OutsideData) e = absurd (omega (arith, ap (λ (x : ℕ × ℕ). x.0) e))
      written (Err (NeedsBytes n)) e = absurd (omega (arith, ap (λ (x : ℕ × ℕ). x.0) e))

      accepted : (b : Bool) (x : ℕ × ℕ) → (cond b x (9, 0)).0 ≡ 0 → b ≡ true
      accepted true x e = refl
      accepted false x e = absurd (omega arith)
