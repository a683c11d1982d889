-- Demand 2's sentence about unifying, of a buffer as it is located: it has a vertex and all its bytes are there, which is what makes "exactly" true.
use mathlib.Core.Path.{◌≡◌, refl, sym, ap, ◌∙◌}
use mathlib.Core.Bool.{Bool, true, false, cond, ◌&&◌}
use mathlib.Core.List.Memᴰ
use mathlib.Core.List.{List, [], ◌∷◌, Memᴰ}
use mathlib.Core.Logic.{⊎_elim}
use Prim.Native.Nat.{ℕ, zero, suc, ◌+◌, ◌-◌, ◌*◌, ◌≤◌, ◌<◌}
use native.Mathlib.Nat.{eq-zero-or-pos, mul_comm}
use native.Mathlib.Omega.{arith}
use borrow.Author.Tests.{le-leb}
use lib.ListN.{length, drop, length-drop}
use lib.Seq.{take_all, take-append-le, drop-append-le, drop_at}
use Rattle.sections.specs.Address.{Sections}
use Rattle.sections.specs.Edit.{part, overwrite}
use Rattle.sections.proofs.EditLaws.{part-part, part_same, overwrite-length}
use Rattle.vertices.specs.Declaration.{components_of}
use Rattle.vertices.specs.Located.{read_by, data_of, ComponentsEndWithin, Unifies, GivesVertices, LocatedUnifies}
use Rattle.vertices.specs.Unified.{unified_vertex, unified_bytes, run_of, unified_run, vertices_inside, stated}
use Rattle.vertices.specs.declared.buffer.VertexBuffer.{VertexBuffer}
use Rattle.vertices.specs.declared.declaration.VertexDeclaration.{VertexDeclaration}
use Rattle.vertices.specs.declared.types.VertexComponent.{VertexComponent}
use Rattle.vertices.specs.declared.unify.UnifiedVertex.{UnifiedVertex}
use Rattle.std.specs.Prelude.{Result, Ok, Err}
use Rattle.vertices.specs.declared.unify.UnifyError.{UnifyError}
use Rattle.vertices.specs.declared.unify.UnifyError.TheVariants.{OutsideData, NeedsBytes}
use Rattle.vertices.proofs.BufferLaws.{FoundData, buffer_data}
use Rattle.vertices.proofs.ComponentLaws.{item}
use Rattle.vertices.proofs.UnifiedBytes.{Unified-length, length-run_of}
use Rattle.vertices.proofs.UnifiedLaws.{InsideStride, Exactly, unify_exactly}

-- ---- components by number and as members

-- the i-th component is one of them
item-member : (cs : List VertexComponent) (i : ℕ) → i < length cs → Memᴰ (item cs i) cs
item-member [] i h = absurd (omega arith)
item-member (c ∷ cs) zero h = Memᴰ.head refl
item-member (c ∷ cs) (suc i) h = Memᴰ.tail (item-member cs i (omega arith))

-- what holds of each by its number holds of each
each_member : (P : VertexComponent → Type 0) (cs : List VertexComponent) → ((i : ℕ) → i < length cs → P (item cs i))
    → (c : VertexComponent) → Memᴰ c cs → P c
each_member P [] f c m = absurd (Memᴰ.not-nil m)
each_member P (x ∷ cs) f c m =
    ⊎_elim (λ e. rw e (f 0 (omega arith))) (λ n. each_member P cs (λ i h. f (suc i) (omega arith)) c n) (Memᴰ.cases_cons m)

module _ (d : VertexDeclaration) (stride : ℕ) where
  abbrev EndsWithin : VertexComponent → Type 0
  EndsWithin c = 0 < c.size → c.offset + c.size ≤ stride

  by_number : ComponentsEndWithin d stride → InsideStride d stride
  by_number f i h = f (item (components_of d) i) (item-member (components_of d) i h)

  by_member : InsideStride d stride → ComponentsEndWithin d stride
  by_member f = each_member EndsWithin (components_of d) f

-- ---- the vertices in the output

-- the i-th of a run of vertices
run-vertex : (vertex : ℕ → UnifiedVertex) (n i : ℕ) → i < n → part (run_of vertex n) (84 * i) 84 ≡ unified_bytes (vertex i)
unfolding run_of part
run-vertex vertex zero i h = absurd (omega arith)
run-vertex vertex (suc n) i h =
    let before : List ℕ = run_of vertex n in
    let last : List ℕ = unified_bytes (vertex n) in
    let long : length before ≡ 84 * n = length-run_of vertex n ∙ mul_comm n 84 in
    let whole : length last ≡ 84 = Unified-length (vertex n) in
    ⊎_elim
    (λ (none_left : n - i ≡ 0).
    let same : i ≡ n = omega arith in
    rw (same, drop_at before last (84 * n) long) (take_all 84 last (omega arith)))
    (λ (some_left : 0 < n - i).
    let inside : 84 * i ≤ length before = omega arith in
    let left : 84 ≤ length (drop (84 * i) before) = rw length-drop (omega arith) in
    rw (drop-append-le (84 * i) before last inside, take-append-le 84 (drop (84 * i) before) last left) (run-vertex vertex n i (omega arith)))
    (eq-zero-or-pos (n - i))

-- an output whose first n bytes were written
module _ (out vs : List ℕ) (n : ℕ) (long : length vs ≡ n) (room : n ≤ length out) where
  within-written : (at k : ℕ) → at + k ≤ n → part (overwrite out 0 vs) at k ≡ part vs at k
  within-written at k h =
      let t : List ℕ = overwrite out 0 vs in
      let start : at ≡ 0 + at = omega arith in
      ap (λ (place : ℕ). part t place k) start ∙ sym (part-part t 0 n at k h) ∙ ap (λ (l : List ℕ). part l at k) (part_same out 0 vs (omega arith) n long)

  beyond-written : drop n (overwrite out 0 vs) ≡ drop n out
  unfolding overwrite
  beyond-written =
      let end : 0 + length vs ≡ n = omega arith in
      drop_at vs (drop (0 + length vs) out) n long ∙ rw end

-- where all vertices of a buffer were written
written_vertices : (s : Sections) (b : VertexBuffer) (out : List ℕ) (r : Result ℕ UnifyError) (t : List ℕ) → 84 * b.vertex_count ≤ length out
    → r ≡ Ok (84 * b.vertex_count)
    → t ≡ overwrite out 0 (unified_run (read_by b) (data_of s b) b.vertex_stride b.vertex_count) → GivesVertices s b out r t
unfolding unified_run
written_vertices s b out r t room answer bytes =
    let n : ℕ = b.vertex_count in
    let vertex : ℕ → UnifiedVertex = λ (i : ℕ). unified_vertex (read_by b) (data_of s b) (i * b.vertex_stride) in
    let long : length (run_of vertex n) ≡ 84 * n = length-run_of vertex n ∙ mul_comm n 84 in
    record {
      answer = answer;
      vertex = λ i h. rw bytes (within-written out (run_of vertex n) (84 * n) long room (84 * i) 84 (omega arith) ∙ run-vertex vertex n i h);
      beyond = rw bytes (beyond-written out (run_of vertex n) (84 * n) long room);
      size = rw bytes (overwrite-length out 0 (run_of vertex n) (omega arith));
    }

-- ---- the law

-- refused into an output long enough: by check 9
refused_outside : (inside room : Bool) (n : ℕ) (r : Result ℕ UnifyError) (vs out t : List ℕ) → room ≡ true → stated r ≡ cond inside (cond room (0, n) (10, n)) (9, 0)
    → t ≡ cond (inside && room) vs out → (Unifies r → ⊥) → (r ≡ Err OutsideData) × (t ≡ out)
refused_outside true room n r vs out t long e f h = absurd (h (ap (λ (x : ℕ × ℕ). x.0) (rw long at e)))
refused_outside false room n (Ok m) vs out t long e f h = absurd (omega (arith, ap (λ (x : ℕ × ℕ). x.0) e))
refused_outside false room n (Err OutsideData) vs out t long e f h = (refl, f)
refused_outside false room n (Err (NeedsBytes m)) vs out t long e f h = absurd (omega (arith, ap (λ (x : ℕ × ℕ). x.0) e))

-- Demand 2: "Into an output long enough, a located buffer unifies exactly when each component of nonzero size ends within the stride, and gives vertex_count
-- vertices."
pub LocatedUnifies_lem : LocatedUnifies
LocatedUnifies_lem s va pointer count stride b located out room r t u =
    let d : VertexDeclaration = read_by b in
    let found : FoundData s b = buffer_data s va pointer count stride b located in
    let whole : length (data_of s b) ≡ b.vertex_count * b.vertex_stride = rw found.bytes.is found.bytes.long in
    let exact : Exactly d (data_of s b) b.vertex_stride b.vertex_count out r t =
    unify_exactly d (data_of s b) b.vertex_stride b.vertex_count whole found.some-count out room r t u in
    let only : Unifies r → ComponentsEndWithin d b.vertex_stride = λ accepted. by_member d b.vertex_stride (exact.only accepted) in
    let given : ComponentsEndWithin d b.vertex_stride → GivesVertices s b out r t = λ f.
    let g = exact.gives (by_number d b.vertex_stride f) in
    written_vertices s b out r t room g.0 g.1 in
    let inside : Bool = vertices_inside d (length (data_of s b)) b.vertex_stride b.vertex_count in
    let fit = le-leb (0 + 84 * b.vertex_count) (length out) (omega arith) in
    record {
      exactly = (only, λ f. ap (λ (a : Result ℕ UnifyError). (stated a).0) (given f).answer);
      gives = λ accepted. given (only accepted);
      otherwise = refused_outside inside _ _ r _ out t fit u.answer u.bytes;
    }
