-- When a located buffer unifies, in one place. Demand 2: "Into an output long enough, a located buffer unifies exactly when each component of nonzero size
-- ends within the stride, and gives vertex_count vertices." It is proved in proofs/LocatedLaws.antt (`LocatedUnifies_lem`).
use Rattle.std.specs.Prelude.{Some, unwrap_or}
use Rattle.std.specs.Prelude.{◌≡◌, ◌↔◌, ℕ, ◌+◌, ◌*◌, ◌≤◌, ◌<◌, length, drop}
use mathlib.Core.List.{List, [], Memᴰ}
use Rattle.sections.specs.Address.{Sections, range_of}
use Rattle.sections.specs.Edit.{part}
use Rattle.vertices.specs.Buffer.{vertex_buffer_at, or_position_only}
use Rattle.vertices.specs.Declaration.{components_of}
use Rattle.vertices.specs.Unified.{unified_vertex, unified_bytes, stated, Unified}
use Rattle.vertices.specs.declared.buffer.VertexBuffer.{VertexBuffer}
use Rattle.vertices.specs.declared.declaration.VertexDeclaration.{VertexDeclaration}
use Rattle.vertices.specs.declared.types.VertexComponent.{VertexComponent}
use Rattle.std.specs.Prelude.{Result, Ok, Err}
use Rattle.vertices.specs.declared.unify.UnifyError.{UnifyError}
use Rattle.vertices.specs.declared.unify.UnifyError.TheVariants.{OutsideData}

-- ---- what is unified

-- the declaration that a buffer is read by (document 01: "Unresolved: no declaration, and reading uses `position_only`", with "the buffer's stride")
abbrev pub read_by : VertexBuffer → VertexDeclaration
read_by b = or_position_only b.declaration b.vertex_stride

-- the vertex_count × vertex_stride bytes at its place, as `bytes_of` gives them; of a located buffer they are all there
abbrev pub data_of : Sections → VertexBuffer → List ℕ
data_of s b = unwrap_or (range_of s b.«data» (b.vertex_count * b.vertex_stride)) []

-- ---- what it comes to

-- "each component of nonzero size ends within the stride"
abbrev pub ComponentsEndWithin : VertexDeclaration → ℕ → Type 0
ComponentsEndWithin d stride = (c : VertexComponent) → Memᴰ c (components_of d) → 0 < c.size → c.offset + c.size ≤ stride

-- it unifies: the answer is an acceptance, whose number is 0
abbrev pub Unifies : Result ℕ UnifyError → Type 0
Unifies r = (stated r).0 ≡ 0

-- "gives vertex_count vertices": one behind the other from the first byte of the output on, which is otherwise as it was
pub record GivesVertices (s : Sections) (b : VertexBuffer) (out : List ℕ) (r : Result ℕ UnifyError) (t : List ℕ) : Type 0 where
  pub answer : r ≡ Ok (84 * b.vertex_count)
  pub vertex : (i : ℕ) → i < b.vertex_count → part t (84 * i) 84 ≡ unified_bytes (unified_vertex (read_by b) (data_of s b) (i * b.vertex_stride))
  pub beyond : drop (84 * b.vertex_count) t ≡ drop (84 * b.vertex_count) out
  pub size : length t ≡ length out

-- of an answer r and t, the output afterwards: "unifies exactly when .., and gives vertex_count vertices"; what does not unify is refused by check 9
pub record UnifiesExactly (s : Sections) (b : VertexBuffer) (out : List ℕ) (r : Result ℕ UnifyError) (t : List ℕ) : Type 0 where
  pub exactly : Unifies r ↔ ComponentsEndWithin (read_by b) b.vertex_stride
  pub gives : Unifies r → GivesVertices s b out r t
  pub otherwise : (Unifies r → ⊥) → (r ≡ Err OutsideData) × (t ≡ out)

-- The whole sentence: of a buffer b that is located, an output long enough, and whatever answer r and bytes t `unified_vertices` ensures of them.
abbrev pub LocatedUnifies : Type 0
LocatedUnifies =
    (s : Sections) (va pointer count stride : ℕ) (b : VertexBuffer) → vertex_buffer_at s va pointer count stride ≡ Some b
    → (out : List ℕ) → 84 * b.vertex_count ≤ length out
    → (r : Result ℕ UnifyError) (t : List ℕ) → Unified (read_by b) (data_of s b) b.vertex_stride b.vertex_count out r t → UnifiesExactly s b out r t
