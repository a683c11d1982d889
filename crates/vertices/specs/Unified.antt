-- Unified vertices (document 01, "A unified vertex is one struct of floats and bytes, 84 bytes when written out in field order"; checks 9 and 10).
use Rattle.std.specs.Prelude.{Option, None, Some}
use Rattle.std.specs.Prelude.{◌≡◌, Bool, true, false, cond, ◌&&◌, List, [], ◌∷◌, ◌++◌, ℕ, zero, suc, ◌+◌, ◌*◌, length}
use Rattle.sections.specs.Edit.{overwrite, fits}
use Rattle.vertices.specs.Declaration.{component_of, components_of}
use Rattle.vertices.specs.Runs.{run}
use Rattle.vertices.specs.Attribute.{all_inside, value_at, as_vec2, as_vec3, as_vec4, as_rgba8, white, zero32, one32}
use Rattle.vertices.specs.declared.values.Vec2.{Vec2}
use Rattle.vertices.specs.declared.values.Vec3.{Vec3}
use Rattle.vertices.specs.declared.values.Vec4.{Vec4}
use Rattle.vertices.specs.declared.values.Bytes4.{Bytes4}
use Rattle.vertices.specs.declared.types.VertexComponent.{VertexComponent}
use Rattle.vertices.specs.declared.types.VertexComponentType.{VertexComponentType}
use Rattle.vertices.specs.declared.types.VertexComponentType.TheVariants.{Nothing, Half2, Float, Half4, FloatUnknown, Float2, Float3, Float4, UByte4, Colour, Rgba8Snorm, Unknown}
use Rattle.vertices.specs.declared.attribute.VertexAttributeValue.{VertexAttributeValue}
use Rattle.vertices.specs.declared.declaration.VertexDeclaration.{VertexDeclaration}
use Rattle.vertices.specs.declared.unify.UnifiedVertex.{UnifiedVertex}
use Rattle.std.specs.Prelude.{Result, Ok, Err}
use Rattle.vertices.specs.declared.unify.UnifyError.{UnifyError}
use Rattle.vertices.specs.declared.unify.UnifyError.TheVariants.{OutsideData, NeedsBytes}

-- ---- one vertex

-- blend indices are taken from this type only
abbrev pub holds_indices : VertexComponentType → Bool
holds_indices Nothing = false
holds_indices Half2 = false
holds_indices Float = false
holds_indices Half4 = false
holds_indices FloatUnknown = false
holds_indices Float2 = false
holds_indices Float3 = false
holds_indices Float4 = false
holds_indices UByte4 = true
holds_indices Colour = false
holds_indices Rgba8Snorm = false
holds_indices (Unknown n) = false

-- no indices: four zeros
abbrev pub no_indices : Bytes4
no_indices = record { a = 0; b = 0; c = 0; d = 0 }

-- its four bytes, as they are
abbrev pub as_indices : VertexComponentType → VertexAttributeValue → Bytes4
as_indices t v = cond (holds_indices t) (as_rgba8 t v) no_indices

-- what a field shows of the vertex at `base`: the component's value, seen in the field's way, or the default where none is declared
abbrev pub shown : {A : Type 0} → (VertexComponentType → VertexAttributeValue → A) → A → List ℕ → ℕ → Option VertexComponent → A
shown see default s base None = default
shown see default s base (Some c) = see c.component_type (value_at c.component_type s (base + c.offset))

-- zero in every place
abbrev pub zero_vec2 : Vec2
zero_vec2 = record { x = zero32; y = zero32 }

abbrev pub zero_vec3 : Vec3
zero_vec3 = record { x = zero32; y = zero32; z = zero32 }

abbrev pub zero_vec4 : Vec4
zero_vec4 = record { x = zero32; y = zero32; z = zero32; w = zero32 }

-- the defaults of a normal and of a tangent
abbrev pub upward : Vec3
upward = record { x = zero32; y = zero32; z = one32 }

abbrev pub along_x : Vec4
along_x = record { x = one32; y = zero32; z = zero32; w = one32 }

-- the vertex at `base`, each field from the component of its semantic
unfoldable pub unified_vertex : VertexDeclaration → List ℕ → ℕ → UnifiedVertex
unified_vertex d s base = record {
  position = shown (λ t v. as_vec3 v) zero_vec3 s base (component_of d 0);
  normal = shown (λ t v. as_vec3 v) upward s base (component_of d 3);
  color0 = shown as_rgba8 white s base (component_of d 4);
  color1 = shown as_rgba8 white s base (component_of d 5);
  texcoord0 = shown (λ t v. as_vec2 v) zero_vec2 s base (component_of d 6);
  texcoord1 = shown (λ t v. as_vec2 v) zero_vec2 s base (component_of d 7);
  tangent = shown (λ t v. as_vec4 v) along_x s base (component_of d 14);
  blend_weights = shown (λ t v. as_vec4 v) zero_vec4 s base (component_of d 1);
  blend_indices = shown as_indices no_indices s base (component_of d 2);
}

-- ---- written out

-- floats as 4 bytes each, bytes as they are
abbrev pub vec2_bytes : Vec2 → List ℕ
vec2_bytes v = run 4 (v.x.bits ∷ v.y.bits ∷ [])

abbrev pub vec3_bytes : Vec3 → List ℕ
vec3_bytes v = run 4 (v.x.bits ∷ v.y.bits ∷ v.z.bits ∷ [])

abbrev pub vec4_bytes : Vec4 → List ℕ
vec4_bytes v = run 4 (v.x.bits ∷ v.y.bits ∷ v.z.bits ∷ v.w.bits ∷ [])

abbrev pub bytes4_bytes : Bytes4 → List ℕ
bytes4_bytes v = run 1 (v.a ∷ v.b ∷ v.c ∷ v.d ∷ [])

-- its 84 bytes
unfoldable pub unified_bytes : UnifiedVertex → List ℕ
unified_bytes v =
    vec3_bytes v.position ++ vec3_bytes v.normal ++ bytes4_bytes v.color0 ++ bytes4_bytes v.color1 ++ vec2_bytes v.texcoord0 ++ vec2_bytes v.texcoord1
    ++ vec4_bytes v.tangent ++ vec4_bytes v.blend_weights ++ bytes4_bytes v.blend_indices

-- the bytes of the vertices 0 to n - 1
unfoldable pub run_of : (ℕ → UnifiedVertex) → ℕ → List ℕ
run_of vertex zero = []
run_of vertex (suc n) = run_of vertex n ++ unified_bytes (vertex n)

-- of a buffer's vertices, which lie a stride apart
unfoldable pub unified_run : VertexDeclaration → List ℕ → ℕ → ℕ → List ℕ
unified_run d s stride count = run_of (λ (index : ℕ). unified_vertex d s (index * stride)) count

-- ---- check 9

-- all components of all vertices end inside n bytes of data
unfoldable pub vertices_inside : VertexDeclaration → ℕ → ℕ → ℕ → Bool
vertices_inside d n stride zero = true
vertices_inside d n stride (suc count) = vertices_inside d n stride count && all_inside n (count * stride) (components_of d)

-- ---- the answer

-- document 01's number of an answer, 0 where it accepts, and the bytes written or needed
abbrev pub stated : Result ℕ UnifyError → ℕ × ℕ
stated (Ok n) = (0, n)
stated (Err OutsideData) = (9, 0)
stated (Err (NeedsBytes needed)) = (10, needed.0)

-- What unifying s answers, r, and leaves of out, t: 9 before 10, and a refusal leaves out as it was.
pub record Unified (d : VertexDeclaration) (s : List ℕ) (stride count : ℕ) (out : List ℕ) (r : Result ℕ UnifyError) (t : List ℕ) : Type 0 where
  pub answer : stated r ≡ cond (vertices_inside d (length s) stride count) (cond (fits out 0 (84 * count)) (0, 84 * count) (10, 84 * count)) (9, 0)
  pub bytes : t ≡ cond (vertices_inside d (length s) stride count && fits out 0 (84 * count)) (overwrite out 0 (unified_run d s stride count)) out
