-- The component behind each field of a unified vertex, found once for all vertices. Only private functions use it.
use Rattle.std.specs.Prelude.{◌≡◌, List, ℕ, ◌+◌, ◌≤◌, ◌<◌}
use Rattle.vertices.specs.Types.{size_of}
use Rattle.vertices.specs.Declaration.{component_of}
use Rattle.vertices.specs.Attribute.{value_at, as_vec2, as_vec3, as_vec4, as_rgba8, white}
use Rattle.vertices.specs.Unified.{as_indices, no_indices, zero_vec2, zero_vec3, zero_vec4, upward, along_x}
use Rattle.vertices.specs.declared.types.VertexComponent.{VertexComponent}
use Rattle.vertices.specs.declared.types.VertexComponentType.{VertexComponentType}
use Rattle.vertices.specs.declared.attribute.VertexAttributeValue.{VertexAttributeValue}
use Rattle.vertices.specs.declared.declaration.VertexDeclaration.{VertexDeclaration}
use Rattle.std.specs.Prelude.{Option, Some, None}
use Rattle.vertices.specs.declared.unify.UnifiedVertex.{UnifiedVertex}
use Rattle.vertices.specs.declared.unify.UnifiedPlan.{UnifiedPlan}

-- the plan of a declaration
abbrev pub plan_of : VertexDeclaration → UnifiedPlan
plan_of d = record {
  position = component_of d 0;
  normal = component_of d 3;
  color0 = component_of d 4;
  color1 = component_of d 5;
  texcoord0 = component_of d 6;
  texcoord1 = component_of d 7;
  tangent = component_of d 14;
  blend_weights = component_of d 1;
  blend_indices = component_of d 2;
}

-- what a field shows of the vertex at `base`
unfoldable pub planned : {A : Type 0} → (VertexComponentType → VertexAttributeValue → A) → A → List ℕ → ℕ → Option VertexComponent → A
planned see default s base None = default
planned see default s base (Some c) = see c.component_type (value_at c.component_type s (base + c.offset))

-- the vertex at `base` by a plan
unfoldable pub planned_vertex : UnifiedPlan → List ℕ → ℕ → UnifiedVertex
planned_vertex p s base = record {
  position = planned (λ t v. as_vec3 v) zero_vec3 s base p.position;
  normal = planned (λ t v. as_vec3 v) upward s base p.normal;
  color0 = planned as_rgba8 white s base p.color0;
  color1 = planned as_rgba8 white s base p.color1;
  texcoord0 = planned (λ t v. as_vec2 v) zero_vec2 s base p.texcoord0;
  texcoord1 = planned (λ t v. as_vec2 v) zero_vec2 s base p.texcoord1;
  tangent = planned (λ t v. as_vec4 v) along_x s base p.tangent;
  blend_weights = planned (λ t v. as_vec4 v) zero_vec4 s base p.blend_weights;
  blend_indices = planned as_indices no_indices s base p.blend_indices;
}

-- a component's size is its type's, and where that is nonzero it ends inside n bytes, in the vertex at `base`
pub record Inside (c : VertexComponent) (base n : ℕ) : Type 0 where
  pub size : c.size ≡ size_of c.component_type
  pub ends : 0 < c.size → base + c.offset + c.size ≤ n

-- and so does the component behind a field, where there is one
abbrev pub Ends : Option VertexComponent → ℕ → ℕ → Type 0
Ends None base n = Unit
Ends (Some c) base n = Inside c base n

-- and so for each field of a plan
pub record Readable (p : UnifiedPlan) (base n : ℕ) : Type 0 where
  pub position : Ends p.position base n
  pub normal : Ends p.normal base n
  pub color0 : Ends p.color0 base n
  pub color1 : Ends p.color1 base n
  pub texcoord0 : Ends p.texcoord0 base n
  pub texcoord1 : Ends p.texcoord1 base n
  pub tangent : Ends p.tangent base n
  pub blend_weights : Ends p.blend_weights base n
  pub blend_indices : Ends p.blend_indices base n
