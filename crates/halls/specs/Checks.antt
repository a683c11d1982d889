-- Checks 11 to 19 (document 01, "Questions at the door") and 27 (document 02, N7), the checks of a hall: what each asks of a hall's list, and the verdict.
use Rattle.std.specs.Prelude.{Option, None, Some}
use Rattle.std.specs.Prelude.{Bool, true, false, ◌&&◌, not, List, [], ◌∷◌, map, ℕ, ◌*◌, eqb, leb, ltb, length, take}
use Rattle.vertices.specs.Declaration.{component_of, total_size}
use Rattle.vertices.specs.declared.types.VertexComponent.{VertexComponent}
use Rattle.halls.specs.Every.{every, sum_of}
use Rattle.halls.specs.Hall.{FullGeometry, FullModel, Hall}
use Rattle.halls.specs.ImageSize.{image_size}
use Rattle.halls.specs.Parsing.{parse}
use Rattle.halls.specs.Verdict.{Verdict}
use Rattle.halls.specs.Verdict.{Sound, Fails}
use Rattle.halls.specs.declared.check.triangle.Triangle.{Triangle}

-- 11. Given vertex bytes = count × stride? (In a list that parses they are.)
unfoldable pub vertex_bytes_exact : FullGeometry → Bool
vertex_bytes_exact g = eqb (length g.vertices.content) (g.vertices.count * g.vertices.stride)

-- 12. Mapping = shader ids?
unfoldable pub same_numbers : List ℕ → List ℕ → Bool
same_numbers [] [] = true
same_numbers [] (y ∷ ys) = false
same_numbers (x ∷ xs) [] = false
same_numbers (x ∷ xs) (y ∷ ys) = eqb x y && same_numbers xs ys

abbrev pub shader_ids : List FullGeometry → List ℕ
shader_ids gs = map (λ (g : FullGeometry). g.shader) gs

unfoldable pub mapping_matches : FullModel → Bool
mapping_matches m = same_numbers m.mapping (shader_ids m.geometries)

-- 13. At most 256 models, 16,384 geometries?
unfoldable pub geometry_count : Hall → ℕ
geometry_count h = sum_of (λ (m : FullModel). length m.geometries) h

unfoldable pub counts_within_limits : Hall → Bool
counts_within_limits h = leb (length h) 256 && leb (geometry_count h) 16384

-- 14. Layout 0, all three strides equal?
unfoldable pub strides_agree : FullGeometry → Bool
strides_agree g = eqb g.vertices.layout 0 && (eqb g.declaration.stride g.stride && eqb g.vertices.stride g.stride)

-- 15. Position declared with nonzero size, components inside the stride?
abbrev pub has_size : Option VertexComponent → Bool
has_size None = false
has_size (Some c) = ltb 0 c.size

unfoldable pub components_inside : FullGeometry → Bool
components_inside g = has_size (component_of g.declaration 0) && leb (total_size g.declaration) g.stride

-- 16. Vertices = count, 1 to 65,535?
unfoldable pub vertex_counts_agree : FullGeometry → Bool
vertex_counts_agree g = eqb g.vertex_count g.vertices.count && (leb 1 g.vertices.count && leb g.vertices.count 65535)

-- 17. Both index counts = indices held = 3 × triangles, at least 3?
abbrev pub held : FullGeometry → ℕ
held g = length g.indices.items

unfoldable pub index_counts_agree : FullGeometry → Bool
index_counts_agree g = eqb g.index_count (held g) && (eqb g.indices.count (held g) && (eqb (held g) (3 * g.triangle_count) && leb 3 (held g)))

-- 18. Each index below count?
unfoldable pub indices_in_range : FullGeometry → Bool
indices_in_range g = every (λ (i : ℕ). ltb i g.vertices.count) g.indices.items

-- 27. No triangle with two equal indices? A triangle is three of them; one or two at the end make none.
unfoldable pub triangles_of : List ℕ → List Triangle
triangles_of [] = []
triangles_of (a ∷ []) = []
triangles_of (a ∷ b ∷ []) = []
triangles_of (a ∷ b ∷ c ∷ xs) = record { a = a; b = b; c = c } ∷ triangles_of xs

unfoldable pub has_three_vertices : Triangle → Bool
has_three_vertices t = not (eqb t.a t.b) && (not (eqb t.b t.c) && not (eqb t.a t.c))

unfoldable pub triangles_distinct : FullGeometry → Bool
triangles_distinct g = every has_three_vertices (triangles_of g.indices.items)

-- 19. Image at most 67,108,864 bytes?
unfoldable pub image_within_limit : Hall → Bool
image_within_limit h = leb (image_size h) 67108864

-- ---- the verdict: over the whole hall, question by question

abbrev pub require : ℕ → Bool → Verdict → Verdict
require check true next = next
require check false next = Fails check

abbrev pub every_geometry : (FullGeometry → Bool) → Hall → Bool
every_geometry test h = every (λ (m : FullModel). every test m.geometries) h

unfoldable pub verdict : Hall → Verdict
verdict h =
    require 11 (every_geometry vertex_bytes_exact h)
    (require 12 (every mapping_matches h)
    (require 13 (counts_within_limits h)
    (require 14 (every_geometry strides_agree h)
    (require 15 (every_geometry components_inside h)
    (require 16 (every_geometry vertex_counts_agree h)
    (require 17 (every_geometry index_counts_agree h)
    (require 18 (every_geometry indices_in_range h)
    (require 27 (every_geometry triangles_distinct h)
    (require 19 (image_within_limit h)
    Sound)))))))))

abbrev pub judged : Option Hall → Verdict
judged None = Fails 11
judged (Some h) = verdict h

-- of the first n bytes of a buffer
unfoldable pub hall_verdict : List ℕ → ℕ → Verdict
hall_verdict b n = require 11 (leb n (length b)) (judged (parse (take n b)))
