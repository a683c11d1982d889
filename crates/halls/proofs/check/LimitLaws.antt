-- Checks 13 and 19 of a hall by its counts and the units of its image.
use mathlib.Core.Path.{◌≡◌, refl}
use mathlib.Core.Bool.{Bool, true, false, cond}
use Prim.Native.Nat.{ℕ, ◌+◌, ◌*◌, ◌≤◌, ◌<◌}
use native.Mathlib.Omega.{arith}
use borrow.Author.Tests.{le-leb, lt-leb, leb-true, leb-false}
use lib.Dec.{leb}
use lib.ListN.{length}
use Rattle.halls.specs.Every.{every}
use Rattle.halls.specs.Checks.{vertex_bytes_exact, mapping_matches, geometry_count, counts_within_limits, strides_agree, components_inside, vertex_counts_agree, index_counts_agree, indices_in_range, triangles_distinct, image_within_limit, require, every_geometry, verdict}
use Rattle.halls.specs.Hall.{Hall}
use Rattle.halls.specs.ImageSize.{image_size}
use Rattle.halls.specs.Inner.Order.{too_large, failing, verdict_of}
use Rattle.halls.specs.Inner.Walk.{units, limits_lowest}
use Rattle.halls.specs.Verdict.{Sound}

pub sixteenth : (x : ℕ) → leb (16 * x) 67108864 ≡ leb x 4194304
sixteenth x = on (leb x 4194304) refl
  where
    on : (t : Bool) → leb x 4194304 ≡ t → leb (16 * x) 67108864 ≡ t
    on true e = let h : x ≤ 4194304 = leb-true x 4194304 e in le-leb (16 * x) 67108864 (omega arith)
    on false e = let h : 4194304 < x = leb-false x 4194304 e in lt-leb (16 * x) 67108864 (omega arith)

-- by the whole hall's limits
abbrev pub whole_lowest : Hall → ℕ
whole_lowest h = cond (counts_within_limits h) (failing too_large (image_within_limit h)) 13

pub limits_of : (h : Hall) (models geometries parts : ℕ) → models ≡ length h → geometries ≡ geometry_count h → 16 * (1 + units (8 * models) + parts) ≡ image_size h
    → limits_lowest models geometries parts ≡ whole_lowest h
unfolding limits_lowest counts_within_limits image_within_limit
limits_of h models geometries parts m g i = rw (← m, ← g, ← i, sixteenth (1 + units (8 * models) + parts))

-- the verdict on a hall whose models and geometries pass
pub record EachPasses (h : Hall) : Type 0 where
  pub vertex-bytes : every_geometry vertex_bytes_exact h ≡ true
  pub mappings : every mapping_matches h ≡ true
  pub strides : every_geometry strides_agree h ≡ true
  pub components : every_geometry components_inside h ≡ true
  pub vertex-counts : every_geometry vertex_counts_agree h ≡ true
  pub index-counts : every_geometry index_counts_agree h ≡ true
  pub indices : every_geometry indices_in_range h ≡ true
  pub triangles : every_geometry triangles_distinct h ≡ true

by_limits : (counts image : Bool) → require 13 counts (require 19 image Sound) ≡ verdict_of (cond counts (failing too_large image) 13)
by_limits true true = refl
by_limits true false = refl
by_limits false image = refl

pub limits-verdict : (h : Hall) → EachPasses h → verdict h ≡ verdict_of (whole_lowest h)
unfolding verdict
limits-verdict h p =
    rw (p.vertex-bytes, p.mappings, p.strides, p.components, p.vertex-counts, p.index-counts, p.indices, p.triangles) (by_limits (counts_within_limits h) (image_within_limit h))
