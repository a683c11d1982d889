-- Triangles counted: how many of their indices are below a limit and how many pairs are equal, and what that says of checks 18 and 27. Private
-- contracts speak of this; `ScanLaws` ties it to the checks.
use Rattle.std.specs.Prelude.{Bool, cond, List, ℕ, ◌+◌, ◌*◌, eqb, ltb, get_or}
use Rattle.halls.specs.Inner.Order.{passed}
use Rattle.halls.specs.declared.check.triangle.Triangle.{Triangle}

-- the triangle at a place of a list of indices, and the i-th triangle of the list
abbrev pub lent_triangle_at : List ℕ → ℕ → Triangle
lent_triangle_at xs at = record { a = get_or xs at 0; b = get_or xs (at + 1) 0; c = get_or xs (at + 2) 0 }

abbrev pub triangle_in : List ℕ → ℕ → Triangle
triangle_in xs i = lent_triangle_at xs (3 * i)

-- what a test adds to a count
abbrev pub one : Bool → ℕ
one ok = cond ok 1 0

abbrev pub indices_below : ℕ → Triangle → ℕ
indices_below limit t = one (ltb t.a limit) + one (ltb t.b limit) + one (ltb t.c limit)

abbrev pub equal_pairs : Triangle → ℕ
equal_pairs t = one (eqb t.a t.b) + one (eqb t.b t.c) + one (eqb t.a t.c)

-- the rank of the first check that fails where so many triangles have `inside` indices below the limit and `pairs` equal ones
abbrev pub counted_lowest : ℕ → ℕ → ℕ → ℕ
counted_lowest inside pairs triangles = cond (eqb inside (3 * triangles)) (cond (eqb pairs 0) passed 27) 18
