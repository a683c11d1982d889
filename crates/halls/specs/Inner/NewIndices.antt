-- A geometry's indices replaced: what the checks say of the new ones, and the bytes that they leave.
use Rattle.std.specs.Prelude.{◌&&◌, List, ◌++◌, ℕ, ◌+◌, ◌*◌, ◌%◌, ◌/◌, eqb, leb, ltb, length, take, drop}
use Rattle.sections.specs.Edit.{overwrite}
use Rattle.sections.specs.Le.{bytes}
use Rattle.halls.specs.Checks.{require, triangles_of, has_three_vertices}
use Rattle.halls.specs.Every.{every}
use Rattle.halls.specs.List.{Indices, indices_record}
use Rattle.halls.specs.Inner.Walk.{units}
use Rattle.halls.specs.Verdict.{Verdict}
use Rattle.halls.specs.Verdict.{Sound}

-- checks 17, 18, 27 and 19: of indices of `count` vertices in a hall of so many models, whose parts of the image have so many units then
unfoldable pub indices_verdict : List ℕ → ℕ → ℕ → ℕ → Verdict
indices_verdict xs count models parts =
    require 17 (eqb (length xs % 3) 0 && leb 3 (length xs))
    (require 18 (every (λ (i : ℕ). ltb i count) xs)
    (require 27 (every has_three_vertices (triangles_of xs))
    (require 19 (leb (1 + units (8 * models) + parts) 4194304)
    Sound)))

abbrev pub indices_of : List ℕ → Indices
indices_of xs = record { count = length xs; items = xs }

-- the list w, where the geometry's records begin at `at` and its indices' record has the bytes from `start` to `end`
unfoldable pub with_new_indices : List ℕ → ℕ → ℕ → ℕ → List ℕ → List ℕ
with_new_indices w at start end xs =
    overwrite (take start w ++ (indices_record (indices_of xs) ++ drop end w)) (at + 8) (bytes 4 (length xs) ++ bytes 4 (length xs / 3))
