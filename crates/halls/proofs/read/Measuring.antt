-- The loop over a model's geometry pointers: what was read so far, and what is left to read.
use Rattle.std.specs.Prelude.{Option, None, Some, option_map, Ok}
use Rattle.std.proofs.lemmas.Option.{same_Some}
use mathlib.Core.Path.{◌≡◌, refl, ap, ◌∙◌}
use mathlib.Core.List.{List, [], ◌∷◌, ◌++◌, append-nil}
use Prim.Native.Nat.{ℕ, suc, ◌+◌, ◌*◌, ◌^◌, ◌≤◌, ◌<◌}
use native.Mathlib.Nat.{add-zero}
use native.Mathlib.Omega.{arith}
use borrow.Author.Tests.{eq-eqb, ne_eqb, lt-ltb, le-ltb}
use lib.ListN.{length, length-append}
use Rattle.sections.specs.Address.{Sections, resolved}
use Rattle.halls.specs.List.{Geometry, each, write_geometry, write_geometries}
use Rattle.halls.specs.Blocks.{geometry_block}
use Rattle.halls.specs.Reading.{Reading, refused, read, and_then, rest, geometry_of, read_geometries}
use Rattle.halls.specs.Inner.Measure.{entries_of, length_at, measured_geometries, read_entries}
use Rattle.halls.specs.declared.read.entries.Entry.{Entry}
use Rattle.halls.proofs.read.EachLaws.{each_snoc}
use Rattle.halls.proofs.read.ReadingLaws.{prepend, prepend-none, prepend-one}

-- ---- a length is told where the block resolved

option_none : {A B : Type 0} (f : A → B) (o : Option A) → None ≡ option_map f o → o ≡ None
option_none f None e = refl
option_none f (Some b) e = let z : ◌≡◌ {A = ℕ} 0 1 = cc in absurd (omega arith)

pub length_at-none : (s : Sections) (shader pointer : ℕ) → None ≡ length_at s shader pointer → resolved s pointer 0x98 ≡ None
unfolding length_at
length_at-none s shader pointer e = option_none _ (resolved s pointer 0x98) e

pub record Resolved (s : Sections) (shader pointer n : ℕ) : Type 0 where
  pub block : List ℕ
  pub is : resolved s pointer 0x98 ≡ Some block
  pub long : n ≡ length (write_geometry (geometry_of s shader (geometry_block block)))

some-length : (s : Sections) (shader pointer n : ℕ) (o : Option (List ℕ)) → resolved s pointer 0x98 ≡ o → Some n ≡ option_map (λ b. length (write_geometry (geometry_of s shader (geometry_block b)))) o → Resolved s shader pointer n
some-length s shader pointer n None q e = let z : ◌≡◌ {A = ℕ} 0 1 = cc in absurd (omega arith)
some-length s shader pointer n (Some b) q e = record { block = b; is = q; long = same_Some _ _ e }

pub length_at-some : (s : Sections) (shader pointer n : ℕ) → Some n ≡ length_at s shader pointer → Resolved s shader pointer n
unfolding length_at
length_at-some s shader pointer n e = some-length s shader pointer n (resolved s pointer 0x98) refl e

-- ---- the loop

-- reading with each entry's shader id is reading along the mapping
pub entries_as_read : (s : Sections) (ps : List ℕ) (before : ℕ) (map : List ℕ) → read_entries s before (entries_of map ps) ≡ read_geometries s before map ps
unfolding read_geometries
entries_as_read s [] before map = refl
entries_as_read s (p ∷ ps) before map = rw (entries_as_read s ps before (rest map), entries_as_read s ps (suc before) (rest map))

pub record Measuring (s : Sections) (before : ℕ) (all left : List Entry) (total count : ℕ) : Type 0 where
  pub done : List Geometry
  pub total-is : total ≡ length (write_geometries done)
  pub count_is : count ≡ length done
  pub bound : total ≤ count * 2 ^ 49
  pub few : before + count ≤ 16384
  pub whole : read_entries s before all ≡ prepend done (read_entries s (before + count) left)

pub Measuring-start : (s : Sections) (before : ℕ) (all : List Entry) → before ≤ 16384 → Measuring s before all all 0 0
unfolding each
Measuring-start s before all h =
    record { done = []; total-is = refl; count_is = refl; bound = omega arith; few = omega arith; whole = rw add-zero (prepend-none (read_entries s before all)) }

module _ {s : Sections} {before : ℕ} {all left : List Entry} {total count : ℕ} (m : Measuring s before all left total count) where
  -- at the end all is read
  pub Measuring-end : left ≡ [] → measured_geometries (read_entries s before all) ≡ Ok (record { «length» = total; count = count })
  unfolding read_geometries prepend
  Measuring-end none =
      let ended : read_entries s before all ≡ read m.done = m.whole ∙ rw none (ap read (append-nil m.done)) in
      ap measured_geometries ended ∙ rw (← m.total-is, ← m.count_is)

  module _ (e : Entry) (others : List Entry) (next : left ≡ e ∷ others) where
    -- a null pointer is skipped
    pub Measuring-null : e.pointer ≡ 0 → Measuring s before all others total count
    unfolding read_geometries
    Measuring-null z = record {
      done = m.done;
      total-is = m.total-is;
      count_is = m.count_is;
      bound = m.bound;
      few = m.few;
      whole = m.whole ∙ ap (prepend m.done) (rw (next, eq-eqb e.pointer 0 z));
    }

    module _ (set : e.pointer ≡ 0 → ⊥) where
      -- the 16,385th is refused
      pub Measuring-full : 16384 ≤ before + count → read_entries s before all ≡ refused 5
      unfolding read_geometries prepend
      Measuring-full h = m.whole ∙ rw (next, ne_eqb e.pointer 0 set, le-ltb (before + count) 16384 h)

      module _ (room : before + count < 16384) where
        pub Measuring-unresolved : resolved s e.pointer 0x98 ≡ None → read_entries s before all ≡ refused 6
        unfolding read_geometries prepend
        Measuring-unresolved none = m.whole ∙ rw (next, ne_eqb e.pointer 0 set, lt-ltb (before + count) 16384 room, none)

        pub Measuring-one : {n : ℕ} → Resolved s e.shader e.pointer n → n < 2 ^ 49 → Measuring s before all others (total + n) (count + 1)
        unfolding read_geometries
        Measuring-one {n} r small =
            let g : Geometry = geometry_of s e.shader (geometry_block r.block) in
            let onward : Reading (List Geometry) = read_entries s (suc (before + count)) others in
            let step : read_entries s (before + count) left ≡ and_then onward (λ gs. read (g ∷ gs)) =
            rw (next, ne_eqb e.pointer 0 set, lt-ltb (before + count) 16384 room, r.is) in
            let a : before + (count + 1) ≡ suc (before + count) = omega arith in
            record {
              done = m.done ++ (g ∷ []);
              total-is = rw (each_snoc write_geometry m.done g, length-append, ← r.long) (omega (arith, m.total-is));
              count_is = rw length-append (omega (arith, m.count_is));
              bound = omega (arith, m.bound);
              few = omega arith;
              whole = m.whole ∙ ap (prepend m.done) step ∙ rw a (prepend-one m.done g onward);
            }
