-- Bytes that stand at an offset of a system section, and what an address there leads to.
use Rattle.std.specs.Prelude.{Some}
use mathlib.Core.Path.{◌≡◌, refl, sym, ap, ◌∙◌}
use mathlib.Core.Bool.{true, false}
use mathlib.Core.List.{List, [], ◌∷◌, ◌++◌, append_assoc, append-nil}
use Prim.Native.Nat.{ℕ, ◌+◌, ◌*◌, ◌-◌, ◌/◌, ◌%◌, ◌^◌, ◌≤◌, ◌<◌}
use native.Mathlib.Omega.{arith}
use borrow.Author.Tests.{le-leb, ne_eqb}
use lib.Dec.{eqb, leb}
use lib.ListN.{length, get_or, length-append}
use lib.Seq.{take_at, drop_at}
use Rattle.sections.specs.Address.{Sections, sections, bit, located, part_of, resolved}
use Rattle.sections.specs.Edit.{part}
use Rattle.sections.proofs.AddressLaws.{located-system}
use Rattle.sections.specs.declared.lookup.Located.TheVariants.{System}
use Rattle.vertices.specs.Runs.{run}
use Rattle.vertices.proofs.RunLaws.{length_run, numbers-run}
use Rattle.halls.specs.Reading.{list_at}
use Rattle.images.specs.Image.{base, filled, pointer_to}

-- so many bytes before them, and any behind
pub record Placed (section : List ℕ) (at : ℕ) (content : List ℕ) : Type 0 where
  pub before : List ℕ
  pub behind : List ℕ
  pub is : section ≡ before ++ (content ++ behind)
  pub offset : length before ≡ at

pub Placed-whole : (section : List ℕ) → Placed section 0 section
Placed-whole section = record { before = []; behind = []; is = sym (append-nil section); offset = refl }

module _ {section : List ℕ} {at : ℕ} where
  -- the first of two lists, and the second
  pub Placed-left : (xs ys : List ℕ) → Placed section at (xs ++ ys) → Placed section at xs
  Placed-left xs ys p = record { before = p.before; behind = ys ++ p.behind; is = p.is ∙ rw append_assoc; offset = p.offset }

  pub Placed-right : (xs ys : List ℕ) (next : ℕ) → at + length xs ≡ next → Placed section at (xs ++ ys) → Placed section next ys
  Placed-right xs ys next e p = record {
    before = p.before ++ xs;
    behind = p.behind;
    is = p.is ∙ simp append_assoc;
    offset = rw (length-append, p.offset) e;
  }

  -- the bytes of a part without what fills it up
  pub Placed-part : (xs : List ℕ) → Placed section at (filled xs) → Placed section at xs
  unfolding filled
  Placed-part xs p = Placed-left xs _ p

  -- they end inside the section
  pub placed_end : (xs : List ℕ) → Placed section at xs → at + length xs ≤ length section
  placed_end xs p = omega (arith, simp length-append at (ap length p.is), p.offset)

  part_placed : (xs : List ℕ) (n : ℕ) → length xs ≡ n → Placed section at xs → part section at n ≡ xs
  unfolding part
  part_placed xs n e p = rw (p.is, drop_at p.before (xs ++ p.behind) at p.offset, take_at xs p.behind n e)

-- the sections that an image is read from
abbrev pub system_only : List ℕ → Sections
system_only section = sections section []

module _ (section : List ℕ) (short : length section ≤ 67108864) (at : ℕ) (xs : List ℕ) (n : ℕ) (long : length xs ≡ n) (p : Placed section at xs) where
  inside : leb (at + n) (length section) ≡ true
  inside = le-leb (at + n) (length section) (omega (arith, placed_end xs p))

  -- the place behind their address, and the bytes there
  pub Placed-located : located (system_only section) (base + at) n ≡ Some (System at)
  Placed-located =
      let low : at ≤ 67108864 = omega (arith, placed_end xs p) in
      let q30 : (base + at) / 2 ^ 30 ≡ 1 = omega arith in
      let q29 : (base + at) / 2 ^ 29 ≡ 2 = omega arith in
      let q28 : (base + at) / 2 ^ 28 ≡ 5 = omega arith in
      let b30 : bit 30 (base + at) ≡ 1 = ap (λ (x : ℕ). x % 2) q30 in
      let b29 : bit 29 (base + at) ≡ 0 = ap (λ (x : ℕ). x % 2) q29 in
      let b28 : bit 28 (base + at) ≡ 1 = ap (λ (x : ℕ). x % 2) q28 in
      let d : base + at - base ≡ at = omega arith in
      located-system (system_only section) (base + at) n (λ e. omega arith) (λ e. omega arith) (omega arith) ∙ rw (d, inside)

  pub Placed-range : part_of section at n ≡ Some xs
  unfolding part_of
  Placed-range = rw (inside, part_placed xs n long p)

  pub Placed-resolved : resolved (system_only section) (base + at) n ≡ Some xs
  unfolding resolved
  Placed-resolved = rw Placed-located Placed-range

pub NotZero_lem : (n : ℕ) → 0 < n → eqb n 0 ≡ false
NotZero_lem n h = ne_eqb n 0 (λ e. omega arith)

-- numbers of k bytes, as many as the list has, behind its pointer
module _ (section : List ℕ) (short : length section ≤ 67108864) (at k : ℕ) where
  pub Placed-list : (xs : List ℕ) (n : ℕ) → length xs ≡ n → ((i : ℕ) → get_or xs i 0 < 256 ^ k) → Placed section at (filled (run k xs))
      → list_at (system_only section) k n (pointer_to n at) ≡ Some xs
  unfolding list_at
  Placed-list [] n e below p = rw (← e)
  Placed-list (x ∷ xs) n e below p =
      let ys : List ℕ = x ∷ xs in
      rw (← e, NotZero_lem (length ys) (omega arith), NotZero_lem (base + at) (omega arith), Placed-resolved section short at (run k ys) (length ys * k) (length_run k ys) (Placed-part (run k ys) p)) (ap Some (numbers-run k ys below))
