-- A loop that writes some items, one behind the other: what was written so far, and what is left.
use mathlib.Core.Path.{◌≡◌, refl, sym, ap, ◌∙◌}
use mathlib.Core.List.{List, [], ◌∷◌, ◌++◌, append_assoc, append-nil}
use Prim.Native.Nat.{ℕ, ◌+◌, ◌≤◌}
use native.Mathlib.Omega.{arith}
use lib.ListN.{length, length-append}
use Rattle.sections.specs.Edit.{overwrite}
use Rattle.sections.proofs.EditLaws.{overwrite-length, overwrite-none, overwrite-then}
use Rattle.halls.specs.Inner.Small.{Wrote}
use Rattle.halls.specs.List.{each}
use Rattle.halls.proofs.read.EachLaws.{each_append, each_snoc}

pub record WritingItems {A : Type 0} (f : A → List ℕ) (all left : List A) (d : List ℕ) (at : ℕ) (b : List ℕ) (next : ℕ) : Type 0 where
  pub done : List A
  pub same : length b ≡ length d
  pub next-is : next ≡ at + length (each f done)
  pub is : b ≡ overwrite d at (each f done)
  pub whole : all ≡ done ++ left

pub items-start : {A : Type 0} (f : A → List ℕ) (all : List A) (d : List ℕ) (at : ℕ) → WritingItems f all all d at d at
unfolding each
items-start f all d at = record { done = []; same = refl; next-is = omega arith; is = sym (overwrite-none d at); whole = refl }

module _ {A : Type 0} {f : A → List ℕ} {all left : List A} {d : List ℕ} {at : ℕ} {b : List ℕ} {next : ℕ} (w : WritingItems f all left d at b next) where
  -- nothing is left
  module _ (e : left ≡ []) where
    ended : all ≡ w.done
    ended = w.whole ∙ rw e (append-nil w.done)

    pub items_place : next ≡ at + length (each f all)
    items_place = w.next-is ∙ ap (λ (xs : List A). at + length (each f xs)) (sym ended)

    pub items-end : Wrote d at (each f all) next b
    items-end = (items_place, w.is ∙ ap (λ (xs : List A). overwrite d at (each f xs)) (sym ended))

  -- the next item
  module _ {x : A} {others : List A} (room : at + length (each f all) ≤ length d) (step : left ≡ x ∷ others) where
    whole : all ≡ (w.done ++ x ∷ []) ++ others
    whole = w.whole ∙ ap (λ (xs : List A). w.done ++ xs) step ∙ sym (append_assoc w.done (x ∷ []) others)

    fits_one : at + (length (each f w.done) + length (f x)) ≤ length d
    fits_one =
        let e = ap (λ (xs : List A). length (each f xs)) whole in
        let p = ap length (each_append f (w.done ++ x ∷ []) others) ∙ length-append (each f (w.done ++ x ∷ [])) (each f others) in
        let q = ap length (each_snoc f w.done x) ∙ length-append (each f w.done) (f x) in
        omega (arith, room, e, p, q)

    pub items_room : next + length (f x) ≤ length b
    items_room = omega (arith, fits_one, w.next-is, w.same)

    pub items_turn : {r : ℕ} {t : List ℕ} → Wrote b next (f x) r t → WritingItems f all others d at t r
    items_turn {r} {t} put =
        let before : List ℕ = each f w.done in
        record {
          done = w.done ++ x ∷ [];
          same = ap length put.1 ∙ overwrite-length b next (f x) items_room ∙ w.same;
          next-is = rw (each_snoc f w.done x, length-append) (omega (arith, put.0, w.next-is));
          is =
              put.1 ∙ ap (λ (l : List ℕ). overwrite l next (f x)) w.is ∙ ap (λ k. overwrite (overwrite d at before) k (f x)) w.next-is
              ∙ overwrite-then d at (length before) before (f x) refl (omega (arith, fits_one)) ∙ ap (overwrite d at) (sym (each_snoc f w.done x));
          whole = whole;
        }
