-- The place that a pass is at: what is sought from it, at the start and behind a model's record or a geometry's four; and of these the nearest to what is sought.
use Rattle.std.specs.Borrow.{Bor}
use Rattle.std.specs.Prelude.{Some}
use mathlib.Core.Path.{◌≡◌, refl, sym, ap, ◌∙◌}
use mathlib.Core.Bool.{Bool, true, false, cond, ◌&&◌}
use mathlib.Core.List.{List, ◌∷◌}
use mathlib.Core.Logic.{⊎_elim}
use Prim.Native.Nat.{ℕ, ◌+◌, ◌-◌, ◌≤◌}
use native.Mathlib.Omega.{arith}
use borrow.Author.Tests.{ne_eqb, leb-true, leb-false}
use lib.Dec.{leb}
use lib.ListN.{length, drop}
use Rattle.sections.specs.Le.{field}
use Rattle.halls.specs.Inner.HallRecords.{of_kind}
use Rattle.halls.specs.Inner.Seeking.{place_of, sought, Marked, nearer_mark, Near}
use Rattle.halls.specs.Inner.Walk.{start_tally, mark_of, Onward}
use Rattle.halls.specs.Records.{records}
use Rattle.halls.specs.declared.check.pass.Mark.{Mark}
use Rattle.halls.specs.declared.check.pass.Tally.{Tally}
use Rattle.halls.proofs.check.SeekLaws.{place_here, place-next}

-- ---- the start

pub marked_start : (s : List ℕ) (l : Bor (List ℕ)) → Marked s (mark_of (start_tally l))
marked_start s l = record {
  within = omega arith;
  models-behind = λ k. let e : 0 + k ≡ k = omega arith in ap (λ (n : ℕ). sought s 0 1 n) e;
  model_is = λ h. absurd (omega (arith, h));
  geometries-behind = λ h. absurd (omega (arith, h));
}

-- ---- behind a model's record

one_more : (k : ℕ) → k + 1 - 1 ≡ k
one_more k = omega arith

module _ (s : List ℕ) (p u : Mark) (w : Marked s p) (low : u.at ≤ length s) where
  module _ (body : List ℕ) (are : records (drop p.at s) ≡ of_kind 1 body ∷ records (drop u.at s)) (long : p.at + 6 + length body ≡ u.at) where
    ModelHere_lem : sought s p.at 1 0 ≡ Some p.at
    unfolding sought
    ModelHere_lem = rw (are, place_here 1 0 p.at (of_kind 1 body) (records (drop u.at s)) refl refl)

    past-model : (k : ℕ) → sought s p.at 1 (k + 1) ≡ sought s u.at 1 k
    unfolding sought
    past-model k = rw (are, place-next 1 (k + 1) p.at (of_kind 1 body) (records (drop u.at s)) refl (λ z. omega arith), one_more k, long)

    pub Marked-model : field 4 s p.at ≡ length body → u.models ≡ p.models + 1 → u.model ≡ p.at → u.own ≡ 0 → Marked s u
    Marked-model read models model own = record {
      within = low;
      models-behind = λ k.
          let e : u.models + k ≡ p.models + (k + 1) = omega arith in
          ap (λ (n : ℕ). sought s 0 1 n) e ∙ w.models-behind (k + 1) ∙ past-model k;
      model_is = λ h.
          let e : u.models - 1 ≡ p.models + 0 = omega arith in
          ap Some model ∙ sym (ap (λ (n : ℕ). sought s 0 1 n) e ∙ w.models-behind 0 ∙ ModelHere_lem);
      geometries-behind = λ h k.
          let place : u.model + 6 + field 4 s u.model ≡ u.at = rw (model, read) long in
          let e : u.own + k ≡ k = omega arith in
          rw (place, e);
    }

  -- ---- behind a geometry's four records

  module _ (a b c d : List ℕ) (are : records (drop p.at s) ≡ of_kind 2 a ∷ of_kind 3 b ∷ of_kind 4 c ∷ of_kind 5 d ∷ records (drop u.at s))
      (long : p.at + 6 + length a + 6 + length b + 6 + length c + 6 + length d ≡ u.at) where
    past-geometry : (k : ℕ) → sought s p.at 1 k ≡ sought s u.at 1 k
    unfolding sought place_of
    past-geometry k = rw (are, long)

    next-geometry : (k : ℕ) → sought s p.at 2 (k + 1) ≡ sought s u.at 2 k
    unfolding sought place_of
    next-geometry k = rw (are, ne_eqb (k + 1) 0 (λ z. omega arith), one_more k, long)

    pub Marked-geometry : u.models ≡ p.models → u.model ≡ p.model → u.own ≡ p.own + 1 → Marked s u
    Marked-geometry models model own = record {
      within = low;
      models-behind = λ k. ap (λ (n : ℕ). sought s 0 1 (n + k)) models ∙ w.models-behind k ∙ past-geometry k;
      model_is = λ h. ap Some model ∙ w.model_is (omega arith) ∙ ap (λ (n : ℕ). sought s 0 1 (n - 1)) (sym models);
      geometries-behind = λ h k.
          let e : u.own + k ≡ p.own + (k + 1) = omega arith in
          rw (model, e) (w.geometries-behind (omega arith) (k + 1) ∙ next-geometry k);
    }

-- ---- the nearest

pub Near-start : (s : List ℕ) (m g : ℕ) {t : Tally} {p : Mark} (l : Bor (List ℕ)) → t ≡ start_tally l → p ≡ mark_of t → Near s m g t.summary.models p
Near-start s m g l e f = rw (f, e) (record { marked = marked_start s l; models_are = omega arith; own-few = omega arith })

module _ {s : List ℕ} {m g : ℕ} {t u : Tally} {p : Mark} (n : Near s m g t.summary.models p) (w : Marked s (mark_of u)) (on : Onward t u) where
  abbrev own : ℕ
  own = u.summary.geometries - u.first

  -- the place before stays the nearest where the next is behind the model or the geometry
  kept : (u.summary.models ≤ m + 1 → own ≤ g → ⊥) → Near s m g u.summary.models p
  kept behind = record {
    marked = n.marked;
    models_are = n.models_are ∙ ⊎_elim (λ e. omega arith) (λ e. let f : u.summary.models ≤ m + 1 → ⊥ = λ l. behind l (omega (arith, e)) in omega (arith, f)) on.same_or-next;
    own-few = n.own-few;
  }

  pub Near-turn : Near s m g u.summary.models (nearer_mark p (mark_of u) m g)
  unfolding nearer_mark
  Near-turn = by (leb own g) (leb u.summary.models (m + 1)) refl refl
    where
      by : (x y : Bool) → leb own g ≡ x → leb u.summary.models (m + 1) ≡ y → Near s m g u.summary.models (cond (x && y) (mark_of u) p)
      by true true e f = record { marked = w; models_are = omega (arith, leb-true u.summary.models (m + 1) f); own-few = leb-true own g e }
      by true false e f = kept (λ l r. omega (arith, leb-false u.summary.models (m + 1) f))
      by false y e f = kept (λ l r. omega (arith, leb-false own g e))
