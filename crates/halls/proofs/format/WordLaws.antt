-- A loop over a caller's numbers puts their bytes.
use mathlib.Core.Path.{◌≡◌, refl, sym, ap, ◌∙◌}
use mathlib.Core.List.{List, [], ◌∷◌, ◌++◌}
use Prim.Native.Nat.{ℕ, ◌+◌, ◌*◌, ◌≤◌, ◌<◌}
use native.Mathlib.Numerals.{add-one}
use native.Mathlib.Omega.{arith}
use lib.ListN.{length, take, get_or}
use lib.Seq.{take-suc, take_all, length-take-le}
use Rattle.sections.specs.Edit.{overwrite}
use Rattle.sections.specs.Le.{bytes}
use Rattle.sections.proofs.EditLaws.{overwrite-length, overwrite-none, overwrite-then}
use Rattle.sections.proofs.LeLaws.{length-bytes}
use Rattle.vertices.specs.Runs.{run}
use Rattle.vertices.proofs.RunLaws.{length_run, run-append, run-one}

-- the first i stand in the bytes
pub record Putting (xs d : List ℕ) (at : ℕ) (b : List ℕ) (i : ℕ) : Type 0 where
  pub room : at + 4 * length xs ≤ length d
  pub low : i ≤ length xs
  pub same : length b ≡ length d
  pub is : b ≡ overwrite d at (run 4 (take i xs))

pub Putting-start : (xs d : List ℕ) (at : ℕ) → at + 4 * length xs ≤ length d → Putting xs d at d 0
unfolding run
Putting-start xs d at h = record { room = h; low = omega arith; same = refl; is = sym (overwrite-none d at) }

module _ {xs d : List ℕ} {at : ℕ} {b : List ℕ} {i : ℕ} (p : Putting xs d at b i) where
  pub Putting-turn : {t : List ℕ} → i < length xs → t ≡ overwrite b (at + i * 4) (bytes 4 (get_or xs i 0)) → Putting xs d at t (i + 1)
  Putting-turn h e =
      let one : List ℕ = bytes 4 (get_or xs i 0) in
      let long : length one ≡ 4 = length-bytes 4 (get_or xs i 0) in
      let before : length (run 4 (take i xs)) ≡ i * 4 = length_run 4 (take i xs) ∙ ap (λ (n : ℕ). n * 4) (length-take-le i xs (omega arith)) in
      let more : run 4 (take i xs) ++ one ≡ run 4 (take (i + 1) xs) = sym (rw (add-one i, take-suc xs i 0 h, run-append 4 (take i xs) (get_or xs i 0 ∷ []), run-one 4 (get_or xs i 0))) in
      record {
        room = p.room;
        low = omega arith;
        same = ap length e ∙ overwrite-length b (at + i * 4) one (omega (arith, p.room, p.same)) ∙ p.same;
        is =
            e ∙ ap (λ (x : List ℕ). overwrite x (at + i * 4) one) p.is
            ∙ overwrite-then d at (i * 4) (run 4 (take i xs)) one before (omega (arith, p.room)) ∙ ap (overwrite d at) more;
      }

  pub Putting-end : length xs ≤ i → b ≡ overwrite d at (run 4 xs)
  Putting-end h = p.is ∙ ap (λ (l : List ℕ). overwrite d at (run 4 l)) (take_all i xs h)
