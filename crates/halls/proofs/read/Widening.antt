-- Two-byte numbers written with four bytes each: what stands in the list after some of them.
use mathlib.Core.Path.{◌≡◌, refl, sym, ap, ◌∙◌}
use mathlib.Core.List.{List, ◌++◌}
use Prim.Native.Nat.{ℕ, ◌+◌, ◌*◌, ◌≤◌, ◌<◌}
use native.Mathlib.Omega.{arith}
use lib.ListN.{length, drop}
use Rattle.sections.specs.Edit.{part, overwrite}
use Rattle.sections.specs.Le.{le, bytes}
use Rattle.sections.proofs.EditLaws.{overwrite-length, overwrite-none, overwrite-then}
use Rattle.vertices.specs.Runs.{numbers, run}
use Rattle.vertices.proofs.RunLaws.{length_run, numbers-length, numbers-add, run-append, run-one}

abbrev pub wide : ℕ → List ℕ → List ℕ
wide n s = run 4 (numbers 2 n s)

pub wide-length : (n : ℕ) (s : List ℕ) → length (wide n s) ≡ n * 4
wide-length n s = length_run 4 (numbers 2 n s) ∙ ap (λ k. k * 4) (numbers-length 2 n s)

wide-add : (n m : ℕ) (s : List ℕ) → wide (n + m) s ≡ wide n s ++ wide m (drop (n * 2) s)
wide-add n m s = ap (run 4) (numbers-add 2 n m s) ∙ run-append 4 (numbers 2 n s) (numbers 2 m (drop (n * 2) s))

wide-one : (s : List ℕ) (at : ℕ) → bytes 4 (le (part s at 2)) ≡ wide 1 (drop at s)
unfolding numbers part
wide-one s at = sym (run-one 4 (le (part s at 2)))

pub record Widening (raw d : List ℕ) (at n : ℕ) (b : List ℕ) (i : ℕ) : Type 0 where
  pub room : at + n * 4 ≤ length d
  pub low : i ≤ n
  pub same : length b ≡ length d
  pub is : b ≡ overwrite d at (wide i raw)

pub Widening-start : (raw d : List ℕ) (at n : ℕ) → at + n * 4 ≤ length d → Widening raw d at n d 0
unfolding numbers run
Widening-start raw d at n h = record { room = h; low = omega arith; same = refl; is = sym (overwrite-none d at) }

module _ {raw d : List ℕ} {at n : ℕ} {b : List ℕ} {i : ℕ} (w : Widening raw d at n b i) where
  -- j numbers more
  Widening-turn : (j : ℕ) {t : List ℕ} → i + j ≤ n → t ≡ overwrite b (at + i * 4) (wide j (drop (i * 2) raw)) → Widening raw d at n t (i + j)
  Widening-turn j h e =
      let more : List ℕ = wide j (drop (i * 2) raw) in
      let long : length more ≡ j * 4 = wide-length j (drop (i * 2) raw) in
      record {
        room = w.room;
        low = h;
        same = ap length e ∙ overwrite-length b (at + i * 4) more (omega (arith, w.room, w.same)) ∙ w.same;
        is =
            e ∙ ap (λ (x : List ℕ). overwrite x (at + i * 4) more) w.is
            ∙ overwrite-then d at (i * 4) (wide i raw) more (wide-length i raw) (omega (arith, w.room)) ∙ ap (overwrite d at) (sym (wide-add i j raw));
      }

  -- one number more
  pub Widening-one : {t : List ℕ} {v : ℕ} → i < n → v ≡ le (part raw (i * 2) 2) → t ≡ overwrite b (at + i * 4) (bytes 4 v) → Widening raw d at n t (i + 1)
  Widening-one h q e = Widening-turn 1 (omega arith) (e ∙ ap (λ k. overwrite b (at + i * 4) (bytes 4 k)) q ∙ ap (overwrite b (at + i * 4)) (wide-one raw (i * 2)))

  -- after the last
  pub Widening-end : n ≤ i → b ≡ overwrite d at (wide n raw)
  Widening-end h =
      let q : i ≡ n = omega (arith, w.low) in
      w.is ∙ ap (λ k. overwrite d at (wide k raw)) q
