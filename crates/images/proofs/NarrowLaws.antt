-- Four-byte numbers written with two bytes each: what stands in the list after some of them.
use mathlib.Core.Path.{◌≡◌, refl, sym, ap, ◌∙◌}
use mathlib.Core.List.{List, ◌++◌}
use Prim.Native.Nat.{ℕ, ◌+◌, ◌*◌, ◌/◌, ◌%◌, ◌^◌, ◌≤◌, ◌<◌}
use native.Mathlib.Omega.{arith}
use lib.ListN.{length, drop}
use lib.Seq.{drop-drop}
use Rattle.sections.specs.Edit.{part, overwrite}
use Rattle.sections.specs.Le.{le, bytes}
use Rattle.sections.proofs.EditLaws.{overwrite-length, overwrite-none, overwrite-then}
use Rattle.sections.proofs.LeLaws.{bytes-add, bytes_low}
use Rattle.vertices.specs.Runs.{numbers, run}
use Rattle.vertices.proofs.RunLaws.{length_run, numbers-length, numbers-add, run-append, run-one}

abbrev pub narrow : ℕ → List ℕ → List ℕ
narrow n s = run 2 (numbers 4 n s)

pub narrow-length : (n : ℕ) (s : List ℕ) → length (narrow n s) ≡ n * 2
narrow-length n s = length_run 2 (numbers 4 n s) ∙ ap (λ k. k * 2) (numbers-length 4 n s)

narrow-add : (n m : ℕ) (s : List ℕ) → narrow (n + m) s ≡ narrow n s ++ narrow m (drop (n * 4) s)
narrow-add n m s = ap (run 2) (numbers-add 4 n m s) ∙ run-append 2 (numbers 4 n s) (numbers 4 m (drop (n * 4) s))

-- one number, and two as one of four bytes
narrow_one : (s : List ℕ) (at : ℕ) → bytes 2 (le (part s at 4)) ≡ narrow 1 (drop at s)
unfolding numbers part
narrow_one s at = sym (run-one 2 (le (part s at 4)))

low_halves : (a b : ℕ) → bytes 4 (a % 65536 + b % 65536 * 65536) ≡ bytes 2 a ++ bytes 2 b
low_halves a b =
    let v : ℕ = a % 65536 + b % 65536 * 65536 in
    let low : v % 256 ^ 2 ≡ a % 256 ^ 2 = omega arith in
    let high : v / 256 ^ 2 ≡ b % 256 ^ 2 = omega arith in
    bytes-add 2 2 v ∙ rw (← bytes_low 2 v, low, bytes_low 2 a, high, bytes_low 2 b)

narrow_two : (s : List ℕ) (at : ℕ) → bytes 4 (le (part s at 4) % 65536 + le (part s (at + 4) 4) % 65536 * 65536) ≡ narrow 2 (drop at s)
narrow_two s at =
    let behind : drop (1 * 4) (drop at s) ≡ drop (at + 4) s = drop-drop 4 at s in
    low_halves (le (part s at 4)) (le (part s (at + 4) 4))
    ∙ rw (narrow_one s at, narrow_one s (at + 4)) (sym (narrow-add 1 1 (drop at s) ∙ rw behind))

pub record Narrowing (raw d : List ℕ) (at n : ℕ) (b : List ℕ) (i : ℕ) : Type 0 where
  pub held : n * 4 ≤ length raw
  pub room : at + n * 2 ≤ length d
  pub low : i ≤ n
  pub same : length b ≡ length d
  pub is : b ≡ overwrite d at (narrow i raw)

pub Narrowing-start : (raw d : List ℕ) (at n : ℕ) → n * 4 ≤ length raw → at + n * 2 ≤ length d → Narrowing raw d at n d 0
unfolding numbers run
Narrowing-start raw d at n k h = record { held = k; room = h; low = omega arith; same = refl; is = sym (overwrite-none d at) }

module _ {raw d : List ℕ} {at n : ℕ} {b : List ℕ} {i : ℕ} (w : Narrowing raw d at n b i) where
  -- k numbers more
  Narrowing-more : (k : ℕ) {t : List ℕ} → i + k ≤ n → t ≡ overwrite b (at + i * 2) (narrow k (drop (i * 4) raw)) → Narrowing raw d at n t (i + k)
  Narrowing-more k h put =
      let more : List ℕ = narrow k (drop (i * 4) raw) in
      let long : length more ≡ k * 2 = narrow-length k (drop (i * 4) raw) in
      record {
        held = w.held;
        room = w.room;
        low = h;
        same = ap length put ∙ overwrite-length b (at + i * 2) more (omega (arith, w.room, w.same)) ∙ w.same;
        is =
            put ∙ ap (λ (x : List ℕ). overwrite x (at + i * 2) more) w.is
            ∙ overwrite-then d at (i * 2) (narrow i raw) more (narrow-length i raw) (omega (arith, w.room)) ∙ ap (overwrite d at) (sym (narrow-add i k raw));
      }

  -- after the last
  pub Narrowing-end : n ≤ i → b ≡ overwrite d at (narrow n raw)
  Narrowing-end h =
      let q : i ≡ n = omega (arith, w.low) in
      w.is ∙ ap (λ k. overwrite d at (narrow k raw)) q

-- j pairs are passed, and the next
pub pairs_turn : {raw d : List ℕ} {at n : ℕ} {b : List ℕ} {j : ℕ} → Narrowing raw d at (n * 2) b (j * 2) → j < n → {x y v : ℕ} {t : List ℕ}
    → x ≡ le (part raw (j * 8) 4) → y ≡ le (part raw (j * 8 + 4) 4) → v ≡ x % 65536 + y % 65536 * 65536 → t ≡ overwrite b (at + j * 4) (bytes 4 v)
    → Narrowing raw d at (n * 2) t ((j + 1) * 2)
pairs_turn {raw} {d} {at} {n} {b} {j} w h {t = t} p q r e =
    let place : j * 4 ≡ j * 2 * 2 = omega arith in
    let read : j * 8 ≡ j * 2 * 4 = omega arith in
    let end : (j + 1) * 2 ≡ j * 2 + 2 = omega arith in
    let put : t ≡ overwrite b (at + j * 2 * 2) (narrow 2 (drop (j * 2 * 4) raw)) =
    e ∙ rw (r, p, q, narrow_two raw (j * 8), place, read) in
    rw end (Narrowing-more w 2 (omega arith) put)

-- the number behind the pairs
pub Narrowing-odd : (raw d : List ℕ) (at n pairs : ℕ) {b : List ℕ} → n * 4 ≤ length raw → at + n * 2 ≤ length d → b ≡ overwrite d at (narrow (pairs * 2) raw) → pairs * 2 + 1 ≡ n → {x v : ℕ} {t : List ℕ}
    → x ≡ le (part raw (pairs * 8) 4) → v ≡ x % 65536 → t ≡ overwrite b (at + pairs * 4) (bytes 2 v) → t ≡ overwrite d at (narrow n raw)
Narrowing-odd raw d at n pairs {b} held room is odd {x} {t = t} p q e =
    let long : length (narrow (pairs * 2) raw) ≡ pairs * 2 * 2 = narrow-length (pairs * 2) raw in
    let w : Narrowing raw d at n b (pairs * 2) = record { held = held; room = room; low = omega arith; same = ap length is ∙ overwrite-length d at (narrow (pairs * 2) raw) (omega arith); is = is } in
    let place : pairs * 4 ≡ pairs * 2 * 2 = omega arith in
    let read : pairs * 8 ≡ pairs * 2 * 4 = omega arith in
    let put : t ≡ overwrite b (at + pairs * 2 * 2) (narrow 1 (drop (pairs * 2 * 4) raw)) =
    e ∙ rw (q, bytes_low 2 x, p, narrow_one raw (pairs * 8), place, read) in
    Narrowing-end (Narrowing-more w 1 (omega arith) put) (omega arith)
