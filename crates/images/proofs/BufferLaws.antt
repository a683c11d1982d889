-- A hall's buffer after a call: the new state written out, zeros up to the greatest n reached, and beyond that the first content.
use mathlib.Core.Path.{◌≡◌, sym, ap, ◌∙◌}
use mathlib.Core.List.{List, ◌++◌, append_assoc}
use Prim.Native.Nat.{ℕ, zero, suc, ◌+◌, ◌-◌, ◌≤◌, ◌<◌, max}
use native.Mathlib.Nat.{lt_of_not-le}
use native.Mathlib.Decide.{dec_le}
use native.Mathlib.Omega.{arith}
use lib.ListN.{length, drop, replicate, length-replicate, replicate-append-replicate}
use lib.Seq.{drop_at, drop-drop, drop-append-add}
use Rattle.halls.specs.Step.{rewritten}

-- fewer zeros
drop-zeros : (k j : ℕ) (more : List ℕ) → k ≤ j → drop k (replicate j 0 ++ more) ≡ replicate (j - k) 0 ++ more
drop-zeros zero j more h = let e : j - 0 ≡ j = omega arith in rw e
drop-zeros (suc k) zero more h = absurd (omega arith)
drop-zeros (suc k) (suc j) more h = let e : suc j - suc k ≡ j - k = omega arith in rw e (drop-zeros k j more (omega arith))

-- old bytes w of length n, zeros up to `greatest`, and first content; m bytes are written
module _ (first w : List ℕ) (n greatest m : ℕ) (long : length w ≡ n) (reached : n ≤ greatest) where
  abbrev behind : List ℕ
  behind = replicate (greatest - n) 0 ++ drop greatest first

  -- no more than before
  rest-short : m ≤ n → replicate (n - m) 0 ++ drop (max n m) (w ++ behind) ≡ replicate (max greatest m - m) 0 ++ drop (max greatest m) first
  rest-short h =
      let a : max n m ≡ n = omega arith in
      let c : max greatest m ≡ greatest = omega arith in
      let d : n - m + (greatest - n) ≡ greatest - m = omega arith in
      rw (a, c, drop_at w behind n long, ← append_assoc {A = ℕ} (replicate (n - m) 0), replicate-append-replicate {A = ℕ} (n - m) (greatest - n) 0, d)

  -- more, but not beyond what was reached
  beyond : n ≤ m → drop (max n m) (w ++ behind) ≡ drop (m - n) behind
  beyond h =
      let a : max n m ≡ n + (m - n) = omega arith in
      rw a (sym (drop-drop (m - n) n (w ++ behind)) ∙ ap (drop (m - n)) (drop_at w behind n long))

  rest-long : n ≤ m → m ≤ greatest → replicate (n - m) 0 ++ drop (max n m) (w ++ behind) ≡ replicate (max greatest m - m) 0 ++ drop (max greatest m) first
  rest-long h k =
      let o : n - m ≡ 0 = omega arith in
      let c : max greatest m ≡ greatest = omega arith in
      let fewer : m - n ≤ greatest - n = omega arith in
      let d : greatest - n - (m - n) ≡ greatest - m = omega arith in
      rw (o, c, beyond h, drop-zeros (m - n) (greatest - n) (drop greatest first) fewer, d)

  -- beyond it
  rest-longest : n ≤ m → greatest ≤ m → replicate (n - m) 0 ++ drop (max n m) (w ++ behind) ≡ replicate (max greatest m - m) 0 ++ drop (max greatest m) first
  rest-longest h k =
      let o : n - m ≡ 0 = omega arith in
      let c : max greatest m ≡ m = omega arith in
      let z : m - m ≡ 0 = omega arith in
      let zeros : List ℕ = replicate (greatest - n) 0 in
      let past : m - n ≡ length zeros + (m - greatest) = rw length-replicate (omega arith) in
      let d : greatest + (m - greatest) ≡ m = omega arith in
      rw (o, c, z, beyond h, past, drop-append-add zeros (drop greatest first) (m - greatest), drop-drop (m - greatest) greatest first, d)

pub rewritten-shown : (first w w' : List ℕ) (n greatest : ℕ) → length w ≡ n → n ≤ greatest
    → rewritten (w ++ (replicate (greatest - n) 0 ++ drop greatest first)) n w' ≡ w' ++ (replicate (max greatest (length w') - length w') 0 ++ drop (max greatest (length w')) first)
unfolding rewritten
rewritten-shown first w w' n greatest long reached =
    let m : ℕ = length w' in
    ap (λ (x : List ℕ). w' ++ x) (elim (dec_le m n) [
      | yes h ↦ rest-short first w n greatest m long reached h
      | no h ↦
          let more : n < m = lt_of_not-le h in
          elim (dec_le m greatest) [
            | yes k ↦ rest-long first w n greatest m long reached (omega arith) k
            | no k ↦
                let most : greatest < m = lt_of_not-le k in
                rest-longest first w n greatest m long reached (omega arith) (omega arith)
          ]
    ])
