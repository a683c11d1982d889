-- Loops that overwrite s from `at` on with w, some elements a turn: what stands there after i of them.
use mathlib.Core.Path.{◌≡◌, refl, sym, ap, ◌∙◌}
use mathlib.Core.List.{List, [], ◌∷◌, ◌++◌, append-nil}
use Prim.Native.Nat.{ℕ, ◌+◌, ◌-◌, ◌*◌, ◌≤◌, ◌<◌, min}
use native.Mathlib.Nat.{add-zero, zero-add}
use native.Mathlib.Omega.{arith}
use lib.ListN.{length, take, drop, get_or, set, length-append, length-drop, take-append-drop}
use lib.Seq.{length-take-le, take-add, take_all, drop-drop, drop-length}
use Rattle.sections.specs.Edit.{part, overwrite}
use Rattle.sections.proofs.EditLaws.{part_length, part-one, part-part, part_same, part-before, part-after, overwrite-none, overwrite-one, overwrite-length, overwrite-then, overwrite-ahead}

-- ---- the first first

pub record Forward (s : List ℕ) (at : ℕ) (w b : List ℕ) (i : ℕ) : Type 0 where
  pub fit : at + length w ≤ length s
  pub low : i ≤ length w
  pub same : length b ≡ length s
  pub is : b ≡ overwrite s at (take i w)

pub Forward-start : (s : List ℕ) (at : ℕ) (w : List ℕ) → at + length w ≤ length s → Forward s at w s 0
Forward-start s at w h = record { fit = h; low = omega arith; same = refl; is = sym (overwrite-none s at) }

module _ {s : List ℕ} {at : ℕ} {w b : List ℕ} {i : ℕ} (f : Forward s at w b i) where
  done : length (take i w) ≡ i
  done = length-take-le i w f.low

  -- what lies behind the bytes put is as it was
  pub Forward-read : (j k : ℕ) → at + i ≤ j → part b j k ≡ part s j k
  Forward-read j k h = rw f.is (part-after s at (take i w) (rw done (omega arith)) j k (rw done h))

  pub Forward-turn : (k : ℕ) → i + k ≤ length w → Forward s at w (overwrite b (at + i) (part w i k)) (i + k)
  unfolding part
  Forward-turn k h =
      let n : length (part w i k) ≡ k = part_length w i k h in
      let fit : at + i + length (part w i k) ≤ length b = omega (arith, f.same, f.fit) in
      record {
        fit = f.fit;
        low = h;
        same = overwrite-length b (at + i) (part w i k) fit ∙ f.same;
        is =
            ap (λ (x : List ℕ). overwrite x (at + i) (part w i k)) f.is ∙ overwrite-then s at i (take i w) (part w i k) done (omega (arith, f.fit))
            ∙ ap (overwrite s at) (sym (take-add i k w));
      }

  pub Forward-store : (x : ℕ) → i < length w → x ≡ get_or w i 0 → Forward s at w (set b (at + i) x) (i + 1)
  Forward-store x h e =
      rw (overwrite-one b (at + i) x (omega (arith, f.same, f.fit)), e, ← part-one w i h) (Forward-turn 1 (omega arith))

  pub Forward-end : length w ≤ i → b ≡ overwrite s at w
  Forward-end h = f.is ∙ ap (overwrite s at) (take_all i w h)

  -- a turn that puts all that is left
  pub Forward-last : (n : ℕ) → length w ≡ n → overwrite b (at + i) (part w i (n - i)) ≡ overwrite s at w
  Forward-last n e =
      let h : i + (n - i) ≤ length w = omega (arith, f.low) in
      (Forward-turn (n - i) h).is ∙ ap (overwrite s at) (take_all (i + (n - i)) w (omega arith))

-- ---- by pieces: what is left, put behind k pieces of 4,096, makes the whole

pub record Pieces (whole b : List ℕ) (at k : ℕ) (rest : List ℕ) : Type 0 where
  pub room : 0 < length rest → at + k * 4096 + length rest ≤ length b
  pub is : overwrite b (at + k * 4096) rest ≡ whole

pub Pieces-start : (s : List ℕ) (at : ℕ) (w : List ℕ) → at + length w ≤ length s → Pieces (overwrite s at w) s at 0 w
Pieces-start s at w h = let e : at + 0 * 4096 ≡ at = omega arith in record { room = λ l. omega arith; is = rw e }

module _ {whole b : List ℕ} {at k : ℕ} {rest : List ℕ} (p : Pieces whole b at k rest) where
  -- a piece is short only where none is left behind it
  pub Pieces-turn : (x left : List ℕ) → rest ≡ x ++ left → length x ≡ min 4096 (length rest) → Pieces whole (overwrite b (at + k * 4096) x) at (k + 1) left
  Pieces-turn x [] e n = record { room = λ l. absurd (omega (arith, l)); is = overwrite-none _ _ ∙ rw (e, append-nil) at p.is }
  Pieces-turn x (y ∷ ys) e n =
      let both : length rest ≡ length x + length (y ∷ ys) = ap length e ∙ length-append x (y ∷ ys) in
      let some : 0 < length (y ∷ ys) = omega arith in
      let fit : at + k * 4096 + length rest ≤ length b = p.room (omega (arith, both, some)) in
      let full : length x ≡ 4096 = omega (arith, both, some, n) in
      let next : at + (k + 1) * 4096 ≡ at + k * 4096 + 4096 = omega arith in
      let same : length (overwrite b (at + k * 4096) x) ≡ length b = overwrite-length b (at + k * 4096) x (omega (arith, both, fit)) in
      record {
        room = λ l. omega (arith, same, both, full, fit);
        is = rw next (overwrite-then b (at + k * 4096) 4096 x (y ∷ ys) full (omega (arith, both, full, fit)) ∙ ap (overwrite b (at + k * 4096)) (sym e) ∙ p.is);
      }

pub Pieces-end : {whole b : List ℕ} {at k : ℕ} {rest : List ℕ} → Pieces whole b at k rest → length rest ≡ 0 → b ≡ whole
Pieces-end {rest = []} p e = sym (overwrite-none _ _) ∙ p.is
Pieces-end {rest = x ∷ left} p e = absurd (omega (arith, e))

-- ---- the last first: all but the first i are put

pub record Backward (s : List ℕ) (at : ℕ) (w b : List ℕ) (i : ℕ) : Type 0 where
  pub fit : at + length w ≤ length s
  pub low : i ≤ length w
  pub same : length b ≡ length s
  pub is : b ≡ overwrite s (at + i) (drop i w)

pub Backward-start : (s : List ℕ) (at : ℕ) (w : List ℕ) (n : ℕ) → length w ≡ n → at + length w ≤ length s → Backward s at w s n
Backward-start s at w n e h =
    record { fit = h; low = omega arith; same = refl; is = rw (← e, drop-length) (sym (overwrite-none s (at + length w))) }

module _ {s : List ℕ} {at : ℕ} {w b : List ℕ} {i : ℕ} (f : Backward s at w b i) where
  left : length (drop i w) ≡ length w - i
  left = length-drop i w

  -- what lies before the bytes put is as it was
  pub Backward-read : (j k : ℕ) → j + k ≤ at + i → part b j k ≡ part s j k
  Backward-read j k h = rw f.is (part-before s (at + i) (drop i w) (rw left (omega (arith, f.fit, f.low))) j k h)

  pub Backward-turn : (j k : ℕ) → j + k ≡ i → Backward s at w (overwrite b (at + j) (part w j k)) j
  unfolding part
  Backward-turn j k e =
      let n : length (part w j k) ≡ k = part_length w j k (omega (arith, f.low)) in
      let fit : at + j + length (part w j k) ≤ length b = omega (arith, f.same, f.fit, f.low) in
      let room : at + j + k + length (drop i w) ≤ length s = rw left (omega (arith, f.fit, f.low)) in
      let start : at + i ≡ at + j + k = omega arith in
      let whole : part w j k ++ drop i w ≡ drop j w = rw (← e, ← drop-drop k j w) (take-append-drop k (drop j w)) in
      record {
        fit = f.fit;
        low = omega (arith, f.low);
        same = overwrite-length b (at + j) (part w j k) fit ∙ f.same;
        is =
            ap (λ (x : List ℕ). overwrite x (at + j) (part w j k)) (f.is ∙ ap (λ (m : ℕ). overwrite s m (drop i w)) start)
            ∙ overwrite-ahead s (at + j) k (part w j k) (drop i w) n room ∙ ap (overwrite s (at + j)) whole;
      }

  pub Backward-end : i ≡ 0 → b ≡ overwrite s at w
  Backward-end e = rw (f.is, e, add-zero)

-- ---- moves within one list: the n elements at `from` to `to`, and no turn reads what was written

module _ {s : List ℕ} {from to n : ℕ} {b : List ℕ} {i : ℕ} (f : Forward s to (part s from n) b i) (down : to ≤ from) (fit : from + n ≤ length s) where
  down-read : (k : ℕ) → i + k ≤ n → part b (from + i) k ≡ part (part s from n) i k
  down-read k h = Forward-read f (from + i) k (omega arith) ∙ sym (part-part s from n i k h)

  pub move_down_turn : (k : ℕ) → i + k ≤ n → Forward s to (part s from n) (overwrite b (to + i) (part b (from + i) k)) (i + k)
  move_down_turn k h = rw (down-read k h) (Forward-turn f k (rw (part_length s from n fit) h))

  pub move_down-last : i ≤ n → overwrite b (to + i) (part b (from + i) (n - i)) ≡ overwrite s to (part s from n)
  move_down-last h = rw (down-read (n - i) (omega arith)) (Forward-last f n (part_length s from n fit))

module _ {s : List ℕ} {from to n : ℕ} {b : List ℕ} {i : ℕ} (f : Backward s to (part s from n) b i) (up : from ≤ to) (low : i ≤ n) where
  pub move_up_turn : (j k : ℕ) → j + k ≡ i → Backward s to (part s from n) (overwrite b (to + j) (part b (from + j) k)) j
  move_up_turn j k e =
      let r : part b (from + j) k ≡ part (part s from n) j k = Backward-read f (from + j) k (omega arith) ∙ sym (part-part s from n j k (omega arith)) in
      rw r (Backward-turn f j k e)

  pub move_up-last : overwrite b to (part b from i) ≡ overwrite s to (part s from n)
  move_up-last =
      let z : from + 0 ≡ from = add-zero from in
      let y : to + 0 ≡ to = add-zero to in
      rw (z, y) at (Backward-end (move_up_turn 0 i (zero-add i)) refl)

-- ---- by way of a block

-- a part that was put at the start of a block reads back from there
pub through_block : (block s : List ℕ) (from k : ℕ) → k ≤ length block → from + k ≤ length s → part (overwrite block 0 (part s from k)) 0 k ≡ part s from k
through_block block s from k h l =
    let n : length (part s from k) ≡ k = part_length s from k l in
    part_same block 0 (part s from k) (omega arith) k n
