-- A buffer whose first bytes are a hall being edited: zeros up to the old n, and the rest (`rewritten`). What edits of the buffer do to the hall's bytes.
use mathlib.Core.Path.{◌≡◌, refl, sym, ap, ◌∙◌}
use mathlib.Core.Bool.{Bool, ◌&&◌}
use mathlib.Core.List.{List, ◌++◌, append_assoc}
use Prim.Native.Nat.{ℕ, ◌+◌, ◌-◌, ◌≤◌, max}
use native.Mathlib.Omega.{arith}
use borrow.Author.Tests.{le-leb}
use lib.ListN.{length, take, drop, replicate, length-append, length-take, length-drop, length-replicate, replicate-append-replicate, take-append-drop}
use lib.Seq.{length-take-le, take_at, drop_at, drop-drop, drop-append-le, take-append-le, drop-append-add}
use Rattle.sections.specs.Edit.{part, overwrite, fits, Edited}
use Rattle.sections.proofs.EditLaws.{part_length, overwrite-length, overwrite-then, Edited-fits}
use Rattle.halls.specs.Step.{rewritten}

-- only the bytes beyond n count of the old buffer
pub rewritten-others : (b b' : List ℕ) (n : ℕ) (w : List ℕ) → drop n b ≡ drop n b' → length w ≤ n → rewritten b n w ≡ rewritten b' n w
unfolding rewritten
rewritten-others b b' n w e h = let m : max n (length w) ≡ n = omega arith in rw (m, e)

module _ (b : List ℕ) (n : ℕ) where
  pub rewritten-start : n ≤ length b → rewritten b n (take n b) ≡ b
  unfolding rewritten
  rewritten-start h =
      let l : length (take n b) ≡ n = simp length-take (omega arith) in
      let z : n - n ≡ 0 = omega arith in
      let m : max n n ≡ n = omega arith in
      rw (l, z, m) (take-append-drop n b)

  pub rewritten-length : (w : List ℕ) → n ≤ length b → length w ≤ length b → length (rewritten b n w) ≡ length b
  unfolding rewritten
  rewritten-length w h k = simp (length-append, length-replicate, length-drop) (omega arith)

  -- bytes over bytes of the hall
  pub rewritten-over : (w : List ℕ) (at : ℕ) (v : List ℕ) → at + length v ≤ length w → overwrite (rewritten b n w) at v ≡ rewritten b n (overwrite w at v)
  unfolding rewritten overwrite
  rewritten-over w at v h =
      let z : List ℕ = replicate (n - length w) 0 ++ drop (max n (length w)) b in
      let l : length (take at w ++ v ++ drop (at + length v) w) ≡ length w = simp (length-append, length-take, length-drop) (omega arith) in
      let a : at ≤ length w = omega arith in
      rw (l, take-append-le at w z, drop-append-le (at + length v) w z) (simp append_assoc)

  -- bytes behind a hall that is as long as the old one at least
  pub rewritten-more : (w v : List ℕ) → n ≤ length w → overwrite (rewritten b n w) (length w) v ≡ rewritten b n (w ++ v)
  unfolding rewritten overwrite
  rewritten-more w v h =
      let o : n - length w ≡ 0 = omega arith in
      let m : max n (length w) ≡ length w = omega arith in
      let l : length (w ++ v) ≡ length w + length v = length-append w v in
      let o₂ : n - (length w + length v) ≡ 0 = omega arith in
      let m₂ : max n (length w + length v) ≡ length w + length v = omega arith in
      rw (l, o, o₂, m, m₂, take_at w (drop (length w) b) (length w) refl, drop-append-add w (drop (length w) b) (length v), drop-drop (length v) (length w) b) (simp append_assoc)

  over-front : (v : List ℕ) → 0 + length v ≡ n → overwrite b 0 v ≡ v ++ drop n b
  unfolding overwrite
  over-front v e = rw e

  -- a hall from the front on that is not longer than the old one, and zeros behind it
  pub rewritten-front : (w : List ℕ) (end : ℕ) → end ≡ 0 + length w → end ≤ n → n ≤ length b → overwrite (overwrite b 0 w) end (replicate (n - end) 0) ≡ rewritten b n w
  unfolding rewritten
  rewritten-front w end e h k =
      let zeros : List ℕ = replicate (n - length w) 0 in
      let l : length zeros ≡ n - length w = length-replicate (n - length w) 0 in
      let long : 0 + length (w ++ zeros) ≡ n = rw (length-append, l) (omega arith) in
      let m : max n (length w) ≡ n = omega arith in
      let same : end ≡ length w = omega arith in
      ap (λ (x : ℕ). overwrite (overwrite b 0 w) end (replicate (n - x) 0)) same ∙ ap (λ (x : ℕ). overwrite (overwrite b 0 w) x zeros) e
      ∙ overwrite-then b 0 (length w) w zeros refl (omega arith) ∙ over-front (w ++ zeros) long ∙ rw m (append_assoc w zeros (drop n b))

  -- bytes over the last ones of the old hall and behind it
  pub rewritten-opened : (at : ℕ) (v : List ℕ) → at ≤ n → n ≤ length b → n ≤ at + length v → overwrite b at v ≡ rewritten b n (take at b ++ v)
  unfolding rewritten overwrite
  rewritten-opened at v h k l =
      let long : length (take at b ++ v) ≡ at + length v = simp (length-append, length-take) (omega arith) in
      let z : n - (at + length v) ≡ 0 = omega arith in
      let m : max n (at + length v) ≡ at + length v = omega arith in
      rw (long, z, m) (simp append_assoc)

  -- what moves down, and where it ends
  closed-moved : (w : List ℕ) (end : ℕ) → end ≤ length w → part (rewritten b n w) end (length w - end) ≡ drop end w
  unfolding rewritten part
  closed-moved w end k =
      let z : List ℕ = replicate (n - length w) 0 ++ drop (max n (length w)) b in
      rw (drop-append-le end w z) (take_at (drop end w) z (length w - end) (length-drop end w))

  closed_room : (w : List ℕ) (at end : ℕ) → at ≤ end → end ≤ length w → at + (length w - end) + length {A = ℕ} (replicate (end - at) 0) ≤ length (rewritten b n w)
  unfolding rewritten
  closed_room w at end h k =
      let z : List ℕ = replicate (n - length w) 0 ++ drop (max n (length w)) b in
      let e : length {A = ℕ} (replicate (end - at) 0) ≡ end - at = length-replicate (end - at) 0 in
      omega (arith, length-append w z)

  closed_over : (w : List ℕ) (at end : ℕ) → at ≤ end → end ≤ length w → length w ≤ n
      → overwrite (rewritten b n w) at (drop end w ++ replicate (end - at) 0) ≡ rewritten b n (take at w ++ drop end w)
  unfolding rewritten overwrite
  closed_over w at end h k l =
      let by : ℕ = end - at in
      let zeros : List ℕ = replicate by 0 in
      let e : length w ≡ at + length (drop end w ++ zeros) = simp (length-append, length-drop, length-replicate) (omega arith) in
      let rest : List ℕ = drop n b in
      let z : List ℕ = replicate (n - length w) 0 ++ rest in
      let m : max n (length w) ≡ n = omega arith in
      let long : length (take at w ++ drop end w) ≡ length w - by = simp (length-append, length-take, length-drop) (omega arith) in
      let m₂ : max n (length w - by) ≡ n = omega arith in
      let more : n - (length w - by) ≡ by + (n - length w) = omega arith in
      let a : at ≤ length w = omega arith in
      rw (m, long, m₂, more, ← (replicate-append-replicate {A = ℕ} by (n - length w) 0), take-append-le at w z, ← e, drop_at w z (length w) refl) (simp append_assoc)

  -- a gap closed: of the bytes of a hall that is no longer than the old one those from `end` on move down to `at`, and the last ones become zero
  pub rewritten-closed : (w : List ℕ) (at end : ℕ) → at ≤ end → end ≤ length w → length w ≤ n
      → overwrite (overwrite (rewritten b n w) at (part (rewritten b n w) end (length w - end))) (length w - (end - at)) (replicate (end - at) 0) ≡ rewritten b n (take at w ++ drop end w)
  rewritten-closed w at end h k l =
      let by : ℕ = end - at in
      let behind : List ℕ = drop end w in
      let long : length behind ≡ length w - end = length-drop end w in
      let place : length w - (end - at) ≡ at + (length w - end) = omega arith in
      let room : at + (length w - end) + length {A = ℕ} (replicate by 0) ≤ length (rewritten b n w) = closed_room w at end h k in
      ap (λ (v : List ℕ). overwrite (overwrite (rewritten b n w) at v) (length w - (end - at)) (replicate by 0)) (closed-moved w end k)
      ∙ ap (λ (i : ℕ). overwrite (overwrite (rewritten b n w) at behind) i (replicate by 0)) place
      ∙ overwrite-then (rewritten b n w) at (length w - end) behind (replicate by 0) long room ∙ closed_over w at end h k l

  -- by the two edits that do it
  pub gap-closed : (at end : ℕ) {r r₂ : Bool} {t u : List ℕ} → at ≤ end → end ≤ n → n ≤ length b
      → Edited (fits b end (n - end) && fits b at (n - end)) b at (part b end (n - end)) r t
      → Edited (fits t (n - (end - at)) (end - at)) t (n - (end - at)) (replicate (end - at) 0) r₂ u
      → u ≡ rewritten b n (take at (take n b) ++ drop end (take n b))
  gap-closed at end {r} {r₂} {t} {u} h k l moved zeroed =
      let w : List ℕ = take n b in
      let long : length w ≡ n = length-take-le n b l in
      let there : end + (n - end) ≤ length b = omega arith in
      let here : at + (n - end) ≤ length b = omega arith in
      let first : t ≡ overwrite b at (part b end (n - end)) = rw (le-leb (end + (n - end)) (length b) there, le-leb (at + (n - end)) (length b) here) at moved.bytes in
      let same : length t ≡ length b = ap length first ∙ overwrite-length b at (part b end (n - end)) (rw (part_length b end (n - end) there) here) in
      let room : n - (end - at) + (end - at) ≤ length t = omega arith in
      let second : u ≡ overwrite t (n - (end - at)) (replicate (end - at) 0) = Edited-fits (end - at) zeroed room in
      second ∙ ap (λ (x : List ℕ). overwrite x (n - (end - at)) (replicate (end - at) 0)) first
      ∙ ap (λ (x : List ℕ). overwrite (overwrite x at (part x end (n - end))) (n - (end - at)) (replicate (end - at) 0)) (sym (rewritten-start l))
      ∙ ap (λ (i : ℕ). overwrite (overwrite (rewritten b n w) at (part (rewritten b n w) end (i - end))) (i - (end - at)) (replicate (end - at) 0)) (sym long)
      ∙ rewritten-closed w at end h (rw long k) (omega arith)
