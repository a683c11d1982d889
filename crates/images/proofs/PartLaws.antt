-- Bytes written part by part: fields put over a block, a part with the zeros behind it, and parts one behind the other.
use mathlib.Core.Path.{◌≡◌, refl, sym, ap, ◌∙◌}
use mathlib.Core.Bool.{Bool}
use mathlib.Core.List.{List, [], ◌++◌, append_assoc, append-nil}
use Prim.Native.Nat.{ℕ, ◌+◌, ◌-◌, ◌≤◌}
use native.Mathlib.Nat.{add_assoc}
use native.Mathlib.Omega.{arith}
use lib.ListN.{length, take, drop, length-append, length-take, length-drop, length-replicate, take-append-drop}
use lib.Seq.{length-take-le, take-add, take-append-le, take-append-add, drop-append-le, drop-append-add}
use Rattle.sections.specs.Edit.{part, overwrite, fits, Edited}
use Rattle.sections.specs.Le.{bytes}
use Rattle.sections.proofs.LeLaws.{length-bytes}
use Rattle.sections.proofs.EditLaws.{part_length, part-after, overwrite-length, overwrite-none, overwrite-then, overwrite-ahead, Edited-fits}
use Rattle.halls.specs.ImageSize.{padded}
use Rattle.images.specs.Image.{zeros, put, filled}

-- ---- bytes before bytes that were put

-- put back as they are
overwrite-same : (s : List ℕ) (at n : ℕ) → at + n ≤ length s → overwrite s at (part s at n) ≡ s
unfolding overwrite part
overwrite-same s at n h =
    let long : length (take n (drop at s)) ≡ n = simp (length-take, length-drop) (omega arith) in
    rw (long, ← take-add at n s) (take-append-drop (at + n) s)

-- so the order of the two does not matter
module _ (s : List ℕ) (at : ℕ) (xs : List ℕ) (to : ℕ) (ys : List ℕ) (before : to + length ys ≤ at) (fit : at + length xs ≤ length s) where
  abbrev gap : ℕ
  gap = at - (to + length ys)

  abbrev between : List ℕ
  between = part s (to + length ys) gap

  between-length : length between ≡ gap
  between-length = part_length s (to + length ys) gap (omega arith)

  at-is : to + length ys + gap ≡ at
  at-is = omega arith

  first-last : overwrite (overwrite s at xs) to ys ≡ overwrite s to (ys ++ (between ++ xs))
  first-last =
      let same : overwrite s (to + length ys) between ≡ s = overwrite-same s (to + length ys) gap (omega arith) in
      let behind : overwrite s at xs ≡ overwrite s (to + length ys) (between ++ xs) =
      ap (λ (x : List ℕ). overwrite x at xs) (sym same) ∙ ap (λ (i : ℕ). overwrite (overwrite s (to + length ys) between) i xs) (sym at-is)
      ∙ overwrite-then s (to + length ys) gap between xs between-length (omega arith) in
      let long : length (between ++ xs) ≡ gap + length xs = length-append between xs ∙ omega (arith, between-length) in
      ap (λ (x : List ℕ). overwrite x to ys) behind ∙ overwrite-ahead s to (length ys) ys (between ++ xs) refl (omega arith)

  first-first : overwrite (overwrite s to ys) at xs ≡ overwrite s to (ys ++ (between ++ xs))
  first-first =
      let put : List ℕ = overwrite s to ys in
      let long : length put ≡ length s = overwrite-length s to ys (omega arith) in
      let kept : part put (to + length ys) gap ≡ between = part-after s to ys (omega arith) (to + length ys) gap (omega arith) in
      let same : overwrite put (to + length ys) (part put (to + length ys) gap) ≡ put = overwrite-same put (to + length ys) gap (omega arith) in
      let more : overwrite put (to + length ys) between ≡ overwrite s to (ys ++ between) = overwrite-then s to (length ys) ys between refl (omega (arith, between-length)) in
      let whole : put ≡ overwrite s to (ys ++ between) = sym same ∙ ap (overwrite put (to + length ys)) kept ∙ more in
      let end : to + (length ys + gap) ≡ at = omega arith in
      let size : length (ys ++ between) ≡ length ys + gap = length-append ys between ∙ omega (arith, between-length) in
      ap (λ (x : List ℕ). overwrite x at xs) whole ∙ ap (λ (i : ℕ). overwrite (overwrite s to (ys ++ between)) i xs) (sym end)
      ∙ overwrite-then s to (length ys + gap) (ys ++ between) xs size (omega arith) ∙ ap (overwrite s to) (append_assoc ys between xs)

  pub overwrite-before : overwrite (overwrite s at xs) to ys ≡ overwrite (overwrite s to ys) at xs
  overwrite-before = first-last ∙ sym first-first

-- ---- a field over a block

-- bytes put over bytes that were put
overwrite-in : (s : List ℕ) (at : ℕ) (block : List ℕ) (k : ℕ) (vs : List ℕ) → k + length vs ≤ length block → at + length block ≤ length s
    → overwrite (overwrite s at block) (at + k) vs ≡ overwrite s at (overwrite block k vs)
unfolding overwrite
overwrite-in s at block k vs h l =
    let before : List ℕ = take at s in
    let behind : List ℕ = drop (at + length block) s in
    let n : length before ≡ at = length-take-le at s (omega arith) in
    let whole : overwrite s at block ≡ before ++ (block ++ behind) = append_assoc before block behind in
    let front : take (at + k) (before ++ (block ++ behind)) ≡ before ++ take k block =
    ap (λ (i : ℕ). take (i + k) (before ++ (block ++ behind))) (sym n) ∙ take-append-add before (block ++ behind) k
    ∙ ap (λ (x : List ℕ). before ++ x) (take-append-le k block behind (omega arith)) in
    let rest : drop (at + k + length vs) (before ++ (block ++ behind)) ≡ drop (k + length vs) block ++ behind =
    ap (λ (i : ℕ). drop i (before ++ (block ++ behind))) (add_assoc at k (length vs) ∙ ap (λ (i : ℕ). i + (k + length vs)) (sym n))
    ∙ drop-append-add before (block ++ behind) (k + length vs) ∙ drop-append-le (k + length vs) block behind h in
    let same : length (overwrite block k vs) ≡ length block = overwrite-length block k vs h in
    rw (whole, front, rest, same) (simp append_assoc)

-- a block of n bytes that was put into s
pub record Block (s : List ℕ) (at n : ℕ) (block t : List ℕ) : Type 0 where
  pub is : t ≡ overwrite s at block
  pub long : length block ≡ n
  pub room : at + n ≤ length s

pub Block-zeros : {s : List ℕ} {at n : ℕ} {t : List ℕ} {r : Bool} → Edited (fits s at n) s at (zeros n) r t → at + n ≤ length s → Block s at n (zeros n) t
Block-zeros {n = n} e h = record { is = Edited-fits n e h; long = length-replicate n 0; room = h }

-- a number of w bytes put into it
pub Block-put : {s : List ℕ} {at n : ℕ} {block t : List ℕ} (k w v : ℕ) {u : List ℕ} {r : Bool} → Block s at n block t → Edited (fits t (at + k) w) t (at + k) (bytes w v) r u → k + w ≤ n
    → Block s at n (put k w v block) u
Block-put {s} {at} {n} {block} {t} k w v b e h =
    let m : length (bytes w v) ≡ w = length-bytes w v in
    let same : length t ≡ length s = ap length b.is ∙ overwrite-length s at block (omega (arith, b.long, b.room)) in
    let fit : k + length (bytes w v) ≤ length block = omega (arith, b.long) in
    record {
      is = Edited-fits w e (omega (arith, b.room)) ∙ ap (λ (x : List ℕ). overwrite x (at + k) (bytes w v)) b.is ∙ overwrite-in s at block k (bytes w v) fit (omega (arith, b.long, b.room));
      long = overwrite-length block k (bytes w v) fit ∙ b.long;
      room = b.room;
    }

-- ---- a part with zeros behind it

pub filled-behind : (s : List ℕ) (at : ℕ) (part : List ℕ) (n : ℕ) {t u : List ℕ} → t ≡ overwrite s at part → length part ≡ n → u ≡ overwrite t (at + n) (zeros (padded n - n))
    → at + padded n ≤ length s → u ≡ overwrite s at (filled part)
unfolding filled
filled-behind s at part n e l f h =
    let z : length (zeros (padded n - n)) ≡ padded n - n = length-replicate (padded n - n) 0 in
    f ∙ ap (λ (x : List ℕ). overwrite x (at + n) (zeros (padded n - n))) e ∙ overwrite-then s at n part (zeros (padded n - n)) l (omega arith)
    ∙ ap (λ (i : ℕ). overwrite s at (part ++ zeros (padded i - i))) (sym l)

-- the same where bytes have been put behind both
pub filled-before : (s : List ℕ) (at : ℕ) (part : List ℕ) (n to : ℕ) (vs : List ℕ) {t u : List ℕ} → t ≡ overwrite (overwrite s at part) to vs → length part ≡ n
    → u ≡ overwrite t (at + n) (zeros (padded n - n)) → at + padded n ≤ to → to + length vs ≤ length s → u ≡ overwrite (overwrite s at (filled part)) to vs
filled-before s at part n to vs e l f apart h =
    let z : length (zeros (padded n - n)) ≡ padded n - n = length-replicate (padded n - n) 0 in
    let long : length (overwrite s at part) ≡ length s = overwrite-length s at part (omega arith) in
    f ∙ ap (λ (x : List ℕ). overwrite x (at + n) (zeros (padded n - n))) e
    ∙ overwrite-before (overwrite s at part) to vs (at + n) (zeros (padded n - n)) (omega arith) (omega arith)
    ∙ ap (λ (x : List ℕ). overwrite x to vs) (filled-behind s at part n refl l refl (omega arith))

-- ---- parts one behind the other

-- of `all`, which goes over d from `at` on, the bytes before `next` are written, and `rest` is left
pub record Writing (d : List ℕ) (at : ℕ) (all b : List ℕ) (next : ℕ) (rest : List ℕ) : Type 0 where
  pub done : List ℕ
  pub same : length b ≡ length d
  pub next-is : next ≡ at + length done
  pub is : b ≡ overwrite d at done
  pub whole : all ≡ done ++ rest
  pub room : at + length all ≤ length d

pub writing_start : (d : List ℕ) (at : ℕ) (all : List ℕ) → at + length all ≤ length d → Writing d at all d at all
writing_start d at all h = record { done = []; same = refl; next-is = omega arith; is = sym (overwrite-none d at); whole = refl; room = h }

module _ {d : List ℕ} {at : ℕ} {all b : List ℕ} {next : ℕ} {rest : List ℕ} (w : Writing d at all b next rest) where
  -- what is left has room
  pub Writing-room : next + length rest ≤ length b
  Writing-room =
      let l = ap length w.whole ∙ length-append w.done rest in
      omega (arith, w.room, w.next-is, w.same)

  -- one part more, of n bytes
  pub Writing-turn : (one left : List ℕ) (n : ℕ) {t : List ℕ} → rest ≡ one ++ left → length one ≡ n → t ≡ overwrite b next one → Writing d at all t (next + n) left
  Writing-turn one left n {t} step l e =
      let whole : all ≡ (w.done ++ one) ++ left = w.whole ∙ ap (λ (x : List ℕ). w.done ++ x) step ∙ sym (append_assoc w.done one left) in
      let size : length (w.done ++ one) ≡ length w.done + n = length-append w.done one ∙ omega arith in
      let sum : length all ≡ length (w.done ++ one) + length left = ap length whole ∙ length-append (w.done ++ one) left in
      let fit : at + (length w.done + n) ≤ length d = omega (arith, w.room) in
      record {
        done = w.done ++ one;
        same = ap length e ∙ overwrite-length b next one (omega (arith, w.same, w.next-is)) ∙ w.same;
        next-is = omega (arith, w.next-is);
        is =
            e ∙ ap (λ (x : List ℕ). overwrite x next one) w.is ∙ ap (λ (i : ℕ). overwrite (overwrite d at w.done) i one) w.next-is
            ∙ overwrite-then d at (length w.done) w.done one refl (omega arith);
        whole = whole;
        room = w.room;
      }

  -- nothing is left
  pub Writing-end : rest ≡ [] → b ≡ overwrite d at all
  Writing-end e = w.is ∙ ap (overwrite d at) (sym (w.whole ∙ ap (λ (x : List ℕ). w.done ++ x) e ∙ append-nil w.done))

-- the last part is all that is left
pub Writing-last : {d : List ℕ} {at : ℕ} {all b : List ℕ} {next : ℕ} {rest t : List ℕ} → Writing d at all b next rest → t ≡ overwrite b next rest → t ≡ overwrite d at all
Writing-last {rest = rest} w e = Writing-end (Writing-turn w rest [] (length rest) (sym (append-nil rest)) refl e) refl

-- ---- two runs of parts, the second behind the first, written by turns

pub record Both (d : List ℕ) (table : ℕ) (entries : List ℕ) (at : ℕ) (items b : List ℕ) (entry : ℕ) (entries-left : List ℕ) (next : ℕ) (items_left : List ℕ) : Type 0 where
  -- with the entries alone
  pub tabled : List ℕ
  pub first : Writing d table entries tabled entry entries-left
  pub second : Writing tabled at items b next items_left
  pub apart : table + length entries ≤ at

pub both-start : (d : List ℕ) (table : ℕ) (entries : List ℕ) (at : ℕ) (items : List ℕ) → table + length entries ≤ at → at + length items ≤ length d
    → Both d table entries at items d table entries at items
both-start d table entries at items h l =
    record { tabled = d; first = writing_start d table entries (omega arith); second = writing_start d at items l; apart = h }

-- bytes put before all that is written
Writing-under : {d : List ℕ} {at : ℕ} {all b : List ℕ} {next : ℕ} {rest t : List ℕ} → Writing d at all b next rest → (to : ℕ) (ys : List ℕ) → to + length ys ≤ at → t ≡ overwrite b to ys
    → Writing (overwrite d to ys) at all t next rest
Writing-under {d} {at} {all} {b} {next} {rest} w to ys h e =
    let sum : length all ≡ length w.done + length rest = ap length w.whole ∙ length-append w.done rest in
    let before : length (overwrite b to ys) ≡ length b = overwrite-length b to ys (omega (arith, w.room, w.same)) in
    let after : length (overwrite d to ys) ≡ length d = overwrite-length d to ys (omega (arith, w.room)) in
    record {
      done = w.done;
      same = ap length e ∙ before ∙ w.same ∙ sym after;
      next-is = w.next-is;
      is = e ∙ ap (λ (x : List ℕ). overwrite x to ys) w.is ∙ overwrite-before d at w.done to ys h (omega (arith, w.room));
      whole = w.whole;
      room = rw after w.room;
    }

module _ {d : List ℕ} {table : ℕ} {entries : List ℕ} {at : ℕ} {items b : List ℕ} {entry : ℕ} {entries-left : List ℕ} {next : ℕ} {items_left : List ℕ}
    (w : Both d table entries at items b entry entries-left next items_left) where
  pub both-same : length b ≡ length d
  both-same = w.second.same ∙ w.first.same

  pub entries_room : entry + length entries-left ≤ at
  entries_room =
      let l = ap length w.first.whole ∙ length-append w.first.done entries-left in
      omega (arith, w.first.next-is, w.apart)

  pub entries_fit : entry + length entries-left ≤ length b
  entries_fit = omega (arith, entries_room, w.second.room, w.second.same)

  pub items_room : next + length items_left ≤ length b
  items_room = Writing-room w.second

  -- one entry more, and one item more
  pub both_entry : (one more : List ℕ) (n : ℕ) {t : List ℕ} → entries-left ≡ one ++ more → length one ≡ n → t ≡ overwrite b entry one
      → Both d table entries at items t (entry + n) more next items_left
  both_entry one more n step l e =
      let long : length entries-left ≡ length one + length more = ap length step ∙ length-append one more in
      record {
        tabled = overwrite w.tabled entry one;
        first = Writing-turn w.first one more n step l refl;
        second = Writing-under w.second entry one (omega (arith, entries_room)) e;
        apart = w.apart;
      }

  pub both-item : (one more : List ℕ) (n : ℕ) {t : List ℕ} → items_left ≡ one ++ more → length one ≡ n → t ≡ overwrite b next one
      → Both d table entries at items t entry entries-left (next + n) more
  both-item one more n step l e = record { tabled = w.tabled; first = w.first; second = Writing-turn w.second one more n step l e; apart = w.apart }

  pub both_end : entries-left ≡ [] → items_left ≡ [] → b ≡ overwrite (overwrite d table entries) at items
  both_end e f = Writing-end w.second f ∙ ap (λ (x : List ℕ). overwrite x at items) (Writing-end w.first e)
