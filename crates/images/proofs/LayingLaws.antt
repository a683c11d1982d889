-- A loop that writes the items of a list, and the address of each into a table before them.
use mathlib.Core.Path.{◌≡◌, refl, sym, ap, ◌∙◌}
use mathlib.Core.Bool.{Bool}
use mathlib.Core.List.{List, ◌++◌}
use Prim.Native.Nat.{ℕ, ◌+◌, ◌*◌, ◌-◌, ◌≤◌, ◌<◌}
use native.Mathlib.Omega.{arith}
use lib.ListN.{length, take, drop, length-append}
use Rattle.sections.specs.Edit.{overwrite, fits, Edited}
use Rattle.sections.specs.Le.{bytes}
use Rattle.sections.proofs.EditLaws.{overwrite-length, Edited-fits}
use Rattle.sections.proofs.LeLaws.{length-bytes}
use Rattle.vertices.specs.Runs.{run}
use Rattle.halls.specs.Every.{sum_of}
use Rattle.halls.specs.ImageSize.{padded}
use Rattle.halls.proofs.WalkLaws.{slice-rest}
use Rattle.images.specs.Fronts.{items_from, items_length, image_limit, Room, WrittenItem, with_items}
use Rattle.images.specs.Image.{base, zeros, addresses, laid}
use Rattle.images.specs.declared.parts.Measured.{Measured}
use Rattle.images.proofs.LengthLaws.{laid-length}
use Rattle.images.proofs.PartLaws.{Both, both-start, entries_fit, items_room, both_entry, both-item, both_end, filled-before}
use Rattle.images.proofs.SizeLaws.{pointers-length}
use Rattle.images.proofs.WalkLaws.{MeasuredAt, Walking, items-none, items_count, walk_start, walk-measured, walk-fits, walk-size, walk_turn, walk-left}

pub record Laying {A : Type 0} (front : List ℕ → A) (len : List ℕ → ℕ) (size : A → ℕ) (image : ℕ → A → List ℕ) (s : List ℕ) (k : ℕ) (d : List ℕ) (table at : ℕ) (b : List ℕ) (left place next entry : ℕ) : Type 0 where
  pub walking : Walking front len size s k at left place next
  pub both : Both d table (run 8 (addresses size at (items_from front len k s))) at (laid size image at (items_from front len k s)) b
      entry (run 8 (addresses size next (items_from front len left (drop place s)))) next (laid size image next (items_from front len left (drop place s)))
  pub low : at + sum_of size (items_from front len k s) ≤ image_limit

entries-length : {A : Type 0} (front : List ℕ → A) (len : List ℕ → ℕ) (size : A → ℕ) (at k : ℕ) (s : List ℕ) → length (run 8 (addresses size at (items_from front len k s))) ≡ 8 * k
entries-length front len size at k s = pointers-length size at (items_from front len k s) ∙ ap (λ (n : ℕ). 8 * n) (items_count front len k s)

module _ {A : Type 0} {front : List ℕ → A} {len : List ℕ → ℕ} {size : A → ℕ} {image : ℕ → A → List ℕ} (sized : (at : ℕ) (x : A) → length (image at x) ≡ size x) where
  pub Laying-start : (s : List ℕ) (k : ℕ) (d : List ℕ) (table at : ℕ) → items_length len k s ≤ length s → Room at (sum_of size (items_from front len k s)) d → table + padded (8 * k) ≤ at
      → Laying front len size image s k d table at d k 0 at table
  Laying-start s k d table at h r apart =
      let entries : List ℕ = run 8 (addresses size at (items_from front len k s)) in
      let items : List ℕ = laid size image at (items_from front len k s) in
      let n : length entries ≡ 8 * k = entries-length front len size at k s in
      let m : length items ≡ sum_of size (items_from front len k s) = laid-length size image sized at (items_from front len k s) in
      record { walking = walk_start front len size s k at h; both = both-start d table entries at items (omega arith) (omega (arith, r.fits)); low = r.low }

  -- before the first of k turns
  pub Laying-first : (s : List ℕ) (k : ℕ) (d : List ℕ) (table at : ℕ) → items_length len k s ≤ length s → Room at (sum_of size (items_from front len k s)) d → table + padded (8 * k) ≤ at
      → Laying front len size image s k d table at d (k - 0) 0 at (table + 8 * 0)
  Laying-first s k d table at h r apart =
      let all : k - 0 ≡ k = omega arith in
      let first : table + 8 * 0 ≡ table = omega arith in
      rw (all, first) (Laying-start s k d table at h r apart)

  module _ {s : List ℕ} {k : ℕ} {d : List ℕ} {table at : ℕ} {b : List ℕ} {left place next entry : ℕ} (w : Laying front len size image s k d table at b left place next entry) where
    module _ (more : 0 < left) where
      next_address : (l : ℕ) → l ≡ len (drop place s)
          → run 8 (addresses size next (items_from front len left (drop place s)))
          ≡ bytes 8 (base + next) ++ run 8 (addresses size (next + size (front (drop place s))) (items_from front len (left - 1) (drop (place + l) s)))
      unfolding addresses run
      next_address l e = ap (λ (xs : List A). run 8 (addresses size next xs)) (walk-left w.walking more l e)

      next-item : (l : ℕ) → l ≡ len (drop place s)
          → laid size image next (items_from front len left (drop place s))
          ≡ image next (front (drop place s)) ++ laid size image (next + size (front (drop place s))) (items_from front len (left - 1) (drop (place + l) s))
      unfolding laid
      next-item l e = ap (laid size image next) (walk-left w.walking more l e)

      pub address_low : next ≤ 67108864
      address_low = omega (arith, walk-size w.walking more, w.low)

      pub address_room : entry + 8 ≤ length b
      address_room =
          let e = ap length (next_address (len (drop place s)) refl) ∙ length-append (bytes 8 (base + next)) _ in
          omega (arith, entries_fit w.both, length-bytes 8 (base + next))

      -- its address is put
      module _ {address : ℕ} {r : Bool} {t : List ℕ} (a : address ≡ base + next) (e : Edited (fits b entry 8) b entry (bytes 8 address) r t) where
        put : t ≡ overwrite b entry (bytes 8 (base + next))
        put = Edited-fits 8 e address_room ∙ ap (λ (x : ℕ). overwrite b entry (bytes 8 x)) a

        pub item_room : Room next (size (front (take (length s - place) (drop place s)))) t
        item_room =
            let rest : List ℕ = laid size image (next + size (front (drop place s))) (items_from front len (left - 1) (drop (place + len (drop place s)) s)) in
            let l = ap length (next-item (len (drop place s)) refl) ∙ length-append (image next (front (drop place s))) rest in
            let same : length t ≡ length b = ap length put ∙ overwrite-length b entry (bytes 8 (base + next)) (omega (arith, address_room, length-bytes 8 (base + next))) in
            rw (slice-rest s place)
            (record { fits = omega (arith, items_room w.both, sized next (front (drop place s))); low = omega (arith, walk-size w.walking more, w.low) })

        -- and its image
        module _ {m : Measured} {u : List ℕ} (q : WrittenItem front len size image (take (length s - place) (drop place s)) next t m u) where
          pub item-measured : MeasuredAt front len size (drop place s) m
          item-measured = walk-measured w.walking q.measured

          pub item-place : place + m.«length» ≤ length s
          item-place = omega (arith, walk-fits w.walking more, item-measured.length-is)

          pub item-next : next + m.size ≤ 67108864
          item-next = omega (arith, walk-size w.walking more, item-measured.size_is, w.low)

          pub Laying-turn : Laying front len size image s k d table at u (left - 1) (place + m.«length») (next + m.size) (entry + 8)
          Laying-turn =
              let l = item-measured.length-is in
              let z = sym item-measured.size_is in
              let rest : List A = items_from front len (left - 1) (drop (place + m.«length») s) in
              let one : List ℕ = image next (front (drop place s)) in
              let written : u ≡ overwrite t next one = rw (slice-rest s place) at q.bytes in
              let Address-step = next_address m.«length» l ∙ ap (λ (i : ℕ). bytes 8 (base + next) ++ run 8 (addresses size (next + i) rest)) z in
              let item-step = next-item m.«length» l ∙ ap (λ (i : ℕ). one ++ laid size image (next + i) rest) z in
              let pointed = both_entry w.both (bytes 8 (base + next)) _ 8 Address-step (length-bytes 8 (base + next)) put in
              record {
                walking = walk_turn w.walking more m.«length» m.size l item-measured.size_is;
                both = both-item pointed one _ m.size item-step (sized next (front (drop place s)) ∙ z) written;
                low = w.low;
              }

    -- after the last: zeros behind the table
    pub Laying-end : left ≤ 0 → {u : List ℕ} → u ≡ overwrite b (table + 8 * k) (zeros (padded (8 * k) - 8 * k)) → Room at (sum_of size (items_from front len k s)) d → table + padded (8 * k) ≤ at
        → u ≡ with_items size image d table at (items_from front len k s)
    unfolding laid addresses run
    Laying-end none e r apart =
        let nothing = items-none front len left (drop place s) none in
        let m = laid-length size image sized at (items_from front len k s) in
        let end = both_end w.both (ap (λ (xs : List A). run 8 (addresses size next xs)) nothing) (ap (laid size image next) nothing) in
        filled-before d table _ (8 * k) at _ end (entries-length front len size at k s) e apart (omega (arith, r.fits))

  -- the turn of the item behind the first i
  pub Laying-next : {s : List ℕ} {k : ℕ} {d : List ℕ} {table at : ℕ} {b : List ℕ} {i place next : ℕ} → Laying front len size image s k d table at b (k - i) place next (table + 8 * i) → i < k
      → {address : ℕ} {r : Bool} {t : List ℕ} → address ≡ base + next → Edited (fits b (table + 8 * i) 8) b (table + 8 * i) (bytes 8 address) r t
      → {m : Measured} {u : List ℕ} → WrittenItem front len size image (take (length s - place) (drop place s)) next t m u
      → Laying front len size image s k d table at u (k - (i + 1)) (place + m.«length») (next + m.size) (table + 8 * (i + 1))
  Laying-next {k = k} {table = table} {i = i} w h a e q =
      let more : 0 < k - i = omega arith in
      let left : k - (i + 1) ≡ k - i - 1 = omega arith in
      let entry : table + 8 * (i + 1) ≡ table + 8 * i + 8 = omega arith in
      rw (left, entry) (Laying-turn w more a e q)
