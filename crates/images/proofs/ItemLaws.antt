-- Items of a kind, and the same known by the list from their front on.
use mathlib.Core.Path.{◌≡◌, refl, ap, ◌∙◌}
use mathlib.Core.List.{List, ◌∷◌, ◌++◌}
use Prim.Native.Nat.{ℕ, zero, suc, ◌+◌, ◌*◌, ◌≤◌}
use lib.ListN.{length}
use Rattle.halls.specs.Every.{sum_of}
use Rattle.halls.specs.ImageSize.{padded}
use Rattle.images.specs.Fronts.{items_from, items_length, Room, RoomBehind, WrittenItems, here}
use Rattle.images.specs.Image.{base, addresses, laid}
use Rattle.images.specs.declared.items.Items.{Items}
use Rattle.images.specs.declared.parts.Measured.{Measured}

module _ {A : Type 0} (front : List ℕ → A) (len : List ℕ → ℕ) (size : A → ℕ) where
  sum-here : (k : ℕ) (s : List ℕ) → sum_of (λ t. size (front t)) (items_from here len k s) ≡ sum_of size (items_from front len k s)
  unfolding items_from sum_of
  sum-here zero s = refl
  sum-here (suc k) s = ap (λ (n : ℕ). size (front s) + n) (sum-here k _)

  addresses-here : (at k : ℕ) (s : List ℕ) → addresses (λ t. size (front t)) at (items_from here len k s) ≡ addresses size at (items_from front len k s)
  unfolding items_from addresses
  addresses-here at zero s = refl
  addresses-here at (suc k) s = ap (λ (xs : List ℕ). (base + at) ∷ xs) (addresses-here (at + size (front s)) k _)

  pub room-here : (i : Items) {out : List ℕ} → items_length len i.count i.list.now ≤ length i.list.now → Room i.at (sum_of size (items_from front len i.count i.list.now)) out
      → i.table + padded (8 * i.count) ≤ i.at → RoomBehind len (λ t. size (front t)) i out
  room-here i h r apart = record { within = h; room = rw (sum-here i.count i.list.now) r; apart = apart }

  module _ (image : ℕ → A → List ℕ) where
    laid-here : (at k : ℕ) (s : List ℕ) → laid (λ t. size (front t)) (λ i t. image i (front t)) at (items_from here len k s) ≡ laid size image at (items_from front len k s)
    unfolding items_from laid
    laid-here at zero s = refl
    laid-here at (suc k) s = ap (λ (xs : List ℕ). image at (front s) ++ xs) (laid-here (at + size (front s)) k _)

    pub written-here : (i : Items) {d : List ℕ} {r : Measured} {t : List ℕ}
        → WrittenItems here len (λ t. size (front t)) (λ i t. image i (front t)) i d r t → WrittenItems front len size image i d r t
    written-here i q =
        record {
          measured = q.measured ∙ rw (sum-here i.count i.list.now);
          bytes = q.bytes ∙ rw (addresses-here i.at i.count i.list.now, laid-here i.at i.count i.list.now);
        }
