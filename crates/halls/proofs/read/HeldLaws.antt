-- The bytes of a view's indices, by their width.
use Rattle.std.specs.Prelude.{Option, None, Some}
use Rattle.std.specs.Option.{option_map_or}
use mathlib.Core.Path.{◌≡◌, refl, sym, ap, ◌∙◌}
use mathlib.Core.List.{List, [], ◌++◌}
use Prim.Native.Nat.{ℕ, ◌+◌, ◌*◌, ◌^◌, ◌<◌, ◌≤◌}
use native.Mathlib.Omega.{arith}
use lib.ListN.{length, get_or}
use lib.Seq.{take_all}
use Rattle.sections.specs.Edit.{overwrite}
use Rattle.sections.specs.Le.{bytes}
use Rattle.sections.proofs.EditLaws.{overwrite-then}
use Rattle.vertices.specs.Runs.{numbers, run}
use Rattle.vertices.proofs.RunLaws.{length_run, numbers-length, run-numbers}
use Rattle.halls.specs.List.{Indices, record_bytes, indices_record}
use Rattle.halls.specs.Inner.View.{HeldIn, index_bytes, held_count, indices_in}
use Rattle.halls.specs.declared.read.view.IndexItems.{IndexItems}
use Rattle.halls.specs.declared.read.view.IndexView.{IndexView}
use Rattle.halls.specs.declared.read.view.IndexWidth.{IndexWidth}
use Rattle.halls.specs.declared.read.view.IndexWidth.TheVariants.{Two, Four}

abbrev items_of : ℕ → List ℕ → Option IndexItems → List ℕ
items_of count b o = option_map_or (λ (i : IndexItems). numbers (index_bytes i.width) count b) o []

items_long : (count : ℕ) (b : List ℕ) (o : Option IndexItems) → length (items_of count b o) ≡ option_map_or (λ (i : IndexItems). count) o 0
items_long count b None = refl
items_long count b (Some i) = numbers-length (index_bytes i.width) count b

few_held : (count n : ℕ) (o : Option IndexItems) → n ≡ option_map_or (λ (i : IndexItems). count * index_bytes i.width) o 0 → n < 2 ^ 30 → option_map_or (λ (i : IndexItems). count) o 0 < 2 ^ 29
few_held count n None e h = omega arith
few_held count n (Some i) e h = by_width i.width e
  where
    by_width : (w : IndexWidth) → n ≡ count * index_bytes w → count < 2 ^ 29
    by_width Two e = omega arith
    by_width Four e = omega arith

-- the items are of one of the two widths
by_widths : (o : Option IndexItems) → ((i : IndexItems) → o ≡ Some i → i.width ≡ Two → ⊥) → ((i : IndexItems) → o ≡ Some i → i.width ≡ Four → ⊥) → o ≡ None
by_widths None f g = refl
by_widths (Some i) f g = absurd (either i.width refl)
  where
    either : (w : IndexWidth) → i.width ≡ w → ⊥
    either Two e = f i refl e
    either Four e = g i refl e

module _ (v : IndexView) (b : List ℕ) where
  pub no_items : v.items ≡ None → (indices_in v b).items ≡ []
  unfolding indices_in
  no_items e = rw e

  -- of neither width: there are none
  pub no_width : ((i : IndexItems) → v.items ≡ Some i → i.width ≡ Two → ⊥) → ((i : IndexItems) → v.items ≡ Some i → i.width ≡ Four → ⊥) → v.items ≡ None
  no_width f g = by_widths v.items f g

  -- of a view that has some
  module _ (i : IndexItems) (e : v.items ≡ Some i) where
    pub items_by : (indices_in v b).items ≡ numbers (index_bytes i.width) v.count b
    unfolding indices_in
    items_by = rw e

    pub held_by_lem : held_count v ≡ v.count
    held_by_lem = rw e

    pub long_by : HeldIn v b → length b ≡ v.count * index_bytes i.width
    long_by h = h.long ∙ rw e

    -- indices of four bytes are written as they are
    pub four_bytes : ((j : ℕ) → get_or b j 0 < 256) → i.width ≡ Four → HeldIn v b → b ≡ run 4 (indices_in v b).items
    four_bytes low w h =
        let n : length b ≡ v.count * 4 = long_by h ∙ ap (λ (k : IndexWidth). v.count * index_bytes k) w in
        sym (ap (run 4) (items_by ∙ ap (λ (k : IndexWidth). numbers (index_bytes k) v.count b) w) ∙ run-numbers 4 v.count b low (omega arith) ∙ take_all (v.count * 4) b (omega arith))

  pub items_length_lem : length (indices_in v b).items ≡ held_count v
  unfolding indices_in
  items_length_lem = items_long v.count b v.items

  pub held-few : HeldIn v b → held_count v < 2 ^ 29
  held-few h = few_held v.count (length b) v.items h.long h.few

-- the parts that are put, one behind the other
pub index-parts : (i : Indices) → ((bytes 4 (4 + 4 * length i.items) ++ bytes 2 5) ++ bytes 4 i.count) ++ run 4 i.items ≡ indices_record i
unfolding indices_record record_bytes bytes
index-parts i =
    let body : List ℕ = bytes 4 i.count ++ run 4 i.items in
    let q : 4 + 4 * length i.items ≡ length body = omega (arith, length_run 4 i.items) in
    ap (λ n. bytes 4 n ++ (bytes 2 5 ++ body)) q

-- the counts, and the indices right behind them
pub Record-put : (s : List ℕ) (at : ℕ) (i : Indices) {t v : List ℕ} → at + (10 + 4 * length i.items) ≤ length s → t ≡ overwrite s at ((bytes 4 (4 + 4 * length i.items) ++ bytes 2 5) ++ bytes 4 i.count)
    → v ≡ overwrite t (at + 10) (run 4 i.items) → v ≡ overwrite s at (indices_record i)
unfolding bytes
Record-put s at i room e f =
    f ∙ ap (λ (l : List ℕ). overwrite l (at + 10) (run 4 i.items)) e ∙ overwrite-then s at 10 _ (run 4 i.items) refl (omega (arith, length_run 4 i.items, room))
    ∙ ap (overwrite s at) (index-parts i)
