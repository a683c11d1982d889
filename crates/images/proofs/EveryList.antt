-- Demand 3: the claim about every list of the seven hall calls.
use mathlib.Core.Path.{◌≡◌, sym, ap, subst, ◌∙◌}
use mathlib.Core.Bool.{Bool, true, false, cond}
use mathlib.Core.List.{List, []}
use Prim.Native.Nat.{ℕ, ◌+◌, ◌≤◌}
use native.Mathlib.Omega.{arith}
use borrow.Author.Tests.{le-leb}
use lib.Dec.{leb}
use lib.ListN.{length, take, drop}
use lib.Seq.{take_at}
use Rattle.sections.specs.Address.{sections}
use Rattle.sections.specs.Edit.{overwrite}
use Rattle.halls.specs.Calls.{take_in, proposed}
use Rattle.halls.specs.Hall.{hall_bytes}
use Rattle.halls.specs.Outcome.{Outcome, refusal, written, answer_of, after}
use Rattle.halls.specs.State.{State, hall_of, state_bytes, IsState}
use Rattle.halls.specs.Step.{Step, becomes, step_in, rewritten, step_answer, step_bytes, Stepped}
use Rattle.std.specs.Prelude.{Result, Ok}
use Rattle.halls.specs.declared.answer.Refusal.{Refusal}
use Rattle.halls.proofs.StateLaws.{state_of-hall, State-unique}
use Rattle.images.specs.Claim.{CallList, buffer_of, n_of, bytes_of, image_of, SavedImage, SameHall, Claim}
use Rattle.images.specs.Image.{image, base}
use Rattle.images.specs.Runs.{state_after}
use Rattle.images.specs.Saving.{saved, Saved}
use Rattle.images.proofs.ImageLaws.{image-taken, equal_images}
use Rattle.images.proofs.RunLaws.{held_bytes, held-length, held-state, held-verdict, held-hall, step_in_lem, held_start, run-agrees, Ended, run-ended}

-- ---- the end of a list

abbrev state_of_list : CallList → State
state_of_list l = state_after (length l.first) [] l.made

ended : (l : CallList) → Ended l.first (buffer_of l) (n_of l) (state_of_list l)
ended l = run-ended (held_start l.first) l.made l.ran

-- ---- saved

-- check 20 alone is left to ask
saved_where : Bool → List ℕ → Outcome
saved_where fits v = cond fits (written v) (refusal 20 (length v))

saved-where : (l : CallList) (room : ℕ) → saved (buffer_of l) (n_of l) room ≡ saved_where (leb (length (image_of l)) room) (image_of l)
unfolding saved saved_where
saved-where l room = rw (held-verdict (ended l).held, held-hall (ended l).held)

saved-is : (l : CallList) (room : ℕ) → length (image_of l) ≤ room → saved (buffer_of l) (n_of l) room ≡ written (image_of l)
unfolding saved_where
saved-is l room fit = saved-where l room ∙ rw (le-leb (length (image_of l)) room fit)

saves : (l : CallList) (d : List ℕ) (r : Result ℕ Refusal) (t : List ℕ) → Saved (buffer_of l) (n_of l) d r t → length (image_of l) ≤ length d
    → (r ≡ Ok (length (image_of l))) × (t ≡ overwrite d 0 (image_of l))
saves l d r t w fit =
    let is : saved (buffer_of l) (n_of l) (length d) ≡ written (image_of l) = saved-is l (length d) fit in
    (w.answer ∙ ap answer_of is, w.bytes ∙ ap (λ (o : Outcome). after o d) is)

-- an acceptance wrote the image, so that the bytes it speaks of are the image
accepted-bytes : (fits : Bool) (v d t : List ℕ) (size : ℕ) → Ok size ≡ answer_of (saved_where fits v) → t ≡ after (saved_where fits v) d → take size t ≡ v
unfolding saved_where overwrite
accepted-bytes true v d t size says wrote =
    let long : length v ≡ size = cc in
    rw wrote (take_at v (drop (0 + length v) d) size long)
accepted-bytes false v d t size says wrote = let clash : ◌≡◌ {A = ℕ} 0 1 = cc in absurd (omega arith)

SavedImage_lem : (l : CallList) (v : List ℕ) → SavedImage l v → v ≡ image_of l
SavedImage_lem l v x =
    let is = saved-where l (length x.room) in
    let says : Ok x.size ≡ answer_of (saved_where _ (image_of l)) = x.saved.answer ∙ ap answer_of is in
    let wrote : x.left ≡ after (saved_where _ (image_of l)) x.room = x.saved.bytes ∙ ap (λ (o : Outcome). after o x.room) is in
    x.bytes ∙ accepted-bytes _ (image_of l) x.room x.left x.size says wrote

-- ---- taken in over the hall of another list

step-becomes : (l k : CallList) → n_of l ≤ length (buffer_of k) → step_in (take_in (sections (image_of l) []) base) (buffer_of k) (n_of k) ≡ becomes (state_of_list l)
unfolding proposed state_bytes
step-becomes l k fit =
    let s : State = state_of_list l in
    let h = (ended l).held in
    let j = (ended k).held in
    let room : length (hall_bytes (hall_of s)) ≤ length (buffer_of k) = rw h.shows.long at fit in
    step_in_lem j _ ∙ rw (image-taken s h.InWidth_lem h.sound, h.sound, ← held-length j, le-leb (length (hall_bytes (hall_of s))) (length (buffer_of k)) room, state_of-hall s)

-- these bytes, taken in over the hall of k, give the hall of l
abbrev GivesBack : CallList → CallList → List ℕ → Type 0
GivesBack l k v =
    n_of l ≤ length (buffer_of k) → (r : Result ℕ Refusal) (t : List ℕ) → Stepped (take_in (sections v []) base) (buffer_of k) (n_of k) r t
    → (r ≡ Ok (n_of l)) × (take (n_of l) t ≡ bytes_of l)

returns : (l k : CallList) → GivesBack l k (image_of l)
unfolding rewritten
returns l k fit r t w =
    let s : State = state_of_list l in
    let h = (ended l).held in
    let is : step_in (take_in (sections (image_of l) []) base) (buffer_of k) (n_of k) ≡ becomes s = step-becomes l k fit in
    let left : t ≡ rewritten (buffer_of k) (n_of k) (state_bytes s) = w.bytes ∙ ap (λ (x : Step). step_bytes (buffer_of k) (n_of k) x) is in (
      w.answer ∙ ap step_answer is ∙ ap Ok (sym h.shows.long),
      rw left (take_at (state_bytes s) _ (n_of l) (sym h.shows.long)) ∙ sym (held_bytes h),
    )

-- ---- two lists

same_halls : (l k : CallList) → image_of l ≡ image_of k → SameHall l k
same_halls l k e =
    let h = (ended l).held in
    let j = (ended k).held in
    let same : state_of_list l ≡ state_of_list k = equal_images (state_of_list l) (state_of_list k) h.InWidth_lem h.sound j.InWidth_lem j.sound e in
    record {
      long = h.shows.long ∙ ap (λ (s : State). length (state_bytes s)) same ∙ sym j.shows.long;
      bytes = held_bytes h ∙ ap state_bytes same ∙ sym (held_bytes j);
    }

same_images : (l k : CallList) → SameHall l k → image_of l ≡ image_of k
same_images l k w =
    let there : IsState (bytes_of l) (state_of_list k) = rw w.bytes (held-state (ended k).held) in
    ap (λ (s : State). image (hall_of s)) (State-unique (bytes_of l) (state_of_list l) (state_of_list k) (held-state (ended l).held) there)

-- ---- the claim

pub every-list : Claim
every-list = record {
  agrees = λ l. run-agrees (held_start l.first) l.made l.ran;
  saves = saves;
  returns = λ l k v x. subst (GivesBack l k) (sym (SavedImage_lem l v x)) (returns l k);
  equal_images = λ l k v w x y e. same_halls l k (sym (SavedImage_lem l v x) ∙ e ∙ SavedImage_lem k w y);
  equal_halls = λ l k v w x y same. SavedImage_lem l v x ∙ same_images l k same ∙ sym (SavedImage_lem k w y);
}
