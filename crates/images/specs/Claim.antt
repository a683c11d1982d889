-- The claim about every list of the seven hall calls (demand 3). `EveryList.every-list` proves it.
use Rattle.std.specs.Prelude.{◌≡◌, List, [], ℕ, ◌≤◌, length, take}
use Rattle.sections.specs.Address.{sections}
use Rattle.sections.specs.Edit.{overwrite}
use Rattle.halls.specs.Calls.{take_in}
use Rattle.halls.specs.State.{hall_of}
use Rattle.halls.specs.Step.{Stepped}
use Rattle.std.specs.Prelude.{Result, Ok}
use Rattle.halls.specs.declared.answer.Refusal.{Refusal}
use Rattle.images.specs.Image.{image, base}
use Rattle.images.specs.Saving.{Saved}
use Rattle.images.specs.Runs.{Made, Ran, buffer_after, n_after, state_after, Agrees}

-- A list of calls, accepted or refused, from the empty hall in one buffer of any length and content.
pub record CallList : Type 0 where
  pub first : List ℕ
  pub made : List Made
  pub ran : Ran first 0 made

-- the buffer, n and hall that it leaves
abbrev pub buffer_of : CallList → List ℕ
buffer_of l = buffer_after l.first l.made

abbrev pub n_of : CallList → ℕ
n_of l = n_after 0 l.made

abbrev pub bytes_of : CallList → List ℕ
bytes_of l = take (n_of l) (buffer_of l)

-- the image of the abstract state given the same calls
abbrev pub image_of : CallList → List ℕ
image_of l = image (hall_of (state_after (length l.first) [] l.made))

-- An image that was saved: save accepted the hall that the list left, and these are the first bytes of the image buffer afterwards, as many as it answered.
pub record SavedImage (l : CallList) (v : List ℕ) : Type 0 where
  pub room : List ℕ
  pub size : ℕ
  pub left : List ℕ
  pub saved : Saved (buffer_of l) (n_of l) room (Ok size) left
  pub bytes : v ≡ take size left

-- Two halls are equal when their n and their n bytes are.
pub record SameHall (l k : CallList) : Type 0 where
  pub long : n_of l ≡ n_of k
  pub bytes : bytes_of l ≡ bytes_of k

pub record Claim : Type 0 where
  -- Every answer, n and the first n bytes equal those of the abstract state given the same calls.
  pub agrees : (l : CallList) → Agrees l.first l.first 0 0 [] l.made
  -- That hall saves into every image buffer long enough. (`Saved` is what save ensures.)
  pub saves : (l : CallList) (d : List ℕ) (r : Result ℕ Refusal) (t : List ℕ) → Saved (buffer_of l) (n_of l) d r t → length (image_of l) ≤ length d
      → (r ≡ Ok (length (image_of l))) × (t ≡ overwrite d 0 (image_of l))
  -- Its image, taken in over any hall that such a list leaves in a buffer long enough, gives the same hall.
  pub returns : (l k : CallList) (v : List ℕ) → SavedImage l v → n_of l ≤ length (buffer_of k) → (r : Result ℕ Refusal) (t : List ℕ)
      → Stepped (take_in (sections v []) base) (buffer_of k) (n_of k) r t → (r ≡ Ok (n_of l)) × (take (n_of l) t ≡ bytes_of l)
  -- Two such lists save equal images exactly when their halls are equal.
  pub equal_images : (l k : CallList) (v w : List ℕ) → SavedImage l v → SavedImage k w → v ≡ w → SameHall l k
  pub equal_halls : (l k : CallList) (v w : List ℕ) → SavedImage l v → SavedImage k w → SameHall l k → v ≡ w
