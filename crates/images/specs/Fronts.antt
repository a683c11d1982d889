-- A hall's list as save reads it: geometries and models from a place on, each passed by its own lengths. Private contracts speak of this; `ListLaws` ties it to the hall.
use Rattle.std.specs.Prelude.{◌≡◌, List, [], ◌∷◌, ◌++◌, ℕ, zero, suc, ◌+◌, ◌*◌, ◌≤◌, length, drop}
use Rattle.sections.specs.Edit.{part, overwrite}
use Rattle.sections.specs.Le.{field}
use Rattle.vertices.specs.Runs.{run}
use Rattle.halls.specs.Blocks.{ModelBlock, GeometryBlock, IndexBlock}
use Rattle.halls.specs.Checks.{geometry_count}
use Rattle.halls.specs.Every.{sum_of}
use Rattle.halls.specs.Fronts.{entries_at, content_at, held_at, front_geometry}
use Rattle.halls.specs.Hall.{FullGeometry, FullModel, Hall}
use Rattle.halls.specs.ImageSize.{padded, geometry_size, model_size, image_size}
use Rattle.halls.specs.Parsing.{model_in, models_in}
use Rattle.halls.specs.Records.{records}
use Rattle.halls.specs.Outcome.{answer_of, after}
use Rattle.std.specs.Prelude.{Result}
use Rattle.halls.specs.declared.answer.Refusal.{Refusal}
use Rattle.halls.specs.Verdict.{Sound}
use Rattle.images.specs.Image.{VertexBlock, base, addresses, filled, laid, geometry_block_bytes, geometry_image, model_image, pointer_to, vertex_block_bytes}
use Rattle.images.specs.Saving.{saved_by}
use Rattle.images.specs.declared.items.Items.{Items}
use Rattle.images.specs.declared.parts.Measured.{Measured}

-- ---- k items from the front on, by the one at the front and its length

unfoldable pub items_from : {A : Type 0} → (List ℕ → A) → (List ℕ → ℕ) → ℕ → List ℕ → List A
items_from front len zero s = []
items_from front len (suc k) s = front s ∷ items_from front len k (drop (len s) s)

unfoldable pub items_length : (List ℕ → ℕ) → ℕ → List ℕ → ℕ
items_length len zero s = 0
items_length len (suc k) s = len s + items_length len k (drop (len s) s)

-- ---- geometries

unfoldable pub geometry_length : List ℕ → ℕ
geometry_length s = 65 + content_at s + 4 * held_at s

abbrev pub geometries_from : ℕ → List ℕ → List FullGeometry
geometries_from k s = items_from front_geometry geometry_length k s

abbrev pub geometries_length : ℕ → List ℕ → ℕ
geometries_length k s = items_length geometry_length k s

abbrev pub geometries_size : ℕ → List ℕ → ℕ
geometries_size k s = sum_of geometry_size (geometries_from k s)

-- of one with so many vertex bytes and indices
abbrev pub measured_by : ℕ → ℕ → Measured
measured_by content held = record { «length» = 65 + content + 4 * held; size = 0x190 + padded content + padded (2 * held) }

-- ---- models: as many geometries as the mapping has entries

abbrev pub behind_record : List ℕ → List ℕ
behind_record s = drop (12 + 2 * entries_at s) s

unfoldable pub front_model : List ℕ → FullModel
front_model s = model_in (part s 6 (6 + 2 * entries_at s)) (geometries_from (entries_at s) (behind_record s))

unfoldable pub model_length : List ℕ → ℕ
model_length s = 12 + 2 * entries_at s + geometries_length (entries_at s) (behind_record s)

abbrev pub models_from : ℕ → List ℕ → Hall
models_from k s = items_from front_model model_length k s

abbrev pub models_length : ℕ → List ℕ → ℕ
models_length k s = items_length model_length k s

abbrev pub models_size : ℕ → List ℕ → ℕ
models_size k s = sum_of model_size (models_from k s)

-- ---- blocks, by the list's own fields

-- of the geometry at the front, which lies at `at`, with its index block at `index`
abbrev pub geometry_numbers : ℕ → ℕ → List ℕ → GeometryBlock
geometry_numbers at index s = record {
  vertex_block = base + (at + 0xA0);
  index_block = base + index;
  indices = field 4 s 8;
  triangles = field 4 s 12;
  vertices = field 2 s 16;
  stride = field 2 s 18;
  inline = 0;
}

abbrev pub vertex_numbers : ℕ → List ℕ → VertexBlock
vertex_numbers at s = record { stride = field 2 s 49; content = base + (at + 0x130); count = field 4 s 51; info = base + (at + 0x120) }

-- its parts before the vertex bytes
unfoldable pub head_parts : ℕ → ℕ → List ℕ → List ℕ
head_parts at index s = filled (geometry_block_bytes (geometry_numbers at index s)) ++ (vertex_block_bytes (vertex_numbers at s) ++ part s 26 16)

-- its index block, at `at`
abbrev pub index_numbers : ℕ → ℕ → List ℕ → IndexBlock
index_numbers at content s = record { count = field 4 s (61 + content); size = 0; legacy = base + (at + 0x60); sized = 0 }

-- of the model at the front, with so many geometries and a mapping at `mapping`
abbrev pub model_numbers : ℕ → ℕ → ℕ → List ℕ → ModelBlock
model_numbers at entries mapping s =
    record { geometries = pointer_to entries (at + 0x30); count = entries; mapping = pointer_to entries mapping; binding = field 4 s 6; mask = field 2 s 10 }

-- ---- room

-- the most bytes of an image (check 19)
abbrev pub image_limit : ℕ
image_limit = 67108864

-- bytes of the image end inside the buffer and below the limit
pub record Room (at n : ℕ) (out : List ℕ) : Type 0 where
  pub fits : at + n ≤ length out
  pub low : at + n ≤ image_limit

-- items of any kind, each known by the list from its front on
abbrev pub here : List ℕ → List ℕ
here s = s

-- their images are as long as is told, and what k + 1 of them are, the first is and the k others are
pub record ItemsFollow (len size : List ℕ → ℕ) (image : ℕ → List ℕ → List ℕ) (few : ℕ → List ℕ → Type 0) : Type 0 where
  pub sized : (at : ℕ) (s : List ℕ) → length (image at s) ≡ size s
  pub fewer : (k : ℕ) (s : List ℕ) → few (suc k) s → few 1 s × few k (drop (len s) s)

pub record RoomBehind (len size : List ℕ → ℕ) (i : Items) (out : List ℕ) : Type 0 where
  pub within : items_length len i.count i.list.now ≤ length i.list.now
  pub room : Room i.at (sum_of size (items_from here len i.count i.list.now)) out
  pub apart : i.table + padded (8 * i.count) ≤ i.at

-- ---- items written

-- d with the images of items from `at` on, and their addresses at `table`
abbrev pub with_items : {A : Type 0} → (A → ℕ) → (ℕ → A → List ℕ) → List ℕ → ℕ → ℕ → List A → List ℕ
with_items size image d table at xs = overwrite (overwrite d table (filled (run 8 (addresses size at xs)))) at (laid size image at xs)

-- the item at the front of s, and k items: how long they are there and in the image, r, and what they make of the buffer d, t
pub record WrittenItem {A : Type 0} (front : List ℕ → A) (len : List ℕ → ℕ) (size : A → ℕ) (image : ℕ → A → List ℕ) (s : List ℕ) (at : ℕ) (d : List ℕ) (r : Measured) (t : List ℕ) : Type 0 where
  pub measured : r ≡ record { «length» = len s; size = size (front s) }
  pub bytes : t ≡ overwrite d at (image at (front s))

abbrev pub WrittenGeometry : List ℕ → ℕ → List ℕ → Measured → List ℕ → Type 0
WrittenGeometry s at d r t = WrittenItem front_geometry geometry_length geometry_size geometry_image s at d r t

abbrev pub WrittenModel : List ℕ → ℕ → List ℕ → Measured → List ℕ → Type 0
WrittenModel s at d r t = WrittenItem front_model model_length model_size model_image s at d r t

pub record WrittenItems {A : Type 0} (front : List ℕ → A) (len : List ℕ → ℕ) (size : A → ℕ) (image : ℕ → A → List ℕ) (i : Items) (d : List ℕ) (r : Measured) (t : List ℕ) : Type 0 where
  pub measured : r ≡ record { «length» = items_length len i.count i.list.now; size = sum_of size (items_from front len i.count i.list.now) }
  pub bytes : t ≡ with_items size image d i.table i.at (items_from front len i.count i.list.now)

-- ---- a sound list

abbrev pub hall_of_list : List ℕ → Hall
hall_of_list s = models_in (records s)

abbrev pub model_count : List ℕ → ℕ
model_count s = length (hall_of_list s)

pub record SoundList (s : List ℕ) : Type 0 where
  pub models_are : models_from (model_count s) s ≡ hall_of_list s
  pub lengths : models_length (model_count s) s ≡ length s
  pub few_models : model_count s ≤ 256
  pub few-geometries : geometry_count (hall_of_list s) ≤ 16384
  pub low : image_size (hall_of_list s) ≤ image_limit

-- what save answers, r, and leaves of the buffer d, t, where the hall is sound
pub record SavedList (h : Hall) (d : List ℕ) (r : Result ℕ Refusal) (t : List ℕ) : Type 0 where
  pub answer : r ≡ answer_of (saved_by Sound (length d) h)
  pub bytes : t ≡ after (saved_by Sound (length d) h) d
