-- A list of calls that the claim is about: a model is added, then a geometry of three positions and three indices. Both are accepted; the hall has 127 bytes, its image 576.
use mathlib.Core.Path.{◌≡◌, refl}
use mathlib.Core.List.{List, [], ◌∷◌}
use Prim.Native.Nat.{ℕ, zero, suc}
use native.Mathlib.Omega.{arith}
use lib.ListN.{length, replicate}
use Rattle.sections.specs.Edit.{part, overwrite}
use Rattle.sections.specs.Le.{le, bytes, field}
use Rattle.vertices.specs.Declaration.{position_only, declaration_at, declaration_bytes, components_from, components_of, sizes, total_size, with_index, component_of}
use Rattle.vertices.specs.Runs.{numbers, run}
use Rattle.vertices.specs.Types.{component_type_of, semantic_of}
use Rattle.halls.specs.Calls.{Given, Call, add_model, add_geometry, proposed}
use Rattle.halls.specs.Checks.{vertex_bytes_exact, same_numbers, mapping_matches, geometry_count, counts_within_limits, strides_agree, components_inside, vertex_counts_agree, index_counts_agree, indices_in_range, triangles_of, has_three_vertices, triangles_distinct, image_within_limit, verdict, hall_verdict}
use Rattle.halls.specs.Every.{every, sum_of, Each}
use Rattle.halls.specs.Hall.{hall_bytes}
use Rattle.halls.specs.ImageSize.{geometry_size, model_size, image_size}
use Rattle.halls.specs.List.{record_bytes, each, model_record, geometry_record, declaration_record, vertices_record, indices_record, write_geometry, write_model}
use Rattle.halls.specs.Parsing.{records_length, whole, follows, may_end, ordered, due_length, exact, geometries_in, models_in, structured, parse}
use Rattle.halls.specs.Records.{body_length, front_record, first_records, records}
use Rattle.halls.specs.State.{hall_of, state_bytes, state_of}
use Rattle.halls.specs.Step.{step, step_in, rewritten, step_answer, step_bytes}
use Rattle.std.specs.Prelude.{Ok}
use Rattle.images.specs.Claim.{CallList, n_of, image_of}
use Rattle.images.specs.Image.{header_bytes, model_block_bytes, geometry_block_bytes, vertex_block_bytes, index_block_bytes, filled, laid, addresses, geometry_block_of, vertex_block_of, index_block_of, geometry_image, model_block_of, model_image, image}
use Rattle.images.specs.Runs.{Bytes, GivenFits, Made, Ran, next_n, n_after, state_after}

pub triangle : Given
triangle = record { shader = 5; declaration = position_only 12; stride = 12; count = 3; content = replicate 36 0; indices = 0 ∷ 1 ∷ 2 ∷ [] }

-- a call that did what its contract says
pub made_of : Call → List ℕ → ℕ → Made
made_of c b n = record { call = c; answer = step_answer (step_in c b n); left = step_bytes b n (step_in c b n) }

-- a buffer just long enough, whatever it holds
pub buffer : List ℕ
buffer = replicate 127 7

pub model_added : Made
model_added = made_of (add_model 9 255) buffer 0

pub geometry_added : Made
geometry_added = made_of (add_geometry triangle) model_added.left (next_n 0 model_added.answer)

zeros-bytes : (n : ℕ) → Bytes (replicate n 0)
unfolding Each
zeros-bytes zero = tt
zeros-bytes (suc n) = (omega arith, zeros-bytes n)

triangle-fits : GivenFits triangle
unfolding triangle Each
triangle-fits = record {
  shader = omega arith;
  declaration = record { flags = omega arith; stride = omega arith; unknown = omega arith; count = omega arith; types = omega arith };
  stride = omega arith;
  count = omega arith;
  content = zeros-bytes 36;
  indices = (omega arith, (omega arith, (omega arith, tt)));
}

-- ---- the list of calls

pub two_calls : CallList
unfolding Ran model_added geometry_added made_of
two_calls = record {
  first = buffer;
  made = model_added ∷ geometry_added ∷ [];
  ran = ((omega arith, omega arith), record { answer = refl; bytes = refl }, (triangle-fits, record { answer = refl; bytes = refl }, tt));
}

pub both-accepted : (model_added.answer ≡ Ok 12) × (geometry_added.answer ≡ Ok 127)
unfolding model_added geometry_added made_of buffer triangle step_in rewritten hall_verdict parse structured whole records first_records front_record body_length records_length ordered follows may_end due_length exact every models_in geometries_in verdict vertex_bytes_exact mapping_matches same_numbers counts_within_limits geometry_count strides_agree components_inside vertex_counts_agree index_counts_agree indices_in_range triangles_distinct triangles_of has_three_vertices image_within_limit image_size model_size geometry_size sum_of proposed hall_of state_of state_bytes hall_bytes each write_model write_geometry model_record geometry_record declaration_record vertices_record indices_record record_bytes bytes run le field part numbers declaration_at declaration_bytes components_from components_of component_of with_index sizes total_size component_type_of semantic_of
both-accepted = (refl, refl)

-- the hall's length, and that of the image that the claim speaks of
pub its_lengths : (n_of two_calls ≡ 127) × (length (image_of two_calls) ≡ 576)
unfolding two_calls n_after state_after step model_added geometry_added made_of buffer triangle step_in rewritten hall_verdict parse structured whole records first_records front_record body_length records_length ordered follows may_end due_length exact every models_in geometries_in verdict vertex_bytes_exact mapping_matches same_numbers counts_within_limits geometry_count strides_agree components_inside vertex_counts_agree index_counts_agree indices_in_range triangles_distinct triangles_of has_three_vertices image_within_limit image_size model_size geometry_size sum_of proposed hall_of state_of state_bytes hall_bytes each write_model write_geometry model_record geometry_record declaration_record vertices_record indices_record record_bytes bytes run le field part numbers declaration_at declaration_bytes components_from components_of component_of with_index sizes total_size component_type_of semantic_of header_bytes model_block_bytes geometry_block_bytes vertex_block_bytes index_block_bytes filled laid addresses geometry_block_of vertex_block_of index_block_of geometry_image model_block_of model_image image overwrite
its_lengths = (refl, refl)
