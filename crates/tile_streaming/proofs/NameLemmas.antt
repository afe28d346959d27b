-- The algorithm that rows of metadata name.
use Rattle.tile_streaming.proofs.Common.{algorithm_unknown, ap, Cell, codes, Err, filter_map, List, MbtError, name_kind_wrong, name_twice, names_of}
use Rattle.tile_streaming.proofs.Common.{names_refused, None, Ok, Option, option_and_then, option_or, Result, stored_algorithm, Tests, text_at, ℕ, ◌∙◌, ◌≡◌}
use Rattle.mb_lists.specs.Metadata.{name_entry}
use Rattle.std.specs.Cmp.Lexicographic.{nat_list_cmp_total}
use Rattle.std.specs.FinMap.{get-from_entries}

-- the text under the name of the algorithm is the stored one
pub algorithm_stored : (metadata : List (List Cell)) → text_at (names_of metadata) (codes "hash_algorithm") ≡ stored_algorithm metadata
algorithm_stored metadata = ap (λ (o : Option (Option (List ℕ))). option_and_then {U = List ℕ} (λ text. text) o) (get-from_entries nat_list_cmp_total (filter_map name_entry metadata) (codes "hash_algorithm"))

-- the test of the algorithm comes behind those of the names
pub behind_names : {A : Type 0} (metadata : List (List Cell)) (r : Result A MbtError) → option_or (name_kind_wrong metadata) (name_twice metadata) ≡ None → Tests (algorithm_unknown metadata) r → Tests (names_refused metadata) r
behind_names metadata (Ok a) h t = ap (λ o. option_or o (algorithm_unknown metadata)) h ∙ t
behind_names metadata (Err e) h t = (λ free. ap (λ o. option_or o (algorithm_unknown metadata)) h ∙ t.0 free, t.1)
