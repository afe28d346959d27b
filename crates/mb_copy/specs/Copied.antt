-- A set into which another one was copied.
use Rattle.std.specs.Prelude.{ℕ, codes, ◌&&◌, ◌||◌, ◌++◌, Bool, cond, not, List, [], ◌∷◌, Option, Some, None, filter_map, option_map, unwrap_or}
use Rattle.mb_copy.specs.Common.{aggregate, bytes_put, contains_key, Dates, dates_for, entries, FinMap, get, HashAlgorithm, id_for, is_normalized, MbtType, name_of, Names, over, patched, patched_by}
use Rattle.mb_copy.specs.Common.{Place, place_cmp, retain_keys, State, TileSet}
use Rattle.mb_copy.specs.Chosen.{names_to_put, tiles_to_put, times_to_put}
use Rattle.mb_copy.specs.CopyWords.{copies_metadata, copies_tiles}
use Rattle.mb_copy.specs.declared.copier.MbtilesCopier.{MbtilesCopier}
use Rattle.mb_edit.specs.Step.{contents_over}

-- tiles with those that are put over them: null stays null, but in a normalised set there is no tile then
abbrev pub merged : MbtType → TileSet → TileSet → TileSet
merged layout tiles put = cond (is_normalized layout) (patched tiles put) (over (entries put) tiles)

-- the times of a tile that is put: in a cache those of its source, if that has any
abbrev pub times_put : MbtType → FinMap place_cmp Dates → Place → Option Dates
times_put layout times p = option_map (unwrap_or (get times p)) (dates_for layout)

abbrev pub times_entry : MbtType → FinMap place_cmp Dates → Place × Option (List ℕ) → Option (Place × Dates)
times_entry layout times e = option_map (λ d. (e.0, d)) (times_put layout times e.0)

abbrev pub times_over : MbtType → FinMap place_cmp Dates → TileSet → FinMap place_cmp Dates → FinMap place_cmp Dates
times_over layout times put dates = over (filter_map (times_entry layout times) (entries put)) (retain_keys dates (λ p. not (contains_key put p)))

-- whether the hash of all tiles is computed and stored
abbrev pub stores_aggregate : MbtilesCopier → Bool
stores_aggregate c = copies_tiles c.copy && not c.skip_agg_tiles_hash

-- an entry of metadata for a text, if there is one
abbrev pub text_entries : List ℕ → Option (List ℕ) → List (List ℕ × Option (List ℕ))
text_entries name (Some text) = (name, Some text) ∷ []
text_entries name None = []

abbrev pub stored_aggregate : MbtilesCopier → HashAlgorithm → TileSet → List (List ℕ × Option (List ℕ))
stored_aggregate c a tiles = text_entries (codes "agg_tiles_hash") (cond (stores_aggregate c) (Some (aggregate a tiles)) None)

-- the name of the set's own algorithm as an entry of metadata, where metadata is copied, the set was
-- made, or the hash is stored
abbrev pub stored_algorithm : MbtilesCopier → Bool → HashAlgorithm → List (List ℕ × Option (List ℕ))
stored_algorithm c made a = text_entries (codes "hash_algorithm") (cond (copies_metadata c.copy || made || stores_aggregate c) (Some (name_of a)) None)

-- the entries that are put over the metadata: the first of a name counts
abbrev pub entries_put : MbtilesCopier → Bool → HashAlgorithm → TileSet → Names → List (List ℕ × Option (List ℕ))
entries_put c made a tiles names = stored_algorithm c made a ++ stored_aggregate c a tiles ++ entries names

abbrev pub copied_metadata : MbtilesCopier → Bool → HashAlgorithm → TileSet → Names → Names → Names
copied_metadata c made a tiles names base = over (entries_put c made a tiles names) base

-- a set with these tiles, times and names of a source put into it; whether it was made for that
abbrev pub with_copies : MbtilesCopier → Bool → State → TileSet → FinMap place_cmp Dates → Names → State
with_copies c made base put times names = record base {
  tiles = merged base.layout base.tiles put;
  metadata = copied_metadata c made base.algorithm (merged base.layout base.tiles put) names base.metadata;
  ids = patched_by (id_for base.layout base.algorithm) put base.ids;
  contents = contents_over base.layout base.algorithm (bytes_put put) base.contents;
  dates = times_over base.layout times put base.dates;
}

-- a set into which a source was copied
abbrev pub copied : MbtilesCopier → Bool → State → State → State
copied c made source base = with_copies c made base (tiles_to_put c source.tiles base) (times_to_put c source base) (names_to_put c source.metadata base.metadata)
