-- What the entries that a loaded set keeps mean together.
use Rattle.std.specs.Prelude.{ℕ, List, Option}
use Rattle.mb_loaded.specs.Common.{Content, content_at, contents_held, entries_by, from_entries, HashAlgorithm, id_at, if_edited, MbtType, name_of, names_held, PatchType, StoredName, StoredTile}
use Rattle.mb_loaded.specs.Common.{tile_dates, tile_id, tile_value, tiles_held}
use Rattle.mb_loaded.specs.Held.{Held}

-- a set of these contents, the order of those that have an id, tiles and names, with what was edited
abbrev pub held_of : MbtType → HashAlgorithm → Option PatchType → List Content → List ℕ → List StoredTile → List StoredName → Held
held_of layout algorithm patch_type contents order tiles names = record {
  state = record {
    layout = layout;
    algorithm = algorithm;
    patch_type = patch_type;
    tiles = tiles_held (tile_value contents) tiles;
    metadata = names_held names;
    ids = tiles_held (tile_id contents) tiles;
    contents = contents_held contents order;
    dates = tiles_held tile_dates tiles;
  };
  edited = record {
    places = tiles_held (λ t. if_edited t.standing) tiles;
    ids = from_entries (entries_by (id_at contents) (λ i. if_edited (content_at contents i).standing) order);
    names = from_entries (entries_by name_of (λ n. if_edited n.standing) names);
  };
}
