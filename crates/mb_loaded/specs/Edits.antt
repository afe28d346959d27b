-- What edits make of a loaded set.
use Rattle.std.specs.Prelude.{ℕ, Bool, cond, not, List, [], ◌∷◌, ◌++◌, Option, Some, None, map, filter}
use Rattle.std.specs.declared.cmp.Ordering.{Ordering}
use Rattle.std.specs.List.{list_any}
use Rattle.mb_loaded.specs.Common.{Blob, Cache, Cell, cell_eq, contains_key, Contents, Dates, digest, entries, FinMap, from_entries, HashAlgorithm, insert, MbtType, Normalized, Null, Place, place_cmp}
use Rattle.mb_loaded.specs.Common.{remove, retain_keys, Text}
use Rattle.mb_loaded.specs.Held.{Held}

-- the id that a layout gives bytes: their digest
abbrev pub id_for : MbtType → HashAlgorithm → List ℕ → Option Cell
id_for (Normalized view schema) a bytes = Some (Text (digest a bytes))
id_for _ a bytes = None

-- the times that a layout gives a tile that is put: none are known
abbrev pub no_dates : Dates
no_dates = record { fetched = Null; expires = Null; etag = Null }

abbrev pub dates_for : MbtType → Option Dates
dates_for Cache = Some no_dates
dates_for _ = None

-- a value under a key, or none
abbrev pub with_value : {K V : Type 0} {R : K → K → Ordering} → FinMap R V → K → Option V → FinMap R V
with_value m k None = remove m k
with_value m k (Some v) = insert m k v

-- one more key, if there is one
abbrev pub with_key : {K : Type 0} {R : K → K → Ordering} → FinMap R (Unit {0}) → Option K → FinMap R (Unit {0})
with_key m None = m
with_key m (Some k) = insert m k tt

-- bytes under their id, if there is one
abbrev pub with_content : Contents → Option Cell → List ℕ → Contents
with_content contents None bytes = contents
with_content contents (Some id) bytes = insert contents id (Blob bytes)

-- bytes at a place: in a normalised set under their digest, in a cache without times
abbrev pub with_tile : Held → Place → List ℕ → Held
with_tile h p bytes = record {
  state = record h.state {
    tiles = insert h.state.tiles p (Some bytes);
    ids = with_value h.state.ids p (id_for h.state.layout h.state.algorithm bytes);
    contents = with_content h.state.contents (id_for h.state.layout h.state.algorithm bytes) bytes;
    dates = with_value h.state.dates p (dates_for h.state.layout);
  };
  edited = record h.edited {
    places = insert h.edited.places p tt;
    ids = with_key h.edited.ids (id_for h.state.layout h.state.algorithm bytes);
  };
}

-- the same bytes at each of some places, from the first to the last
abbrev pub with_tiles : Held → List Place → List ℕ → Held
with_tiles h [] bytes = h
with_tiles h (p ∷ ps) bytes = with_tiles (with_tile h p bytes) ps bytes

-- null at a place of a set without ids: in a cache without times
abbrev pub with_null : Held → Place → Held
with_null h p = record {
  state = record h.state {
    tiles = insert h.state.tiles p None;
    ids = remove h.state.ids p;
    dates = with_value h.state.dates p (dates_for h.state.layout);
  };
  edited = record h.edited { places = insert h.edited.places p tt };
}

-- other times of the tile at a place
abbrev pub with_dates : Held → Place → Dates → Held
with_dates h p dates = record {
  state = record h.state { dates = insert h.state.dates p dates };
  edited = record h.edited { places = insert h.edited.places p tt };
}

-- no tile at a place, which counts as edited
abbrev pub removed_tile : Held → Place → Held
removed_tile h p = record {
  state = record h.state {
    tiles = remove h.state.tiles p;
    ids = remove h.state.ids p;
    dates = remove h.state.dates p;
  };
  edited = record h.edited { places = insert h.edited.places p tt };
}

-- the same where there is a tile, and nothing where there is none
abbrev pub without_tile : Held → Place → Held
without_tile h p = cond (contains_key h.state.tiles p) (removed_tile h p) h

-- a text or null under a name
abbrev pub with_name : Held → List ℕ → Option (List ℕ) → Held
with_name h name value = record {
  state = record h.state { metadata = insert h.state.metadata name value };
  edited = record h.edited { names = insert h.edited.names name tt };
}

-- nothing under a name, which counts as edited
abbrev pub removed_name : Held → List ℕ → Held
removed_name h name = record {
  state = record h.state { metadata = remove h.state.metadata name };
  edited = record h.edited { names = insert h.edited.names name tt };
}

-- the same where there is a value, and nothing where there is none
abbrev pub without_name : Held → List ℕ → Held
without_name h name = cond (contains_key h.state.metadata name) (removed_name h name) h

-- whether a tile has the id
abbrev pub is_named : FinMap place_cmp Cell → Cell → Bool
is_named ids id = list_any (λ e. cell_eq e.1 id) (entries ids)

-- the ids of contents that no tile has
abbrev pub unnamed_ids : FinMap place_cmp Cell → Contents → List (Cell × Unit {0})
unnamed_ids ids contents = map (λ e. (e.0, tt)) (filter (λ e. not (is_named ids e.0)) (entries contents))

-- contents without those that no tile has
abbrev pub only_referenced : Held → Held
only_referenced h = record {
  state = record h.state { contents = retain_keys h.state.contents (is_named h.state.ids) };
  edited = record h.edited { ids = from_entries (unnamed_ids h.state.ids h.state.contents ++ entries h.edited.ids) };
}
