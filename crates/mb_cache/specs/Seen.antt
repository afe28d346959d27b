-- What is known of the rows of a cache that were read so far.
use Rattle.std.specs.Prelude.{ℕ, ◌≡◌, List, [], Option, None, map}
use Rattle.mb_cache.specs.Common.{Cache, Cell, eq_by_cmp, first_refusal, IsStrictlySortedBy, list_any, MbtError, name_kind_wrong, name_twice, nat_cmp, Ordering, ordering_then, Place, place_twice}
use Rattle.mb_cache.specs.Common.{row_refusals, tile_bad, tile_kind_wrong}
use Rattle.std.specs.Option.{option_or}
use Rattle.mb_cache.specs.Entries.{entry_of, has_entry, row_place}
use Rattle.mb_cache.specs.EntryOrder.{entry_cmp}
use Rattle.mb_cache.specs.declared.entries.Entry.{Entry}
use Rattle.mb_cache.specs.declared.seen_rows.SeenRows.{SeenRows}
use Rattle.mb_cache.specs.declared.seen_tiles.SeenTiles.{SeenTiles}
use Rattle.mb_constraints.specs.Algorithm.{algorithm_unknown}
use Rattle.mb_lists.specs.Keyed.{are_distinct}

-- the first refusal of the tests of loading over rows of metadata and of tiles of a cache, which has no contents apart
abbrev pub row_refusal : List (List Cell) → List (List Cell) → Option MbtError
row_refusal metadata rows = first_refusal (row_refusals Cache metadata [] rows)

-- the first refusal of the tests over metadata, and of the tests over places and contents
abbrev pub names_refused : List (List Cell) → Option MbtError
names_refused metadata = option_or (option_or (name_kind_wrong metadata) (name_twice metadata)) (algorithm_unknown metadata)

abbrev pub tiles_refused : List (List Cell) → Option MbtError
tiles_refused rows = option_or (tile_bad Cache [] rows) (place_twice Cache [] rows)

-- the entries are those of rows, each once, in the order in which they are thrown out
pub record AreEntries (rows : List (List Cell)) (es : List Entry) : Type 0 where
  pub members : (e : Entry) → has_entry es e ≡ list_any (λ row. eq_by_cmp entry_cmp e (entry_of row)) rows
  pub ordered : IsStrictlySortedBy entry_cmp es

-- a place as three numbers, and their order
abbrev pub spot_at : Place → ℕ × ℕ × ℕ
spot_at p = (p.zoom, p.column, p.row)

abbrev pub spot_of : List Cell → ℕ × ℕ × ℕ
spot_of row = spot_at (row_place row)

abbrev pub spot_cmp : ℕ × ℕ × ℕ → ℕ × ℕ × ℕ → Ordering
spot_cmp a b = ordering_then (ordering_then (nat_cmp a.0 b.0) (nat_cmp a.1 b.1)) (nat_cmp a.2 b.2)

-- the tiles of rows, none of them bad: their entries, their places, and whether no place stands twice
pub record SeesTiles (rows : List (List Cell)) (tiles : SeenTiles) : Type 0 where
  pub entries : AreEntries rows tiles.entries.keys
  pub places : (s : ℕ × ℕ × ℕ) → list_any (eq_by_cmp spot_cmp s) tiles.places.keys ≡ list_any (λ row. eq_by_cmp spot_cmp s (spot_of row)) rows
  pub apart : tiles.apart ≡ are_distinct spot_cmp (map spot_of rows)

-- rows whose cells are of their kinds: the refusal of the first bad one, and the tiles of all where none is bad
pub record SeesRows (rows : List (List Cell)) (seen : SeenRows) : Type 0 where
  pub kinds : tile_kind_wrong Cache rows ≡ None
  pub bad : seen.bad ≡ tile_bad Cache [] rows
  pub tiles : seen.bad ≡ None → SeesTiles rows seen.tiles
