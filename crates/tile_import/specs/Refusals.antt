-- The first refusal of an archive.
use Rattle.std.specs.Prelude.{◌≡◌, ℕ, Bool, true, false, nat_le, if◌then◌else◌, List, Option, Some, None, Result, Ok, Err}
use Rattle.tile_import.specs.Common.{all_walked, coord_of, Opened, opened, option_map, PmtError, TileSet, Walked, WalkError}
use Rattle.pm_format.specs.declared.error.PmtError.TheVariants as errors
use Rattle.pm_format.specs.declared.error.ReadCause.TheVariants as causes
use Rattle.pm_walk.specs.Parts.{full, tile_count}
use Rattle.pm_walk.specs.declared.error.WalkError.TheVariants as walks
use Rattle.mb_tables.specs.declared.error.MbtError.TheVariants as stores
use Rattle.tile_import.specs.Tiles.{HasTilesOf}
use Rattle.tile_import.specs.declared.error.ImportError.{ImportError}
use Rattle.tile_import.specs.declared.error.ImportError.TheVariants.{Archive, Store, InvalidTileId, InvalidTileIndex, TooManyTiles, OutOfMemory}

-- the import's word for an error of the reader
abbrev pub of_read_error : PmtError → ImportError
of_read_error errors.OutOfMemory = OutOfMemory
of_read_error e = Archive e

-- and for one of the walk
abbrev pub of_walk_error : ℕ → WalkError → ImportError
of_walk_error most (walks.Archive e) = of_read_error e
of_walk_error most (walks.InvalidTileId id) = InvalidTileId id
of_walk_error most (walks.TooDeep id) = InvalidTileIndex (coord_of id)
of_walk_error most walks.TooManyTiles = TooManyTiles most

-- Too many tiles are told at the entry that has one too many, behind all its other tests: so where the entries that
-- come before the refusal of the walk have too many.
abbrev pub walk_refusal : ℕ → Walked → Option ImportError
walk_refusal most w = if nat_le (tile_count (full w.entries)) most then option_map (of_walk_error most) w.refusal else Some (TooManyTiles most)

-- the first refusal of bytes, if there is one: that of opening them, or that of the walk
abbrev pub refusal_opened : ℕ → List ℕ → Result Opened PmtError → Option ImportError
refusal_opened most b (Err e) = Some (Archive e)
refusal_opened most b (Ok o) = walk_refusal most (all_walked b o)

abbrev pub archive_refusal : ℕ → List ℕ → Option ImportError
archive_refusal most b = refusal_opened most b (opened b)

-- what an archive gives: its tiles, where nothing in it is refused, or its first refusal
abbrev pub IsRead : ℕ → List ℕ → Result TileSet ImportError → Type 0
IsRead most b (Ok tiles) = (archive_refusal most b ≡ None) × HasTilesOf b tiles
IsRead most b (Err e) = archive_refusal most b ≡ Some e

-- running out of memory, or a fault: no refusal of the archive or the set
abbrev pub is_free : ImportError → Bool
is_free OutOfMemory = true
is_free (Archive (errors.Reading causes.Fault)) = true
is_free (Store stores.StoreFault) = true
is_free e = false

-- the tiles that were read, or the first refusal, unless memory ran out or the archive failed
abbrev pub Reads : ℕ → List ℕ → Result TileSet ImportError → Type 0
Reads most b (Ok tiles) = IsRead most b (Ok tiles)
Reads most b (Err e) = is_free e ≡ false → archive_refusal most b ≡ Some e
