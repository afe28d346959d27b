-- What opening the sources and collecting their tile entries gives, and why it is refused.
use Rattle.std.specs.Prelude.{◌≡◌, ◌<◌, ℕ, List, length, map, slice_index}
use Rattle.pm_format.specs.declared.error.PmtError.TheVariants as errors
use Rattle.pm_reader.specs.declared.state.ReaderState.{ReaderState}
use Rattle.tile_extract.specs.declared.error.ExtractError.{ExtractError}
use Rattle.tile_extract.specs.declared.error.ExtractError.TheVariants as extract
use Rattle.tile_join.specs.Common.{header_of, PmtError, ReadCauses}
use Rattle.tile_join.specs.Gathered.{Gathered}
use Rattle.tile_join.specs.declared.error.JoinError.{JoinError}
use Rattle.tile_join.specs.declared.error.JoinError.TheVariants.{Archive, OutOfMemory, TooManyTiles}
use Rattle.tile_join.specs.declared.piece.Piece.{Piece}

-- the words for an error of a reader of the source with this number, and for what collecting is refused for
abbrev pub of_read : ℕ → PmtError → JoinError
of_read k errors.OutOfMemory = OutOfMemory
of_read k e = Archive k e

abbrev pub of_collect : ℕ → ExtractError → JoinError
of_collect k (extract.Archive e) = Archive k e
of_collect k (extract.TooManyTiles n) = TooManyTiles n
of_collect k e = OutOfMemory

-- readers and runs as what is gathered
abbrev pub gathered_of : List ReaderState → List Piece → Gathered
gathered_of readers pieces = record { headers = map header_of readers; pieces = pieces }

-- told or not, why it is refused, by the counts of faults of all sources
abbrev pub GatherCauses : ℕ → List ℕ → List ℕ → JoinError → Type 0
GatherCauses most before now (Archive k e) = (k < length before) × ReadCauses (slice_index before k) (slice_index now k) e
GatherCauses most before now (TooManyTiles n) = n ≡ most
GatherCauses most before now OutOfMemory = Unit {0}
GatherCauses most before now x = ⊥
