-- What errors of ids, reads and writes are among the errors of archives.
use Rattle.tile_ids.specs.declared.error.TileError.{TileError}
use Rattle.tile_ids.specs.declared.error.TileError.TheVariants as tiles
use Rattle.pm_format.specs.declared.error.PmtError.{PmtError}
use Rattle.pm_format.specs.declared.error.PmtError.TheVariants.{InvalidCoordinate, InvalidTileId, Reading, UnexpectedNumberOfBytesReturned, OutOfMemory}
use Rattle.pm_format.specs.declared.error.ReadCause.TheVariants as causes
use Rattle.byte_media.specs.declared.backend.ReadFault.{ReadFault}
use Rattle.byte_media.specs.declared.backend.ReadFault.TheVariants as reads
use Rattle.byte_media.specs.declared.medium.WriteFault.{WriteFault}
use Rattle.byte_media.specs.declared.medium.WriteFault.TheVariants as writes

abbrev pub of_tile_error : TileError → PmtError
of_tile_error (tiles.InvalidCoordinate z x y) = InvalidCoordinate z x y
of_tile_error (tiles.InvalidTileId id) = InvalidTileId id

abbrev pub of_read_fault : ReadFault → PmtError
of_read_fault reads.Fault = Reading causes.Fault
of_read_fault reads.PastEnd = Reading causes.PastEnd
of_read_fault (reads.Short asked got) = UnexpectedNumberOfBytesReturned asked got
of_read_fault reads.OutOfMemory = OutOfMemory

abbrev pub of_write_fault : WriteFault → PmtError
of_write_fault writes.Fault = Reading causes.Fault
of_write_fault writes.OutOfMemory = OutOfMemory
