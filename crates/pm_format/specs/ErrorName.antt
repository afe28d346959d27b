-- Errors of archives by their names.
use Rattle.std.specs.Prelude.{ℕ, List, codes}
use Rattle.pm_format.specs.declared.error.PmtError.{PmtError}
use Rattle.pm_format.specs.declared.error.PmtError.TheVariants as errors

-- an error of archives by its name alone
abbrev pub error_name : PmtError → List ℕ
error_name (errors.InvalidCoordinate z x y) = codes "InvalidCoordinate"
error_name (errors.InvalidTileId id) = codes "InvalidTileId"
error_name errors.InvalidEntry = codes "InvalidEntry"
error_name errors.InvalidHeader = codes "InvalidHeader"
error_name errors.InvalidMagicNumber = codes "InvalidMagicNumber"
error_name errors.UnsupportedPmTilesVersion = codes "UnsupportedPmTilesVersion"
error_name errors.InvalidCompression = codes "InvalidCompression"
error_name errors.InvalidTileType = codes "InvalidTileType"
error_name (errors.UnsupportedCompression c) = codes "UnsupportedCompression"
error_name errors.IndexEntryOverflow = codes "IndexEntryOverflow"
error_name (errors.Reading cause) = codes "Reading"
error_name errors.Failed = codes "Failed"
error_name (errors.OverlappingEntries id) = codes "OverlappingEntries"
error_name (errors.UnexpectedNumberOfBytesReturned asked got) = codes "UnexpectedNumberOfBytesReturned"
error_name (errors.SourceModified opened read) = codes "SourceModified"
error_name errors.InvalidMetadata = codes "InvalidMetadata"
error_name errors.InvalidMetadataUtf8Encoding = codes "InvalidMetadataUtf8Encoding"
error_name errors.BudgetSpent = codes "BudgetSpent"
error_name errors.OutOfMemory = codes "OutOfMemory"
