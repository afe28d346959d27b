-- The status and the line of each outcome.
use Rattle.std.specs.Prelude.{◌≡◌, ℕ, ◌++◌, List, [], codes, refl}
use Rattle.tileset.specs.Common.{Compression, ConvertError, decimal}
use Rattle.pm_format.specs.declared.compression.Compression.TheVariants as compression
use Rattle.pm_format.specs.ErrorName.{error_name}
use Rattle.pm_format.specs.declared.error.PmtError.TheVariants as errors
use Rattle.pm_format.specs.declared.status.TheConstants.{DONE, REFUSED, USAGE, NO_INPUT, INPUT_FAULT, OUTPUT_FAULT, FAULT, OUT_OF_MEMORY, INPUT_TOO_LONG, READ_BACK}
use Rattle.tile_bridge.specs.declared.error.ConvertError.TheVariants as convert
use Rattle.tileset.specs.RefusalText.{store_text}
use Rattle.tileset.specs.declared.outcome.Outcome.{Outcome}
use Rattle.tileset.specs.declared.outcome.Outcome.TheVariants.{Done, Refused, Usage, BadScript, InputFault, OutputFault, MediumFault, OutOfMemory, InputTooLong, ReadBack}

abbrev pub status : Outcome → ℕ
status Done = DONE
status (Refused e) = REFUSED
status Usage = USAGE
status (BadScript n) = NO_INPUT
status InputFault = INPUT_FAULT
status OutputFault = OUTPUT_FAULT
status MediumFault = FAULT
status OutOfMemory = OUT_OF_MEMORY
status InputTooLong = INPUT_TOO_LONG
status (ReadBack e) = READ_BACK

-- a label as a script says it
abbrev pub label_name : Compression → List ℕ
label_name compression.Unknown = codes "unknown"
label_name compression.None = codes "none"
label_name compression.Gzip = codes "gzip"
label_name compression.Brotli = codes "brotli"
label_name compression.Zstd = codes "zstd"

abbrev pub refusal : ConvertError → List ℕ
refusal (convert.MediumNotEmpty n) = codes "medium not empty " ++ decimal n
refusal (convert.UnsupportedCompression label) = codes "unsupported compression " ++ label_name label
refusal (convert.Store place e) = codes "store " ++ (decimal place ++ (codes " " ++ store_text e))
refusal convert.IndexEntryOverflow = codes "IndexEntryOverflow"
refusal (convert.StoreFault place) = codes "StoreFault " ++ decimal place
refusal convert.MediumFault = codes "MediumFault"
refusal (convert.ReadBack e) = codes "ReadBack"
refusal convert.OutOfMemory = codes "OutOfMemory"

abbrev pub line : Outcome → List ℕ
line Done = []
line (Refused e) = codes "refused: " ++ (refusal e ++ codes "\n")
line Usage = codes "usage: tileset convert hex | convert file PATH | bulk N K [L]\n"
line (BadScript n) = codes "bad script: line " ++ (decimal n ++ codes "\n")
line InputFault = codes "input fault\n"
line OutputFault = codes "output fault\n"
line MediumFault = codes "medium fault\n"
line OutOfMemory = codes "out of memory\n"
line InputTooLong = codes "input too long\n"
line (ReadBack e) = codes "read back: " ++ (error_name e ++ codes "\n")

pub overflowing_set : line (Refused convert.IndexEntryOverflow) ≡ codes "refused: IndexEntryOverflow\n"
overflowing_set = refl

pub short_medium : line (ReadBack (errors.UnexpectedNumberOfBytesReturned 32 31)) ≡ codes "read back: UnexpectedNumberOfBytesReturned\n"
short_medium = refl

pub packed_directories : line (Refused (convert.UnsupportedCompression compression.Gzip)) ≡ codes "refused: unsupported compression gzip\n"
packed_directories = refl
