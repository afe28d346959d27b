-- The statuses that the tools end with.
use Rattle.std.specs.Prelude.{◌≡◌, ℕ, refl}
use Rattle.mb_reading.specs.declared.error.ReadError.{ReadError}
use Rattle.mb_reading.specs.declared.error.ReadError.TheVariants as reads
use Rattle.mb_tables.specs.declared.error.MbtError.{MbtError}
use Rattle.mb_tables.specs.declared.error.MbtError.TheVariants as sets
use Rattle.pm_format.specs.declared.error.PmtError.{PmtError}
use Rattle.pm_format.specs.declared.error.PmtError.TheVariants as archives
use Rattle.pm_format.specs.declared.error.ReadCause.TheVariants as causes
use Rattle.tile_command.specs.Common.{ExtractError}
use Rattle.tile_extract.specs.declared.error.ExtractError.TheVariants as extracts
use Rattle.tile_join.specs.declared.error.JoinError.{JoinError}
use Rattle.tile_join.specs.declared.error.JoinError.TheVariants as joins
use Rattle.pm_format.specs.declared.status.TheConstants.{REFUSED, NO_INPUT, INPUT_FAULT, FAULT, OUT_OF_MEMORY, OTHER_FORM}

abbrev pub read_status : ReadError → ℕ
read_status reads.NotASet = NO_INPUT
read_status reads.Missing = NO_INPUT
read_status reads.NotADatabase = NO_INPUT
read_status reads.NotRegular = INPUT_FAULT
read_status reads.Unnamed = INPUT_FAULT
read_status reads.Unread = INPUT_FAULT
read_status (reads.Beside file) = INPUT_FAULT
read_status (reads.Unopened e) = OTHER_FORM
read_status (reads.Fault table e) = OTHER_FORM
read_status reads.OutOfMemory = OUT_OF_MEMORY
read_status e = REFUSED

abbrev pub set_status : MbtError → ℕ
set_status sets.StoreFault = FAULT
set_status sets.TreeFault = FAULT
set_status sets.OutOfMemory = OUT_OF_MEMORY
set_status e = REFUSED

abbrev pub source_status : PmtError → ℕ
source_status (archives.Reading causes.Fault) = INPUT_FAULT
source_status archives.OutOfMemory = OUT_OF_MEMORY
source_status e = REFUSED

abbrev pub part_status : ExtractError → ℕ
part_status (extracts.Archive e) = source_status e
part_status extracts.MediumFault = FAULT
part_status extracts.OutOfMemory = OUT_OF_MEMORY
part_status e = REFUSED

abbrev pub join_status : JoinError → ℕ
join_status (joins.Archive source e) = source_status e
join_status joins.MediumFault = FAULT
join_status joins.OutOfMemory = OUT_OF_MEMORY
join_status e = REFUSED

pub no_set : read_status reads.NotASet ≡ 3
no_set = refl

pub a_set_of_another_kind : set_status sets.InvalidDataFormat ≡ 1
a_set_of_another_kind = refl

pub a_part_past_the_end : source_status (archives.Reading causes.PastEnd) ≡ 1
a_part_past_the_end = refl

pub a_source_that_fails : part_status (extracts.Archive (archives.Reading causes.Fault)) ≡ 4
a_source_that_fails = refl
