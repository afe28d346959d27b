-- The status of each answer.
use Rattle.std.specs.Prelude.{◌≡◌, ℕ, Result, Ok, Err, refl}
use Rattle.mb_tables.specs.declared.error.MbtError.TheVariants as stores
use Rattle.pm_format.specs.Status.{archive_status}
use Rattle.pm_format.specs.declared.status.TheConstants.{DONE, REFUSED, FAULT, OUT_OF_MEMORY}
use Rattle.set_import.specs.Common.{Archive, ImportError, OutOfMemory, Store}

-- a refusal that the failing of the archive or the store brought, and running out of memory, have their own
abbrev pub status_of : Result ℕ ImportError → ℕ
status_of (Ok n) = DONE
status_of (Err (Archive e)) = archive_status e
status_of (Err (Store stores.StoreFault)) = FAULT
status_of (Err OutOfMemory) = OUT_OF_MEMORY
status_of (Err e) = REFUSED

pub unwritable : status_of (Err (Store stores.StoreFault)) ≡ 6
unwritable = refl
