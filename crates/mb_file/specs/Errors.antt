-- What the refusals of a layer below come to.
use Rattle.mb_file.specs.declared.error.FileError.{FileError}
use Rattle.mb_file.specs.declared.error.FileError.TheVariants as errors
use Rattle.mb_file.specs.declared.fault.FileFault.{FileFault}
use Rattle.mb_file.specs.declared.fault.FileFault.TheVariants as faults
use Rattle.mb_reading.specs.declared.error.ReadError.{ReadError}
use Rattle.mb_reading.specs.declared.error.ReadError.TheVariants as reads
use Rattle.mb_store.specs.declared.store.StoreError.{StoreError}
use Rattle.mb_store.specs.declared.store.StoreError.TheVariants as stores
use Rattle.sqlite_pages.specs.declared.error.Error.{Error}
use Rattle.sqlite_pages.specs.declared.error.Error.TheVariants as pages

abbrev pub of_read : ReadError → FileError
of_read reads.OutOfMemory = errors.OutOfMemory
of_read error = errors.File error

abbrev pub of_pages : Error → FileError
of_pages pages.OutOfMemory = errors.OutOfMemory
of_pages pages.Io = errors.Unread
of_pages pages.Corrupt = errors.Damaged
of_pages pages.Full = errors.Damaged

abbrev pub fault_of_pages : Error → FileFault
fault_of_pages pages.OutOfMemory = faults.OutOfMemory
fault_of_pages pages.Io = faults.Unread
fault_of_pages pages.Corrupt = faults.Damaged
fault_of_pages pages.Full = faults.Damaged

abbrev pub fault_of_store : StoreError → FileFault
fault_of_store stores.Fault = faults.Damaged
fault_of_store stores.OutOfMemory = faults.OutOfMemory
