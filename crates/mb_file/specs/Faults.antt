-- How faults are counted and kept.
use Rattle.std.specs.Prelude.{◌≡◌, Err, Ok, Some, Result}
use Rattle.base_values.specs.Counts.{Rose}
use Rattle.mb_file.specs.declared.fault.FileFault.{FileFault}
use Rattle.mb_file.specs.declared.fault.FileFault.TheVariants as faults
use Rattle.mb_file.specs.declared.fault.Faults.{Faults}
use Rattle.mb_store.specs.declared.store.StoreError.{StoreError}
use Rattle.mb_store.specs.declared.store.StoreError.TheVariants as stores

-- a value stays; running out of memory is told as it is; another fault is counted, kept and told
abbrev pub IsCounted : {T : Type 0} → Result T FileFault → Faults → Faults → Result T StoreError → Type 0
IsCounted (Ok value) before now result = (result ≡ Ok value) × (now ≡ before)
IsCounted (Err faults.OutOfMemory) before now result = (result ≡ Err stores.OutOfMemory) × (now ≡ before)
IsCounted (Err fault) before now result = (result ≡ Err stores.Fault) × Rose before.count now.count × (now.last ≡ Some fault)
