-- Errors of a store as those of a call on a tile set.
use Rattle.std.specs.Prelude.{◌≡◌, ◌↔◌, ◌⊎◌, Bool, true, IsErrOf, Result}
use Rattle.mb_store.specs.Common.{MbtError, TableName}
use Rattle.mb_tables.specs.declared.error.MbtError.TheVariants as refusals
use Rattle.mb_store.specs.declared.store.StoreError.{StoreError}
use Rattle.mb_store.specs.declared.store.StoreError.TheVariants.{Fault, OutOfMemory}

abbrev pub of_store : StoreError → MbtError
of_store Fault = refusals.StoreFault
of_store OutOfMemory = refusals.OutOfMemory

-- a row is refused as one that stands already exactly where it is one
abbrev pub RefusesTwice : {A : Type 0} → TableName → Bool → Result A MbtError → Type 0
RefusesTwice table is result = IsErrOf result (refusals.DuplicateRow table) ↔ (is ≡ true)

-- and for nothing else but running out of memory
abbrev pub IsRowError : TableName → MbtError → Type 0
IsRowError table e = (e ≡ refusals.DuplicateRow table) ⊎ (e ≡ refusals.OutOfMemory)
