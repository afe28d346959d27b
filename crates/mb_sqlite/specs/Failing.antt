-- Why a step on the database fails, and what a call answers for it.
use Rattle.sqlite.specs.declared.error.Error.{Error}
use Rattle.sqlite.specs.declared.error.Error.TheVariants as errors
use Rattle.sqlite.specs.declared.error.ErrorCode.TheVariants as codes
use Rattle.mb_store.specs.declared.store.StoreError.{StoreError}
use Rattle.mb_store.specs.declared.store.StoreError.TheVariants as answers
use Rattle.mb_sqlite.specs.declared.failure.Failure.{Failure}
use Rattle.mb_sqlite.specs.declared.failure.Failure.TheVariants.{Fault, OutOfMemory}

-- an error of the database is a fault, but for running out of memory
abbrev pub failure_of : Error → Failure
failure_of (errors.SqliteFailure codes.OutOfMemory) = OutOfMemory
failure_of e = Fault

-- the call's word for a failure
abbrev pub answer_of : Failure → StoreError
answer_of OutOfMemory = answers.OutOfMemory
answer_of Fault = answers.Fault
