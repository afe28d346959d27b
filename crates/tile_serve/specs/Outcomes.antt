-- The outcome that each error ends in, and the status of each outcome.
use Rattle.std.specs.Prelude.{ℕ, Result, Ok, Err}
use Rattle.byte_streams.specs.declared.input.InputError.{InputError}
use Rattle.byte_streams.specs.declared.input.InputError.TheVariants as input
use Rattle.byte_streams.specs.declared.sink.SinkFault.{SinkFault}
use Rattle.byte_streams.specs.declared.sink.SinkFault.TheVariants as sink
use Rattle.pm_format.specs.Status.{archive_status}
use Rattle.pm_format.specs.declared.status.TheConstants.{DONE, REFUSED, USAGE, INPUT_FAULT, OUTPUT_FAULT, FAULT, OUT_OF_MEMORY, INPUT_TOO_LONG}
use Rattle.tile_serve.specs.declared.error.ServeError.{ServeError}
use Rattle.tile_serve.specs.declared.error.ServeError.TheVariants as serve
use Rattle.tile_serve.specs.declared.outcome.ServeOutcome.{ServeOutcome}
use Rattle.tile_serve.specs.declared.outcome.ServeOutcome.TheVariants.{Done, Refused, Usage, InputFault, OutputFault, InputTooLong, OutOfMemory}

abbrev pub of_serve : ServeError → ServeOutcome
of_serve serve.OutOfMemory = OutOfMemory
of_serve e = Refused e

abbrev pub of_input : InputError → ServeOutcome
of_input input.Fault = InputFault
of_input input.TooLong = InputTooLong
of_input input.OutOfMemory = OutOfMemory

abbrev pub of_sink : SinkFault → ServeOutcome
of_sink sink.Fault = OutputFault
of_sink sink.OutOfMemory = OutOfMemory

-- the outcome of an attempt
abbrev pub outcome_of : {T : Type 0} → Result T ServeOutcome → ServeOutcome
outcome_of (Ok x) = Done
outcome_of (Err e) = e

abbrev pub status : ServeOutcome → ℕ
status Done = DONE
status (Refused (serve.Opening e)) = archive_status e
status (Refused serve.Fault) = FAULT
status (Refused e) = REFUSED
status Usage = USAGE
status InputFault = INPUT_FAULT
status OutputFault = OUTPUT_FAULT
status InputTooLong = INPUT_TOO_LONG
status OutOfMemory = OUT_OF_MEMORY
