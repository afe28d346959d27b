-- The outcomes that errors end a run in.
use Rattle.tileset.specs.Common.{ConvertError}
use Rattle.tile_bridge.specs.declared.error.ConvertError.TheVariants as convert
use Rattle.byte_media.specs.declared.backend.ReadFault.{ReadFault}
use Rattle.byte_media.specs.declared.backend.ReadFault.TheVariants as read
use Rattle.pm_format.specs.declared.error.PmtError.TheVariants as errors
use Rattle.pm_format.specs.declared.error.ReadCause.TheVariants as causes
use Rattle.byte_streams.specs.declared.input.InputError.{InputError}
use Rattle.byte_streams.specs.declared.input.InputError.TheVariants as input
use Rattle.tileset_script.specs.declared.script.error.ScriptError.{ScriptError}
use Rattle.tileset_script.specs.declared.script.error.ScriptError.TheVariants as script
use Rattle.byte_streams.specs.declared.sink.SinkFault.{SinkFault}
use Rattle.byte_streams.specs.declared.sink.SinkFault.TheVariants as sink
use Rattle.tileset.specs.declared.outcome.Outcome.{Outcome}
use Rattle.tileset.specs.declared.outcome.Outcome.TheVariants.{Refused, BadScript, InputFault, OutputFault, MediumFault, OutOfMemory, InputTooLong, ReadBack}

abbrev pub of_convert : ConvertError → Outcome
of_convert (convert.MediumNotEmpty length) = Refused (convert.MediumNotEmpty length)
of_convert (convert.UnsupportedCompression label) = Refused (convert.UnsupportedCompression label)
of_convert (convert.Store place e) = Refused (convert.Store place e)
of_convert convert.IndexEntryOverflow = Refused convert.IndexEntryOverflow
of_convert (convert.StoreFault place) = Refused (convert.StoreFault place)
of_convert convert.MediumFault = MediumFault
of_convert (convert.ReadBack e) = ReadBack e
of_convert convert.OutOfMemory = OutOfMemory

abbrev pub of_sink : SinkFault → Outcome
of_sink sink.Fault = OutputFault
of_sink sink.OutOfMemory = OutOfMemory

abbrev pub of_read : ReadFault → Outcome
of_read read.Fault = MediumFault
of_read read.PastEnd = ReadBack (errors.Reading causes.PastEnd)
of_read (read.Short asked got) = ReadBack (errors.UnexpectedNumberOfBytesReturned asked got)
of_read read.OutOfMemory = OutOfMemory

abbrev pub of_input : InputError → Outcome
of_input input.Fault = InputFault
of_input input.TooLong = InputTooLong
of_input input.OutOfMemory = OutOfMemory

abbrev pub of_script : ScriptError → Outcome
of_script (script.BadLine n) = BadScript n
of_script script.OutOfMemory = OutOfMemory
