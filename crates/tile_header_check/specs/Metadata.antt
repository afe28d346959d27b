-- What a header says of metadata: where an object of JSON is.
use Rattle.std.specs.Prelude.{◌≡◌, ℕ, List, if◌then◌else◌, Option, Some, None, Result, Ok, Err}
use Rattle.std.specs.Str.{is_utf8}
use Rattle.tile_header_check.specs.Common.{Data, object, PmtError, read, VerifyError}
use Rattle.tile_header_check.specs.declared.fault.MetadataFault.{MetadataFault}
use Rattle.tile_header_check.specs.declared.fault.MetadataFault.TheVariants.{PastEnd, NotUtf8, NotJson, NotAnObject}
use Rattle.pm_format.specs.declared.error.PmtError.TheVariants as errors
use Rattle.pm_format.specs.declared.error.ReadCause.TheVariants as causes
use Rattle.tile_verify.specs.declared.error.VerifyError.TheVariants as verify

-- what keeps a value of JSON from being an object
abbrev pub shape_fault : Data → Option MetadataFault
shape_fault (object ms) = None
shape_fault d = Some NotAnObject

-- and a text from being one
abbrev pub object_fault : Option Data → Option MetadataFault
object_fault None = Some NotJson
object_fault (Some d) = shape_fault d

-- and bytes, where they are there
unfoldable pub metadata_fault : Result (List ℕ) PmtError → Option MetadataFault
metadata_fault (Err e) = Some PastEnd
metadata_fault (Ok text) = if is_utf8 text then object_fault (read text) else Some NotUtf8

-- what the refusal of metadata stands for; there is no other but running out of memory
abbrev pub unread : PmtError → Result (Option MetadataFault) VerifyError
unread errors.InvalidMetadataUtf8Encoding = Ok (Some NotUtf8)
unread (errors.Reading causes.PastEnd) = Ok (Some PastEnd)
unread (errors.Reading causes.Fault) = Err verify.Fault
unread (errors.UnexpectedNumberOfBytesReturned asked got) = Err (verify.Short asked got)
unread e = Err verify.OutOfMemory

-- Over told bytes: what is due is answered. A fault and running out of memory may come in its place.
abbrev pub MetadataTests : Option MetadataFault → Result (Option MetadataFault) VerifyError → Type 0
MetadataTests due (Ok found) = found ≡ due
MetadataTests due (Err verify.Fault) = Unit {0}
MetadataTests due (Err verify.OutOfMemory) = Unit {0}
MetadataTests due (Err e) = ⊥
