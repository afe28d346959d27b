-- What a medium's answer says of bytes that may be a content.
use Rattle.std.specs.Prelude.{◌≡◌, ℕ, ◌-◌, ◌<◌, ◌^◌, Bool, false, List, Result, Ok, Err}
use Rattle.pm_contents.specs.Common.{bytes_eq, WriteFault}
use Rattle.byte_media.specs.declared.backend.BackendResponse.{BackendResponse}
use Rattle.byte_media.specs.declared.backend.ReadFault.{ReadFault}
use Rattle.byte_media.specs.declared.backend.ReadFault.TheVariants as reads
use Rattle.byte_media.specs.declared.medium.WriteFault.TheVariants as writes

-- whether they are the bytes that were read; a range that the medium doesn't have is another content, and a
-- fault is that of a write
abbrev pub same_by : Result BackendResponse ReadFault → List ℕ → Result Bool WriteFault
same_by (Ok response) x = Ok (bytes_eq response.bytes x)
same_by (Err reads.PastEnd) x = Ok false
same_by (Err (reads.Short asked got)) x = Ok false
same_by (Err reads.Fault) x = Err writes.Fault
same_by (Err reads.OutOfMemory) x = Err writes.OutOfMemory

-- a count of reads stood, and not at its end: nothing was read
abbrev pub Stood : ℕ → ℕ → Type 0
Stood before now = (now ≡ before) × (now < 2 ^ 64 - 1)
