-- Opening an archive: its header and root, or the first refusal.
use Rattle.std.specs.Prelude.{ℕ, ◌+◌, List, length, take, drop, nat_lt, if◌then◌else◌, Option, Some, None, Result, Ok, Err}
use Rattle.pm_format.specs.declared.compression.Compression.{Compression}
use Rattle.pm_format.specs.declared.compression.Compression.TheVariants as compression
use Rattle.pm_format.specs.declared.error.PmtError.{PmtError}
use Rattle.pm_format.specs.declared.error.PmtError.TheVariants as errors
use Rattle.pm_format.specs.declared.header.Header.{Header}
use Rattle.pm_format.specs.declared.header.TheConstants.{HEADER_SIZE, ROOT_END}
use Rattle.pm_format.specs.Header.{head}
use Rattle.pm_format.specs.Directory.{Entry, dir_of}

-- the header and the entries of the root
abbrev pub Opened : Type 0
Opened = Header × List Entry

abbrev pub root_decoded : Header → Option (List Entry) → Result Opened PmtError
root_decoded h None = Err errors.InvalidEntry
root_decoded h (Some es) = Ok (h, es)

-- the root, where its directories are labelled plain
abbrev pub root_labelled : List ℕ → Header → Compression → Result Opened PmtError
root_labelled front h compression.None = root_decoded h (dir_of (take h.root_length (drop h.root_offset front)))
root_labelled front h label = Err (errors.UnsupportedCompression label)

-- the root lies behind the header and within the front
abbrev pub root_placed : List ℕ → Result Header PmtError → Result Opened PmtError
root_placed front (Err e) = Err e
root_placed front (Ok h) =
    if nat_lt h.root_offset HEADER_SIZE then Err errors.InvalidHeader else
    (if nat_lt (length front) (h.root_offset + h.root_length) then Err errors.InvalidHeader else
    root_labelled front h h.internal_compression)

abbrev pub opened_front : List ℕ → Result Opened PmtError
opened_front front = if nat_lt (length front) HEADER_SIZE then Err errors.InvalidHeader else root_placed front (head front)

-- only the front is read
unfoldable pub opened : List ℕ → Result Opened PmtError
opened b = opened_front (take ROOT_END b)
