-- a medium in memory
use Rattle.std.specs.Prelude.{ℕ, ◌-◌, Bool, List, length, slice_get, min}
use Rattle.byte_media.specs.Common.{one_more, Option}
use Rattle.base_values.specs.FailingCalls as failing
use Rattle.byte_media.specs.declared.mem_medium.MemMedium.{MemMedium}

-- the text of the read with this number: the n-th, or the last one beyond
abbrev pub version_at : List (List ℕ) → ℕ → Option (List ℕ)
version_at texts number = slice_get texts (min (number - 1) (length texts - 1))

-- the bytes
abbrev pub held : MemMedium → List ℕ
held m = m.bytes.items

-- the version texts
abbrev pub version_texts : MemMedium → List (List ℕ)
version_texts m = m.versions.items

-- how many calls were made, how many of them failed, and how many were reads
abbrev pub call_count : MemMedium → ℕ
call_count m = m.failing.calls

abbrev pub fault_count : MemMedium → ℕ
fault_count m = m.failing.faults

abbrev pub read_count : MemMedium → ℕ
read_count m = m.reads

-- the numbers of the calls that fail, counted from 1
abbrev pub failing_calls : MemMedium → List ℕ
failing_calls m = m.failing.listed.items

-- whether the next call is one of them
abbrev pub next_fails : MemMedium → Bool
next_fails m = failing.next_fails m.failing

-- after a call: it is counted, and a fault where it fails
abbrev pub called : MemMedium → MemMedium
called m = record m { failing = failing.called m.failing }

-- after a read: that is counted too
abbrev pub read_called : MemMedium → MemMedium
read_called m = record (called m) { reads = one_more m.reads }
