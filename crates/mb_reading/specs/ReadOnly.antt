-- What a file that is only read counts.
use Rattle.mb_reading.specs.Common.{Tally}
use Rattle.mb_reading.specs.declared.read_only.ReadOnly.{ReadOnly}

-- how many of its reads found other bytes than before; it is never written, so that none found no room
abbrev pub counted : ReadOnly → Tally
counted file = record { caught = file.caught; refused = 0 }
