-- The bytes that hexadecimal digits spell.
use Rattle.std.specs.Prelude.{ℕ, List, Option, Some, None, Result, Ok, Err}
use Rattle.hex_pairs.specs.Common.{decode_of}
use Rattle.hex.specs.declared.error.FromHexError.{FromHexError}

-- the bytes that were read, if they were
abbrev pub bytes_of : Result (List ℕ) FromHexError → Option (List ℕ)
bytes_of (Ok bytes) = Some bytes
bytes_of (Err e) = None

-- the bytes of an even number of digits of either case
abbrev pub decoded : List ℕ → Option (List ℕ)
decoded digits = bytes_of (decode_of digits)
