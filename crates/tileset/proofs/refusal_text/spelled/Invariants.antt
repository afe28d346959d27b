-- the bytes so far
use Rattle.tileset.proofs.Common.{codes, flat_map, string_bytes, take, ◌++◌, ◌≡◌}
use Rattle.tileset.specs.RefusalText.{spelled_byte}
use Rattle.tileset.proofs.refusal_text.spelled.Given as goal

abbrev pub invariant-loop-byte : goal.invariant-loop-byte
invariant-loop-byte l = string_bytes l.text ≡ codes "t" ++ flat_map spelled_byte (take l.byte-index l.bytes)
