-- what is written so far and the dump of the rest are the whole
use Rattle.tileset.proofs.Common.{hex_dump, length, ◌++◌, ◌+◌, ◌<◌, ◌≡◌, ◌≤◌}
use Rattle.tileset.proofs.hex_dump.push_hex_dump.Given as goal

abbrev pub invariant-loop-rest : goal.invariant-loop-rest
invariant-loop-rest l = record {
  whole : l.text.items ++ hex_dump l.place l.rest ≡ l.initial.text.items ++ hex_dump l.at l.bytes;
  fits : 0 < length l.rest → l.place + length l.rest ≤ l.at + length l.bytes;
}

abbrev pub decreases-loop-rest : goal.decreases-loop-rest
decreases-loop-rest l = length l.rest
