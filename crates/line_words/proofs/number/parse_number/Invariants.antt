-- what the digits so far and the rest make
use Rattle.line_words.proofs.Common.{at_most, digits_behind, drop, number_to, option_and_then, ◌≡◌, ◌≤◌}
use Rattle.line_words.proofs.number.parse_number.Given as goal

abbrev pub invariant-loop-byte : goal.invariant-loop-byte
invariant-loop-byte l = record {
  whole : option_and_then (at_most l.limit) (digits_behind l.number (drop l.byte-index l.word)) ≡ number_to l.limit l.word;
  within : l.number ≤ l.limit;
}
