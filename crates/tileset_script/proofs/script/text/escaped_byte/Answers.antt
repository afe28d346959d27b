use Rattle.tileset_script.proofs.Common.{sym}
use Rattle.tileset_script.proofs.TextLemmas.{digits_taken}
use Rattle.tileset_script.proofs.script.text.escaped_byte.Goals as goal

pub returns-in_ok-byte-in-len2-up-clause-value : goal.returns-in_ok-byte-in-len2-up-clause-value
returns-in_ok-byte-in-len2-up-clause-value c = digits_taken c.args.digits.now c.in_ok-byte-in-len2-up.byte c.in-len2-up.len_at_least (sym c.in_ok-byte-in-len2-up.ensures)
