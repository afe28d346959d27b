use Rattle.tileset.proofs.Common.{ap, arith, codes, length, rules, ◌*◌, ◌++◌, ◌∙◌, ◌≡◌}
use Rattle.tileset.proofs.HexDumpLemmas.{ended}
use Rattle.tileset.proofs.hex_dump.ended_digits.Goals as goal

pub returns : goal.returns
returns c =
    let len : length c.encode_into.new.digits ≡ 2 * length c.args.bytes.now = search rules in
    ended (2 * length c.args.bytes.now) c.encode_into.new.digits len (omega (arith, c.requires)) ∙ ap (λ digits. digits ++ codes "\n") c.encode_into.ensures
