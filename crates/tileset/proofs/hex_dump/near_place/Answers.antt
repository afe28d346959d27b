use Rattle.tileset.proofs.Common.{ap, codes, encode_lower, ◌++◌, ◌∙◌}
use Rattle.tileset.proofs.HexDumpLemmas.{near_place}
use Rattle.tileset.proofs.hex_dump.near_place.Goals as goal

pub returns : goal.returns
returns c = ap (λ digits. digits ++ codes " ") (c.encode_into.ensures ∙ ap encode_lower c.to_be_bytes.ensures ∙ near_place c.args.at c.ranges.at.fits)
