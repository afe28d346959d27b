use Rattle.tile_hash.proofs.Common.{ap, arith, encode_upper, take-append-le, take_all, ◌∙◌}
use Rattle.tile_hash.proofs.hash_text.HashText.of_word.Goals as goal

pub returns : goal.returns
returns c =
    take-append-le 16 c.write_upper_hex.new.out _ (omega arith) ∙ take_all 16 c.write_upper_hex.new.out (omega arith)
    ∙ c.write_upper_hex.ensures ∙ ap encode_upper c.to_be_bytes.ensures
