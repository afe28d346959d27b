use Rattle.tile_hash.proofs.Common.{arith, take_all, ◌∙◌}
use Rattle.tile_hash.proofs.hash_text.HashText.of_md5.Goals as goal

pub returns : goal.returns
returns c = take_all 32 c.md5_text.result (omega arith) ∙ c.md5_text.ensures
