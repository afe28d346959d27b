use Rattle.mb_check.proofs.InfoLemmas.{info_same}
use Rattle.mb_check.proofs.patch_info.info_of.Goals as goal

pub returns-clause-answer : goal.returns-clause-answer
returns-clause-answer c = info_same c.args.set.now.state c.mbt_type.result c.in_ok-agg_tiles_hash.agg_tiles_hash c.in_ok-agg_tiles_hash_before_apply.agg_tiles_hash_before_apply c.in_ok-agg_tiles_hash_after_apply.agg_tiles_hash_after_apply c.patch_type.result c.mbt_type.ensures c.in_ok-agg_tiles_hash.ensures c.in_ok-agg_tiles_hash_before_apply.ensures c.in_ok-agg_tiles_hash_after_apply.ensures c.patch_type.ensures
