use Rattle.mb_tree.proofs.Common.{arith}
use Rattle.mb_tree.proofs.SplitLemmas.{split_is}
use Rattle.mb_tree.proofs.tile_path.split_folder.Goals as goal

pub returns : goal.returns
returns c = split_is 47 c.args.path.now _ (omega arith) c.rsplit_once.ensures.cases
