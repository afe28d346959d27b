use Rattle.mb_edit.proofs.PutTableLemmas.{are_put}
use Rattle.mb_edit.proofs.laws.put_tiles_committed.Goals as goal

pub returns : goal.returns
returns c = are_put
