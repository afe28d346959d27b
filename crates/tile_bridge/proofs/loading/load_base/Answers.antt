use Rattle.tile_bridge.proofs.Common.{told_of, true}
use Rattle.tile_bridge.proofs.StoreLemmas.{load_refused}
use Rattle.tile_bridge.proofs.loading.load_base.Goals as goal

pub returns-in-Err-clause-refused : goal.returns-in-Err-clause-refused
returns-in-Err-clause-refused c = load_refused 0 true (told_of c.args.base) c.in-Err.error c.of_store.result c.of_store.ensures (λ tells. c.in-Err.ensures.answer)
