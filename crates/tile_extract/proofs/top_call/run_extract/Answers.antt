use Rattle.tile_extract.proofs.Common.{asked_in, Err}
use Rattle.tile_extract.proofs.RunLemmas.{run_well}
use Rattle.tile_extract.proofs.top_call.run_extract.Goals as goal

pub returns-in-Err-clause-complete : goal.returns-in-Err-clause-complete
returns-in-Err-clause-complete g c =
    let e = c.in-Err.ensures in
    run_well (asked_in c.args.words.now) _ _ _ (g.B.Backend.told c.args.source.now) (g.M.Backend.told c.args.medium.now) _ _ _ _ (Err c.in-Err.error) e.causes e.answers c.in-Some.ensures
