use Rattle.tile_serve.proofs.Common.{limits_in}
use Rattle.tile_serve.proofs.CompletingLemmas.{complete_by}
use Rattle.tile_serve.proofs.top_call.run_serve.Goals as goal

pub returns-in-Err-clause-complete : goal.returns-in-Err-clause-complete
returns-in-Err-clause-complete g c =
    let e = c.in-Err.ensures in
    complete_by (limits_in c.args.words.now) (g.I.Source.left c.args.input.now) (g.B.Backend.told c.args.source.now) (g.B.Backend.versions c.args.source.now) _ _ _ _ c.in-Err.outcome e.words e.too_long e.opens e.causes e.unmodified e.input_fault e.output_fault
