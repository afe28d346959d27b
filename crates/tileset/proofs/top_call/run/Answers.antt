use Rattle.tileset.proofs.Common.{Given}
use Rattle.tileset.proofs.AnswerLemmas.{complete_by}
use Rattle.tileset.proofs.top_call.run.Goals as goal

pub returns-in-Err-clause-complete : goal.returns-in-Err-clause-complete
returns-in-Err-clause-complete g c =
    let given : Given = record { words = c.args.words.now; input = g.I.Source.left c.args.input.now; medium = g.M.Backend.told c.args.medium.now } in
    λ s is input output medium. complete_by given s c.in-Err.outcome is c.in-Err.ensures.exact
    (λ e. input (c.in-Err.ensures.input_fault e)) (λ e. output (c.in-Err.ensures.output_fault e)) (λ e. medium (c.in-Err.ensures.medium_fault e))
