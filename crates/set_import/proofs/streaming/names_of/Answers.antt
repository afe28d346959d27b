use Rattle.set_import.proofs.Common.{ap, document_edits, Held, held_edited, ◌∙◌}
use Rattle.set_import.proofs.streaming.names_of.Goals as goal

pub returns-in-Ok-clause-named : goal.returns-in-Ok-clause-named
returns-in-Ok-clause-named c = c.in-Ok.ensures ∙ ap (λ (h : Held). held_edited h (document_edits c.args.document.now)) c.empty-none.ensures
