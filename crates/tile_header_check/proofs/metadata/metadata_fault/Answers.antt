use Rattle.tile_header_check.proofs.Common.{ap, header_of, object_fault, read, ◌∙◌}
use Rattle.tile_header_check.proofs.MetadataLemmas.{told_text, told_unread}
use Rattle.tile_header_check.proofs.metadata.metadata_fault.Goals as goal

pub returns-in-Ok-object_fault-clause-answer : goal.returns-in-Ok-object_fault-clause-answer
returns-in-Ok-object_fault-clause-answer g c =
    told_text (g.B.Backend.told c.args.source.now) (header_of c.args.state.now) _ _ (c.in-Ok-object_fault.ensures ∙ ap (λ t. object_fault (read t)) c.as_str.ensures) c.in-Ok.ensures.answer

pub returns-clause-answer : goal.returns-clause-answer
returns-clause-answer g c = told_unread (g.B.Backend.told c.args.source.now) (header_of c.args.state.now) c.in-Err.error c.unread.result c.unread.ensures c.in-Err.ensures.answer
