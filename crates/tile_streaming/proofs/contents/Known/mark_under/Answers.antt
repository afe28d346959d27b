use Rattle.tile_streaming.proofs.Common.{ap, Some, sym, ◌∙◌}
use Rattle.tile_streaming.proofs.KnownLemmas.{mark_found, mark_missing, mark_of_none}
use Rattle.tile_streaming.proofs.contents.Known.mark_under.Goals as goal

pub returns-then-is_null : goal.returns-then-is_null
returns-then-is_null c = λ contents knows. mark_of_none contents c.args.id.now (sym c.is_null.ensures ∙ c.if-is_null.true)

pub returns-in-Some : goal.returns-in-Some
returns-in-Some c = λ contents knows. c.mark_at.ensures ∙ mark_found contents c.args.self.now knows c.args.id.now (sym c.is_null.ensures ∙ c.if-is_null.false) c.in-Some.index (sym c.index_of.ensures ∙ c.in-Some.is)

pub returns-in-None : goal.returns-in-None
returns-in-None c = λ contents knows. ap Some c.content_mark.ensures ∙ mark_missing contents c.args.self.now knows c.args.id.now (sym c.is_null.ensures ∙ c.if-is_null.false) (sym c.index_of.ensures ∙ c.in-None.is)
