use Rattle.tile_streaming.proofs.Common.{ap, facts_of_marks, ◌∙◌}
use Rattle.tile_streaming.proofs.FactLemmas.{same_facts}
use Rattle.tile_streaming.proofs.mark.MarkedSet.tile_facts.Goals as goal

pub returns : goal.returns
returns c = λ s is. c.facts_of_marks.ensures ∙ (ap facts_of_marks c.deref.ensures.value ∙ same_facts c.args.self.now s is)
