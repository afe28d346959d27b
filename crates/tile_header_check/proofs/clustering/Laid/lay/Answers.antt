use Rattle.tile_header_check.proofs.Common.{ap, arith, capped, nat_tests, ◌+◌, ◌∙◌}
use Rattle.tile_header_check.proofs.ClusteringLemmas.{laid_behind, laid_within}
use Rattle.tile_header_check.proofs.clustering.Laid.lay.Goals as goal

pub returns-then-part-self-clause-lays : goal.returns-then-part-self-clause-lays
returns-then-part-self-clause-lays c = laid_within c.args.self.now.end c.args.self.now.begins.items c.args.part c.has.result (grind (arith, nat_tests, c.if-part-self.true)) c.has.ensures

pub returns-clause-lays : goal.returns-clause-lays
returns-clause-lays c = laid_behind c.args.self.now.end c.args.self.now.begins.items c.args.part _ _ (grind (arith, nat_tests, c.if-part-self.false)) (c.saturating_add-self.ensures ∙ ap (λ n. capped (c.args.self.now.end + n)) c.from.ensures) c.in_ok-push.ensures.items
