use Rattle.mb_insert.proofs.Common.{ap, len, rules, sym, TileSet, ◌∙◌}
use Rattle.mb_insert.proofs.CountLemmas.{as_many, fewer}
use Rattle.mb_insert.proofs.tests_of_batch.test_all_put.Goals as goal

pub returns-then-tile_count-batch : goal.returns-then-tile_count-batch
returns-then-tile_count-batch c set is = as_many set c.args.batch.now (ap (λ (m : TileSet). len m) (sym is) ∙ (sym c.tile_count.ensures ∙ c.if-tile_count-batch.true))

pub returns : goal.returns
returns c set is = (λ free. fewer set c.args.batch.now (λ same. c.if-tile_count-batch.false (c.tile_count.ensures ∙ (ap (λ (m : TileSet). len m) is ∙ same))), search rules)
