use Rattle.mb_tree.proofs.Common.{rules, sym, ◌∙◌}
use Rattle.mb_tree.proofs.PackLemmas.{apart_passes, twice_refuses}
use Rattle.mb_tree.proofs.packing.test_apart.Goals as goal

pub returns-then-saturating_sub-count_tiles : goal.returns-then-saturating_sub-count_tiles
returns-then-saturating_sub-count_tiles c scheme base files before of is =
    apart_passes scheme base c.args.set.now files c.args.paths.now c.args.before c.tile_count.result c.count_tiles.result before of is c.tile_count.ensures c.count_tiles.ensures (sym c.saturating_sub.ensures ∙ c.if-saturating_sub-count_tiles.true)

pub returns : goal.returns
returns c scheme base files before of is = (
  (λ free. twice_refuses scheme base c.args.set.now files c.args.paths.now c.args.before c.tile_count.result c.count_tiles.result before of is c.tile_count.ensures c.count_tiles.ensures (λ e. c.if-saturating_sub-count_tiles.false (c.saturating_sub.ensures ∙ e))),
  search rules,
)
