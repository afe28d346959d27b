use Rattle.mb_cache.proofs.Common.{append-nil, arith, SeesTiles, subst, sym, take_all, ◌++◌}
use Rattle.mb_cache.proofs.SeenLemmas.{row_good, tiles_next}
use Rattle.mb_cache.proofs.seen_tiles.SeenTiles.add_all.Goals as goal

pub loop-row-init : goal.loop-row-init
loop-row-init c before sees = subst (λ l. SeesTiles l c.args.self.now) (sym (append-nil before)) sees

pub add-requires : goal.add-requires
add-requires c = row_good _ _ _ c.requires c.loop-row-test.true c.row-item.is

pub loop-row-preserved : goal.loop-row-preserved
loop-row-preserved c = tiles_next _ _ _ _ _ _ c.loop-row-test.true c.row-item.is c.loop-row.invariant c.in_ok-add.ensures

pub returns : goal.returns
returns c before sees = subst (λ l. SeesTiles (before ++ l) c.loop-row.self) (take_all c.loop-row.row-index c.args.rows.now (omega (arith, c.loop-row-test.false))) (c.loop-row.invariant before sees)
