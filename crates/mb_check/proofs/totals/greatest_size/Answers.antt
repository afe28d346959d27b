use Rattle.mb_check.proofs.Common.{ap, arith, drop, map, ZoomInfo, ◌+◌, ◌∙◌}
use Rattle.mb_check.proofs.SizesLemmas.{greatest_all, greatest_end, greatest_step}
use Rattle.mb_check.proofs.totals.greatest_size.Goals as goal

pub loop-info-preserved : goal.loop-info-preserved
loop-info-preserved c =
    ap (λ o. greatest_all o (map (λ (i : ZoomInfo). i.max_tile_size) (drop (c.loop-info.info-index + 1) c.args.infos.now))) c.greatest_with-next.ensures
    ∙ (greatest_step (λ (i : ZoomInfo). i.max_tile_size) c.loop-info.greatest c.args.infos.now c.loop-info.info-index _ (omega arith) ∙ c.loop-info.invariant)

pub returns : goal.returns
returns c = greatest_end (λ (i : ZoomInfo). i.max_tile_size) c.loop-info.greatest c.args.infos.now c.loop-info.info-index (omega arith) c.loop-info.invariant
