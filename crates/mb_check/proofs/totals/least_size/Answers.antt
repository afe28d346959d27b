use Rattle.mb_check.proofs.Common.{ap, arith, drop, map, ZoomInfo, ◌+◌, ◌∙◌}
use Rattle.mb_check.proofs.SizesLemmas.{least_all, least_end, least_step}
use Rattle.mb_check.proofs.totals.least_size.Goals as goal

pub loop-info-preserved : goal.loop-info-preserved
loop-info-preserved c =
    ap (λ o. least_all o (map (λ (i : ZoomInfo). i.min_tile_size) (drop (c.loop-info.info-index + 1) c.args.infos.now))) c.least_with-next.ensures
    ∙ (least_step (λ (i : ZoomInfo). i.min_tile_size) c.loop-info.least c.args.infos.now c.loop-info.info-index _ (omega arith) ∙ c.loop-info.invariant)

pub returns : goal.returns
returns c = least_end (λ (i : ZoomInfo). i.min_tile_size) c.loop-info.least c.args.infos.now c.loop-info.info-index (omega arith) c.loop-info.invariant
