use Rattle.mb_check.proofs.Common.{get_or-replicate, IfOk, List, no_sizes, replicate, subst, ZoomInfo, ◌∙◌, ◌≡◌}
use Rattle.mb_check.proofs.SizesLemmas.{zooms_same}
use Rattle.mb_check.proofs.totals.zoom_infos.Goals as goal

pub returns : goal.returns
returns c =
    subst (λ (l : List ZoomInfo). IfOk c.infos_of.result (λ infos. infos.items ≡ l))
    (zooms_same c.args.set.now.state.tiles (replicate 32 c.none-sizes.result) c.take_tiles.new.sizes c.take_tiles.ensures.few (λ q lt. get_or-replicate 32 q c.none-sizes.result no_sizes lt ∙ c.none-sizes.ensures) c.take_tiles.ensures.taken)
    c.infos_of.ensures
