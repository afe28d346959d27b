use Rattle.mb_check.proofs.Common.{ap, arith, below, filter_map, get_or, info_by, no_sizes, sym, ◌∙◌, ◌≡◌}
use Rattle.mb_check.proofs.SizesLemmas.{one_info}
use Rattle.mb_check.proofs.totals.infos_of.Goals as goal

pub loop-zoom-init : goal.loop-zoom-init
unfolding below
loop-zoom-init c = c.new-infos.ensures.items

pub loop-zoom-preserved : goal.loop-zoom-preserved
loop-zoom-preserved c = c.in_ok-add_info.ensures ∙ one_info (λ zoom. info_by zoom (get_or c.args.sizes.now zoom no_sizes)) c.loop-zoom.zoom c.loop-zoom.infos.items c.info_at.result (sym c.info_at.ensures) c.loop-zoom.invariant

pub returns : goal.returns
returns c =
    let all : c.loop-zoom.zoom ≡ 31 = omega arith in
    c.loop-zoom.invariant ∙ ap (λ n. filter_map (λ zoom. info_by zoom (get_or c.args.sizes.now zoom no_sizes)) (below n)) all
