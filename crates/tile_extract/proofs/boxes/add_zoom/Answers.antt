use Rattle.tile_extract.proofs.Common.{boxes_hold, Gathered, OnOk, subst, sym, Wants, ◌∙◌}
use Rattle.tile_extract.proofs.QuadrantLemmas.{wants_near, zoom_end, zoom_start}
use Rattle.tile_extract.proofs.boxes.add_zoom.Goals as goal

pub returns : goal.returns
returns c = λ g.
    let near : Wants c.as_slice.result.now c.args.zoom (boxes_hold c.args.boxes.now) =
    subst (λ l. Wants l c.args.zoom (boxes_hold c.args.boxes.now)) (sym (c.as_slice.ensures.value ∙ c.in_ok-near.ensures)) (wants_near c.args.boxes.now c.args.zoom) in
    subst (λ n. OnOk c.add_quadrant.result (Gathered (boxes_hold c.args.boxes.now) n c.add_quadrant.new.found.items)) (zoom_end c.args.zoom)
    (c.add_quadrant.ensures (boxes_hold c.args.boxes.now) near (subst (λ n. Gathered (boxes_hold c.args.boxes.now) n c.args.found.now.items) (sym (zoom_start c.args.zoom)) g))
