use Rattle.tile_streaming.proofs.Common.{ap, cond, Coord, coord_of, sym, with_filled, ◌∙◌}
use Rattle.tile_streaming.proofs.KeyLemmas.{coord_is}
use Rattle.tile_streaming.proofs.mark_facts.with_mark.Goals as goal

pub returns : goal.returns
returns c =
    let facts = c.args.facts in
    let m = c.args.mark.now in
    let zoom = c.z.ensures.value ∙ ap (λ (x : Coord). x.z) (coord_is m.id c.from-coord.result c.from-coord.ensures) in
    c.with_tile.ensures
    ∙ (ap (λ z. with_filled facts z m.gzip) zoom
    ∙ ap (λ none. cond none facts (with_filled facts (coord_of m.id).z m.gzip)) (sym (sym c.is_empty.ensures ∙ c.if-is_empty.false)))
