use Rattle.mb_cache.proofs.Common.{ap, entry_at, refl, row_place, spot_at, sym, ◌&&◌, ◌∙◌}
use Rattle.mb_cache.proofs.SeenLemmas.{tile_more}
use Rattle.mb_cache.proofs.seen_tiles.SeenTiles.put.Goals as goal

pub returns : goal.returns
returns c rows row at expires sees =
    tile_more rows row c.args.self.now (record { entries = c.insert-2.new.self; places = c.insert.new.self; apart = c.args.self.now.apart && c.in_ok-added.added }) c.spot_of.result c.at.result c.in_ok-added.added
    (c.spot_of.ensures ∙ ap spot_at (sym at)) (c.at.ensures ∙ (ap (λ p. entry_at p c.args.expires.now) (sym at) ∙ ap (entry_at (row_place row)) (sym expires)))
    c.in_ok-added.ensures.added c.in_ok-added.ensures.updates.0 refl c.in_ok-insert.ensures.updates.0 c.in_ok-insert.ensures.ordered sees
