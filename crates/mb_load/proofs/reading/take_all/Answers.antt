use Rattle.mb_load.proofs.Common.{ap, content_rows, Metadata, Tables, tile_table, told_of, without_rows, ◌∙◌}
use Rattle.mb_load.proofs.OwnedLemmas.{contents_stay, tiles_stay}
use Rattle.mb_load.proofs.reading.take_all.Goals as goal

pub returns-clause-tiles : goal.returns-clause-tiles
returns-clause-tiles c =
    c.in_ok-tiles.ensures.rows
    ∙ (ap (told_of c.take_rows.new.self).rows c.tile_table.ensures
    ∙ (ap (λ (t : Tables). t.rows (tile_table c.args.layout)) c.in_ok-metadata.ensures.told
    ∙ tiles_stay c.args.layout (told_of c.args.store)))

pub returns-clause-contents : goal.returns-clause-contents
returns-clause-contents c =
    c.in_ok-contents.ensures.answer
    ∙ (ap (content_rows c.args.layout) (c.in_ok-tiles.ensures.told
    ∙ (ap (λ (t : Tables). without_rows t c.tile_table.result) c.in_ok-metadata.ensures.told
    ∙ ap (without_rows (without_rows (told_of c.args.store) Metadata)) c.tile_table.ensures))
    ∙ contents_stay c.args.layout (told_of c.args.store))
