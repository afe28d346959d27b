use Rattle.mb_loaded.proofs.Common.{ap, Blob, Content, content_at, get_or, ◌∙◌, ◌≡◌}
use Rattle.mb_loaded.proofs.CopyLemmas.{named_content, tile_put, tile_removed}
use Rattle.mb_loaded.proofs.copying.copy_tile.Goals as goal

pub returns-in_ok-put_at-in-Blob : goal.returns-in_ok-put_at-in-Blob
returns-in_ok-put_at-in-Blob c =
    let others = c.args.others.now in
    let t = c.args.tile.now in
    let at : (content_at others t.contents).cell ≡ Blob c.in-Blob.bytes = ap (λ (x : Content). x.cell) (named_content others t c.index-others-tile.result c.requires.whole c.requires.live) ∙ c.in-Blob.is in
    let done = tile_put others t c.in-Blob.bytes c.args.id.now c.in_ok-copy-in-Blob.copy c.is_null.result c.args.copying.now c.copied.new.copying c.put_at.new.copying c.requires.live at c.requires.id c.is_null.ensures (c.in_ok-copy-in-Blob.ensures others c.requires.copying at) c.in_ok-put_at-in-Blob.ensures in
    record { copying = done.0; edits = done.1 }

pub returns-in_ok-remove_at-in_default : goal.returns-in_ok-remove_at-in_default
returns-in_ok-remove_at-in_default c =
    let others = c.args.others.now in
    let t = c.args.tile.now in
    let at : (content_at others t.contents).cell ≡ (get_or others t.contents c.index-others-tile.result).cell = ap (λ (x : Content). x.cell) (named_content others t c.index-others-tile.result c.requires.whole c.requires.live) in
    let done = tile_removed others t (get_or others t.contents c.index-others-tile.result).cell c.args.copying.now c.remove_at.new.copying c.requires.whole c.requires.live at c.in_default.not-Blob c.requires.copying c.in_ok-remove_at-in_default.ensures in
    record { copying = done.0; edits = done.1 }
