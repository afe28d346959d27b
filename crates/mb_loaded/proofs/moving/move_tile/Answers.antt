use Rattle.mb_loaded.proofs.Common.{ap, arith, Blob, cell_id, Content, content_at, length, slice_get, slice_get-get_or, Some, sym, ◌<◌, ◌∙◌, ◌≡◌}
use Rattle.mb_loaded.proofs.MoveLemmas.{moved_before, moved_now, null_left, on_ok}
use Rattle.mb_loaded.proofs.moving.move_tile.Goals as goal

pub returns-then-known-gt0 : goal.returns-then-known-gt0
returns-then-known-gt0 c first is left whole given =
    let l = c.args.copying.now in
    let t = c.args.tile.now in
    let n = c.index-known.result.now in
    let at : slice_get l.copies.items t.contents ≡ Some n = slice_get-get_or l.copies.items t.contents n c.requires.within ∙ ap Some (sym c.index-known.ensures) in
    on_ok c.put_at.result _ _ (moved_before first c.args.others.now.items t c.args.id.now l c.requires.live is left whole given n c.is_null.result c.put_at.new.copying at (omega (arith, c.if-known-gt0.true)) c.is_null.ensures) c.put_at.ensures

pub returns-in-Blob : goal.returns-in-Blob
returns-in-Blob c first is left whole given =
    let l = c.args.copying.now in
    let t = c.args.tile.now in
    let n = c.index-known.result.now in
    let none : n ≡ 0 = omega (arith, c.if-known-gt0.false) in
    let at : slice_get l.copies.items t.contents ≡ Some 0 = slice_get-get_or l.copies.items t.contents n c.requires.within ∙ ap Some (sym c.index-known.ensures ∙ none) in
    let blob : (content_at c.args.others.now.items t.contents).cell ≡ Blob c.in-Blob.bytes = ap (λ (x : Content). x.cell) (sym c.take_content-cell.ensures.value) ∙ c.in-Blob.is in
    on_ok c.put_at-in-Blob.result _ _ (moved_now first c.args.others.now.items t c.args.id.now l c.requires.live is left whole given c.in-Blob.bytes c.in_ok-copy-in-Blob.copy c.is_null-in-Blob.result c.moved.new.copying c.put_at-in-Blob.new.copying c.take_content-cell.new.contents.items c.requires.within at blob c.take_content-cell.ensures.left c.is_null-in-Blob.ensures
    (λ cell. c.in_ok-copy-in-Blob.ensures.copied first is (given ∙ ap (cell_id l.layout l.algorithm) cell) cell) c.in_ok-copy-in-Blob.ensures.noted) c.put_at-in-Blob.ensures

pub returns : goal.returns
returns c first is left whole given =
    let l = c.args.copying.now in
    let t = c.args.tile.now in
    let n = c.index-known.result.now in
    let none : n ≡ 0 = omega (arith, c.if-known-gt0.false) in
    let at : slice_get l.copies.items t.contents ≡ Some 0 = slice_get-get_or l.copies.items t.contents n c.requires.within ∙ ap Some (sym c.index-known.ensures ∙ none) in
    let within : t.contents < length c.args.others.now.items = omega (arith, c.requires.within, c.requires.each) in
    on_ok c.remove_at.result _ _ (null_left first c.args.others.now.items t c.args.id.now l c.requires.live is left whole given c.take_content-cell.result.cell c.remove_at.new.copying c.take_content-cell.new.contents.items within at (ap (λ (x : Content). x.cell) (sym c.take_content-cell.ensures.value)) c.in_default.not-Blob c.take_content-cell.ensures.left) c.remove_at.ensures
