use Rattle.mb_load.proofs.Common.{ap, err_from_is_err_and, first_refused, last_tested, None, reference_missing, rows_kept, sym, tile_bad, wrong_id, ◌∙◌}
use Rattle.mb_load.proofs.from_rows.test_rows.Goals as goal

pub returns-in_err-test_content_hashes : goal.returns-in_err-test_content_hashes
returns-in_err-test_content_hashes c =
    let p = err_from_is_err_and c.from_residual-in_err-test_content_hashes.result c.from_residual-in_err-test_content_hashes.ensures.1 in
    rw (p.1, p.2) (λ h. last_tested c.args.layout c.args.algorithm c.args.contents.now.items.items c.args.rows.now (tile_bad c.args.layout (rows_kept c.args.contents.now.items.items) c.args.rows.now) (reference_missing c.args.layout (rows_kept c.args.contents.now.items.items) c.args.rows.now) _ c.in_ok-test_tiles.ensures c.in_ok-test_references.ensures c.in_ok-test_tile_hashes.ensures (ap (first_refused (wrong_id c.args.layout c.args.algorithm)) (sym c.deref.ensures.value) ∙ c.in_err-test_content_hashes.ensures.0 h), c.in_err-test_content_hashes.ensures.1)

pub returns : goal.returns
returns c = last_tested c.args.layout c.args.algorithm c.args.contents.now.items.items c.args.rows.now (tile_bad c.args.layout (rows_kept c.args.contents.now.items.items) c.args.rows.now) (reference_missing c.args.layout (rows_kept c.args.contents.now.items.items) c.args.rows.now) None c.in_ok-test_tiles.ensures c.in_ok-test_references.ensures c.in_ok-test_tile_hashes.ensures (ap (first_refused (wrong_id c.args.layout c.args.algorithm)) (sym c.deref.ensures.value) ∙ c.in_ok-test_content_hashes.ensures)
