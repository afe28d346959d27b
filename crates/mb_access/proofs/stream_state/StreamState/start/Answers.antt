use Rattle.mb_access.proofs.Common.{ap, begun_err, begun_free, begun_ok, err_from_is_err_and, filter_map, len, length, Ok, refl, store_free, TableName, Tables, take, tile_by_row, tile_table, ◌++◌}
use Rattle.mb_access.proofs.Common.{◌-◌, ◌∙◌, ◌≡◌}
use Rattle.mb_access.proofs.StreamRows.{all_left, has_passed}
use Rattle.mb_access.proofs.stream_state.StreamState.start.Goals as goal

pub returns-in_err-set-clause-answer : goal.returns-in_err-set-clause-answer
returns-in_err-set-clause-answer g c =
    let p = err_from_is_err_and c.from_residual.result c.from_residual.ensures.1 in
    rw (p.1, p.2) (begun_err (λ s. Ok s) (g.S.TileStore.tells c.args.store.now) (g.S.TileStore.told c.args.store.now) _ c.in_err-set.ensures.answer c.in_err-set.ensures.own)

pub returns-in_err-rows-clause-answer : goal.returns-in_err-rows-clause-answer
returns-in_err-rows-clause-answer g c =
    let p = err_from_is_err_and c.from_residual-in_err-rows.result c.from_residual-in_err-rows.ensures.1 in
    rw (p.1, p.2) (begun_free (λ s. Ok s) (g.S.TileStore.tells c.args.store.now) (g.S.TileStore.told c.args.store.now) c.in_ok-set.set _ (store_free _) c.in_ok-set.ensures.answer c.in_ok-set.ensures.own)

pub returns-clause-answer : goal.returns-clause-answer
returns-clause-answer g c = begun_ok (λ s. Ok s) (g.S.TileStore.tells c.args.store.now) (g.S.TileStore.told c.args.store.now) c.in_ok-set.set (Ok c.in_ok-set.set.state) c.in_ok-set.ensures.answer c.in_ok-set.ensures.own refl

pub returns-clause-items : goal.returns-clause-items
returns-clause-items g c = λ t.
    let told = g.S.TileStore.told c.args.store.now in
    let s = c.in_ok-set.set.state in
    let kept = c.in_ok-set.ensures.kept in
    let name : c.tile_table.result ≡ tile_table s.layout = c.tile_table.ensures ∙ ap tile_table c.mbt_type.ensures in
    let rows : c.in_ok-rows.rows ≡ length (told.rows (tile_table s.layout)) =
    c.in_ok-rows.ensures.answer (kept.tells ∙ t) ∙ (ap (λ (u : Tables). length (u.rows c.tile_table.result)) kept.told ∙ ap (λ (n : TableName). length (told.rows n)) name) in
    let left : c.tile_count-left.result ≡ len s.tiles = c.tile_count-left.ensures in
    let none = c.new.ensures.items in
    (λ i. take (left i) (filter_map (tile_by_row s) (none i ++ take (c.in_ok-rows.rows - 0) (told.rows (tile_table s.layout)))))
    ∙ all_left told s (has_passed told s (c.in_ok-set.ensures.answer t).0) c.in_ok-rows.rows rows
