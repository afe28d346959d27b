use Rattle.mb_access.proofs.Common.{ap, arith, drop, length, TableName, take, tile_table, ◌++◌, ◌+◌, ◌-◌, ◌∙◌, ◌≡◌, ◌≤◌}
use Rattle.mb_access.proofs.StreamPages.{page_read}
use Rattle.mb_access.proofs.stream_state.StreamState.has_row.Goals as goal

pub returns-clause-rows : goal.returns-clause-rows
returns-clause-rows g c = λ t.
    let told = g.S.TileStore.told c.args.store.now in
    let s = c.args.self.now in
    let table = told.rows (tile_table s.set.state.layout) in
    let page = c.in_ok-page.page.items in
    let name : c.tile_table-table.result ≡ tile_table s.set.state.layout = c.tile_table-table.ensures ∙ ap tile_table c.mbt_type.ensures in
    let is : page ≡ take c.min-limit.result (drop s.from table) = c.in_ok-page.ensures.answer t ∙ ap (λ (n : TableName). take c.min-limit.result (drop s.from (told.rows n))) name in
    let used : length s.page.items ≤ s.at = omega (arith, c.if-self-len.false, c.len.ensures, s.page.ok.0) in
    let within : c.min-limit.result ≤ s.rows - s.from = omega (arith, c.min-limit.ensures) in
    let count : c.len-count.result ≡ length page = omega (arith, c.len-count.ensures, c.in_ok-page.page.ok.0) in
    ap (λ n. page ++ take (s.rows - (s.from + n)) (drop (s.from + n) table)) count ∙ page_read table s.page.items page s.at s.from s.rows c.min-limit.result used is within
