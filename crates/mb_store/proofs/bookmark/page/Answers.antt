use Rattle.mb_store.proofs.Common.{ap, at, drop-map, List, rows_of, Stored, sym, take, ◌∙◌}
use Rattle.mb_store.proofs.bookmark.page.Goals as goal

pub returns-clause-page : goal.returns-clause-page
returns-clause-page c =
    c.in_ok-page.ensures.page ∙ ap (λ (keys : List Stored). take c.args.limit (rows_of keys)) c.rows_from-rest.ensures.rows
    ∙ ap (take c.args.limit) (sym (drop-map (λ (s : Stored). s.0) c.args.from (at c.args.tables.now c.args.table).stored.keys))
