use Rattle.mb_sqlite.proofs.Common.{ap, ArePaged, cursor_past, length, MovesPast, rules, subst, Within, ◌∙◌, ◌≡◌}
use Rattle.mb_sqlite.proofs.reading.page.Goals as goal

pub returns-clause-paged : goal.returns-clause-paged
unfolding MovesPast
returns-clause-paged g c clean =
    let seen = subst (λ start. Within c.args.connection.now (λ old seen. ArePaged g.S.Store c.args.table old seen start c.args.limit c.in_ok-page.page.0.items c.in_ok-page.page.1)) c.start_of-start.ensures (c.in_ok-page.ensures.paged clean) in
    let count : c.len.result ≡ length c.in_ok-page.page.0.items = search rules in
    (seen.0, (c.in_ok-page.page.1, seen.1, c.moved.ensures ∙ ap (λ n. cursor_past c.args.cursor.now c.args.table c.args.from n c.in_ok-page.page.1) count))
