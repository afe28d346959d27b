use Rattle.mb_sqlite.proofs.Common.{AllZip, drop, IsRowOf, List, Option, RisesTo, Row, subst, take, ℤ}
use Rattle.mb_sqlite.proofs.paging.page.Goals as goal

pub returns-clause-paged : goal.returns-clause-paged
returns-clause-paged g c clean =
    let read = subst (λ (found : List Row). AllZip (IsRowOf c.args.table) (take c.args.limit found) c.in_ok-page.page.0.items × RisesTo c.args.table c.args.start.0 (take c.args.limit found) c.in_ok-page.page.1
    × (beyond : Option ℤ) × RisesTo c.args.table c.in_ok-page.page.1 (take 1 (drop c.args.limit found)) beyond) c.as_slice.ensures.value (c.in_ok-page.ensures.rows, c.in_ok-page.ensures.rises, c.in_ok-page.ensures.beyond.0, c.in_ok-page.ensures.beyond.1) in
    (c.in_ok-answers.answers.items, read.0, (c.in_ok-answers.ensures.shown clean, read.1, read.2, read.3))
