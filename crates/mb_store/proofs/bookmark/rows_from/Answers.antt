use Rattle.mb_store.proofs.Common.{ap, sym, TableRows}
use Rattle.mb_store.proofs.BookmarkLemmas.{found_at, found_from}
use Rattle.mb_store.proofs.bookmark.rows_from.Goals as goal

pub returns-then-is_at-clause-rows : goal.returns-then-is_at-clause-rows
returns-then-is_at-clause-rows c = found_at c.args.tables.now c.args.bookmark.now c.in-Some.place c.args.table c.args.from c.range.result c.of.result.now.stored.keys c.requires c.in-Some.is (sym c.if-is_at.ensures) (ap (λ (r : TableRows). r.stored.keys) c.of.ensures) (c.range.ensures.between tt)

pub returns-clause-rows : goal.returns-clause-rows
returns-clause-rows c = found_from c.args.from c.past.result c.range-2.result c.of.result.now.stored.keys _ c.past.ensures (c.range-2.ensures.between tt) (ap (λ (r : TableRows). r.stored.keys) c.of.ensures)
