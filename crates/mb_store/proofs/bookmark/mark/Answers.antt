use Rattle.mb_store.proofs.Common.{at, sym, ◌∙◌}
use Rattle.mb_store.proofs.BookmarkLemmas.{placed_first}
use Rattle.mb_store.proofs.bookmark.mark.Goals as goal

pub returns-in-Ok : goal.returns-in-Ok
returns-in-Ok c tables sorted is = record { rows = placed_first (at tables c.args.table).stored.keys c.args.number c.in-Ok.key c.in-Some.row.now c.next.new.self sorted (sym is ∙ c.in-Some.ensures.steps) c.in-Ok.ensures.key c.in-Ok.ensures.arrival }
