use Rattle.mb_store.proofs.Common.{All, All-drop, All-take, Cell, drop, length, List, rows_at, subst, sym, width, ◌≡◌}
use Rattle.mb_store.proofs.HeldLemmas.{kept_settled}
use Rattle.mb_store.proofs.mem_store.MemStoreTileStore.rows.Goals as goal

pub returns-clause-widths : goal.returns-clause-widths
returns-clause-widths c =
    let kept = kept_settled c.settle.new.self.descriptions.items c.settle.new.self.tables c.settle.new.self.gathered c.in_ok-settle.ensures.none c.settle.new.self.kept in
    subst (All (λ (row : List Cell). length row ≡ width c.args.table)) (sym c.in_ok-page.ensures.page)
    (All-take (λ (row : List Cell). length row ≡ width c.args.table) c.args.limit (drop c.args.from (rows_at c.settle.new.self.tables c.args.table)) (All-drop (λ (row : List Cell). length row ≡ width c.args.table) c.args.from (rows_at c.settle.new.self.tables c.args.table) (kept.sound.widths c.args.table)))
