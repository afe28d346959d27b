use Rattle.mb_store.proofs.Common.{ap, Cell, find, has_key, IfSome, length, List, Option, rows_in, subst, sym, TableRows, width, ◌∙◌, ◌≡◌}
use Rattle.mb_store.proofs.HeldLemmas.{kept_settled}
use Rattle.mb_store.proofs.StoredLemmas.{find-All}
use Rattle.mb_store.proofs.mem_store.MemStoreTileStore.find.Goals as goal

pub returns-clause-widths : goal.returns-clause-widths
returns-clause-widths c =
    let kept = kept_settled c.settle.new.self.descriptions.items c.settle.new.self.tables c.settle.new.self.gathered c.in_ok-settle.ensures.none c.settle.new.self.kept in
    subst (λ (o : Option (List Cell)). IfSome o (λ row. length row ≡ width c.args.table)) (sym (c.in_ok-find_in.ensures ∙ ap (λ (r : TableRows). find (has_key c.args.table c.args.key.now) (rows_in r)) c.of.ensures)) (find-All (has_key c.args.table c.args.key.now) (λ row. length row ≡ width c.args.table) _ (kept.sound.widths c.args.table))
