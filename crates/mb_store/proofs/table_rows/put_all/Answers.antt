use Rattle.mb_store.proofs.Common.{all_rows, ap, List, Stored, sym, ◌∙◌}
use Rattle.mb_store.proofs.GatheredLemmas.{first_left}
use Rattle.mb_store.proofs.RowsPut.{last_moved}
use Rattle.mb_store.proofs.table_rows.put_all.Goals as goal

pub loop-row-preserved : goal.loop-row-preserved
loop-row-preserved c = record {
  told = ap (λ (ks : List Stored). all_rows ks c.pop.new.self.items) c.in_default-put.ensures.ok ∙ (sym (last_moved c.loop-row.rows.stored.keys c.pop.new.self.items c.in-Some.row) ∙ (ap (all_rows c.loop-row.rows.stored.keys) (sym c.in-Some.ensures.items) ∙ c.loop-row.invariant.told));
  first = first_left c.args.table c.pop.new.self.items c.loop-row.list.items c.in-Some.row c.in-Some.ensures.items c.loop-row.invariant.first;
  stored = c.in_default-put.ensures.stored;
}
