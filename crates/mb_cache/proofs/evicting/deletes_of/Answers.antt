use Rattle.mb_cache.proofs.Common.{AreDeletes, Change, Entry, List, None, refl, subst, sym, take, take_more, TileCache, with_change, ◌+◌}
use Rattle.mb_cache.proofs.EvictLemmas.{deletes_more}
use Rattle.mb_cache.proofs.evicting.deletes_of.Goals as goal

pub loop-entry-preserved : goal.loop-entry-preserved
loop-entry-preserved c =
    let es = c.args.entries.now in
    let i = c.loop-entry.entry-index in
    let change : Change = record { table = TileCache; key = c.key.result; row = None } in
    record {
      deletes = subst (λ (cs : List Change). AreDeletes (take (i + 1) es) cs) (sym c.in_ok-delete.ensures.ok)
          (subst (λ (xs : List Entry). AreDeletes xs (with_change c.loop-entry.changes change)) (sym (take_more es i _ c.loop-entry-test.true))
          (deletes_more (take i es) _ c.loop-entry.changes change refl c.key.ensures refl c.loop-entry.invariant.deletes));
      tables = λ ds table. c.in_ok-delete.ensures.tables ds (c.loop-entry.invariant.tables ds table) table;
    }
