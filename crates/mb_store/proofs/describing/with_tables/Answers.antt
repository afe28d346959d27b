use Rattle.mb_store.proofs.Common.{ap, bytes_eq, drop, Global, List, list_any, subst, sym, TableDesc, Vec, with_tables, [], ◌++◌, ◌+◌, ◌∙◌, ◌∷◌, ◌≡◌}
use Rattle.mb_store.proofs.DescribedLemmas.{next_named, next_new}
use Rattle.mb_store.proofs.describing.with_tables.Goals as goal
use Rattle.mb_store.proofs.describing.with_tables.Goals.{then-not-is_named+in_ok-try_clone+in_ok-push, else-not-is_named}

pub loop-table-preserved : goal.loop-table-preserved
loop-table-preserved c =
    let named : c.is_named.result ≡ list_any (λ (d : TableDesc). bytes_eq d.name c.table-item.result.name) c.loop-table.all.items = c.is_named.ensures ∙ (λ i. list_any (λ (d : TableDesc). bytes_eq d.name (c.as_str.ensures i)) (c.as_slice.ensures.value i)) in
    elim c.if-not-is_named.branch [
      | then-not-is_named+in_ok-try_clone+in_ok-push w ↦
          let pushed : c.if-not-is_named.all.items ≡ c.loop-table.all.items ++ c.table-item.result ∷ [] =
          ap (λ (v : Vec TableDesc Global). v.items) w.all-is ∙ (w.in_ok-push.ensures.items ∙ ap (λ (d : TableDesc). c.loop-table.all.items ++ d ∷ []) w.in_ok-try_clone.ensures) in
          subst (λ (all : List TableDesc). with_tables all (drop (c.loop-table.table-index + 1) c.args.added.now) ≡ with_tables c.args.tables.now c.args.added.now) (sym pushed)
          (next_new c.loop-table.all.items c.args.added.now c.loop-table.table-index c.table-item.result (with_tables c.args.tables.now c.args.added.now) c.loop-table-test.true c.table-item.is c.loop-table.invariant (sym named ∙ w.if-not-is_named.true))
      | else-not-is_named w ↦
          subst (λ (all : List TableDesc). with_tables all (drop (c.loop-table.table-index + 1) c.args.added.now) ≡ with_tables c.args.tables.now c.args.added.now) (sym (ap (λ (v : Vec TableDesc Global). v.items) w.all-is))
          (next_named c.loop-table.all.items c.args.added.now c.loop-table.table-index c.table-item.result (with_tables c.args.tables.now c.args.added.now) c.loop-table-test.true c.table-item.is c.loop-table.invariant (sym named ∙ w.if-not-is_named.false))
    ]
