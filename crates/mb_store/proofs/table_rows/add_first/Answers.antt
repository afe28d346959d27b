use Rattle.mb_store.proofs.Common.{ap, arith, false, has_equal, insert_key, is_at, length, list_any, refl, rows_in, rows_of, stored_cmp, sym, true, ◌∙◌, ◌≡◌}
use Rattle.mb_store.proofs.PushLemmas.{first_found, first_placed, none_equal, not_added}
use Rattle.mb_store.proofs.StoredLemmas.{add_count, add_stored}
use Rattle.mb_store.proofs.table_rows.add_first.Goals as goal

pub returns-in_default-clause-duplicate : goal.returns-in_default-clause-duplicate
returns-in_default-clause-duplicate c =
    none_equal _ _ _ (first_found c.args.table c.args.rows.now c.requires.stored c.args.row.0 c.requires.wide c.requires.all_first ∙ (ap (λ n. list_any (is_at (stored_cmp (c.args.row.0, n))) c.args.rows.now.stored.keys) (sym c.requires.first) ∙ c.in_default.ensures.absent)) (λ h. cc)

pub returns-then-added-clause-duplicate : goal.returns-then-added-clause-duplicate
returns-then-added-clause-duplicate c =
    none_equal _ _ _ (first_found c.args.table c.args.rows.now c.requires.stored c.args.row.0 c.requires.wide c.requires.all_first ∙ (ap (λ n. list_any (is_at (stored_cmp (c.args.row.0, n))) c.args.rows.now.stored.keys) (sym c.requires.first) ∙ not_added _ false (sym c.in-Ok.ensures.added ∙ c.if-added.true))) (λ h. cc)

pub returns-then-added-clause-ok : goal.returns-then-added-clause-ok
returns-then-added-clause-ok c =
    ap rows_of (c.in-Ok.ensures.keys ∙ ap (λ n. insert_key stored_cmp c.args.rows.now.stored.keys (c.args.row.0, n)) c.requires.first)
    ∙ first_placed c.args.table c.args.rows.now c.requires.stored c.args.row.0 c.requires.wide c.requires.all_first (ap (λ n. list_any (is_at (stored_cmp (c.args.row.0, n))) c.args.rows.now.stored.keys) (sym c.requires.first) ∙ not_added _ false (sym c.in-Ok.ensures.added ∙ c.if-added.true))

pub returns-then-added-clause-stored : goal.returns-then-added-clause-stored
returns-then-added-clause-stored c = add_stored c.args.table c.args.rows.now (record { stored = c.insert.new.self; next = 1 }) c.args.row.0 c.args.row.1 c.requires.wide c.requires.stored
    c.in-Ok.ensures.keys
    (add_count (length c.insert.new.self.keys) (length c.args.rows.now.stored.keys) c.in-Ok.added (omega (arith, c.len.ensures.small, c.len.ensures.len)) c.in-Ok.ensures.len) c.requires.all_first (omega (arith, c.requires.first))

pub returns-else-added-clause-duplicate : goal.returns-else-added-clause-duplicate
returns-else-added-clause-duplicate c =
    let found : has_equal c.args.table c.args.row.0 (rows_in c.args.rows.now) ≡ true = first_found c.args.table c.args.rows.now c.requires.stored c.args.row.0 c.requires.wide c.requires.all_first ∙ (ap (λ n. list_any (is_at (stored_cmp (c.args.row.0, n))) c.args.rows.now.stored.keys) (sym c.requires.first) ∙ not_added _ true (sym c.in-Ok.ensures.added ∙ c.if-added.false)) in
    ((λ h. found), (λ h. refl))
