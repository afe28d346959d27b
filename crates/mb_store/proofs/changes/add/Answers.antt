use Rattle.mb_store.proofs.Common.{ap, Change, cond, get, if◌then◌else◌, is_eq, is_ok, IsIndex, length, List, Result, RowKey, Some, subst, sym, table_key_cmp, TableKey, [], ◌++◌, ◌∙◌, ◌∷◌, ◌≡◌}
use Rattle.std.specs.declared.alloc.AllocFailed.{AllocFailed}
use Rattle.mb_store.proofs.IndexLemmas.{set-with_change, push-with_change, IsIndex-set, IsIndex-push}
use Rattle.mb_store.proofs.changes.add.Goals as goal

pub returns-in-Some-clause-ok : goal.returns-in-Some-clause-ok
returns-in-Some-clause-ok c =
    let key : TableKey = record { table = c.args.change.table; key = c.in_ok-try_clone.field-0 } in
    set-with_change c.args.changes.now.items c.args.places.now c.args.change key (ap (λ (k : RowKey). record { table = c.args.change.table; key = k }) c.in_ok-try_clone.ensures) c.requires c.in-Some.place (c.in-Some.ensures ∙ c.get.ensures.value)

pub returns-in-Some-clause-index : goal.returns-in-Some-clause-index
returns-in-Some-clause-index c =
    let key : TableKey = record { table = c.args.change.table; key = c.in_ok-try_clone.field-0 } in
    IsIndex-set c.args.changes.now.items c.args.places.now c.args.change key (ap (λ (k : RowKey). record { table = c.args.change.table; key = k }) c.in_ok-try_clone.ensures) c.requires c.in-Some.place (c.in-Some.ensures ∙ c.get.ensures.value)

pub returns-in_ok-insert-in-None-clause-ok : goal.returns-in_ok-insert-in-None-clause-ok
returns-in_ok-insert-in-None-clause-ok c =
    let key : TableKey = record { table = c.args.change.table; key = c.in_ok-try_clone.field-0 } in
    c.push.ensures.items
    ∙ (ap (λ (r : Result (Unit {0}) (AllocFailed Change)). if is_ok r then c.reserve.new.self.items ++ c.args.change ∷ [] else c.reserve.new.self.items) c.unwrap.ensures
    ∙ (ap (λ (cs : List Change). cs ++ c.args.change ∷ []) c.reserve.ensures.items
    ∙ push-with_change c.args.changes.now.items c.args.places.now c.args.change key (ap (λ (k : RowKey). record { table = c.args.change.table; key = k }) c.in_ok-try_clone.ensures) c.requires (c.in-None.ensures ∙ c.get.ensures.value)))

pub returns-in_ok-insert-in-None-clause-index : goal.returns-in_ok-insert-in-None-clause-index
returns-in_ok-insert-in-None-clause-index c =
    let key : TableKey = record { table = c.args.change.table; key = c.in_ok-try_clone.field-0 } in
    let pushed : c.push.new.self.items ≡ c.args.changes.now.items ++ c.args.change ∷ [] =
    c.push.ensures.items
    ∙ (ap (λ (r : Result (Unit {0}) (AllocFailed Change)). if is_ok r then c.reserve.new.self.items ++ c.args.change ∷ [] else c.reserve.new.self.items) c.unwrap.ensures
    ∙ ap (λ (cs : List Change). cs ++ c.args.change ∷ []) c.reserve.ensures.items) in
    let long : c.len.result ≡ length c.args.changes.now.items = c.len.ensures ∙ (c.reserve.ensures.len ∙ c.args.changes.now.ok.0) in
    subst (λ (cs : List Change). IsIndex cs c.insert.new.self) (sym pushed)
    (IsIndex-push c.args.changes.now.items c.args.places.now c.args.change key (ap (λ (k : RowKey). record { table = c.args.change.table; key = k }) c.in_ok-try_clone.ensures) c.requires c.insert.new.self (c.in-None.ensures ∙ c.get.ensures.value)
    (λ q. c.in_ok-insert-in-None.ensures.updates.0 q ∙ ap (λ n. cond (is_eq (table_key_cmp key q)) (Some n) (get table_key_cmp c.args.places.now q)) long))
