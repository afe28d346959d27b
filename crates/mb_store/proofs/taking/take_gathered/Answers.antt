use Rattle.mb_store.proofs.Common.{ap, at, Cell, Gathered, IfOk, IsPermutation, List, rows_of, Stored, subst, sym, TableName, [], ◌∙◌, ◌≡◌}
use Rattle.mb_store.proofs.GatheredLemmas.{told_own}
use Rattle.mb_store.proofs.GatheringLemmas.{list_taken}
use Rattle.mb_store.proofs.RowsPut.{sorted_all}
use Rattle.mb_store.proofs.taking.take_gathered.Goals as goal

pub returns-clause-rows : goal.returns-clause-rows
returns-clause-rows c =
    let empty : (at c.args.tables.now c.args.table).stored.keys ≡ [] = subst (λ (t : TableName). (at c.args.tables.now t).stored.keys ≡ []) c.requires.own (c.requires.gathered.alone c.requires.open) in
    let listed : c.into_list-list.result.items ≡ c.args.gathered.now.rows.items = c.into_list-list.ensures ∙ ap (λ (g : Gathered). g.rows.items) c.replace.ensures.value in
    let moved : IsPermutation c.args.gathered.now.rows.items c.sort_unstable.new.self.items = subst (λ (xs : List Stored). IsPermutation xs c.sort_unstable.new.self.items) listed c.sort_unstable.ensures.permutation in
    subst (λ (rows : List (List Cell)). IfOk c.listed.result (λ all. all.items ≡ rows))
    (ap rows_of (sorted_all c.args.gathered.now.rows.items c.sort_unstable.new.self.items (c.requires.gathered.seen c.requires.open).apart moved c.sort_unstable.ensures.sorted) ∙ sym (told_own c.args.tables.now c.args.gathered.now c.args.table c.requires.own empty))
    c.listed.ensures

pub returns-clause-told : goal.returns-clause-told
returns-clause-told c =
    let empty : (at c.args.tables.now c.args.table).stored.keys ≡ [] = subst (λ (t : TableName). (at c.args.tables.now t).stored.keys ≡ []) c.requires.own (c.requires.gathered.alone c.requires.open) in
    list_taken c.args.tables.now c.args.gathered.now c.replace.new.dest c.args.table c.requires.own empty (ap (λ (g : Gathered). g.rows.items) c.replace.ensures.after ∙ c.none.ensures.rows)
