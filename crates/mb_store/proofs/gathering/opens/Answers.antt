use Rattle.mb_store.proofs.Common.{eqb-true, refl, sym, [], ◌∙◌, ◌≡◌}
use Rattle.mb_store.proofs.GatheredLemmas.{no_length, told_settled, told_still}
use Rattle.mb_store.proofs.gathering.opens.Goals as goal

pub returns-then-is_empty-2-clause-told : goal.returns-then-is_empty-2-clause-told
returns-then-is_empty-2-clause-told c =
    let none : c.args.gathered.now.rows.items ≡ [] = no_length c.args.gathered.now.rows.items (sym c.args.gathered.now.rows.ok.0 ∙ eqb-true c.args.gathered.now.rows.len 0 (sym c.is_empty.ensures ∙ c.if-is_empty.true)) in
    λ i u. (told_settled c.args.tables.now c.begin.new.self c.begin.ensures.rows u ∙ sym (told_settled c.args.tables.now c.args.gathered.now none u)) i

pub returns-then-same_table-clause-told : goal.returns-then-same_table-clause-told
returns-then-same_table-clause-told c i u = told_still c.args.tables.now c.args.gathered.now (record { table = c.args.gathered.now.table; rows = c.args.gathered.now.rows; seen = c.args.gathered.now.seen; spread = c.admits.new.self; is_open = c.args.gathered.now.is_open }) refl refl u i
