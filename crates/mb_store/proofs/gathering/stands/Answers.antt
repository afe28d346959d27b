use Rattle.mb_store.proofs.Common.{ap, false, has_equal, has_own, List, own_key, rows_at, rows_in, Stored, sym, TableRows, told_at, true, ◌&&◌, ◌||◌, ◌∙◌, ◌≡◌}
use Rattle.mb_store.proofs.GatheringLemmas.{equal_told}
use Rattle.mb_store.proofs.gathering.stands.Goals as goal

pub returns-then-has_equal : goal.returns-then-has_equal
returns-then-has_equal c =
    let there : has_equal c.args.table c.args.row.now.0 (rows_at c.args.tables.now c.args.table) ≡ true = ap (λ (r : TableRows). has_equal c.args.table c.args.row.now.0 (rows_in r)) (sym c.of.ensures) ∙ (sym c.has_equal.ensures ∙ c.if-has_equal.true) in
    let told : has_equal c.args.table c.args.row.now.0 (told_at c.args.tables.now c.args.gathered.now c.args.table) ≡ true =
    equal_told c.args.tables.now c.args.gathered.now c.args.table c.args.row.now.0 c.requires.wide c.requires.own (c.requires.stored c.args.table) c.requires.gathered.rows
    ∙ ap (λ b. b || has_own (own_key c.args.row.now.0) c.args.gathered.now.rows.items) there in
    c.if-has_equal.true ∙ sym (λ i. c.if-single.true i && told i)

pub returns-else-has_equal : goal.returns-else-has_equal
returns-else-has_equal c =
    let there : has_equal c.args.table c.args.row.now.0 (rows_at c.args.tables.now c.args.table) ≡ false = ap (λ (r : TableRows). has_equal c.args.table c.args.row.now.0 (rows_in r)) (sym c.of.ensures) ∙ (sym c.has_equal.ensures ∙ c.if-has_equal.false) in
    let told : has_equal c.args.table c.args.row.now.0 (told_at c.args.tables.now c.args.gathered.now c.args.table) ≡ has_own (own_key c.args.row.now.0) c.args.gathered.now.rows.items =
    equal_told c.args.tables.now c.args.gathered.now c.args.table c.args.row.now.0 c.requires.wide c.requires.own (c.requires.stored c.args.table) c.requires.gathered.rows
    ∙ ap (λ b. b || has_own (own_key c.args.row.now.0) c.args.gathered.now.rows.items) there in
    c.is_among.ensures ∙ (ap (λ (xs : List Stored). has_own (own_key c.args.row.now.0) xs) c.as_slice.ensures.value ∙ sym (λ i. c.if-single.true i && told i))
