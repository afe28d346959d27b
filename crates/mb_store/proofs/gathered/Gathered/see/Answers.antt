use Rattle.mb_store.proofs.Common.{DuplicateRow, false, has_own, List, list_any, numbers_cells, refl, same_numbers, Stored, subst, sym, true, ◌↔◌, ◌∙◌, ◌≡◌}
use Rattle.mb_store.proofs.GatheredLemmas.{refused_by}
use Rattle.mb_store.proofs.PushLemmas.{none_equal, not_added}
use Rattle.mb_store.proofs.gathered.Gathered.see.Goals as goal

pub returns-in_default-clause-duplicate : goal.returns-in_default-clause-duplicate
returns-in_default-clause-duplicate c = refused_by c.refuse.result c.args.self.now.table (has_own (numbers_cells c.args.numbers) c.args.self.now.rows.items)
    (subst (λ (xs : List Stored). (c.refuse.result ≡ DuplicateRow c.args.self.now.table) ↔ (has_own (numbers_cells c.args.numbers) xs ≡ true)) c.reserve.ensures.items c.refuse.ensures.duplicate)

pub returns-in_default-insert-clause-duplicate : goal.returns-in_default-insert-clause-duplicate
returns-in_default-insert-clause-duplicate c = none_equal _ _ _ (sym (c.requires.seen.seen c.args.numbers) ∙ c.in_default-insert.ensures.absent) (λ h. cc)

pub returns-then-not-added-clause-duplicate : goal.returns-then-not-added-clause-duplicate
returns-then-not-added-clause-duplicate c =
    let found : list_any (same_numbers c.args.numbers) c.args.self.now.seen.keys ≡ true = not_added _ true (sym c.in-Ok-insert.ensures.added ∙ c.if-not-added.true) in
    ((λ h. sym (c.requires.seen.seen c.args.numbers) ∙ found), (λ h. refl))

pub returns-clause-duplicate : goal.returns-clause-duplicate
returns-clause-duplicate c =
    let none : list_any (same_numbers c.args.numbers) c.args.self.now.seen.keys ≡ false = not_added _ false (sym c.in-Ok-insert.ensures.added ∙ c.if-not-added.false) in
    none_equal _ _ _ (sym (c.requires.seen.seen c.args.numbers) ∙ none) (λ h. cc)
