use Rattle.mb_store.proofs.Common.{false, false≢true, list_any, refl, same_numbers, sym, true, ◌∙◌, ◌≡◌}
use Rattle.mb_store.proofs.GatheredLemmas.{wanting}
use Rattle.mb_store.proofs.gathered.Gathered.refuse.Goals as goal

pub returns-then-contains-clause-duplicate : goal.returns-then-contains-clause-duplicate
returns-then-contains-clause-duplicate c =
    let found : list_any (same_numbers c.args.numbers) c.args.self.now.seen.keys ≡ true = sym c.if-contains.ensures in
    ((λ h. sym (c.requires.seen.seen c.args.numbers) ∙ found), (λ h. refl))

pub returns-clause-duplicate : goal.returns-clause-duplicate
returns-clause-duplicate c =
    let none : list_any (same_numbers c.args.numbers) c.args.self.now.seen.keys ≡ false = sym c.if-contains.ensures in
    ((λ h. absurd (wanting c.args.self.now.table h)), (λ h. absurd (false≢true (sym (sym (c.requires.seen.seen c.args.numbers) ∙ none) ∙ h))))
