use Rattle.mb_store.proofs.Common.{Cell, Err, has_own, List, Ok, own_key, RefusesTwice, subst, sym, [], ◌++◌, ◌∙◌, ◌∷◌}
use Rattle.mb_store.proofs.GatheredLemmas.{new_is, seen_pushed}
use Rattle.mb_store.proofs.gathered.Gathered.add.Goals as goal

pub returns-in-Ok-clause-duplicate : goal.returns-in-Ok-clause-duplicate
returns-in-Ok-clause-duplicate c = subst (λ (key : List Cell). RefusesTwice {A = Unit {0}} c.args.self.now.table (has_own key c.args.self.now.rows.items) (Ok tt)) (sym c.requires.numbers) c.in-Ok.ensures.duplicate

pub returns-in-Err-clause-duplicate : goal.returns-in-Err-clause-duplicate
returns-in-Err-clause-duplicate c = subst (λ (key : List Cell). RefusesTwice {A = Unit {0}} c.args.self.now.table (has_own key c.args.self.now.rows.items) (Err c.in-Err.error)) (sym c.requires.numbers) c.in-Err.ensures.duplicate

pub returns-in-Ok-clause-seen : goal.returns-in-Ok-clause-seen
returns-in-Ok-clause-seen c =
    seen_pushed c.args.self.now (record { table = c.see.new.self.table; rows = c.push_reserved.new.self; seen = c.see.new.self.seen; spread = c.see.new.self.spread; is_open = c.see.new.self.is_open }) c.args.numbers c.args.row c.requires.numbers c.requires.seen
    (new_is {T = Unit {0}} tt c.args.self.now.table (has_own (own_key c.args.row) c.args.self.now.rows.items) (subst (λ (key : List Cell). RefusesTwice {A = Unit {0}} c.args.self.now.table (has_own key c.args.self.now.rows.items) (Ok tt)) (sym c.requires.numbers) c.in-Ok.ensures.duplicate))
    c.in-Ok.ensures.ok
    (c.push_reserved.ensures.items ∙ (λ i. c.in-Ok.ensures.rows i ++ c.new.ensures i ∷ []))
