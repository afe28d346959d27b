use Rattle.set_import.proofs.Common.{editable, false≢true, Held, IsBase, IsBegun, Ok, started, state_in, subst, sym, ◌∙◌}
use Rattle.set_import.proofs.NewSetLemmas.{base_new, begun_new, begun_old, base_old}
use Rattle.set_import.proofs.storing.base_of.Goals as goal

pub returns-then-is_new-clause-answer : goal.returns-then-is_new-clause-answer
returns-then-is_new-clause-answer g c =
    let tells = g.S.TileStore.tells c.args.store.now in
    let told = g.S.TileStore.told c.args.store.now in
    subst (λ (h : Held). IsBegun editable tells (started told) (Ok h.state)) (sym c.empty.ensures)
    (begun_new tells told (λ t. g.met.S.TileStore.sound c.args.store.now t) (λ t. (c.requires t).0 c.if-is_new.true))

pub returns-then-is_new-clause-base : goal.returns-then-is_new-clause-base
returns-then-is_new-clause-base g c t =
    let told = g.S.TileStore.told c.args.store.now in
    subst (λ (h : Held). IsBase (started told) h) (sym c.empty.ensures) (base_new told (g.met.S.TileStore.sound c.args.store.now t) ((c.requires t).0 c.if-is_new.true))

pub returns-clause-answer : goal.returns-clause-answer
returns-clause-answer g c =
    begun_old (g.S.TileStore.tells c.args.store.now) (g.S.TileStore.told c.args.store.now) (state_in c.load_base.result) (λ t e. false≢true (sym c.if-is_new.false ∙ (c.requires t).1 e)) c.load_base.ensures.answer

pub returns-clause-base : goal.returns-clause-base
returns-clause-base g c t =
    base_old (g.S.TileStore.told c.args.store.now) c.load_base.result (λ e. false≢true (sym c.if-is_new.false ∙ (c.requires t).1 e)) (c.load_base.ensures.base t)
