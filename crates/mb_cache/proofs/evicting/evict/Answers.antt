use Rattle.mb_cache.proofs.Common.{Agrees, ap, AreDeletes, Entry, length, List, subst, sym, without, ◌∙◌}
use Rattle.mb_cache.proofs.EvictLemmas.{agrees_after, evicted}
use Rattle.mb_cache.proofs.evicting.evict.Goals as goal

pub returns-clause-evicted : goal.returns-clause-evicted
returns-clause-evicted g c t =
    let old = g.S.TileStore.told c.args.store.now in
    evicted old (g.S.TileStore.told c.commit.new.self) c.args.entries.now.keys (length c.args.evicted.now) c.in_ok-changes.changes (c.requires.agrees t) (g.met.S.TileStore.sound c.args.store.now t)
    (subst (λ (es : List Entry). AreDeletes es c.in_ok-changes.changes) (sym c.requires.first) c.in_ok-changes.ensures.deletes) (c.in_ok-commit.ensures.ok t)
    ∙ ap (λ (ks : List Entry). without ks old) c.requires.first

pub returns-clause-agrees : goal.returns-clause-agrees
returns-clause-agrees g c t =
    let old = g.S.TileStore.told c.args.store.now in
    let new = g.S.TileStore.told c.commit.new.self in
    subst (λ (ks : List Entry). Agrees new ks) (sym c.pop_all.ensures)
    (agrees_after old new c.args.entries.now.keys (length c.args.evicted.now) c.in_ok-changes.changes (c.requires.agrees t) (g.met.S.TileStore.sound c.args.store.now t)
    (subst (λ (es : List Entry). AreDeletes es c.in_ok-changes.changes) (sym c.requires.first) c.in_ok-changes.ensures.deletes) (c.in_ok-commit.ensures.ok t)
    (g.met.S.TileStore.sound c.commit.new.self (c.in_ok-commit.ensures.kept.tells ∙ t)))
