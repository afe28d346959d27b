use Rattle.mb_cache.proofs.Common.{ap, Change, Commits, entry_at, entry_cmp, has_entry, insert_key, is_replaced, List, moment_cell, not, place_at, put_row, subst, ◌&&◌, ◌∙◌, ◌≡◌}
use Rattle.mb_cache.proofs.PutLemmas.{back_as, replaced, still_agrees}
use Rattle.mb_cache.proofs.StillLemmas.{still}
use Rattle.mb_cache.proofs.setting.put.Goals as goal

pub returns-in-Ok-clause-agrees : goal.returns-in-Ok-clause-agrees
returns-in-Ok-clause-agrees g c t =
    let old = g.S.TileStore.told c.args.store.now in
    let new = g.S.TileStore.told c.commit.new.self in
    let p = place_at c.args.coord in
    let is : c.at-new.result ≡ entry_at p (moment_cell c.args.meta.expires) = c.at-new.ensures ∙ ap (entry_at p) c.expiry_cell.ensures in
    still_agrees old new c.args.entries.now.keys c.insert.new.self.keys c.replace.new.entries.keys p c.requires.on_board c.args.meta c.args.contents c.args.old
    (c.requires.contents t) (c.requires.agrees t) (g.met.S.TileStore.sound c.args.store.now t) (c.requires.found t)
    (subst (λ (cs : List Change). Commits cs old new) (c.in_ok-changes.ensures.change ∙ ap (put_row p) c.in_ok-row.ensures) (c.in-Ok.ensures.ok t))
    (c.in_ok-added.ensures.keys ∙ ap (insert_key entry_cmp c.args.entries.now.keys) is)
    (λ e. c.replace.ensures.members e ∙ ap (λ k. has_entry c.insert.new.self.keys e && not (is_replaced c.args.old k e)) is)
    (c.replace.ensures.ordered c.in_ok-added.ensures.ordered)
    (g.met.S.TileStore.sound c.commit.new.self (c.in-Ok.ensures.kept.tells ∙ t))

pub returns-in-Ok-clause-own : goal.returns-in-Ok-clause-own
returns-in-Ok-clause-own g c =
    let p = place_at c.args.coord in
    let is : c.at-new.result ≡ entry_at p (moment_cell c.args.meta.expires) = c.at-new.ensures ∙ ap (entry_at p) c.expiry_cell.ensures in
    replaced p c.args.meta.expires c.args.old c.args.entries.now.keys c.insert.new.self.keys c.replace.new.entries.keys
    (c.in_ok-added.ensures.keys ∙ ap (insert_key entry_cmp c.args.entries.now.keys) is)
    (λ e. c.replace.ensures.members e ∙ ap (λ k. has_entry c.insert.new.self.keys e && not (is_replaced c.args.old k e)) is)
    (c.replace.ensures.ordered c.in_ok-added.ensures.ordered)

pub returns-clause-same : goal.returns-clause-same
returns-clause-same g c = c.take_back.ensures ∙ back_as c.in_ok-added.added c.args.entries.now.keys c.insert.new.self.keys c.at-new.result c.in_ok-added.ensures.added c.in_ok-added.ensures.keys c.in_ok-added.ensures.unchanged

pub returns-clause-agrees : goal.returns-clause-agrees
returns-clause-agrees g c t = still (g.S.TileStore.told c.args.store.now) (g.S.TileStore.told c.commit.new.self) c.args.entries.now.keys c.take_back.new.entries.keys c.in-Err.ensures.err (returns-clause-same g c) (c.requires.agrees t)
