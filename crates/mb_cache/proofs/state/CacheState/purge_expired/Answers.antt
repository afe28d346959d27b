use Rattle.mb_cache.proofs.Common.{Agrees, ap, drop, Entry, length, List, rules, subst, sym, without, ◌∙◌, ◌≡◌}
use Rattle.mb_cache.proofs.PurgeLemmas.{purged_count, purged_same}
use Rattle.mb_cache.proofs.state.CacheState.purge_expired.Goals as goal

pub returns-clause-count : goal.returns-clause-count
returns-clause-count g c t =
    let old = g.S.TileStore.told c.args.store.now in
    let agrees = subst (λ (es : List Entry). Agrees old es) (sym c.self.view_is) (c.requires t) in
    let count : c.len.result ≡ length c.in_ok-expired.expired.items = search rules in
    count ∙ (ap length c.in_ok-expired.ensures ∙ purged_count c.args.now old c.self.inside.entries.keys agrees (g.met.S.TileStore.sound c.args.store.now t))

pub returns-clause-purged : goal.returns-clause-purged
returns-clause-purged g c t =
    let old = g.S.TileStore.told c.args.store.now in
    let agrees = subst (λ (es : List Entry). Agrees old es) (sym c.self.view_is) (c.requires t) in
    c.in_ok-evict.ensures.evicted t ∙ (ap (λ (ks : List Entry). without ks old) (c.deref.ensures.value ∙ c.in_ok-expired.ensures) ∙ purged_same c.args.now old c.self.inside.entries.keys agrees (g.met.S.TileStore.sound c.args.store.now t))

pub returns-clause-left : goal.returns-clause-left
returns-clause-left g c =
    let count : c.len.result ≡ length c.in_ok-expired.expired.items = search rules in
    let es = c.self.inside.entries.keys in
    c.in_ok-evict.ensures.left ∙ (ap (λ (ks : List Entry). drop (length ks) es) c.deref.ensures.value ∙ (ap (λ n. drop n es) (sym count) ∙ ap (drop c.len.result) c.self.view_is))
