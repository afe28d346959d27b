use Rattle.mb_loaded.proofs.Common.{ap, arith, entries, Held, IfSome, len, List, name_read, names_count, slice_get, subst, sym, text_cell, ℕ, ◌<◌, ◌∙◌, ◌≡◌}
use Rattle.mb_loaded.proofs.loaded.Loaded.metadata_at.Goals as goal

pub index-entry-requires : goal.index-entry-requires
index-entry-requires c =
    let n : len c.args.self.now.state.metadata ≡ c.self.inside.names.live = ap (λ (h : Held). len h.state.metadata) (sym c.self.view_is) ∙ names_count c.self.inside.names.live c.self.inside.names.items.items c.self.invariant.3 in
    let lt : c.args.index < c.self.inside.names.live = omega (arith, n, c.requires) in
    omega (arith, lt, c.self.invariant.3.bound, c.self.inside.names.items.ok.0)

pub returns : goal.returns
returns c =
    let n : len c.args.self.now.state.metadata ≡ c.self.inside.names.live = ap (λ (h : Held). len h.state.metadata) (sym c.self.view_is) ∙ names_count c.self.inside.names.live c.self.inside.names.items.items c.self.invariant.3 in
    let lt : c.args.index < c.self.inside.names.live = omega (arith, n, c.requires) in
    subst (λ (s : List ℕ). IfSome (slice_get (entries c.args.self.now.state.metadata) c.args.index) (λ e. (e.0 ≡ s) × (text_cell e.1 ≡ c.index-entry.result.now.value))) (sym c.as_str.ensures)
    (subst (λ (h : Held). IfSome (slice_get (entries h.state.metadata) c.args.index) (λ e. (e.0 ≡ c.index-entry.result.now.name) × (text_cell e.1 ≡ c.index-entry.result.now.value))) c.self.view_is
    (name_read c.self.inside.names.live c.self.inside.names.items.items c.self.invariant.3 c.args.index c.index-entry.result.now c.self.invariant.4 lt c.index-entry.ensures))
