use Rattle.mb_lists.proofs.ReaderLemmas.{name_read, names_count}
use Rattle.set_options.proofs.Common.{ap, arith, entries, IfSome, len, List, Names, slice_get, subst, sym, text_cell, ℕ, ◌<◌, ◌∙◌, ◌≡◌}
use Rattle.set_options.proofs.set_names.SetNamesHasNames.name_at.Goals as goal

pub index-entry-requires : goal.index-entry-requires
index-entry-requires c =
    let n : len c.args.self.now ≡ c.self.inside.list.live = ap (λ (m : Names). len m) (sym c.self.view_is) ∙ names_count c.self.inside.list.live c.self.inside.list.items.items c.self.invariant.0 in
    let lt : c.args.index < c.self.inside.list.live = omega (arith, n, c.requires) in
    omega (arith, lt, c.self.invariant.0.bound, c.self.inside.list.items.ok.0)

pub returns : goal.returns
returns c =
    let n : len c.args.self.now ≡ c.self.inside.list.live = ap (λ (m : Names). len m) (sym c.self.view_is) ∙ names_count c.self.inside.list.live c.self.inside.list.items.items c.self.invariant.0 in
    let lt : c.args.index < c.self.inside.list.live = omega (arith, n, c.requires) in
    subst (λ (s : List ℕ). IfSome (slice_get (entries c.args.self.now) c.args.index) (λ e. (e.0 ≡ s) × (text_cell e.1 ≡ c.index-entry.result.now.value))) (sym c.as_str.ensures)
    (subst (λ (m : Names). IfSome (slice_get (entries m) c.args.index) (λ e. (e.0 ≡ c.index-entry.result.now.name) × (text_cell e.1 ≡ c.index-entry.result.now.value))) c.self.view_is
    (name_read c.self.inside.list.live c.self.inside.list.items.items c.self.invariant.0 c.args.index c.index-entry.result.now c.self.invariant.1 lt c.index-entry.ensures))
