use Rattle.set_options.proofs.Common.{All, ap, AreNamesInOrder, arith, entries, IsName, length, map, names_held, stored_name, subst, sym, ◌∙◌, ◌≡◌}
use Rattle.set_options.proofs.SetNameLemmas.{copied_in_order, names_copied, texts_copied}
use Rattle.set_options.proofs.set_names.SetNames.of_set.Goals as goal

pub invariant_of-result : goal.invariant_of-result
invariant_of-result c =
    let m = c.args.set.now.state.metadata in
    let is = c.in_ok-items.ensures in
    let all = map stored_name (entries m) in
    let live : c.len-live.result ≡ length all = omega (arith, c.len-live.ensures, c.in_ok-items.items.ok.0, ap length is) in (
      subst (λ n. AreNamesInOrder n c.in_ok-items.items.items) (sym live) (subst (λ xs. AreNamesInOrder (length all) xs) (sym is) (copied_in_order m)),
      subst (All IsName) (sym is) (texts_copied (entries m)),
    )

pub returns : goal.returns
returns c = ap names_held c.in_ok-items.ensures ∙ names_copied c.args.set.now.state.metadata
