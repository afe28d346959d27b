use Rattle.tile_header_check.proofs.Common.{get_or, length, list_any, nat_eq, subst, sym, ℕ, ◌<◌, ◌∙◌, ◌≡◌, ◌≤◌}
use Rattle.std.proofs.lemmas.List.Sorted.{searched}
use Rattle.tile_header_check.proofs.ClusteringLemmas.{has_found}
use Rattle.tile_header_check.proofs.clustering.Laid.has.Goals as goal

pub returns : goal.returns
returns c =
    let r = c.binary_search.result in
    let n = c.args.place in
    let rising : (i j : ℕ) → i ≤ j → j < length c.deref.result.now → get_or c.deref.result.now i 0 ≤ get_or c.deref.result.now j 0 =
    subst (λ ns. (i j : ℕ) → i ≤ j → j < length ns → get_or ns i 0 ≤ get_or ns j 0) (sym c.deref.ensures.value) c.requires.0 in
    subst (λ ns. c.is_ok.result ≡ list_any (nat_eq n) ns) c.deref.ensures.value (c.is_ok.ensures.value ∙ has_found c.deref.result.now n r (searched c.deref.result.now n r c.binary_search.ensures.position rising))
