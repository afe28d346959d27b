use Rattle.tile_json.proofs.Common.{nat_cmp, nat_list_cmp_total, rules, slice_cmp, ◌≡◌}
use Rattle.std.proofs.lemmas.Fn.{always_returns_same}
use Rattle.tile_json.proofs.MapLemmas.{entries_are}
use Rattle.tile_json.proofs.PlaceLemmas.{searched}
use Rattle.tile_json.proofs.text_map.TextMap.search.Goals as goal

-- the closure compares an entry's name with the name
pub returns : goal.returns
returns g c =
    let facts = c.binary_search_by.ensures in
    let name = c.args.name.now in
    let by_name = facts.position (λ entry. slice_cmp nat_cmp entry.0 name) (always_returns_same _ (λ a r. r ≡ slice_cmp nat_cmp a.0.now.0 name) _ (λ a r f called. (search rules, search rules))) in
    rw (entries_are _ _ c.self.invariant c.self.view_is, ← c.deref.ensures.value) (searched (slice_cmp nat_cmp) name nat_list_cmp_total c.deref.result.now c.binary_search_by.result (rw c.deref.ensures.value c.self.invariant) facts.bound by_name)
