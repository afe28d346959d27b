use Rattle.tile_json.proofs.Common.{arith, nat_list_cmp_total, rules}
use Rattle.tile_json.proofs.MapLemmas.{found_below, gap_within, get_missing, written_over, added}
use Rattle.tile_json.proofs.text_map.TextMap.insert.Goals as goal

-- the name is there, and its entry gets the value
pub index_mut-requires : goal.index_mut-requires
index_mut-requires g c = omega (arith, found_below _ _ c.self.invariant c.self.view_is nat_list_cmp_total _ _ c.in-Ok.ensures.found, c.self.inside.entries.ok.0)

pub invariant_of-self : goal.invariant_of-self
invariant_of-self g c = (written_over _ _ c.self.invariant c.self.view_is nat_list_cmp_total c.args.name c.args.value _ _ (rw (← c.as_str.ensures) c.in-Ok.ensures.found) c.index_mut.ensures.value).in_order

pub returns-in-Ok-clause-ok : goal.returns-in-Ok-clause-ok
returns-in-Ok-clause-ok g c = (written_over _ _ c.self.invariant c.self.view_is nat_list_cmp_total c.args.name c.args.value _ _ (rw (← c.as_str.ensures) c.in-Ok.ensures.found) c.index_mut.ensures.value).seen

-- the name is new, and its entry goes to its place
pub insert-requires : goal.insert-requires
insert-requires g c = omega (arith, gap_within _ _ c.self.invariant c.self.view_is nat_list_cmp_total _ _ c.in-Err.ensures.absent, c.self.inside.entries.ok.0)

pub invariant_of-self-in-Err : goal.invariant_of-self-in-Err
invariant_of-self-in-Err g c =
    rw c.in_ok-insert-in-Err.ensures.items (added _ _ c.self.invariant c.self.view_is nat_list_cmp_total c.args.name c.args.value c.in-Err.at (rw (← c.as_str.ensures) c.in-Err.ensures.absent)).in_order

pub returns-in_ok-insert-in-Err-clause-ok : goal.returns-in_ok-insert-in-Err-clause-ok
returns-in_ok-insert-in-Err-clause-ok g c =
    rw c.in_ok-insert-in-Err.ensures.items (added _ _ c.self.invariant c.self.view_is nat_list_cmp_total c.args.name c.args.value c.in-Err.at (rw (← c.as_str.ensures) c.in-Err.ensures.absent)).seen

-- only a name that isn't there is refused
pub returns-in_err-insert-in-Err-clause-absent : goal.returns-in_err-insert-in-Err-clause-absent
returns-in_err-insert-in-Err-clause-absent g c =
    let missing = get_missing _ _ c.self.invariant c.self.view_is nat_list_cmp_total c.args.name c.in-Err.at (rw (← c.as_str.ensures) c.in-Err.ensures.absent) in
    search (missing, rules)
