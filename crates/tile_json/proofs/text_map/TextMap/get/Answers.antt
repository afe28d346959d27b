use Rattle.tile_json.proofs.Common.{arith, nat_list_cmp_total, sym}
use Rattle.tile_json.proofs.MapLemmas.{found_below, get_found, get_missing}
use Rattle.tile_json.proofs.text_map.TextMap.get.Goals as goal

-- the name is at its place
pub index-requires : goal.index-requires
index-requires g c = omega (arith, found_below _ _ c.self.invariant c.self.view_is nat_list_cmp_total c.args.name.now _ c.in-Ok.ensures.found, c.self.inside.entries.ok.0)

pub returns-in-Ok : goal.returns-in-Ok
returns-in-Ok g c = get_found _ _ c.self.invariant c.self.view_is nat_list_cmp_total c.args.name.now _ _ c.in-Ok.ensures.found c.index.ensures

-- the name isn't there
pub returns-in-Err : goal.returns-in-Err
returns-in-Err g c = sym (get_missing _ _ c.self.invariant c.self.view_is nat_list_cmp_total c.args.name.now _ c.in-Err.ensures.absent)
