use Rattle.mb_lists.proofs.Common.{ap, is_gone, place_at, place_of, places_total, Some, sym, ◌∙◌}
use Rattle.mb_lists.proofs.Ordered.{at_live, gap_live}
use Rattle.mb_lists.proofs.Places.{places_antisymmetric}
use Rattle.mb_lists.proofs.tile_list.TileList.get.Goals as goal

pub returns-in-Ok : goal.returns-in-Ok
returns-in-Ok c = ap Some c.index.ensures ∙ sym (at_live places_total places_antisymmetric place_of is_gone c.args.self.now.live c.args.self.now.items.items (place_at c.args.coord) c.in-Ok.at c.index.result.now c.in-Ok.ensures.found c.requires)

pub returns-in-Err : goal.returns-in-Err
returns-in-Err c = sym (gap_live places_total places_antisymmetric place_of is_gone c.args.self.now.live c.args.self.now.items.items (place_at c.args.coord) c.in-Err.field-0 c.in-Err.ensures.absent c.requires)
