use Rattle.mb_lists.proofs.Common.{is_gone, place_at, place_of, places_total, refl, tile_mark}
use Rattle.mb_lists.proofs.Places.{places_antisymmetric}
use Rattle.mb_lists.proofs.StandsLemmas.{marked_at, no_mark}
use Rattle.mb_lists.proofs.tile_list.TileList.clear.Goals as goal

pub returns-in-Ok-clause-order : goal.returns-in-Ok-clause-order
returns-in-Ok-clause-order c = (marked_at places_total places_antisymmetric place_of is_gone c.args.self.now.live c.args.self.now.items.items c.mark_tile.new.items.items c.in-Ok.at (tile_mark c.args.coord) c.in-Ok.ensures.found refl c.requires c.mark_tile.ensures).0

pub returns-in-Ok-clause-cleared : goal.returns-in-Ok-clause-cleared
returns-in-Ok-clause-cleared c = (marked_at places_total places_antisymmetric place_of is_gone c.args.self.now.live c.args.self.now.items.items c.mark_tile.new.items.items c.in-Ok.at (tile_mark c.args.coord) c.in-Ok.ensures.found refl c.requires c.mark_tile.ensures).1

pub returns-in_default-clause-cleared : goal.returns-in_default-clause-cleared
returns-in_default-clause-cleared c = no_mark places_total places_antisymmetric place_of is_gone c.args.self.now.live c.args.self.now.items.items (place_at c.args.coord) c.in_default.field-0 (tile_mark c.args.coord) c.in_default.ensures.absent c.requires
