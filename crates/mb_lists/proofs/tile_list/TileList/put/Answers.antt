use Rattle.mb_lists.proofs.Common.{is_gone, place_of, places_total}
use Rattle.mb_lists.proofs.ListEdits.{slice_from}
use Rattle.mb_lists.proofs.Places.{places_antisymmetric}
use Rattle.mb_lists.proofs.StandsLemmas.{over, placed}
use Rattle.mb_lists.proofs.tile_list.TileList.put.Goals as goal

pub returns-in-Ok-clause-order : goal.returns-in-Ok-clause-order
returns-in-Ok-clause-order c = (over places_total places_antisymmetric place_of is_gone c.args.self.now.live c.args.self.now.items.items c.in-Ok.at c.args.tile c.in-Ok.ensures.found c.requires.live c.requires.order).0

pub returns-in-Ok-clause-same : goal.returns-in-Ok-clause-same
returns-in-Ok-clause-same c = (over places_total places_antisymmetric place_of is_gone c.args.self.now.live c.args.self.now.items.items c.in-Ok.at c.args.tile c.in-Ok.ensures.found c.requires.live c.requires.order).1

pub returns-in-Err-clause-order : goal.returns-in-Err-clause-order
returns-in-Err-clause-order c = (placed places_total places_antisymmetric place_of is_gone c.args.self.now.live c.args.self.now.items.items c.put_at.new.items.items _ c.in-Err.at c.args.tile c.tile_position-mark.result c.in-Err.ensures.absent c.requires.live c.tile_position-mark.ensures (slice_from c.deref.result.now _ c.args.self.now.live c.deref.ensures.value) c.requires.order c.put_at.ensures).0

pub returns-in-Err-clause-same : goal.returns-in-Err-clause-same
returns-in-Err-clause-same c = (placed places_total places_antisymmetric place_of is_gone c.args.self.now.live c.args.self.now.items.items c.put_at.new.items.items _ c.in-Err.at c.args.tile c.tile_position-mark.result c.in-Err.ensures.absent c.requires.live c.tile_position-mark.ensures (slice_from c.deref.result.now _ c.args.self.now.live c.deref.ensures.value) c.requires.order c.put_at.ensures).1
