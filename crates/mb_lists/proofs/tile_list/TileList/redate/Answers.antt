use Rattle.mb_lists.proofs.Common.{place_at}
use Rattle.mb_lists.proofs.DatingLemmas.{redated_at, redated_not}
use Rattle.mb_lists.proofs.tile_list.TileList.redate.Goals as goal

pub returns-in-Ok-clause-order : goal.returns-in-Ok-clause-order
returns-in-Ok-clause-order c = (redated_at c.args.self.now.live c.args.self.now.items.items c.redate_at.new.items.items c.in-Ok.at (place_at c.args.coord) c.args.dates c.in-Ok.ensures.found c.requires c.redate_at.ensures).0

pub returns-in-Ok-clause-dated : goal.returns-in-Ok-clause-dated
returns-in-Ok-clause-dated c = (redated_at c.args.self.now.live c.args.self.now.items.items c.redate_at.new.items.items c.in-Ok.at (place_at c.args.coord) c.args.dates c.in-Ok.ensures.found c.requires c.redate_at.ensures).1

pub returns-in_default-clause-dated : goal.returns-in_default-clause-dated
returns-in_default-clause-dated c = redated_not c.args.self.now.live c.args.self.now.items.items (place_at c.args.coord) c.in_default.field-0 c.args.dates c.in_default.ensures.absent c.requires
