use Rattle.mb_loaded.proofs.Common.{◌∙◌}
use Rattle.mb_loaded.proofs.EditViews.{held_opened}
use Rattle.mb_loaded.proofs.loaded.Loaded.edit.Goals as goal

pub returns : goal.returns
returns c = held_opened c.self.inside.layout c.self.inside.algorithm c.self.inside.patch_type c.self.inside.contents.items.items c.self.inside.contents.order.items c.self.inside.tiles.items.items c.self.inside.names.items.items c.self.invariant.2.apart c.self.invariant.0.apart c.self.invariant.3.apart ∙ c.self.view_is
