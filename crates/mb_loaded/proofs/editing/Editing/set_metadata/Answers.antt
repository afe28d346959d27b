use Rattle.mb_loaded.proofs.EditViews.{held_named}
use Rattle.mb_loaded.proofs.editing.Editing.set_metadata.Goals as goal

pub returns-clause-ok : goal.returns-clause-ok
returns-clause-ok c = rw (← c.self.view_is) (held_named c.self.inside.layout c.self.inside.algorithm c.self.inside.patch_type c.self.inside.contents.items c.self.inside.order.items c.self.inside.tiles.items c.self.inside.names.items c.args.name c.args.value c.push.new.self.items c.in_ok-push.ensures.items)
