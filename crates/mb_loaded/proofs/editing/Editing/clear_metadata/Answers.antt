use Rattle.mb_loaded.proofs.Common.{◌∙◌}
use Rattle.mb_loaded.proofs.EditViews.{held_unnamed}
use Rattle.mb_loaded.proofs.editing.Editing.clear_metadata.Goals as goal

pub returns-clause-ok : goal.returns-clause-ok
returns-clause-ok c = rw (← c.self.view_is) (held_unnamed c.self.inside.layout c.self.inside.algorithm c.self.inside.patch_type c.self.inside.contents.items c.self.inside.order.items c.self.inside.tiles.items c.self.inside.names.items c.args.name.now c.new-name.result c.push.new.self.items (c.new-name.ensures ∙ c.in_ok-from_str.ensures.ok) c.in_ok-push.ensures.items)
