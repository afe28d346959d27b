use Rattle.mb_constraints.proofs.Common.{false, id_named, index_by, is_null, is_some, rules, ◌∙◌, ◌≡◌}
use Rattle.mb_constraints.proofs.references.has_contents.Goals as goal

pub returns : goal.returns
returns c =
    let some : is_null c.args.id.now ≡ false = search rules in
    let found : c.is_some.result ≡ is_some (index_by c.args.contents.now.items.items c.args.contents.now.order.items c.args.id.now) = search rules in
    found ∙ id_named c.args.contents.now.items.items c.args.contents.now.live c.args.contents.now.order.items c.requires c.args.id.now some
