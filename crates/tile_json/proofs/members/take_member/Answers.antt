use Rattle.tile_json.proofs.Common.{ap, members_view, option_map, view, view-lookup, ◌∙◌}
use Rattle.tile_json.proofs.MemberLemmas.{view_removed}
use Rattle.tile_json.proofs.members.take_member.Goals as goal

pub returns-clause-value : goal.returns-clause-value
returns-clause-value c = ap (option_map view) c.remove.ensures.value ∙ view-lookup c.args.name.now c.args.members.now.entries

pub returns-clause-left : goal.returns-clause-left
returns-clause-left c = ap members_view c.remove.ensures.entries ∙ view_removed c.args.name.now c.args.members.now.entries
