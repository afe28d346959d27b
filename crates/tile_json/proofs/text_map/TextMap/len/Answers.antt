use Rattle.tile_json.proofs.Common.{sym, ◌∙◌}
use Rattle.tile_json.proofs.MapLemmas.{len_is}
use Rattle.tile_json.proofs.text_map.TextMap.len.Goals as goal

pub returns : goal.returns
returns g c = c.len.ensures ∙ c.self.inside.entries.ok.0 ∙ sym (len_is _ _ c.self.invariant c.self.view_is)
