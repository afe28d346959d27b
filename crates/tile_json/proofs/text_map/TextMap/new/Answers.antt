use Rattle.tile_json.proofs.Common.{ap, from_sorted, nat_cmp, slice_cmp, ◌∙◌}
use Rattle.tile_json.proofs.MapLemmas.{from_sorted_nil}
use Rattle.tile_json.proofs.text_map.TextMap.new.Goals as goal

pub returns : goal.returns
returns g c = ap (from_sorted {R = slice_cmp nat_cmp}) c.new.ensures.items ∙ from_sorted_nil
