use Rattle.tile_streaming.proofs.Common.{Mark, not, place_with, rules}
use Rattle.std.proofs.lemmas.Fn.{filter_same}
use Rattle.std.specs.FinMap.{contains_key}
use Rattle.tile_streaming.proofs.patching.keep_left.Goals as goal

pub returns : goal.returns
returns c = filter_same _ (λ (m : Mark). not (contains_key c.args.patch.now.state.tiles (place_with m.id))) _ (λ x b f' k. search rules) _ _ c.retain.ensures.filtered
