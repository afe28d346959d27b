use Rattle.tile_bridge.proofs.Common.{ap, rules, sym, tests, [], ◌++◌, ◌∙◌, ◌∷◌}
use Rattle.tile_bridge.proofs.FillingLemmas.{empty_passed, filled_more, nil_of, not_nil_of}
use Rattle.tile_bridge.proofs.adds.take_tile.Goals as goal

pub returns-then-is_empty : goal.returns-then-is_empty
returns-then-is_empty c = λ so. empty_passed c.args.set.now.state.tiles c.args.adds.now.items c.args.index c.tile_at-coord.result.0 c.tile_at-coord.result.1.now c.requires c.tile_at-coord.ensures c.id_of-id.ensures.within so (sym c.bytes_of.ensures ∙ nil_of _ (search (rules, tests)))

pub returns : goal.returns
returns c = λ so. filled_more c.args.set.now.state.tiles c.args.adds.now.items c.args.index c.tile_at-coord.result.0 c.tile_at-coord.result.1.now c.requires c.tile_at-coord.ensures c.id_of-id.ensures.within so c.push.new.self.items
    (c.in_ok-push.ensures.items ∙ ap (λ id. c.args.adds.now.items ++ record { id = id; index = c.args.index } ∷ []) c.id_of-id.ensures.id) (not_nil_of _ c.bytes_of.result.now c.bytes_of.ensures (search (rules, tests)))
