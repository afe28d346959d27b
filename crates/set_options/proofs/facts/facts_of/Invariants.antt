-- what the tiles so far say
use Rattle.set_options.proofs.Common.{entries, fold, no_facts, take, with_tile, ◌≡◌}
use Rattle.set_options.proofs.facts.facts_of.Given as goal

abbrev pub invariant-loop-index : goal.invariant-loop-index
invariant-loop-index l = l.facts ≡ fold with_tile no_facts (take l.index (entries l.set.state.tiles))
