use Rattle.tile_streaming.proofs.Common.{arith, entries, IsPermutation, len-entries, subst}
use Rattle.tile_streaming.proofs.ResolveLemmas.{none_more}
use Rattle.tile_streaming.proofs.resolving.all_marks.Goals as goal

pub returns-then-tile_count-eq0-clause-same : goal.returns-then-tile_count-eq0-clause-same
returns-then-tile_count-eq0-clause-same c = none_more c.args.rest.items (entries c.args.over.now.state.tiles) (omega (arith, c.tile_count.ensures, c.if-tile_count-eq0.true, len-entries c.args.over.now.state.tiles))

pub returns-clause-same : goal.returns-clause-same
returns-clause-same c = subst (λ l. IsPermutation l c.sort_by_id.new.marks.items) c.in_ok-add_held.ensures c.sort_by_id.ensures.same
