use Rattle.mb_store.proofs.Common.{sym, ◌∙◌}
use Rattle.std.specs.Map.Iter.{deref}
use Rattle.std.proofs.lemmas.Map.Iter.{rest_all, rest_more}
use Rattle.mb_store.proofs.StoredLemmas.{found_early, found_late, found_none}
use Rattle.mb_store.proofs.table_rows.first_early.Goals as goal

pub returns-in-None : goal.returns-in-None
returns-in-None c = found_none c.args.key.now c.args.limit c.args.stored.now.keys c.range.result c.requires c.range.ensures.ordered (c.range.ensures.between tt)
    (rest_all deref c.range.result c.next.new.self c.next.result c.in-None.is c.next.ensures.steps)

pub returns-then-is_early : goal.returns-then-is_early
returns-then-is_early c = found_early c.args.key.now c.args.limit c.args.stored.now.keys c.range.result c.requires c.range.ensures.ordered (c.range.ensures.between tt) c.in-Some.first.now c.next.new.self
    (rest_more deref c.range.result c.next.new.self c.next.result c.in-Some.first c.in-Some.is c.next.ensures.steps) (sym c.is_early.ensures ∙ c.if-is_early.true)

pub returns-else-is_early : goal.returns-else-is_early
returns-else-is_early c = found_late c.args.key.now c.args.limit c.args.stored.now.keys c.range.result c.requires c.range.ensures.ordered (c.range.ensures.between tt) c.in-Some.first.now c.next.new.self
    (rest_more deref c.range.result c.next.new.self c.next.result c.in-Some.first c.in-Some.is c.next.ensures.steps) (sym c.is_early.ensures ∙ c.if-is_early.false)
