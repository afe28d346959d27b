use Rattle.mb_cache.proofs.Common.{ap, Cache, option_or, place_twice, sym, [], ◌∙◌}
use Rattle.mb_cache.proofs.RowOrder.{bad_no_fault, entries_held, tiles_tested}
use Rattle.mb_cache.proofs.seen_rows.SeenRows.into_entries.Goals as goal

pub returns-in-Some-clause-tests : goal.returns-in-Some-clause-tests
returns-in-Some-clause-tests c rows sees = (λ free. ap (λ o. option_or o (place_twice Cache [] rows)) (sym sees.bad ∙ c.in-Some.is), bad_no_fault rows c.in-Some.bad (sym sees.bad ∙ c.in-Some.is))

pub returns-in-None-clause-tests : goal.returns-in-None-clause-tests
returns-in-None-clause-tests c rows sees = tiles_tested rows c.args.self.tiles c.into_entries.result (sym sees.bad ∙ c.in-None.is) (sees.tiles c.in-None.is) c.into_entries.ensures.apart c.into_entries.ensures.twice

pub returns-in-None-clause-entries : goal.returns-in-None-clause-entries
returns-in-None-clause-entries c rows sees = entries_held rows c.args.self.tiles c.into_entries.result (sees.tiles c.in-None.is) c.into_entries.ensures.apart
