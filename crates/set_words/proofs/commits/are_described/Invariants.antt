-- the changes so far are of described tables
use Rattle.std.proofs.Common.{◌≡◌, ◌<◌, ℕ, get_or, true}
use Rattle.mb_store.specs.declared.change.Change.{Change}
use Rattle.mb_tables.specs.Described.{is_table}
use Rattle.set_words.proofs.commits.are_described.Given as goal

abbrev pub invariant-loop-index : goal.invariant-loop-index
invariant-loop-index l = (k : ℕ) (d : Change) → k < l.index → is_table l.tables (get_or l.changes k d).table ≡ true
