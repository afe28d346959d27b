-- the cells so far, and those of the words that are left
use Rattle.tileset_script.proofs.Common.{length, option_copied, row_of, words_of, ◌-◌, ◌≡◌}
use Rattle.tileset_script.proofs.RowLemmas.{behind_cells, words_left}
use Rattle.tileset_script.proofs.script.line.parse_row.Given as goal

abbrev pub invariant-loop : goal.invariant-loop
invariant-loop l = record {
  whole : behind_cells l.cells.items (l.width - l.counter) (words_left (option_copied l.rest)) ≡ row_of l.fn.width (words_of l.fn.words);
  count : length l.cells.items ≡ l.counter;
}
