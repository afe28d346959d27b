use Rattle.tileset_script.proofs.Common.{ap, arith, option_copied, row_of, rules, sym, words_of, ◌+◌, ◌-◌, ◌∙◌, ◌≡◌}
use Rattle.tileset_script.proofs.RowLemmas.{behind_cells, cell_bad, cell_more, first_split, word_left, word_missing, words_left}
use Rattle.tileset_script.proofs.script.line.parse_row.Goals as goal

pub returns-in_default-clause-row : goal.returns-in_default-clause-row
returns-in_default-clause-row c = word_missing c.loop.cells.items c.args.width c.loop.counter (row_of c.args.width (words_of c.args.words.now)) c.loop-test.true (rw c.in_default.is at c.loop.invariant.whole)

pub returns-in_default-2-clause-row : goal.returns-in_default-2-clause-row
returns-in_default-2-clause-row c =
    cell_bad c.loop.cells.items c.args.width c.loop.counter c.in-Some.text.now c.first_word.result.0.now (option_copied c.first_word.result.1) (row_of c.args.width (words_of c.args.words.now)) c.loop-test.true
    (first_split c.in-Some.text.now c.first_word.result.0.now c.first_word.result.1 c.first_word.ensures) (sym c.in_default-2.is ∙ c.in_ok-cell.ensures) (rw c.in-Some.is at c.loop.invariant.whole)

pub loop-preserved : goal.loop-preserved
loop-preserved c = record {
  whole = ap (λ items. behind_cells items (c.args.width - (c.loop.counter + 1)) (words_left (option_copied c.first_word.result.1))) c.in_ok-push.ensures.items
      ∙ cell_more c.loop.cells.items c.in-Some-2.cell c.args.width c.loop.counter c.in-Some.text.now c.first_word.result.0.now (option_copied c.first_word.result.1) (row_of c.args.width (words_of c.args.words.now)) c.loop-test.true
      (first_split c.in-Some.text.now c.first_word.result.0.now c.first_word.result.1 c.first_word.ensures) (sym c.in-Some-2.is ∙ c.in_ok-cell.ensures) (rw c.in-Some.is at c.loop.invariant.whole);
  count = search rules;
}

pub returns-in-Some-rest-clause-row : goal.returns-in-Some-rest-clause-row
returns-in-Some-rest-clause-row c =
    let none : c.args.width - c.loop.counter ≡ 0 = omega arith in
    word_left c.loop.cells.items c.in-Some-rest.field-0.now (row_of c.args.width (words_of c.args.words.now)) (rw (none, c.in-Some-rest.is) at c.loop.invariant.whole)
