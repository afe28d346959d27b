use Rattle.std.proofs.Common.{ap, List, map, negsuc, Some, sym, ◌++◌}
use Rattle.sqlite_btree.specs.Stored.{as_row}
use Rattle.mb_file.specs.Cursor.{rows_from, Stored}
use Rattle.mb_file.proofs.CursorLemmas.{all_from_least, ids_fit}
use Rattle.mb_file.proofs.cursor.Cursor.new.Goals as goal

pub returns-clause-left : goal.returns-clause-left
returns-clause-left c = λ layout usable root rows table. all_from_least rows (ids_fit table)

pub returns-clause-among : goal.returns-clause-among
returns-clause-among c = λ layout usable pages rows.
    let rest : List Stored = rows_from (Some (negsuc 9223372036854775807)) rows in
    record {
      valid = c.new.ensures.valid layout usable;
      rest = rest;
      parts = sym (ap (λ es. map as_row es ++ rest) (c.new.ensures.empty pages));
    }
