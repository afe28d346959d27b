-- What the leaf of an entry has for an id.
use Rattle.std.specs.Prelude.{ℕ, List, Option, Result, Ok, Err}
use Rattle.pm_reader.specs.Common.{Entry, Header, leaf_of, PmtError, scan}

abbrev pub entry_in_leaf : Header → List ℕ → ℕ → Entry → Result (Option Entry) PmtError
entry_in_leaf h b t e = elim (leaf_of h b e) [ Err r ↦ Err r | Ok leaf ↦ Ok (scan leaf t) ]
