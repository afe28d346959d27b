-- The tile entries that the bytes of an archive have.
use Rattle.std.specs.Prelude.{ℕ, zero, suc, List, [], ◌∷◌, flat_map, nat_eq, if◌then◌else◌, Result, Ok, Err}
use Rattle.pm_writer.specs.Common.{Entry, Header, leaf_of, Opened, opened, PmtError}

-- those of a leaf that is read
abbrev pub entries_below : (Entry → List Entry) → Result (List Entry) PmtError → List Entry
entries_below below (Err e) = []
entries_below below (Ok leaf) = flat_map below leaf

-- a tile entry itself, and those of the leaf that a leaf entry leads to, by at most so many leaves
abbrev pub entries_by : ℕ → Header → List ℕ → Entry → List Entry
entries_by zero h b e = if nat_eq e.run_length 0 then [] else e ∷ []
entries_by (suc n) h b e = if nat_eq e.run_length 0 then entries_below (entries_by n h b) (leaf_of h b e) else e ∷ []

-- in bytes that open; others have none
abbrev pub entries_opened : List ℕ → Result Opened PmtError → List Entry
entries_opened b (Err e) = []
entries_opened b (Ok o) = flat_map (entries_by 6 o.0 b) o.1

abbrev pub entries_read : List ℕ → List Entry
entries_read b = entries_opened b (opened b)
