-- The directories below the root that the bytes of an archive have.
use Rattle.std.specs.Prelude.{ℕ, zero, suc, Bool, List, [], ◌∷◌, filter, flat_map, length, nat_eq, not, if◌then◌else◌, Result, Ok, Err}
use Rattle.std.specs.List.{list_any}
use Rattle.pm_writer.specs.Common.{Entry, Header, leaf_of, Opened, PmtError}

-- a directory that is read, and those below it
abbrev pub with_below : (Entry → List (List Entry)) → Result (List Entry) PmtError → List (List Entry)
with_below below (Err e) = []
with_below below (Ok es) = es ∷ flat_map below es

-- those that an entry leads to, at most so many levels deep
abbrev pub directories_by : ℕ → Header → List ℕ → Entry → List (List Entry)
directories_by zero h b e = []
directories_by (suc n) h b e = if nat_eq e.run_length 0 then with_below (directories_by n h b) (leaf_of h b e) else []

abbrev pub directories_read : List ℕ → Opened → List (List Entry)
directories_read b o = flat_map (directories_by 6 o.0 b) o.1

-- a directory has a tile entry, or a leaf entry
abbrev pub has_tiles : List Entry → Bool
has_tiles es = list_any (λ e. not (nat_eq e.run_length 0)) es

abbrev pub has_leaves : List Entry → Bool
has_leaves es = list_any (λ e. nat_eq e.run_length 0) es

abbrev pub leaves_among : List (List Entry) → ℕ
leaves_among ds = length (filter has_tiles ds)

abbrev pub uppers_among : List (List Entry) → ℕ
uppers_among ds = length (filter has_leaves ds)
