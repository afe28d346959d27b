-- The names of a set, as they are held.
use Rattle.std.specs.Prelude.{ℕ, List, Option}
use Rattle.mb_lists.specs.declared.entries.Standing.TheVariants.{Kept}
use Rattle.mb_lists.specs.declared.entries.StoredName.{StoredName}
use Rattle.mb_loaded.specs.Edits.{with_name}
use Rattle.mb_loaded.specs.FromLast.{from_last}
use Rattle.mb_loaded.specs.Held.{Held}
use Rattle.std.specs.Coded.{Coded, coded_list, coded_option, coded_ℕ}
use Rattle.std.specs.FinMap as fin
use Rattle.set_options.specs.Common.{entries, Names, text_cell}

-- names are told apart by their entries
abbrev pub names_code : Coded Names
names_code = fin.code (coded_list coded_ℕ) (coded_option (coded_list coded_ℕ))

-- a name with its text or null, as lists keep it
abbrev pub stored_name : List ℕ × Option (List ℕ) → StoredName
stored_name e = record { name = e.0; value = text_cell e.1; standing = Kept }

-- names that are put into a set, from the last to the first
abbrev pub name_put : Held → List ℕ × Option (List ℕ) → Held
name_put h e = with_name h e.0 e.1

abbrev pub names_put : Held → Names → Held
names_put h names = from_last name_put h (entries names)
