-- Columns of a directory as they are read: ids by their differences, and entries by their offsets.
use Rattle.std.specs.Prelude.{ℕ, ◌^◌, List, Option, None, option_map}
use Rattle.pm_format.specs.Directory.{Entry, ◌>>=◌, column, ids_from, offsets_from, entries_of}

-- the ids of n differences, counted from the last id, and what follows them
abbrev pub ids_at : ℕ → ℕ → List ℕ → Option (List ℕ × List ℕ)
ids_at last n bs = column 10 (2 ^ 64) n bs >>= λ a. option_map (λ ids. (ids, a.1)) (ids_from last a.0)

-- the entries of three columns and n offsets, after an entry that ends at the given place
abbrev pub entries_at : Option ℕ → ℕ → List ℕ → List ℕ → List ℕ → List ℕ → Option (List Entry)
entries_at end n ids runs lengths bs = column 10 (2 ^ 64) n bs >>= λ d. option_map (entries_of ids runs lengths) (offsets_from end lengths d.0)

-- the entries of four columns
unfoldable pub columns_at : ℕ → List ℕ → Option (List Entry)
columns_at n bs =
    ids_at 0 n bs >>= λ a.
    column 5 (2 ^ 32) n a.1 >>= λ b.
    column 5 (2 ^ 32) n b.1 >>= λ c.
    entries_at None n a.0 b.0 c.0 c.1
