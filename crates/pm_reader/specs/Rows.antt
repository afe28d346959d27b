-- A directory's rows, read in step from its four columns, and what they have for an id.
use Rattle.std.specs.Prelude.{ℕ, zero, suc, ◌+◌, ◌^◌, ◌≤◌, List, [], ◌∷◌, length, drop, Option, Some, None, nat_lt, if◌then◌else◌, option_map, Result, Ok, Err}
use Rattle.pm_reader.specs.Common.{covers, Entry, entry, offset_of, PmtError, scan}
use Rattle.pm_format.specs.declared.error.PmtError.TheVariants as errors
use Rattle.pm_format.specs.Varint.{u32_at, u64_at}
use Rattle.pm_format.specs.Directory.{◌>>=◌}
use Rattle.pm_reader.specs.declared.view.cursors.Cursors.{Cursors}

-- a number, where it is within u64
abbrev pub fit : ℕ → Option ℕ
fit n = if nat_lt n (2 ^ 64) then Some n else None

-- n rows, after a row of the given id that ends at the given place
abbrev pub rows : ℕ → ℕ → Option ℕ → List ℕ → List ℕ → List ℕ → List ℕ → Option (List Entry)
rows zero last end ids runs lengths offsets = Some []
rows (suc n) last end ids runs lengths offsets =
    u64_at ids >>= λ a.
    u32_at runs >>= λ r.
    u32_at lengths >>= λ l.
    u64_at offsets >>= λ o.
    fit (last + a.0) >>= λ id.
    offset_of end o.0 >>= λ at.
    option_map (λ es. entry id at l.0 r.0 ∷ es) (rows n id (fit (at + l.0)) a.1 r.1 l.1 o.1)

-- the rows that come next
abbrev pub rows_at : ℕ → List ℕ → Cursors → Option (List Entry)
rows_at n b c = rows n c.last c.end (drop c.ids b) (drop c.runs b) (drop c.lengths b) (drop c.offsets b)

pub record AreWithin (b : List ℕ) (c : Cursors) : Type 0 where
  pub ids : c.ids ≤ length b
  pub runs : c.runs ≤ length b
  pub lengths : c.lengths ≤ length b
  pub offsets : c.offsets ≤ length b

-- what follows a column
abbrev pub after : Option (List ℕ × List ℕ) → Option (List ℕ)
after None = None
after (Some r) = Some r.1

-- what a directory has for an id, where there is one
abbrev pub found_in : ℕ → Option (List Entry) → Result (Option Entry) PmtError
found_in t None = Err errors.InvalidEntry
found_in t (Some es) = Ok (scan es t)

-- what was found, where it covers an id
abbrev pub covered : ℕ → Option Entry → Option Entry
covered t found = found >>= covers t
