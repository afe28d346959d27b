-- Numbers of keys: rows with one key have one number.
use Rattle.std.specs.Prelude.{ℕ, ◌+◌, ◌*◌, ◌^◌, ◌&&◌, nat_le, nat_lt, ℤ, pos, cond, List, [], ◌∷◌, Option, Some, None}
use Rattle.std.specs.Int.{cast_unsigned, w64}
use Rattle.sqlite_disk.specs.Digest.{digest}
use Rattle.mb_tables.specs.declared.cell.Cell.{Cell}
use Rattle.mb_tables.specs.declared.cell.Cell.TheVariants.{Int, Text}
use Rattle.mb_tables.specs.declared.key.RowKey.{RowKey}
use Rattle.mb_tables.specs.declared.key.RowKey.TheVariants.{IntId, TextId, Tile}

-- a place of zoom 0 to 30: a bit for its zoom above its column, and its row in the 30 lowest bits
abbrev pub place_number : ℤ → ℤ → ℤ → Option ℕ
place_number (pos zoom) (pos column) (pos row) =
    cond (nat_le zoom 30 && nat_lt column (2 ^ zoom) && nat_lt row (2 ^ zoom)) (Some ((2 ^ zoom + column) * 1073741824 + row)) None
place_number _ _ _ = None

-- a row by its first cells: a place, a number or the digest of a text; None where one of them is of another kind
abbrev pub number_of_row : ℕ → List Cell → Option ℕ
number_of_row secret (Int zoom ∷ Int column ∷ Int row ∷ cell ∷ more) = place_number zoom column row
number_of_row secret (Int id ∷ cell ∷ []) = Some (cast_unsigned w64 id)
number_of_row secret (Text id ∷ cell ∷ []) = Some (digest secret id)
number_of_row secret _ = None

-- a key; None where it is no place of zoom 0 to 30
abbrev pub number_of_key : ℕ → RowKey → Option ℕ
number_of_key secret (Tile zoom column row) = place_number (pos zoom) (pos column) (pos row)
number_of_key secret (IntId id) = Some (cast_unsigned w64 id)
number_of_key secret (TextId id) = Some (digest secret id)
