-- Cells, and the order of cells.
use Rattle.std.specs.Prelude.{ℕ, Bool, true, false, List}
use Rattle.mb_tables.specs.Common.{eq_by_cmp, int_cmp, nat_cmp, Ordering, slice_cmp}
use Rattle.mb_tables.specs.declared.cell.Cell.{Cell}
use Rattle.mb_tables.specs.declared.cell.Cell.TheVariants.{Null, Int, Text, Blob, Other}

-- the kinds of cells, the lowest first
abbrev pub kind_of : Cell → ℕ
kind_of Null = 0
kind_of (Int n) = 1
kind_of (Text bytes) = 2
kind_of (Blob bytes) = 3
kind_of Other = 4

-- by kind, then by value, texts and blobs by bytes
abbrev pub cell_cmp : Cell → Cell → Ordering
cell_cmp (Int a) (Int b) = int_cmp a b
cell_cmp (Text a) (Text b) = slice_cmp nat_cmp a b
cell_cmp (Blob a) (Blob b) = slice_cmp nat_cmp a b
cell_cmp a b = nat_cmp (kind_of a) (kind_of b)

-- the first pair that differs decides
abbrev pub cells_cmp : List Cell → List Cell → Ordering
cells_cmp = slice_cmp cell_cmp

-- whether two cells are equal, and whether two lists of cells are
abbrev pub cell_eq : Cell → Cell → Bool
cell_eq = eq_by_cmp cell_cmp

abbrev pub cells_eq : List Cell → List Cell → Bool
cells_eq = eq_by_cmp cells_cmp

abbrev pub is_null : Cell → Bool
is_null Null = true
is_null _ = false
