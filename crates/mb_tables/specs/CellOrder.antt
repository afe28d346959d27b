-- The order of cells is total.
use Rattle.std.specs.Prelude.{◌≡◌, ℕ, ℤ, pos, List, [], refl}
use Rattle.std.proofs.Common.{subst}
use Rattle.mb_tables.specs.Common.{int_cmp, int_cmp_total, IsTotalOrder, nat_cmp, nat_cmp_total, nat_list_cmp_total, on, Ordering, ordering_then, slice_cmp, then_cmp}
use Rattle.std.specs.declared.cmp.Ordering.TheVariants.{Less, Equal, Greater}
use Rattle.std.proofs.lemmas.Cmp.{on_total, then_total}
use Rattle.mb_tables.specs.declared.cell.Cell.{Cell}
use Rattle.mb_tables.specs.declared.cell.Cell.TheVariants.{Null, Int, Text, Blob, Other}
use Rattle.mb_tables.specs.Cell.{kind_of, cell_cmp}

number_of : Cell → ℤ
number_of (Int n) = n
number_of _ = pos 0

bytes_of : Cell → List ℕ
bytes_of (Text bytes) = bytes
bytes_of (Blob bytes) = bytes
bytes_of _ = []

-- by kind, then by number, then by bytes
by_parts : Cell → Cell → Ordering
by_parts = then_cmp (on kind_of nat_cmp) (then_cmp (on number_of int_cmp) (on bytes_of (slice_cmp nat_cmp)))

parts_total : IsTotalOrder by_parts
unfolding by_parts
parts_total = then_total (on_total kind_of nat_cmp_total) (then_total (on_total number_of int_cmp_total) (on_total bytes_of nat_list_cmp_total))

then_Equal : (r : Ordering) → ordering_then r Equal ≡ r
then_Equal Less = refl
then_Equal Equal = refl
then_Equal Greater = refl

same_parts : (a b : Cell) → by_parts a b ≡ cell_cmp a b
unfolding by_parts number_of bytes_of
same_parts (Int a) (Int b) = then_Equal (int_cmp a b)
same_parts (Text a) (Text b) = refl
same_parts (Blob a) (Blob b) = refl
same_parts Null Null = refl
same_parts Null (Int b) = refl
same_parts Null (Text b) = refl
same_parts Null (Blob b) = refl
same_parts Null Other = refl
same_parts (Int a) Null = refl
same_parts (Int a) (Text b) = refl
same_parts (Int a) (Blob b) = refl
same_parts (Int a) Other = refl
same_parts (Text a) Null = refl
same_parts (Text a) (Int b) = refl
same_parts (Text a) (Blob b) = refl
same_parts (Text a) Other = refl
same_parts (Blob a) Null = refl
same_parts (Blob a) (Int b) = refl
same_parts (Blob a) (Text b) = refl
same_parts (Blob a) Other = refl
same_parts Other Null = refl
same_parts Other (Int b) = refl
same_parts Other (Text b) = refl
same_parts Other (Blob b) = refl
same_parts Other Other = refl

pub cells_total : IsTotalOrder cell_cmp
cells_total = subst IsTotalOrder (λ i a b. same_parts a b i) parts_total
