-- Cells that the order doesn't tell apart are equal.
use Rattle.mb_tables.proofs.Common.{ap, Blob, Cell, cell_cmp, cell_eq, cells_cmp, cells_eq, Equal-is, Int, int_cmp-IsAntisymmetric, is_eq, IsAntisymmetric, IsTotalOrder, List, lists_total}
use Rattle.mb_tables.proofs.Common.{nat_cmp-IsAntisymmetric, Null, Other, refl, slice_cmp-IsAntisymmetric, sym, Text, tied_itself, ◌∙◌, ◌≡◌}
use Rattle.std.specs.Bool.{Decides}
use Rattle.mb_tables.specs.CellOrder.{cells_total}

pub cell_cmp-IsAntisymmetric : IsAntisymmetric cell_cmp
cell_cmp-IsAntisymmetric (Int a) (Int b) e = ap Int (int_cmp-IsAntisymmetric a b e)
cell_cmp-IsAntisymmetric (Text a) (Text b) e = ap Text (slice_cmp-IsAntisymmetric nat_cmp-IsAntisymmetric a b e)
cell_cmp-IsAntisymmetric (Blob a) (Blob b) e = ap Blob (slice_cmp-IsAntisymmetric nat_cmp-IsAntisymmetric a b e)
cell_cmp-IsAntisymmetric Null Null e = refl
cell_cmp-IsAntisymmetric Other Other e = refl
cell_cmp-IsAntisymmetric Null (Int b) e = cc
cell_cmp-IsAntisymmetric Null (Text b) e = cc
cell_cmp-IsAntisymmetric Null (Blob b) e = cc
cell_cmp-IsAntisymmetric Null Other e = cc
cell_cmp-IsAntisymmetric (Int a) Null e = cc
cell_cmp-IsAntisymmetric (Int a) (Text b) e = cc
cell_cmp-IsAntisymmetric (Int a) (Blob b) e = cc
cell_cmp-IsAntisymmetric (Int a) Other e = cc
cell_cmp-IsAntisymmetric (Text a) Null e = cc
cell_cmp-IsAntisymmetric (Text a) (Int b) e = cc
cell_cmp-IsAntisymmetric (Text a) (Blob b) e = cc
cell_cmp-IsAntisymmetric (Text a) Other e = cc
cell_cmp-IsAntisymmetric (Blob a) Null e = cc
cell_cmp-IsAntisymmetric (Blob a) (Int b) e = cc
cell_cmp-IsAntisymmetric (Blob a) (Text b) e = cc
cell_cmp-IsAntisymmetric (Blob a) Other e = cc
cell_cmp-IsAntisymmetric Other Null e = cc
cell_cmp-IsAntisymmetric Other (Int b) e = cc
cell_cmp-IsAntisymmetric Other (Text b) e = cc
cell_cmp-IsAntisymmetric Other (Blob b) e = cc

pub cells_cmp-IsAntisymmetric : IsAntisymmetric cells_cmp
cells_cmp-IsAntisymmetric = slice_cmp-IsAntisymmetric cell_cmp-IsAntisymmetric

pub lists_of_cells_total : IsTotalOrder cells_cmp
lists_of_cells_total = lists_total cells_total

-- the test of two cells says whether they are equal, and so does that of two lists of cells
pub cell_eq-Decides : (a b : Cell) → Decides (cell_eq a b) (a ≡ b)
cell_eq-Decides a b = (
  (λ h. cell_cmp-IsAntisymmetric a b ((Equal-is (cell_cmp a b)).0 h)),
  (λ e. ap (λ c. cell_eq a c) (sym e) ∙ ap is_eq (tied_itself cells_total a)),
)

pub cells_eq-Decides : (xs ys : List Cell) → Decides (cells_eq xs ys) (xs ≡ ys)
cells_eq-Decides xs ys = (
  (λ h. cells_cmp-IsAntisymmetric xs ys ((Equal-is (cells_cmp xs ys)).0 h)),
  (λ e. ap (λ zs. cells_eq xs zs) (sym e) ∙ ap is_eq (tied_itself lists_of_cells_total xs)),
)
