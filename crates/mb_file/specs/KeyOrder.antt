-- The order of rows by the first of their columns, the key. A row that lacks a column of the key comes before no row.
use Rattle.std.specs.Prelude.{ℕ, zero, suc, Bool, false, true, List, [], ◌∷◌}
use Rattle.std.specs.declared.cmp.Ordering.{Ordering}
use Rattle.std.specs.declared.cmp.Ordering.TheVariants.{Equal, Greater, Less}
use Rattle.sqlite_record.specs.Record.{decode}
use Rattle.sqlite_value.specs.Order.{Row, value_cmp}

-- the first column that differs decides
abbrev pub decided : Ordering → Bool → Bool
decided Less later = true
decided Equal later = later
decided Greater later = false

abbrev pub is_below : ℕ → Row → Row → Bool
is_below zero a b = false
is_below (suc n) [] b = false
is_below (suc n) (x ∷ a) [] = false
is_below (suc n) (x ∷ a) (y ∷ b) = decided (value_cmp x y) (is_below n a b)

-- the same of records
abbrev pub record_below : ℕ → List ℕ → List ℕ → Bool
record_below columns first second = is_below columns (decode first) (decode second)
