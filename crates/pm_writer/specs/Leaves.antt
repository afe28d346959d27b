-- A root for a list of entries, and directories below it where they don't fit.
use Rattle.std.specs.Prelude.{◌≡◌, ℕ, zero, suc, ◌+◌, ◌/◌, Bool, true, false, List, [], ◌∷◌, ◌++◌, length, take, drop, nat_lt, nat_le, ◌&&◌, flat_map, refl}
use Rattle.pm_writer.specs.Common.{dir_bytes, Entry, entry, root_of}
use Rattle.pm_format.specs.declared.header.TheConstants.{MAX_ROOT}

-- directories of a size, the last one shorter
abbrev pub cut : ℕ → ℕ → List Entry → List (List Entry)
cut zero size es = []
cut (suc n) size [] = []
cut (suc n) size (e ∷ es) = take size (e ∷ es) ∷ cut n size (drop size (e ∷ es))

abbrev pub pieces : ℕ → List Entry → List (List Entry)
pieces size es = cut (length es) size es

-- the entries' bytes have room in front of the archive
abbrev pub fits_root : List Entry → Bool
fits_root es = nat_le (length (dir_bytes es)) MAX_ROOT

-- upper directories, lying from a place on, of the first size whose root fits; each size is the
-- one before and its fifth
abbrev pub uppers_by : ℕ → ℕ → ℕ → List Entry → List (List Entry)
uppers_by zero place size es = pieces size es
uppers_by (suc n) place size es =
    let us = pieces size es in
    elim (fits_root (root_of place us)) [ true ↦ us | false ↦ uppers_by n place (size + size / 5) es ]

abbrev pub found_uppers : ℕ → ℕ → List Entry → List (List Entry)
found_uppers place size es = uppers_by (length es) place size es

-- the entries can stand in the root themselves
abbrev pub stands_in_root : List Entry → Bool
stands_in_root es = nat_lt (length es) 16384 && fits_root es

-- the entries of the root, and the directories below it: those of tile entries, and upper ones behind them
pub record Layout : Type 0 where
  pub root : List Entry
  pub leaves : List (List Entry)
  pub uppers : List (List Entry)

abbrev pub below_layout : Layout → List (List Entry)
below_layout l = l.leaves ++ l.uppers

-- where directories that lie from 0 on end
abbrev pub end_of : List (List Entry) → ℕ
end_of ls = length (flat_map dir_bytes ls)

-- a root that names leaves, where their entries fit it, else one that names upper directories of these entries, of
-- no smaller size than this
abbrev pub named_leaves : ℕ → List (List Entry) → Layout
named_leaves size ls =
    let us = found_uppers (end_of ls) size (root_of 0 ls) in
    elim (fits_root (root_of 0 ls)) [
      | true ↦ record { root = root_of 0 ls; leaves = ls; uppers = [] }
      | false ↦ record { root = root_of (end_of ls) us; leaves = ls; uppers = us }
    ]

-- one flat root where there are fewer than 16,384 entries and it fits, else leaves of a size
abbrev pub laid : ℕ → List Entry → Layout
laid size es =
    elim (stands_in_root es) [
      | true ↦ record { root = es; leaves = []; uppers = [] }
      | false ↦ named_leaves size (pieces size es)
    ]

abbrev pub five : List Entry
five = entry 0 0 1 1 ∷ entry 1 1 1 1 ∷ entry 2 2 1 1 ∷ entry 4 3 1 1 ∷ entry 5 4 1 1 ∷ []

-- directories of two entries, the last one shorter
pub in_twos : pieces 2 five ≡ (entry 0 0 1 1 ∷ entry 1 1 1 1 ∷ []) ∷ (entry 2 2 1 1 ∷ entry 4 3 1 1 ∷ []) ∷ (entry 5 4 1 1 ∷ []) ∷ []
in_twos = refl
