-- The walk along all entries of an archive, level by level.
use Rattle.std.specs.Prelude.{ℕ, zero, suc, true, false, List, [], ◌∷◌, ◌++◌, flat_map, nat_eq, Result, Ok, Err}
use Rattle.pm_reader.specs.Common.{Entry, Header, leaf_of, Opened, opened, PmtError}
use Rattle.pm_format.specs.declared.error.PmtError.TheVariants as errors
use Rattle.pm_reader.specs.Levels.{entries_below}

-- an entry of a tile, or the refusal that ends the walk
abbrev pub Item : Type 0
Item = Result Entry PmtError

-- Along entries: a tile entry is an item; a leaf entry gives nothing where its leaf is there and decodes, else its
-- refusal as the last item; and the leaf entry after so many others gives BudgetSpent as the last item.
unfoldable pub along : Header → List ℕ → ℕ → List Entry → List Item
along h b budget [] = []
along h b budget (e ∷ es) = elim (nat_eq e.run_length 0) [
  | false ↦ Ok e ∷ along h b budget es
  | true ↦ elim budget [
    | zero ↦ Err errors.BudgetSpent ∷ []
    | suc left ↦ elim (leaf_of h b e) [ Err r ↦ Err r ∷ [] | Ok leaf ↦ along h b left es ]
  ]
]

-- the first levels, joined; each has the entries of the leaves that the one before names
unfoldable pub levels : ℕ → Header → List ℕ → List Entry → List Entry
levels zero h b es = []
levels (suc n) h b es = es ++ levels n h b (flat_map (entries_below h b) es)

abbrev pub walk_opened : List ℕ → ℕ → Result Opened PmtError → List Item
walk_opened b budget (Err e) = []
walk_opened b budget (Ok o) = along o.0 b budget (levels (suc budget) o.0 b o.1)

-- the walk with a budget of leaves; an entry of level n lies behind n leaf entries at least, so that deeper levels than
-- the budget aren't reached
abbrev pub walk : List ℕ → ℕ → List Item
walk b budget = walk_opened b budget (opened b)
