-- The walk by a queue of entries: a leaf's entries go to its end.
use Rattle.std.specs.Prelude.{ℕ, zero, suc, true, false, List, [], ◌∷◌, ◌++◌, nat_eq, Ok, Err}
use Rattle.pm_reader.specs.Common.{Entry, Header, leaf_of}
use Rattle.pm_format.specs.declared.error.PmtError.TheVariants as errors
use Rattle.pm_reader.specs.Walk.{Item}

-- the items up to the first leaf entry, and what it gives with what stands behind it
abbrev pub queued_by : (Entry → List Entry → List Item) → List Entry → List Item
queued_by leaf [] = []
queued_by leaf (e ∷ es) = elim (nat_eq e.run_length 0) [ false ↦ Ok e ∷ queued_by leaf es | true ↦ leaf e es ]

-- the items of a queue, with a budget of leaves
unfoldable pub queued : ℕ → Header → List ℕ → List Entry → List Item
queued zero h b es = queued_by (λ e rest. Err errors.BudgetSpent ∷ []) es
queued (suc n) h b es = queued_by (λ e rest. elim (leaf_of h b e) [ Err r ↦ Err r ∷ [] | Ok leaf ↦ queued n h b (rest ++ leaf) ]) es
