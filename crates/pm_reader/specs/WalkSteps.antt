-- One step of a walk.
use Rattle.std.specs.Prelude.{◌≡◌, ℕ, ◌+◌, ◌-◌, ◌*◌, ◌^◌, ◌≤◌, Bool, cond, List, [], ◌∷◌, ◌++◌, drop, length, flat_map, Option, Some, None, Ok, Err}
use Rattle.pm_reader.specs.Common.{Entry, FaultsStand, Header, leaf_of, PmtError}
use Rattle.pm_format.specs.declared.error.PmtError.TheVariants as errors
use Rattle.pm_format.specs.declared.error.ReadCause.TheVariants as causes
use Rattle.pm_reader.specs.Answers.{Gives, LookUpCauses}
use Rattle.pm_reader.specs.Queue.{queued}
use Rattle.pm_reader.specs.Reads.{GrewBetween}
use Rattle.pm_reader.specs.Walk.{Item}
use Rattle.pm_reader.specs.declared.walk.WalkState.{WalkState}

-- the entries that are in the queue: what is left of the first directory, and the others
abbrev pub queue_of : WalkState → List Entry
queue_of s = drop s.at s.current ++ flat_map (λ d. d) s.leaves.items

-- the units that are left
abbrev pub budget_of : WalkState → ℕ
budget_of s = s.budget

abbrev pub has_ended : WalkState → Bool
has_ended s = s.ended

-- a leaf is there, and its entries stand at the end of the queue
abbrev pub Enters : Header → List ℕ → Entry → List Entry → List Entry → Type 0
Enters h b e old new = (d : List Entry) × (leaf_of h b e ≡ Ok d) × (new ≡ old ++ d)

-- a leaf is refused, when out of memory, or by a fault
abbrev pub IsRefused : Header → List ℕ → Entry → PmtError → Type 0
IsRefused h b e r = Gives (leaf_of h b e) (Err r)

-- the items that are left, over these bytes
abbrev pub left_of : List ℕ → WalkState → List Item
left_of b s = cond s.ended [] (queued s.budget s.header b (queue_of s))

-- at most so many items are left, whatever the bytes
abbrev pub left_at_most : WalkState → ℕ
left_at_most s = cond s.ended 0 (length (queue_of s) + 2 ^ 64 * s.budget)

-- Over told bytes: the first of the items that were left is given, and the others are left. Want of memory and a fault
-- may come in its place, and end the walk.
abbrev pub Yields : List Item → Option Item → List Item → Type 0
Yields items None rest = (items ≡ []) × (rest ≡ [])
Yields items (Some (Ok e)) rest = items ≡ Ok e ∷ rest
Yields items (Some (Err errors.OutOfMemory)) rest = rest ≡ []
Yields items (Some (Err (errors.Reading causes.Fault))) rest = rest ≡ []
Yields items (Some (Err (errors.UnexpectedNumberOfBytesReturned asked got))) rest = ⊥
Yields items (Some (Err e)) rest = items ≡ Err e ∷ rest

-- Told or not: an error is one of a leaf, or the budget is spent.
abbrev pub WalkCauses : ℕ → ℕ → Option Item → Type 0
WalkCauses before now None = Unit {0}
WalkCauses before now (Some (Ok e)) = Unit {0}
WalkCauses before now (Some (Err errors.BudgetSpent)) = Unit {0}
WalkCauses before now (Some (Err e)) = LookUpCauses {A = Entry} before now (Err e)

-- a step leaves the count of faults as it is, but for a fault and running out of memory
abbrev pub StepStands : ℕ → ℕ → Option Item → Type 0
StepStands before now None = now ≡ before
StepStands before now (Some item) = FaultsStand before now item

-- a unit whose leaf was refused
abbrev pub refused_units : Option Item → ℕ
refused_units None = 0
refused_units (Some (Ok e)) = 0
refused_units (Some (Err errors.BudgetSpent)) = 0
refused_units (Some (Err e)) = 1

-- each unit was spent on one read, but that of a leaf that was refused, which took one at most; and the budget
-- is spent only at no unit
pub record Spends (budget left before now : ℕ) (item : Option Item) : Type 0 where
  pub fewer : left ≤ budget
  pub reads : GrewBetween before now (budget - left - refused_units item) (budget - left)
  pub all : item ≡ Some (Err errors.BudgetSpent) → left ≡ 0
