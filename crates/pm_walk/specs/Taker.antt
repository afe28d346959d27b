-- What takes the parts of a walk, and what it holds of them.
use Rattle.std.specs.Prelude.{◌≡◌, ℕ, List, [], ◌∷◌, ◌++◌, Option, Some, None, Result, OnOk}
use Rattle.pm_walk.specs.Common.{Entry}
use Rattle.pm_walk.specs.Collected.{Collected}
use Rattle.pm_walk.specs.Collecting.{taken}

-- nothing was collected yet, and there is room for so many tiles
abbrev pub nothing : ℕ → Collected
nothing room = record { parts = []; contents = []; room = Some room }

-- one more part with its contents, as long as there is room for its tiles
abbrev pub beside : Collected → Entry → List ℕ → Option ℕ → Collected
beside c p bytes None = record { parts = c.parts; contents = c.contents; room = None }
beside c p bytes (Some room) = record { parts = c.parts ++ p ∷ []; contents = c.contents ++ bytes ∷ []; room = Some room }

abbrev pub with_part : Collected → Entry → List ℕ → Collected
with_part c p bytes = beside c p bytes (taken c.room p.run_length)

-- what takes the parts, and the room beside it, hold what was collected
abbrev pub Holds : {T : Type 0} → (T → List Entry → List (List ℕ) → Type 0) → T → Option ℕ → Collected → Type 0
Holds holds taker room c = holds taker c.parts c.contents × (room ≡ c.room)

-- what a call leaves: the room in any case, and what was collected where it isn't refused
abbrev pub Leaves : {T A E : Type 0} → (T → List Entry → List (List ℕ) → Type 0) → T → Option ℕ → Collected → Result A E → Type 0
Leaves holds taker room c r = (room ≡ c.room) × OnOk r (holds taker c.parts c.contents)
