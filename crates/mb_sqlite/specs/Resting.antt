-- What a transaction leaves that commits nothing.
use Rattle.std.specs.Prelude.{◌≡◌, true, false, [], IsTrue}
use Rattle.mb_sqlite.specs.Common.{Ghosts, HasCleanDisk, Held, KeepsCommit, state}

-- inside a transaction, what was committed last stands
abbrev pub KeepsInside : {S : Type 0} → Ghosts S → Held S → Held S → Type 0
KeepsInside g old new = HasCleanDisk (state g new) → old.in_transaction ≡ true → KeepsCommit (state g old) (state g new)

-- the transaction goes on
abbrev pub StaysInside : {S : Type 0} → Ghosts S → Held S → Held S → Type 0
StaysInside g old new = HasCleanDisk (state g new) → old.in_transaction ≡ true → new.in_transaction ≡ true

-- the connection is outside a transaction, and while it is open it shows what was committed last
pub record Rests {S : Type 0} (g : Ghosts S) (old new : Held S) : Type 0 where
  pub ended : new.in_transaction ≡ false
  pub was_open : HasCleanDisk (state g new) → IsTrue (state g new).is_open → IsTrue (state g old).is_open
  pub shows : HasCleanDisk (state g new) → IsTrue (state g new).is_open → (state g new).now ≡ (state g old).committed
  pub committed : HasCleanDisk (state g new) → IsTrue (state g new).is_open → (state g new).committed ≡ (state g old).committed
  pub unmarked : HasCleanDisk (state g new) → (state g new).marks ≡ []

-- where the files returned what was written
abbrev pub IfClean : {S : Type 0} → Ghosts S → Held S → Type 0 → Type 0
IfClean g new P = HasCleanDisk (state g new) → P

-- a connection that was outside a transaction rests
abbrev pub IdleRests : {S : Type 0} → Ghosts S → Held S → Held S → Type 0
IdleRests g old new = old.in_transaction ≡ false → Rests g old new
