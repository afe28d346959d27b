-- What a call leaves of the database of a connection.
use Rattle.std.specs.Prelude.{Bool, true, false, ◌≡◌, ◌⊎◌, List, MatchBool, Option, None}
use Rattle.mb_sqlite.specs.Common.{Change, Ghosts, HasCleanDisk, Held, KeepsCommit, MbtType, state, Survives}
use Rattle.sqlite.specs.Tree.{Trees}
use Rattle.mb_sqlite.specs.declared.cursor.Cursor.{Cursor}
use Rattle.mb_sqlite.specs.Making.{AreChanged, AreMade, ArePrepared, Commits, begun}
use Rattle.mb_sqlite.specs.Reading.{Within}
use Rattle.mb_sqlite.specs.Resting.{Rests}

-- nothing is committed: a crash leaves what it could leave before
abbrev pub CommitsNothing : {S : Type 0} → Ghosts S → Held S → Held S → Type 0
CommitsNothing g old new = Survives (state g old) (state g new) (λ _. ⊥)

-- what was committed last stands
abbrev pub KeepsCommitted : {S : Type 0} → Ghosts S → Held S → Held S → Type 0
KeepsCommitted g old new = HasCleanDisk (state g new) → KeepsCommit (state g old) (state g new)

-- there is one state of the tables that is committed, which a transaction ended in: a crash leaves it, or
-- what it could leave before
pub record CommitsOnce {S : Type 0} (g : Ghosts S) (EndsIn : Held S → Type 0) (old new : Held S) : Type 0 where
  pub made : Trees
  pub survives : Survives (state g old) (state g new) (λ db. (db ≡ made) × ((end : Held S) × EndsIn end × (db ≡ (state g end).now.trees)))

-- the tables of the layout, where they weren't made yet, are
unfoldable pub IsReady : {S : Type 0} → Ghosts S → MbtType → Bool → Held S → Held S → Type 0
IsReady g layout is_made old ready = MatchBool is_made (ready ≡ old) ((ready.in_transaction ≡ false) × (HasCleanDisk (state g ready) → ArePrepared g layout old ready))

-- first the tables are made, where they weren't yet, and then this comes of it
pub record OnceReady {S : Type 0} (g : Ghosts S) (layout : MbtType) (is_made : Bool) (old : Held S) (Then : Held S → Type 0) : Type 0 where
  pub ready : Held S
  pub is_ready : IsReady g layout is_made old ready
  pub once : CommitsOnce g (AreMade g layout (begun old)) old ready
  pub after : Then ready

-- nothing ran, or it rests
abbrev pub Idles : {S : Type 0} → Ghosts S → Held S → Held S → Type 0
Idles g new ready = (new ≡ ready) ⊎ Rests g ready new

-- What a call leaves that commits no changes, by whether the tables were held for made before it, and whether they are
-- after it. A connection inside a transaction stays as it is. Else the tables are made, where they weren't yet, and it
-- shows what was committed last; where they couldn't be made, it shows what was committed before.
unfoldable pub Leaves : {S : Type 0} → Ghosts S → MbtType → Bool → Bool → Held S → Held S → Type 0
Leaves g layout was is old new = MatchBool old.in_transaction ((new ≡ old) × (is ≡ was)) (MatchBool is (OnceReady g layout was old (Idles g new)) ((was ≡ false) × Rests g old new))

-- nothing more is committed, and this is seen in a transaction
pub record Sees {S : Type 0} (g : Ghosts S) (P : Held S → Held S → Type 0) (new ready : Held S) : Type 0 where
  pub survives : CommitsNothing g ready new
  pub seen : HasCleanDisk (state g new) → Within ready P

-- the changes are made in one transaction, which is committed
pub record MakesChanges {S : Type 0} (g : Ghosts S) (layout : MbtType) (changes : List Change) (new ready : Held S) : Type 0 where
  pub once : CommitsOnce g (AreChanged g layout changes (begun ready)) ready new
  pub ended : new.in_transaction ≡ false
  pub committed : HasCleanDisk (state g new) → Commits g (AreChanged g layout changes (begun ready)) new

-- a crash leaves the changes made or not, and what was committed last stands and is shown
pub record RefusesChanges {S : Type 0} (g : Ghosts S) (layout : MbtType) (changes : List Change) (new ready : Held S) : Type 0 where
  pub once : CommitsOnce g (AreChanged g layout changes (begun ready)) ready new
  pub kept : KeepsCommitted g ready new
  pub rests : Rests g ready new

-- The tables couldn't be made, or the connection was inside a transaction; or the changes couldn't be
-- made, and no cursor is kept.
abbrev pub RefusesCommit : {S : Type 0} → Ghosts S → MbtType → List Change → Bool → Bool → Held S → Held S → Option Cursor → Option Cursor → Type 0
RefusesCommit g layout changes was is old new cursor next =
    (CommitsOnce g (AreMade g layout (begun old)) old new × Leaves g layout was is old new × (next ≡ cursor)) ⊎ (OnceReady g layout was old (RefusesChanges g layout changes new) × (is ≡ true) × (next ≡ None))
