-- What the calls of a store have in common, as words over the store before and after a call.
use Rattle.std.specs.Prelude.{Bool, true, ◌≡◌, ◌≤◌, IsErrOf, List, OnOk, Result}
use Rattle.mb_sqlite.specs.Common.{Change, FaultsCounted, Ghosts, Held, is_table, set_tables, TableName}
use Rattle.mb_store.specs.declared.store.StoreError.{StoreError}
use Rattle.mb_store.specs.declared.store.StoreError.TheVariants.{Fault}
use Rattle.mb_sqlite.specs.Committing.{CommitsNothing, CommitsOnce, IsReady, Leaves, MakesChanges, OnceReady, RefusesCommit, Sees}
use Rattle.mb_sqlite.specs.Making.{AreChanged, AreMade, begun}
use Rattle.mb_sqlite.specs.declared.store.SqliteStore.{SqliteStore}

-- the layout has a table of this name, or not
abbrev pub HasTable : {S : Type 0} → SqliteStore S → TableName → Bool → Type 0
HasTable s table has = is_table (set_tables s.layout) table ≡ has

-- a call finds the connection inside a transaction
abbrev pub IsInside : {S : Type 0} → SqliteStore S → Type 0
IsInside s = s.connection.in_transaction ≡ true

module _ {S : Type 0} (g : Ghosts S) where
  module _ (s t : SqliteStore S) where
    -- at most the tables that weren't there are committed, all at once
    abbrev pub MakesOnce : Type 0
    MakesOnce = CommitsOnce g (AreMade g s.layout (begun s.connection)) s.connection t.connection

    -- where the tables were held for made, nothing is committed
    abbrev pub OnlyMakes : Type 0
    OnlyMakes = s.is_made ≡ true → CommitsNothing g s.connection t.connection

    -- the tables are there
    abbrev pub IsPrepared : Type 0
    IsPrepared = IsReady g s.layout s.is_made s.connection t.connection

    -- what a call leaves that commits no changes
    abbrev pub LeavesStore : Type 0
    LeavesStore = Leaves g s.layout s.is_made t.is_made s.connection t.connection

    -- What each call but `commit` keeps: the layout, and at most the tables that weren't there are committed, which are
    -- held for made at Ok. A fault is counted, and one is a connection that is inside a transaction.
    pub record ReadsStore {A : Type 0} (result : Result A StoreError) : Type 0 where
      pub once : MakesOnce
      pub survives : OnlyMakes
      pub leaves : LeavesStore
      pub inside : IsInside s → IsErrOf result Fault
      pub layout : t.layout ≡ s.layout
      pub made : OnOk result (t.is_made ≡ true)
      pub faults : s.faults ≤ t.faults
      pub fault : FaultsCounted (λ s. s.faults) s t result Fault

    -- this is seen in a transaction, once the tables are there
    abbrev pub Saw : (Held S → Held S → Type 0) → Type 0
    Saw P = OnceReady g s.layout s.is_made s.connection (Sees g P t.connection)

    module _ (changes : List Change) where
      -- the changes are committed in one transaction, once the tables are there
      abbrev pub CommitsChanges : Type 0
      CommitsChanges = OnceReady g s.layout s.is_made s.connection (MakesChanges g s.layout changes t.connection)

      -- they aren't
      abbrev pub RefusesStore : Type 0
      RefusesStore = RefusesCommit g s.layout changes s.is_made t.is_made s.connection t.connection s.cursor t.cursor

      -- where the tables were held for made, at most the changes are committed, all at once
      abbrev pub ChangesOnce : Type 0
      ChangesOnce = s.is_made ≡ true → CommitsOnce g (AreChanged g s.layout changes (begun s.connection)) s.connection t.connection
