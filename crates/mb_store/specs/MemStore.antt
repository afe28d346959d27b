-- What a store in memory tells.
use Rattle.std.specs.Prelude.{ℕ, ◌≡◌, ◌↔◌, true, [], IsErrOf, Result}
use Rattle.mb_store.specs.Common.{next_fails, Tables}
use Rattle.base_values.specs.declared.failing_calls.FailingCalls.{FailingCalls}
use Rattle.mb_store.specs.Store.{IsSound}
use Rattle.mb_store.specs.Gathered.{told_tables}
use Rattle.mb_store.specs.MemTables.{tables_of}
use Rattle.mb_store.specs.declared.mem_store.MemStore.{MemStore}

-- its descriptions and rows
unfoldable pub told_of : MemStore → Tables
told_of s = told_tables s.descriptions.items s.tables s.gathered

-- it tells what is in its ordered sets
abbrev pub IsPlain : MemStore → Type 0
IsPlain s = told_of s ≡ tables_of s.descriptions.items s.tables

-- which of its calls fail, and what is counted
unfoldable pub failing_of : MemStore → FailingCalls
failing_of s = s.failing

-- how often it failed
unfoldable pub faults_of : MemStore → ℕ
faults_of s = s.failing.faults

-- a call fails exactly where it is one of those that are to
abbrev pub FailsAsListed : {A E : Type 0} → MemStore → Result A E → E → Type 0
FailsAsListed s result fault = IsErrOf result fault ↔ (next_fails (failing_of s) ≡ true)

-- no call is to fail
unfoldable pub IsSteady : MemStore → Type 0
IsSteady s = s.failing.listed.items ≡ []

-- what it tells is sound
pub told_sound : (s : MemStore) → true ≡ true → IsSound (told_of s)
unfolding told_of
told_sound s _ = s.kept.sound
