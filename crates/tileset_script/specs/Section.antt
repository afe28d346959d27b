-- Stores that a script makes.
use Rattle.std.specs.Prelude.{◌≡◌}
use Rattle.tileset_script.specs.Common.{faults_of, IsSteady}
use Rattle.mb_store.specs.declared.mem_store.MemStore.{MemStore}

-- no call of a store failed, and none is to fail
pub record NeverFails (s : MemStore) : Type 0 where
  pub steady : IsSteady s
  pub unfailed : faults_of s ≡ 0
