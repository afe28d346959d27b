-- What a tree in memory tells.
use Rattle.std.specs.Prelude.{ℕ, ◌≡◌, []}
use Rattle.base_values.specs.declared.failing_calls.FailingCalls.{FailingCalls}
use Rattle.mb_tree.specs.Files.{Files, files_of_list}
use Rattle.mb_tree.specs.declared.mem_tree.MemTree.{MemTree}

-- its files
unfoldable pub told_of : MemTree → Files
told_of t = files_of_list t.files.entries

-- which of its calls fail, and what is counted
unfoldable pub failing_of : MemTree → FailingCalls
failing_of t = t.failing

-- how often it failed
unfoldable pub faults_of : MemTree → ℕ
faults_of t = t.failing.faults

-- no call is to fail
unfoldable pub IsSteady : MemTree → Type 0
IsSteady t = t.failing.listed.items ≡ []
