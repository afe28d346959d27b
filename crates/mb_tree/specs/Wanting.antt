-- Answers of calls over a store and a tree.
use Rattle.std.specs.Prelude.{◌≡◌, ◌||◌, Bool, true, false, Result, Ok, Err}
use Rattle.mb_tree.specs.Common.{is_free, MbtError, TreeFault}

abbrev pub is_tree_fault : MbtError → Bool
is_tree_fault TreeFault = true
is_tree_fault _ = false

-- running out of memory, or a store or a tree that failed: no refusal of the set or of the files
abbrev pub is_wanting : MbtError → Bool
is_wanting e = is_free e || is_tree_fault e

-- an answer is the one that is due, unless memory, the store or the tree was wanting
abbrev pub Gives : {A : Type 0} → Result A MbtError → Result A MbtError → Type 0
Gives due (Ok x) = due ≡ Ok x
Gives due (Err e) = is_wanting e ≡ false → due ≡ Err e
