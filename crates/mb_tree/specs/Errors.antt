-- Errors of a tree as those of a call on a tile set.
use Rattle.mb_tree.specs.Common.{MbtError}
use Rattle.mb_tables.specs.declared.error.MbtError.TheVariants as refusals
use Rattle.mb_tree.specs.declared.tree.TreeError.{TreeError}
use Rattle.mb_tree.specs.declared.tree.TreeError.TheVariants.{Fault, OutOfMemory}

abbrev pub of_tree : TreeError → MbtError
of_tree Fault = refusals.TreeFault
of_tree OutOfMemory = refusals.OutOfMemory
