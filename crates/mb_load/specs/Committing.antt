-- What a commit of a loaded set's edits makes of tables.
use Rattle.std.specs.Prelude.{List}
use Rattle.mb_load.specs.Common.{AreChangesOf, Change, Commits, Held, Tables}

-- the changes of the set were committed
pub record MakesChanges (h : Held) (old new : Tables) : Type 0 where
  pub changes : List Change
  pub are : AreChangesOf h changes
  pub made : Commits changes old new
