-- What tables hold after a batch of tiles was inserted.
use Rattle.std.specs.Prelude.{◌≡◌, List, None, Ok}
use Rattle.mb_insert.specs.Common.{State, Tables, tiles_put}
use Rattle.mb_edit.specs.PutTables.{ArePut}
use Rattle.mb_insert.specs.Batch.{put_of}
use Rattle.mb_insert.specs.Insertion.{inserted, may_insert}
use Rattle.mb_insert.specs.declared.mode.CopyDuplicateMode.{CopyDuplicateMode}
use Rattle.mb_insert.specs.declared.new_tile.NewTile.{NewTile}
use Rattle.mb_load.specs.Committing.{MakesChanges}
use Rattle.mb_loaded.specs.Held.{fresh}
use Rattle.mb_load.specs.StateOf.{state_of}

-- no test refused the batch, the tables load again with it, of their rows those alone changed that it puts, and one
-- commit made of the tables exactly what the set with it asks for
pub record IsInserted (mode : CopyDuplicateMode) (batch : List NewTile) (old new : Tables) : Type 0 where
  pub base : State
  pub loaded : state_of old ≡ Ok base
  pub tested : may_insert mode batch base ≡ None
  pub again : state_of new ≡ Ok (inserted mode batch base)
  pub rows : ArePut (put_of mode base.tiles batch) base old new
  pub commits : MakesChanges (tiles_put (fresh base) (put_of mode base.tiles batch)) old new
