-- A set with a batch of tiles, or the first refusal.
use Rattle.std.specs.Prelude.{pos, not, List, [], ◌∷◌, Option, None, Result}
use Rattle.mb_constraints.specs.DiffHashes.{refused_by}
use Rattle.mb_edit.specs.PatchingOrder.{bytes_put, id_collides}
use Rattle.mb_insert.specs.Common.{DuplicateValues, first_refusal, first_refused, Int, InvalidTileIndex, State, state_put, TileSet, unless, UnsupportedCopyOperation}
use Rattle.mb_insert.specs.Batch.{has_duplicates, is_coord, put_of}
use Rattle.mb_insert.specs.declared.mode.CopyDuplicateMode.{CopyDuplicateMode}
use Rattle.mb_insert.specs.declared.mode.CopyDuplicateMode.TheVariants.{Abort}
use Rattle.mb_insert.specs.declared.new_tile.NewTile.{NewTile}
use Rattle.mb_loaded.specs.Editable.{is_editable}
use Rattle.mb_tables.specs.declared.error.MbtError.{MbtError}

-- a tile whose numbers are no coordinate of a set: these numbers, the row as it is given
abbrev pub bad_coord : NewTile → Option MbtError
bad_coord t = unless (is_coord t) (InvalidTileIndex (Int (pos t.z)) (Int (pos t.x)) (Int (pos t.y)))

-- a place that is there already, or comes twice, where the mode forbids that
abbrev pub duplicates : CopyDuplicateMode → TileSet → List NewTile → Option MbtError
duplicates Abort tiles batch = unless (not (has_duplicates tiles batch)) DuplicateValues
duplicates _ tiles batch = None

-- the refusal of each test, in the order of the tests
abbrev pub insert_refusals : CopyDuplicateMode → List NewTile → State → List (Option MbtError)
insert_refusals mode batch s =
    unless (is_editable s.layout) UnsupportedCopyOperation
    ∷ first_refused bad_coord batch
    ∷ duplicates mode s.tiles batch
    ∷ id_collides s.layout s.algorithm s.contents (bytes_put (put_of mode s.tiles batch))
    ∷ []

-- the first refusal, if there is one
abbrev pub may_insert : CopyDuplicateMode → List NewTile → State → Option MbtError
may_insert mode batch s = first_refusal (insert_refusals mode batch s)

-- the answer that is due of a loaded set
abbrev pub insertion : CopyDuplicateMode → List NewTile → State → Result (Unit {0}) MbtError
insertion mode batch s = refused_by (may_insert mode batch s)

-- the set with the batch
abbrev pub inserted : CopyDuplicateMode → List NewTile → State → State
inserted mode batch s = state_put s (put_of mode s.tiles batch)
