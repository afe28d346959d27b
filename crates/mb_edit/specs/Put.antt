-- Tiles that are put into a loaded set.
use Rattle.std.specs.Prelude.{List, [], ◌∷◌, Option}
use Rattle.mb_edit.specs.Patched.{patched, patched_by}
use Rattle.mb_edit.specs.PatchingOrder.{bytes_put, id_collides}
use Rattle.mb_edit.specs.Step.{contents_over}
use Rattle.mb_edit.specs.Common.{dates_for, first_refusal, id_for, is_editable, MbtError, State, TileSet, unless, UnsupportedCopyOperation}
pub use Rattle.mb_loaded.specs.FromLast.{tiles_put}

-- the refusal of each test, in the order of the tests
abbrev pub put_refusals : State → TileSet → List (Option MbtError)
put_refusals s tiles =
    unless (is_editable s.layout) UnsupportedCopyOperation
    ∷ id_collides s.layout s.algorithm s.contents (bytes_put tiles)
    ∷ []

-- the first refusal of tiles that are to be put, if there is one
abbrev pub may_put : State → TileSet → Option MbtError
may_put s tiles = first_refusal (put_refusals s tiles)

-- a set with these tiles over its own; a place of null has no tile. New contents stand under their ids, over those
-- that there are, and none go
abbrev pub state_put : State → TileSet → State
state_put s tiles = record s {
  tiles = patched s.tiles tiles;
  ids = patched_by (id_for s.layout s.algorithm) tiles s.ids;
  contents = contents_over s.layout s.algorithm (bytes_put tiles) s.contents;
  dates = patched_by (λ bytes. dates_for s.layout) tiles s.dates;
}
