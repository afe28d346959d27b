-- What a set of tiles is.
use Rattle.std.specs.Prelude.{Option}
use Rattle.mb_loaded.specs.Common.{Cell, Contents, Dates, FinMap, HashAlgorithm, MbtType, Names, PatchType, place_cmp, TileSet}

-- a set of tiles with its metadata; in a normalised set the id of each tile and the contents of each id, in a
-- cache the times of each tile
pub record State : Type 0 where
  pub layout : MbtType
  pub algorithm : HashAlgorithm
  pub patch_type : Option PatchType
  pub tiles : TileSet
  pub metadata : Names
  pub ids : FinMap place_cmp Cell
  pub contents : Contents
  pub dates : FinMap place_cmp Dates
