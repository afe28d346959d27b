-- A set without tiles and metadata.
use Rattle.std.specs.Prelude.{None}
use Rattle.mb_loaded.specs.Common.{empty, HashAlgorithm, MbtType}
use Rattle.mb_loaded.specs.State.{State}

-- no tiles and no metadata
abbrev pub empty_state : MbtType → HashAlgorithm → State
empty_state layout a = record {
  layout = layout;
  algorithm = a;
  patch_type = None;
  tiles = empty;
  metadata = empty;
  ids = empty;
  contents = empty;
  dates = empty;
}
