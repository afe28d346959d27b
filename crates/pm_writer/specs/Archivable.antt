-- When a list of adds has an archive that can be written.
use Rattle.std.specs.Prelude.{ℕ, ◌<◌, ◌^◌, List, length}
use Rattle.pm_writer.specs.Common.{below_root, Options}
use Rattle.pm_writer.specs.Archive.{archive, parts_of}
use Rattle.pm_writer.specs.Bounds.{AddsFilled, AllLow, AllShort, AllSized, OptionsFit}
use Rattle.pm_writer.specs.Twice.{Distinct}

-- no add is empty, ids are distinct, and options, contents, directories and the whole are within their bounds
pub record IsArchivable (o : Options) (adds : List (ℕ × List ℕ)) : Type 0 where
  pub options : OptionsFit o
  pub filled : AddsFilled adds
  pub low : AllLow adds
  pub sized : AllSized adds
  pub distinct : Distinct adds
  pub short : AllShort (below_root (parts_of o adds))
  pub ends : length (archive o adds) < 2 ^ 64
