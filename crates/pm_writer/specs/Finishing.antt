-- The parts of an archive that are written behind its contents.
use Rattle.std.specs.Prelude.{◌≡◌, ℕ, List}
use Rattle.pm_writer.specs.Common.{header_of, Options}
use Rattle.pm_writer.specs.Archive.{ids_of, parts_of, rising}
use Rattle.pm_writer.specs.Adds.{entries_of_adds}
use Rattle.pm_writer.specs.Cutting.{AreDirectories}
use Rattle.pm_writer.specs.Leaves.{laid}
use Rattle.pm_writer.specs.Places.{places_of}
use Rattle.pm_writer.specs.Writing.{data_end}
use Rattle.pm_writer.specs.declared.finishing.Assembled.{Assembled}

-- those of the archive of adds
pub record IsAssembled (o : Options) (adds : List (ℕ × List ℕ)) (a : Assembled) : Type 0 where
  pub directories : AreDirectories a.directories (laid o.max_leaf_entries (entries_of_adds adds))
  pub header : a.header ≡ header_of o (rising (ids_of adds)) (parts_of o adds)
  pub places : a.places ≡ places_of o adds
  pub end : a.end ≡ data_end o adds
