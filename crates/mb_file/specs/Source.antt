-- What a test of a tree leaves of a source.
use Rattle.std.specs.Prelude.{◌≡◌}
use Rattle.sqlite_disk.specs.declared.Disk.{Ghosts}
use Rattle.mb_file.specs.declared.source.Source.{Source}

-- only pages that are loaded, and marks, may differ
abbrev pub IsSameSource : {D : Type 0} {g : Ghosts D} → Source D g → Source D g → Type 0
IsSameSource old new = new ≡ record old { pages = new.pages; taken = new.taken }
