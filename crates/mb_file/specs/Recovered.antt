-- What the bytes of a file and its log stand for.
use Rattle.std.specs.Prelude.{◌≡◌, ℕ, ◌-◌, List, Some, slice_index}
use Rattle.sqlite_disk.specs.declared.Disk.{Ghosts}
use Rattle.sqlite_disk.specs.declared.files.Files.{Files}
use Rattle.sqlite_pager.specs.Pager.{state, visible}
use Rattle.sqlite_pager.specs.declared.pager.Pager.{Pager}
use Rattle.sqlite_wal.specs.Files.{seen_image}
use Rattle.sqlite_wal.specs.Format.{be32}
use Rattle.sqlite_wal.specs.PageSize.{size_in_file}
use Rattle.sqlite_wal.specs.Reads.{AreClean}
use Rattle.sqlite_wal.specs.Recovery.{Image, IsIgnored, Recovers}

-- the size of pages that the header of the log names, or that of the file where the log counts as none
pub record IsSizeOf (image : Image) (size : ℕ) : Type 0 where
  pub by_log : ¬ IsIgnored image.log → size ≡ be32 image.log 8
  pub by_file : IsIgnored image.log → size ≡ size_in_file image.db

-- how many bytes of each page are used: all but so many as the header of the first page reserves
abbrev pub used_by : List ℕ → ℕ → ℕ
used_by first size = size - slice_index first 20

-- what reads of a file and its log return
abbrev pub image_of : {D : Type 0} → Ghosts D → Files D → Image
image_of g files = seen_image g files.log files.db

-- no read shows a difference
pub record IsUnchanged {D : Type 0} (g : Ghosts D) (old new : Files D) : Type 0 where
  pub seen : image_of g new ≡ image_of g old
  pub clean : AreClean g new.log new.db → AreClean g old.log old.db

-- the pages of a pager are those that bytes stand for, and so many bytes of each are used
pub record IsRecovered {D : Type 0} {g : Ghosts D} (bytes : Image) (pager : Pager D g) (usable : ℕ) : Type 0 where
  pub recovers : Recovers (state pager).page_size bytes (visible pager)
  pub used : (first : List ℕ) → visible pager 1 ≡ Some first → usable ≡ used_by first (state pager).page_size
