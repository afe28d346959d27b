-- The pages that the bytes of a file and its log stand for.
use Rattle.std.specs.Prelude.{◌≡◌, ℕ, List, Some}
use Rattle.sqlite_pages.specs.PageMap.{PageMap}
use Rattle.sqlite_pool.specs.Stored.{trimmed}
use Rattle.sqlite_wal.specs.Recovery.{Image, Pages, Recovers}
use Rattle.mb_file.specs.Recovered.{IsSizeOf, used_by}

-- the pages are those that the bytes recover to, of the size that their headers name, each without the bytes that the
-- first one reserves
pub record AreOf (bytes : Image) (usable : ℕ) (pages : PageMap) : Type 0 where
  pub size : ℕ
  pub all : Pages
  pub sized : IsSizeOf bytes size
  pub recovers : Recovers size bytes all
  pub used : (first : List ℕ) → all 1 ≡ Some first → usable ≡ used_by first size
  pub shown : pages ≡ trimmed usable all
