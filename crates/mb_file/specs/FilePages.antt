-- The pages of a database and its log, without the bytes that are reserved at their end.
use Rattle.std.specs.Prelude.{◌≡◌, ⊤, ℕ, IsTrue, List, take}
use Rattle.sqlite_disk.specs.declared.Disk.{Ghosts}
use Rattle.sqlite_pager.specs.Pager.{current, state, visible}
use Rattle.sqlite_pages.specs.Outcome.{doubt, Steps}
use Rattle.sqlite_pages.specs.PageMap.{PageMap}
use Rattle.sqlite_pool.specs.Stored.{trimmed}
use Rattle.mb_file.specs.declared.pages.FilePages.{FilePages}

module _ {D : Type 0} {g : Ghosts D} where
  abbrev pub pages_of : FilePages D g → PageMap
  pages_of it = trimmed it.usable (visible it.pager)

  abbrev pub current_of : FilePages D g → List ℕ
  current_of it = take it.usable (current it.pager)

  -- nothing has failed that asks for a new opening
  abbrev pub IsReady : FilePages D g → Type 0
  IsReady it = IsTrue (state it.pager).is_ready

  -- no wrong answer of the disks has been taken as true up to here
  abbrev pub IsTrusted : FilePages D g → Type 0
  IsTrusted it = doubt (state it.pager).is_clean ≡ 0

  -- what every call keeps
  abbrev pub GoesOn : FilePages D g → FilePages D g → Type 0
  GoesOn = Steps (λ it. it.usable) (λ it. (state it.pager).faults) (λ it. (state it.pager).is_clean) (λ old new. ⊤)
