use Rattle.std.proofs.Common.{refl, subst, true}
use Rattle.std.proofs.lemmas.Result.{IfOk-weaker}
use Rattle.sqlite_disk.specs.contracts.memory.MemoryDisk.TheImpl.{ghosts}
use Rattle.sqlite_wal.specs.Recovery.{Image}
use Rattle.mb_file.specs.FilePages.{pages_of}
use Rattle.mb_file.specs.Held.{HoldsTables}
use Rattle.mb_file.specs.Opened.{AreOf}
use Rattle.mb_file.specs.Told.{told_by_set}
use Rattle.mb_file.proofs.HeldLemmas.{image_alone}
use Rattle.mb_file.proofs.TellsLemmas.{may_by, trusted_by}
use Rattle.mb_file.proofs.memory.FileSet+Memory.of_bytes.Goals as goal

pub returns-clause-holds : goal.returns-clause-holds
returns-clause-holds c = IfOk-weaker c.open.result _ _
    (λ set holds tells. subst (λ (bytes : Image). HoldsTables bytes (told_by_set set)) (image_alone ghosts c.new-log.result c.in_ok-db.db c.args.bytes.now c.new-log.ensures.empty c.in_ok-db.ensures)
    (holds (trusted_by (λ disk. refl) set.source.pages) (may_by true set tells))) c.open.ensures.holds

pub returns-clause-found : goal.returns-clause-found
returns-clause-found c = IfOk-weaker c.open.result _ _
    (λ set found. subst (λ (bytes : Image). AreOf bytes set.source.pages.usable (pages_of set.source.pages))
    (image_alone ghosts c.new-log.result c.in_ok-db.db c.args.bytes.now c.new-log.ensures.empty c.in_ok-db.ensures) (found (trusted_by (λ disk. refl) set.source.pages))) c.open.ensures.found
