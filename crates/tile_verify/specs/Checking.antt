-- What a check answers, and why.
use Rattle.std.specs.Prelude.{◌≡◌, ◌≢◌, ◌≤◌, ◌+◌, ◌-◌, ◌^◌, map, min, None, ℕ, List, Some, Result, Ok, Err}
use Rattle.tile_verify.specs.Common.{Grew, IsOpenRefusal, Opened, opened, PmtError, Rose, Sound}
use Rattle.pm_format.specs.Faults.{StandsAtError}
use Rattle.pm_format.specs.declared.error.PmtError.TheVariants as errors
use Rattle.pm_format.specs.declared.error.ReadCause.TheVariants as causes
use Rattle.tile_verify.specs.FirstBreak.{walk_of}
use Rattle.tile_verify.specs.Tiles.{capped, ids_of, part_of, report_of, tiles_of}
use Rattle.tile_verify.specs.declared.error.VerifyError.{VerifyError}
use Rattle.tile_verify.specs.declared.error.VerifyError.TheVariants.{Opening, Broken, Fault, Short, OutOfMemory}
use Rattle.tile_verify.specs.declared.report.VerifyReport.{VerifyReport}
use Rattle.tile_verify.specs.declared.walk.Met.{Met}

-- what a whole walk met: the leaves, the ranges and runs of the tile entries, and their least and greatest id
pub record IsMetOf (b : List ℕ) (o : Opened) (met : Met) : Type 0 where
  pub directories : met.directories ≡ capped (walk_of b o).directories
  pub tiles : met.tiles.items ≡ map part_of (tiles_of b o)
  pub ids : met.ids ≡ ids_of b o

-- Over told bytes that open: no part is broken and all was met, or the first break is this one. A fault and running
-- out of memory may come in its place.
abbrev pub MeetsAll : List ℕ → Opened → Result Met VerifyError → Type 0
MeetsAll b o (Ok met) = ((walk_of b o).broken ≡ None) × IsMetOf b o met
MeetsAll b o (Err (Opening e)) = ⊥
MeetsAll b o (Err (Broken at why directories)) = ((walk_of b o).broken ≡ Some (at, why)) × (directories ≡ capped (walk_of b o).directories)
MeetsAll b o (Err Fault) = Unit {0}
MeetsAll b o (Err (Short asked got)) = ⊥
MeetsAll b o (Err OutOfMemory) = Unit {0}

-- Over told bytes: they are sound and the report is theirs, they don't open, or the first break is this one. A fault
-- and running out of memory may come in its place.
abbrev pub Answers : List ℕ → Result VerifyReport VerifyError → Type 0
Answers b (Ok r) = Sound b × ((o : Opened) → opened b ≡ Ok o → r ≡ report_of b o)
Answers b (Err (Opening (errors.Reading causes.Fault))) = Unit {0}
Answers b (Err (Opening e)) = opened b ≡ Err e
Answers b (Err (Broken at why directories)) = (o : Opened) × (opened b ≡ Ok o) × ((walk_of b o).broken ≡ Some (at, why)) × (directories ≡ capped (walk_of b o).directories)
Answers b (Err Fault) = Unit {0}
Answers b (Err (Short asked got)) = ⊥
Answers b (Err OutOfMemory) = Unit {0}

-- Told or not: a fault comes only where the count of faults rose, and two numbers only where they differ.
abbrev pub Causes : {A : Type 0} → ℕ → ℕ → Result A VerifyError → Type 0
Causes before now (Ok r) = Unit {0}
Causes before now (Err (Opening (errors.Reading causes.Fault))) = Rose before now
Causes before now (Err (Opening e)) = IsOpenRefusal e
Causes before now (Err (Broken at why directories)) = Unit {0}
Causes before now (Err Fault) = Rose before now
Causes before now (Err (Short asked got)) = asked ≢ got
Causes before now (Err OutOfMemory) = Unit {0}

-- An error leaves the count of faults as it is, but for a fault and running out of memory: also where a part is broken,
-- or the archive doesn't open.
abbrev pub StandsUnsound : ℕ → ℕ → VerifyError → Type 0
StandsUnsound before now (Opening e) = StandsAtError before now e
StandsUnsound before now (Broken at why directories) = now ≡ before
StandsUnsound before now Fault = Unit {0}
StandsUnsound before now (Short asked got) = now ≡ before
StandsUnsound before now OutOfMemory = Unit {0}

-- so does an answer
abbrev pub FaultsStand : {A : Type 0} → ℕ → ℕ → Result A VerifyError → Type 0
FaultsStand before now (Ok x) = now ≡ before
FaultsStand before now (Err e) = StandsUnsound before now e

-- Told or not, how often it reads: opening once, and what is refused by opening no more. A fault or a wrong number of
-- bytes behind it comes with another read.
abbrev pub ReadsMade : {A : Type 0} → ℕ → ℕ → Result A VerifyError → Type 0
ReadsMade before now (Err (Opening e)) = Grew before now 1
ReadsMade before now (Err Fault) = min (before + 2) (2 ^ 64 - 1) ≤ now
ReadsMade before now (Err (Short asked got)) = min (before + 2) (2 ^ 64 - 1) ≤ now
ReadsMade before now result = Rose before now

-- the reads: one opens, each leaf and each tile entry takes one, and one more may find a leaf past the end
abbrev pub reads_at_most : List ℕ → Result Opened PmtError → ℕ
reads_at_most b (Ok o) = 2 + (walk_of b o).directories + (walk_of b o).tiles
reads_at_most b (Err e) = 1
