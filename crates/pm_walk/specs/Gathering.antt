-- What the tile entries of an archive come to, where there may be only so many tiles.
use Rattle.std.specs.Prelude.{◌≡◌, ◌≤◌, ◌<◌, ℕ, List, Some, None, Result, Ok, Err}
use Rattle.pm_format.specs.declared.error.PmtError.TheVariants as errors
use Rattle.pm_format.specs.declared.error.ReadCause.TheVariants as causes
use Rattle.pm_walk.specs.Common.{Entry}
use Rattle.pm_walk.specs.Parts.{pieces, tile_count}
use Rattle.pm_walk.specs.Walk.{Walked}
use Rattle.pm_walk.specs.declared.error.WalkError.{WalkError}
use Rattle.pm_walk.specs.declared.error.WalkError.TheVariants.{Archive, TooManyTiles}
use Rattle.pm_walk.specs.declared.extent.Extent.{Extent}
use Rattle.pm_walk.specs.declared.extent.Extent.TheVariants.{Within, Whole}

-- Too many tiles of a part are told behind each refusal; those of the whole at the entry that has one too many, behind
-- all its other tests. So a refusal of the whole says that there are few before it.
abbrev pub IsFine : Extent → Walked → Type 0
IsFine Within w = w.refusal ≡ None
IsFine Whole w = Unit {0}

abbrev pub IsFew : Extent → ℕ → List Entry → Type 0
IsFew Within most ps = Unit {0}
IsFew Whole most ps = tile_count ps ≤ most

-- Over told bytes: what is collected, or the first refusal. A fault and running out of memory may come in its place,
-- and a wrong number of bytes never does.
abbrev pub Gathers : Extent → Walked → List (ℕ × ℕ) → ℕ → Result (List Entry) WalkError → Type 0
Gathers k w is most (Ok ps) = (w.refusal ≡ None) × (ps ≡ pieces k is w.entries) × (tile_count (pieces k is w.entries) ≤ most)
Gathers k w is most (Err (Archive errors.OutOfMemory)) = Unit {0}
Gathers k w is most (Err (Archive (errors.Reading causes.Fault))) = Unit {0}
Gathers k w is most (Err (Archive (errors.UnexpectedNumberOfBytesReturned asked got))) = ⊥
Gathers k w is most (Err TooManyTiles) = IsFine k w × (most < tile_count (pieces k is w.entries))
Gathers k w is most (Err x) = (w.refusal ≡ Some x) × IsFew k most (pieces k is w.entries)
