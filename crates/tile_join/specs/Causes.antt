-- Why a join ends as it does, told or not, and how often it reads.
use Rattle.std.specs.Prelude.{◌≡◌, ◌≢◌, ◌⊎◌, ◌+◌, ◌<◌, ℕ, List, length, slice_index, Option, Result, Ok, Err, IfSome}
use Rattle.tile_join.specs.Common.{ArchivePlaces, IsEmpty, MayBeTile, ReadCauses, Rose}
use Rattle.tile_join.specs.Gathered.{gather_reads, Gathered, gathered}
use Rattle.tile_join.specs.Join.{IsLate}
use Rattle.tile_join.specs.declared.error.JoinError.{JoinError}
use Rattle.tile_join.specs.declared.error.JoinError.TheVariants.{Archive, Different, IndexEntryOverflow, MediumFault, MediumNotEmpty, NoSource, OutOfMemory, TooManyTiles}

-- when each answer comes, once there is a source and the medium is empty, by the counts of faults of the sources
-- and of the medium
abbrev pub IntoCauses : ℕ → List ℕ → List ℕ → ℕ → ℕ → Result ArchivePlaces JoinError → Type 0
IntoCauses most before now old new (Ok p) = Unit {0}
IntoCauses most before now old new (Err (Archive k e)) = (k < length before) × ReadCauses (slice_index before k) (slice_index now k) e
IntoCauses most before now old new (Err (Different k)) = k < length before
IntoCauses most before now old new (Err (TooManyTiles n)) = n ≡ most
IntoCauses most before now old new (Err IndexEntryOverflow) = Unit {0}
IntoCauses most before now old new (Err MediumFault) = Rose old new
IntoCauses most before now old new (Err OutOfMemory) = Unit {0}
IntoCauses most before now old new (Err e) = ⊥

-- the same with the tests of the number of sources and of the medium's length before it
abbrev pub JoinCauses : ℕ → Option (List ℕ) → List ℕ → List ℕ → ℕ → ℕ → Result ArchivePlaces JoinError → Type 0
JoinCauses most held before now old new (Err NoSource) = length before ≡ 0
JoinCauses most held before now old new (Err (MediumNotEmpty n)) = (length before ≢ 0) × (0 < n) × IfSome held (λ b. n ≡ length b)
JoinCauses most held before now old new (Err MediumFault) = (length before ≢ 0) × Rose old new
JoinCauses most held before now old new result = (length before ≢ 0) × IsEmpty held × IntoCauses most before now old new result

-- how often the sources are read together: each once when it is opened and once for each of its leaves, the last one
-- once for its metadata, and once for each run that is left of them
abbrev pub runs_read : Result Gathered JoinError → ℕ
runs_read (Ok g) = length g.pieces
runs_read (Err e) = 0

abbrev pub join_reads : ℕ → List (List ℕ) → ℕ
join_reads most bs = gather_reads bs + 1 + runs_read (gathered most bs)

-- where there is no source, or the medium isn't empty, none is read
abbrev pub LeavesUnread : List ℕ → List ℕ → Result ArchivePlaces JoinError → Type 0
LeavesUnread before now (Err NoSource) = now ≡ before
LeavesUnread before now (Err (MediumNotEmpty n)) = now ≡ before
LeavesUnread before now result = Unit {0}

-- a refusal before the archive is begun comes before the medium is read
abbrev pub Uncompared : Option (List (List ℕ)) → Option (List ℕ) → ℕ → ℕ → ℕ → Result ArchivePlaces JoinError → Type 0
Uncompared sources held most before now (Err NoSource) = now ≡ before
Uncompared sources held most before now (Err (MediumNotEmpty n)) = now ≡ before
Uncompared sources held most before now (Err (Different k)) = now ≡ before
Uncompared sources held most before now (Err (TooManyTiles n)) = now ≡ before
Uncompared sources held most before now (Err (Archive k e)) = (now ≡ before) ⊎ (MayBeTile e × IfSome sources (λ bs. IsLate held bs most k e))
Uncompared sources held most before now result = Unit {0}
