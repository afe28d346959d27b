-- Parts that are collected while there is room for their tiles.
use Rattle.std.specs.Prelude.{◌≡◌, ◌≢◌, ℕ, ◌+◌, ◌-◌, ◌≤◌, ◌<◌, true, List, [], ◌∷◌, ◌++◌, nat_le, if◌then◌else◌, Option, Some, None, is_some, Result, Ok, Err, IfSome, length, map, unwrap_or}
use Rattle.pm_walk.specs.Common.{Entry, Header, leaf_of, LookUpCauses, MAX_TILE_ID, range_of}
use Rattle.pm_format.specs.Faults.{StandsAtError}
use Rattle.pm_format.specs.declared.error.PmtError.TheVariants as errors
use Rattle.pm_format.specs.declared.error.ReadCause.TheVariants as causes
use Rattle.pm_walk.specs.Collected.{Collected}
use Rattle.pm_walk.specs.Intervals.{in_intervals, stays_within}
use Rattle.pm_walk.specs.Parts.{pieces, tile_count}
use Rattle.pm_walk.specs.Testing.{IsOfRun}
use Rattle.pm_walk.specs.Walk.{Walked, below, entry_walk, meets}
use Rattle.pm_walk.specs.declared.error.WalkError.{WalkError}
use Rattle.pm_walk.specs.declared.error.WalkError.TheVariants.{Archive, TooManyTiles}
use Rattle.pm_walk.specs.declared.extent.Extent.{Extent}
use Rattle.pm_walk.specs.declared.extent.Extent.TheVariants.{Within, Whole}
use Rattle.pm_walk.specs.declared.extent.TheConstants.{FIRST_TOO_DEEP}

-- the room that is left behind so many tiles, where there is enough
abbrev pub taken : Option ℕ → ℕ → Option ℕ
taken None count = None
taken (Some room) count = if nat_le count room then Some (room - count) else None

abbrev pub room_after : Option ℕ → List Entry → Option ℕ
room_after room [] = room
room_after room (p ∷ ps) = room_after (taken room p.run_length) ps

-- these parts were collected, as long as there is room for all of them
pub record Collects (old : Collected) (ps : List Entry) (new : Collected) : Type 0 where
  pub room : new.room ≡ room_after old.room ps
  pub parts : IfSome new.room (λ _. new.parts ≡ old.parts ++ ps)

-- parts of at least one id, in order and apart, from an id on and up to an end, and none past the ids of tiles
abbrev pub AreOrdered : ℕ → List Entry → Option ℕ → Type 0
AreOrdered low [] end = stays_within end low ≡ true
AreOrdered low (p ∷ ps) end = (low ≤ p.tile_id) × (1 ≤ p.run_length) × (p.tile_id + p.run_length ≤ MAX_TILE_ID + 1) × AreOrdered (p.tile_id + p.run_length) ps end

-- each id of a run lies in one of the intervals
abbrev pub LiesIn : List (ℕ × ℕ) → Entry → Type 0
LiesIn is p = (t : ℕ) → p.tile_id ≤ t → t < p.tile_id + p.run_length → in_intervals t is ≡ true

-- so do those of parts
abbrev pub AllLieIn : List (ℕ × ℕ) → List Entry → Type 0
AllLieIn is [] = Unit {0}
AllLieIn is (p ∷ ps) = LiesIn is p × AllLieIn is ps

-- runs without a tile of zoom 31
abbrev pub IsShallow : Entry → Type 0
IsShallow e = e.tile_id + e.run_length ≤ FIRST_TOO_DEEP

abbrev pub AllShallow : List Entry → Type 0
AllShallow [] = Unit {0}
AllShallow (e ∷ es) = IsShallow e × AllShallow es

-- the first where a part is walked, the second where the whole is
abbrev pub KeepWithin : Extent → List (ℕ × ℕ) → List Entry → Type 0
KeepWithin Within is ps = AllLieIn is ps
KeepWithin Whole is ps = AllShallow ps

-- the contents of an entry, where they lie in the bytes
abbrev pub contents_of : Header → List ℕ → Entry → List ℕ
contents_of h b e = unwrap_or (range_of b (h.data_offset + e.offset) e.length) []

-- Some contents for each entry; over told bytes, those that the archive has there.
abbrev pub AreContentsOf : Option (List ℕ) → Header → List Entry → List (List ℕ) → Type 0
AreContentsOf told h es cs = (length cs ≡ length es) × IfSome told (λ b. cs ≡ map (contents_of h b) es)

-- where the whole is walked, the contents of what was collected are kept beside it
abbrev pub KeepsContents : Extent → Option (List ℕ) → Header → Collected → Type 0
KeepsContents Within told h c = Unit {0}
KeepsContents Whole told h c = AreContentsOf told h c.parts c.contents

-- As long as there is room, the parts lie in the intervals, and their tiles and those that there is room
-- for are no more than these.
abbrev pub KeepsTo : Extent → List (ℕ × ℕ) → ℕ → Collected → Type 0
KeepsTo k is most c = IfSome c.room (λ room. KeepWithin k is c.parts × (tile_count c.parts + room ≤ most))

-- a walk of the whole stops where no room is left
abbrev pub Stops : Extent → Option ℕ → Type 0
Stops Within room = ⊥
Stops Whole room = room ≡ None

abbrev pub HasRoom : Extent → Option ℕ → Type 0
HasRoom Within room = Unit {0}
HasRoom Whole room = is_some room ≡ true

-- where it ends for another cause, and not when out of memory, there is room
abbrev pub StopsWith : Extent → Option ℕ → WalkError → Type 0
StopsWith k room (Archive errors.OutOfMemory) = Unit {0}
StopsWith k room TooManyTiles = Unit {0}
StopsWith k room x = HasRoom k room

-- Over told bytes: a walk's refusal is answered, behind all that it comes to before. A fault and running out of memory
-- may come in its place, and a wrong number of bytes never does.
abbrev pub Refuses : Extent → Walked → List (ℕ × ℕ) → Collected → Collected → WalkError → Type 0
Refuses k w is old new (Archive errors.OutOfMemory) = Unit {0}
Refuses k w is old new (Archive (errors.Reading causes.Fault)) = Unit {0}
Refuses k w is old new (Archive (errors.UnexpectedNumberOfBytesReturned asked got)) = ⊥
Refuses k w is old new TooManyTiles = Stops k (room_after old.room (pieces k is w.entries))
Refuses k w is old new x = (w.refusal ≡ Some x) × (new.room ≡ room_after old.room (pieces k is w.entries))

-- or it isn't refused, and its tile entries are collected
abbrev pub Walks : Extent → Walked → List (ℕ × ℕ) → Collected → Collected → Result Unit WalkError → Type 0
Walks k w is old new (Ok x) = (w.refusal ≡ None) × Collects old (pieces k is w.entries) new
Walks k w is old new (Err x) = Refuses k w is old new x

-- Over told bytes, an entry that is met: it leads to nothing that is still to be walked, to a leaf
-- that is, or to a refusal.
abbrev pub Meets : Extent → Header → List ℕ → List (ℕ × ℕ) → ℕ → Entry → Option ℕ → Collected → Collected → Result (Option (List Entry)) WalkError → Type 0
Meets k h b is left e end old new (Ok None) = Walks k (entry_walk k (below k left h b is) h b is e end) is old new (Ok tt)
Meets k h b is left e end old new (Ok (Some leaf)) = (e.run_length ≡ 0) × (meets k is e.tile_id end ≡ true) × (leaf_of h b e ≡ Ok leaf) × (new ≡ old)
Meets k h b is left e end old new (Err x) = Refuses k (entry_walk k (below k left h b is) h b is e end) is old new x

-- and how often it reads: once for the leaf that it leads to, and else as its walk does
abbrev pub MeetReads : Walked → ℕ → ℕ → Result (Option (List Entry)) WalkError → Type 0
MeetReads w before now (Ok (Some leaf)) = now ≤ before + 1
MeetReads w before now result = now ≤ before + w.reads

-- told or not, a leaf that is still to be walked: there may be one, it is met, and nothing was collected from its entry
pub record IsMetLeaf (k : Extent) (is : List (ℕ × ℕ)) (left : ℕ) (e : Entry) (end : Option ℕ) (old new : Collected) : Type 0 where
  pub deep : left ≢ 0
  pub met : meets k is e.tile_id end ≡ true
  pub kept : new ≡ old

-- Told or not, why a walk is refused: for what a directory is refused for, a fault only where the count of faults rose;
-- for the ids of a run only where the whole is walked.
abbrev pub StopCauses : Extent → ℕ → ℕ → WalkError → Type 0
StopCauses k before now (Archive e) = LookUpCauses {A = Unit {0}} before now (Err e)
StopCauses k before now TooManyTiles = Unit {0}
StopCauses Within before now x = ⊥
StopCauses Whole before now x = IsOfRun x

-- an error of a walk leaves the count of faults as it is, but for a fault and running out of memory
abbrev pub StandsAtStop : ℕ → ℕ → WalkError → Type 0
StandsAtStop before now (Archive e) = StandsAtError before now e
StandsAtStop before now x = now ≡ before

-- so does what a walk answers
abbrev pub WalkStands : {A : Type 0} → ℕ → ℕ → Result A WalkError → Type 0
WalkStands before now (Ok x) = now ≡ before
WalkStands before now (Err x) = StandsAtStop before now x
