-- What one step of a walk leaves, and how often it reads.
use Rattle.std.specs.Prelude.{◌≡◌, ◌≢◌, ◌+◌, ◌≤◌, ℕ, List, [], ◌∷◌, ◌++◌, map, Option, None, Some, Result, Ok, Err}
use Rattle.tile_verify.specs.Common.{Entry, Header, leaf_of, Rose}
use Rattle.tile_verify.specs.FirstBreak.{Walked, below, entry_walk, leaf_walk, place, tile_walk}
use Rattle.tile_verify.specs.Tiles.{counted, part_of, with_runs}
use Rattle.tile_verify.specs.declared.error.VerifyError.{VerifyError}
use Rattle.tile_verify.specs.declared.error.VerifyError.TheVariants.{Opening, Broken, Fault, Short, OutOfMemory}
use Rattle.tile_verify.specs.declared.walk.Met.{Met}
use Rattle.tile_verify.specs.declared.walk.Spot.{Spot}

-- so many leaves and these tile entries were met
pub record Adds (old : Met) (leaves : ℕ) (es : List Entry) (new : Met) : Type 0 where
  pub directories : new.directories ≡ counted old.directories leaves
  pub tiles : new.tiles.items ≡ old.tiles.items ++ map part_of es
  pub ids : new.ids ≡ with_runs old.ids es

-- the break of a walk, and the leaves that were read until then
abbrev pub IsBreak : Walked → ℕ → Result Unit VerifyError → Type 0
IsBreak w before (Err (Broken at why directories)) = (w.broken ≡ Some (at, why)) × (directories ≡ counted before w.directories)
IsBreak w before (Err (Short asked got)) = ⊥
IsBreak w before (Err (Opening e)) = ⊥
IsBreak w before _ = Unit {0}

-- Over told bytes: a walk is intact and its tile entries are met, or its break is answered. A fault and running
-- out of memory may come in its place.
abbrev pub Walks : Walked → List Entry → Met → Met → Result Unit VerifyError → Type 0
Walks w es old new (Ok x) = (w.broken ≡ None) × Adds old w.directories es new
Walks w es old new (Err e) = IsBreak w old.directories (Err e)

-- the reads: one for each leaf and each tile entry, and maybe one more before an error
abbrev pub ReadsIn : {A : Type 0} → Walked → ℕ → ℕ → Result A VerifyError → Type 0
ReadsIn w before now (Ok x) = now ≤ before + (w.directories + w.tiles)
ReadsIn w before now (Err e) = now ≤ before + (w.directories + w.tiles) + 1

-- Told or not: no walk refuses as opening does.
abbrev pub WalkCauses : {A : Type 0} → ℕ → ℕ → Result A VerifyError → Type 0
WalkCauses before now (Ok x) = Unit {0}
WalkCauses before now (Err (Opening e)) = ⊥
WalkCauses before now (Err (Broken at why directories)) = Unit {0}
WalkCauses before now (Err Fault) = Rose before now
WalkCauses before now (Err (Short asked got)) = asked ≢ got
WalkCauses before now (Err OutOfMemory) = Unit {0}

-- Told or not, the count of reads: it doesn't fall, and a fault or a wrong number of bytes comes with one more.
abbrev pub WalkReads : {A : Type 0} → ℕ → ℕ → Result A VerifyError → Type 0
WalkReads before now (Err Fault) = Rose before now
WalkReads before now (Err (Short asked got)) = Rose before now
WalkReads before now result = before ≤ now

-- Over told bytes, an entry that is met: a tile whose contents lie in the bytes, a leaf, which may stand below and is
-- still to be walked, or a break.
abbrev pub Meets : Header → List ℕ → Spot → ℕ → Entry → ℕ → Met → Met → Result (Option (List Entry)) VerifyError → Type 0
Meets h b at index e left old new (Ok None) = (e.run_length ≢ 0) × ((tile_walk h b (place at index) e).broken ≡ None) × Adds old 0 (e ∷ []) new
Meets h b at index e left old new (Ok (Some leaf)) = (e.run_length ≡ 0) × (leaf_of h b e ≡ Ok leaf) × Adds old 1 [] new
Meets h b at index e left old new (Err x) = (end : ℕ) → IsBreak (entry_walk (below left h b) h b at index e end) old.directories (Err x)

-- Over told bytes, the leaf of an entry.
abbrev pub LeafRead : Header → List ℕ → Spot → ℕ → Entry → Met → Met → Result (List Entry) VerifyError → Type 0
LeafRead h b at index e old new (Ok leaf) = (leaf_of h b e ≡ Ok leaf) × Adds old 1 [] new
LeafRead h b at index e old new (Err x) = (inner : _) → IsBreak (leaf_walk inner (place at index) (leaf_of h b e)) old.directories (Err x)

-- Over told bytes, the contents of a tile entry.
abbrev pub TileRead : Header → List ℕ → Spot → ℕ → Entry → Met → Met → Result Unit VerifyError → Type 0
TileRead h b at index e old new (Ok x) = ((tile_walk h b (place at index) e).broken ≡ None) × Adds old 0 (e ∷ []) new
TileRead h b at index e old new (Err x) = IsBreak (tile_walk h b (place at index) e) old.directories (Err x)
