-- What is found of the sources, one after another: their headers, and the runs of their tiles, each over those of the
-- sources before.
use Rattle.std.specs.Prelude.{◌≡◌, ℕ, ◌+◌, Bool, true, false, List, [], ◌∷◌, ◌++◌, nat_le, Option, Some, None, Result, Ok, Err}
use Rattle.pm_format.specs.declared.error.PmtError.TheVariants as errors
use Rattle.pm_format.specs.declared.error.ReadCause.TheVariants as causes
use Rattle.pm_walk.specs.declared.error.WalkError.TheVariants as walk
use Rattle.pm_walk.specs.declared.extent.Extent.TheVariants.{Within}
use Rattle.tile_join.specs.Common.{Entry, Header, MAX_TILE_ID, Opened, opened, parts, PmtError, ReadCauses, tile_count, Walked, walked, WalkError}
use Rattle.tile_join.specs.Over.{numbered, over}
use Rattle.tile_join.specs.declared.error.JoinError.{JoinError}
use Rattle.tile_join.specs.declared.error.JoinError.TheVariants.{Archive, OutOfMemory, TooManyTiles}
use Rattle.tile_join.specs.declared.piece.Piece.{Piece}

-- all ids of tiles
abbrev pub whole : List (ℕ × ℕ)
whole = (0, MAX_TILE_ID) ∷ []

-- the tile entries of an archive that opens, and their runs
abbrev pub met : List ℕ → Opened → Walked
met b o = walked Within 6 o.0 b whole 0 None o.1

abbrev pub runs_met : List ℕ → Opened → List Entry
runs_met b o = parts whole (met b o).entries

-- one step and then another, which a refusal forestalls
abbrev pub chain : {A B : Type 0} → Result A JoinError → (A → Result B JoinError) → Result B JoinError
chain (Ok x) f = f x
chain (Err e) f = Err e

-- the refusal of the walk of the source with this number
abbrev pub of_walk : ℕ → ℕ → WalkError → JoinError
of_walk most k (walk.Archive e) = Archive k e
of_walk most k (walk.InvalidTileId id) = Archive k (errors.InvalidTileId id)
of_walk most k (walk.TooDeep id) = Archive k (errors.InvalidTileId id)
of_walk most k walk.TooManyTiles = TooManyTiles most

-- what is found of it: its header and its runs, which have no more tiles than the limit
abbrev pub found_few : ℕ → Header → List Entry → Bool → Result (Header × List Entry) JoinError
found_few most h es true = Ok (h, es)
found_few most h es false = Err (TooManyTiles most)

abbrev pub found_met : ℕ → ℕ → Header → List Entry → Option WalkError → Result (Header × List Entry) JoinError
found_met most k h es (Some x) = Err (of_walk most k x)
found_met most k h es None = found_few most h es (nat_le (tile_count es) most)

abbrev pub found_opened : ℕ → ℕ → List ℕ → Result Opened PmtError → Result (Header × List Entry) JoinError
found_opened most k b (Ok o) = found_met most k o.0 (runs_met b o) (met b o).refusal
found_opened most k b (Err e) = Err (Archive k e)

unfoldable pub found : ℕ → ℕ → List ℕ → Result (Header × List Entry) JoinError
found most k b = found_opened most k b (opened b)

-- the sources so far
pub record Gathered : Type 0 where
  pub headers : List Header
  pub pieces : List Piece

abbrev pub none_yet : Gathered
none_yet = record { headers = []; pieces = [] }

abbrev pub with_source : Gathered → ℕ → Header × List Entry → Gathered
with_source g k f = record { headers = g.headers ++ f.0 ∷ []; pieces = over 0 (numbered k f.1) g.pieces }

-- one more that isn't refused
pub record IsAdded (most k : ℕ) (b : List ℕ) (old new : Gathered) : Type 0 where
  pub source : Header × List Entry
  pub found : found most k b ≡ Ok source
  pub with : new ≡ with_source old k source

-- and others behind them, the first one with this number
abbrev pub gathered_from : ℕ → ℕ → Gathered → List (List ℕ) → Result Gathered JoinError
gathered_from most k g [] = Ok g
gathered_from most k g (b ∷ bs) = chain (found most k b) (λ f. gathered_from most (k + 1) (with_source g k f) bs)

abbrev pub gathered : ℕ → List (List ℕ) → Result Gathered JoinError
gathered most bs = gathered_from most 0 none_yet bs

-- Over told bytes: a refusal is the one that is due. A fault and lack of memory may come in its place, and a wrong
-- number of bytes never does.
abbrev pub Refuses : {A : Type 0} → Result A JoinError → JoinError → Type 0
Refuses due (Archive k (errors.Reading causes.Fault)) = Unit {0}
Refuses due (Archive k (errors.UnexpectedNumberOfBytesReturned asked got)) = ⊥
Refuses due (Archive k errors.OutOfMemory) = ⊥
Refuses due OutOfMemory = Unit {0}
Refuses due x = due ≡ Err x

-- or its answer
abbrev pub GivesFound : Result (Header × List Entry) JoinError → Result (Header × List Entry) JoinError → Type 0
GivesFound due (Ok f) = due ≡ Ok f
GivesFound due (Err x) = Refuses due x

-- told or not, of the source with this number, by its count of faults
abbrev pub FindCauses : ℕ → ℕ → ℕ → ℕ → JoinError → Type 0
FindCauses most k before now (Archive j e) = (j ≡ k) × ReadCauses before now e
FindCauses most k before now (TooManyTiles n) = n ≡ most
FindCauses most k before now OutOfMemory = Unit {0}
FindCauses most k before now x = ⊥

-- how often a source is read: once when it is opened, and once for each leaf
abbrev pub reads_opened : List ℕ → Result Opened PmtError → ℕ
reads_opened b (Ok o) = 1 + (met b o).reads
reads_opened b (Err e) = 1

abbrev pub find_reads : List ℕ → ℕ
find_reads b = reads_opened b (opened b)

abbrev pub gather_reads : List (List ℕ) → ℕ
gather_reads [] = 0
gather_reads (b ∷ bs) = find_reads b + gather_reads bs
