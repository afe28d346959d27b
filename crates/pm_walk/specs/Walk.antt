-- A walk along directories, from the root on: the tile entries that it comes to, or the first refusal.
use Rattle.std.specs.Prelude.{◌≡◌, ℕ, zero, suc, ◌+◌, Bool, true, false, List, [], ◌∷◌, ◌++◌, max, nat_lt, nat_le, nat_eq, not, ◌&&◌, if◌then◌else◌, Option, Some, None, Result, Ok, Err, refl}
use Rattle.pm_walk.specs.Common.{Entry, entry, Header, leaf_of, MAX_TILE_ID, PmtError, range_of}
use Rattle.tile_ids.specs.Hilbert.{pyramid}
use Rattle.pm_format.specs.declared.error.PmtError.TheVariants as errors
use Rattle.pm_format.specs.declared.error.ReadCause.TheVariants as causes
use Rattle.pm_format.specs.Opened.{Opened}
use Rattle.pm_walk.specs.Intervals.{is_below, is_met, stays_within}
use Rattle.pm_walk.specs.declared.error.WalkError.{WalkError}
use Rattle.pm_walk.specs.declared.error.WalkError.TheVariants.{Archive, InvalidTileId, TooDeep}
use Rattle.pm_walk.specs.declared.extent.Extent.{Extent}
use Rattle.pm_walk.specs.declared.extent.Extent.TheVariants.{Within, Whole}
use Rattle.pm_walk.specs.declared.extent.TheConstants.{FIRST_TOO_DEEP}

-- where the range of an entry ends: at the id of the next one, or where that of its directory does
abbrev pub end_before : List Entry → Option ℕ → Option ℕ
end_before [] limit = limit
end_before (d ∷ es) limit = Some d.tile_id

-- whether an id is above that of the entry before
abbrev pub rises : Option Entry → ℕ → Bool
rises None id = true
rises (Some d) id = nat_lt d.tile_id id

-- behind a leaf entry there may be so many more leaves
abbrev pub fits_depth : ℕ → Entry → Bool
fits_depth left e = if nat_eq e.run_length 0 then not (nat_eq left 0) else true

-- The tests of an entry: its id is above that of the entry before, lies in its directory's range, its run doesn't pass
-- the end of its own range, and it isn't a leaf too many.
abbrev pub stands : ℕ → Option Entry → ℕ → Option ℕ → Option ℕ → Entry → Bool
stands left before low limit end e =
    rises before e.tile_id && nat_le low e.tile_id && is_below limit e.tile_id && stays_within end (e.tile_id + e.run_length) && fits_depth left e

-- whether a leaf is met: each one, or one of whose range an interval has an id
abbrev pub meets : Extent → List (ℕ × ℕ) → ℕ → Option ℕ → Bool
meets Within is first end = is_met is first end
meets Whole is first end = true

-- a walk: where it is refused, the tile entries that it comes to, and how often it reads
pub record Walked : Type 0 where
  pub refusal : Option WalkError
  pub entries : List Entry
  pub reads : ℕ

abbrev pub nothing_met : Walked
nothing_met = record { refusal = None; entries = []; reads = 0 }

abbrev pub refuses : WalkError → Walked
refuses x = record { refusal = Some x; entries = []; reads = 0 }

-- The tests of a tile entry that a set of tiles asks for: its contents lie in the archive, each id of its run is that
-- of a tile, and unless it is empty none is that of a tile of zoom 31. The refusal has the first id that isn't.
abbrev pub run_refusal : Entry → Option WalkError
run_refusal e =
    if nat_le (e.tile_id + e.run_length) (MAX_TILE_ID + 1)
    then (if nat_eq e.length 0 then None else (if nat_le (e.tile_id + e.run_length) FIRST_TOO_DEEP then None else Some (TooDeep (max e.tile_id FIRST_TOO_DEEP))))
    else Some (InvalidTileId (max e.tile_id (MAX_TILE_ID + 1)))

abbrev pub range_refusal : Option (List ℕ) → Entry → Option WalkError
range_refusal None e = Some (Archive (errors.Reading causes.PastEnd))
range_refusal (Some bytes) e = run_refusal e

-- those of a tile entry: where a part is walked, its run alone
abbrev pub tile_refusal : Extent → Header → List ℕ → Entry → Option WalkError
tile_refusal Within h b e = if nat_le (e.tile_id + e.run_length) (MAX_TILE_ID + 1) then None else Some (Archive errors.InvalidEntry)
tile_refusal Whole h b e = range_refusal (range_of b (h.data_offset + e.offset) e.length) e

-- how often they read
abbrev pub tile_reads : Extent → ℕ
tile_reads Within = 0
tile_reads Whole = 1

abbrev pub tile_by : ℕ → Entry → Option WalkError → Walked
tile_by reads e None = record { refusal = None; entries = e ∷ []; reads = reads }
tile_by reads e (Some x) = record { refusal = Some x; entries = []; reads = reads }

abbrev pub tile_walk : Extent → Header → List ℕ → Entry → Walked
tile_walk k h b e = tile_by (tile_reads k) e (tile_refusal k h b e)

abbrev pub leaf_read : Walked → Walked
leaf_read w = record { refusal = w.refusal; entries = w.entries; reads = suc w.reads }

-- one walk and then another, which a refusal forestalls
abbrev pub then_walk : Walked → Walked → Walked
then_walk w next = elim w.refusal [
  | Some x ↦ w
  | None ↦ record { refusal = next.refusal; entries = w.entries ++ next.entries; reads = w.reads + next.reads }
]

-- the entries of a directory in order, each tested and then met
abbrev pub walk_each : ℕ → (Entry → Option ℕ → Walked) → Option Entry → ℕ → Option ℕ → List Entry → Walked
walk_each left f before low limit [] = nothing_met
walk_each left f before low limit (e ∷ es) =
    elim (stands left before low limit (end_before es limit) e) [
      | true ↦ then_walk (f e (end_before es limit)) (walk_each left f (Some e) low limit es)
      | false ↦ refuses (Archive errors.InvalidEntry)
    ]

-- a leaf is walked whole
abbrev pub leaf_walk : (List Entry → Walked) → Result (List Entry) PmtError → Walked
leaf_walk inner (Ok leaf) = leaf_read (inner leaf)
leaf_walk inner (Err e) = leaf_read (refuses (Archive e))

-- an entry: a tile, or a leaf, which is read only where it is met
abbrev pub entry_walk : Extent → Option (ℕ → Option ℕ → List Entry → Walked) → Header → List ℕ → List (ℕ × ℕ) → Entry → Option ℕ → Walked
entry_walk k below h b is e end = elim (nat_eq e.run_length 0) [
  | false ↦ tile_walk k h b e
  | true ↦ elim (meets k is e.tile_id end) [
    | false ↦ nothing_met
    | true ↦ elim below [ None ↦ nothing_met | Some inner ↦ leaf_walk (inner e.tile_id end) (leaf_of h b e) ]
  ]
]

-- a directory and the leaves below it that are met, at most so many deep
unfoldable pub walked : Extent → ℕ → Header → List ℕ → List (ℕ × ℕ) → ℕ → Option ℕ → List Entry → Walked
walked k zero h b is low limit es = walk_each zero (entry_walk k None h b is) None low limit es
walked k (suc n) h b is low limit es = walk_each (suc n) (entry_walk k (Some (walked k n h b is)) h b is) None low limit es

-- what stands below a directory that may have so many leaves below it
abbrev pub below : Extent → ℕ → Header → List ℕ → List (ℕ × ℕ) → Option (ℕ → Option ℕ → List Entry → Walked)
below k zero h b is = None
below k (suc n) h b is = Some (walked k n h b is)

-- all of an archive that opens; the range of the root has no end
abbrev pub all_walked : List ℕ → Opened → Walked
all_walked b o = walked Whole 6 o.0 b [] 0 None o.1

-- one id twice
pub twice : (walk_each 6 (λ e end. tile_by 0 e None) None 0 None (entry 0 0 1 1 ∷ entry 0 0 1 1 ∷ [])).refusal ≡ Some (Archive errors.InvalidEntry)
twice = refl

-- a run that ends with zoom 30, one that goes on, an empty one, and one past the ids of tiles
pub last_fits : run_refusal (entry 1537228672809129300 0 1 1) ≡ None
last_fits = refl

pub goes_on : run_refusal (entry 1537228672809129300 0 1 2) ≡ Some (TooDeep 1537228672809129301)
goes_on = refl

pub empty_goes_on : run_refusal (entry 1537228672809129300 0 0 2) ≡ None
empty_goes_on = refl

pub too_far : run_refusal (entry 6148914691236517205 0 1 1) ≡ Some (InvalidTileId 6148914691236517205)
too_far = refl

-- the first id of zoom 31
pub first_of_zoom : pyramid 31 ≡ FIRST_TOO_DEEP
first_of_zoom = refl
