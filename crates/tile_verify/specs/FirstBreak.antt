-- The first broken part of an archive, and how far a check comes until then.
use Rattle.std.specs.Prelude.{◌≡◌, ℕ, zero, suc, ◌+◌, Bool, true, false, List, [], ◌∷◌, nat_lt, nat_le, nat_eq, ◌||◌, if◌then◌else◌, Option, Some, None, Result, Ok, Err, refl}
use Rattle.tile_ids.specs.declared.id.TheConstants.{MAX_TILE_ID}
use Rattle.tile_verify.specs.Common.{Entry, entry, Header, leaf_of, Opened, PmtError, range_of}
use Rattle.pm_format.specs.declared.error.PmtError.TheVariants as errors
use Rattle.tile_verify.specs.declared.broken.Place.{Place}
use Rattle.tile_verify.specs.declared.broken.Reason.{Reason}
use Rattle.tile_verify.specs.declared.walk.Spot.{Spot}
use Rattle.tile_verify.specs.declared.broken.Reason.TheVariants as reason

-- an entry of the directory at a spot
abbrev pub place : Spot → ℕ → Place
place at index = record { depth = at.depth; offset = at.offset; index = index }

-- a walk: where it ends early, how many leaves were read, and how many tile entries were come to
pub record Walked : Type 0 where
  pub broken : Option (Place × Reason)
  pub directories : ℕ
  pub tiles : ℕ

abbrev pub intact : Walked
intact = record { broken = None; directories = 0; tiles = 0 }

abbrev pub breaks : Place → Reason → Walked
breaks at why = record { broken = Some (at, why); directories = 0; tiles = 0 }

abbrev pub leaf_read : Walked → Walked
leaf_read w = record { broken = w.broken; directories = suc w.directories; tiles = w.tiles }

abbrev pub tile_met : Walked → Walked
tile_met w = record { broken = w.broken; directories = w.directories; tiles = suc w.tiles }

-- one walk and then another, which a break forestalls
abbrev pub then_walk : Walked → Walked → Walked
then_walk w next = elim w.broken [
  | Some x ↦ w
  | None ↦ record { broken = next.broken; directories = w.directories + next.directories; tiles = w.tiles + next.tiles }
]

-- the first test of ids and runs that an entry fails, behind another one and between two limits
abbrev pub falls : Option Entry → Entry → Bool
falls None e = false
falls (Some d) e = nat_le e.tile_id d.tile_id

abbrev pub overlaps : Option Entry → Entry → Bool
overlaps None e = false
overlaps (Some d) e = nat_lt e.tile_id (d.tile_id + d.run_length)

abbrev pub entry_break : Option Entry → ℕ → ℕ → Entry → Option Reason
entry_break before low limit e =
    if falls before e then Some reason.IdsFall else
    (if overlaps before e then Some reason.RunOverlaps else
    (if nat_lt e.tile_id low || nat_le limit e.tile_id then Some reason.OutsideRange else
    (if nat_lt (MAX_TILE_ID + 1) (e.tile_id + e.run_length) then Some reason.PastMaxId else
    (if nat_lt limit (e.tile_id + e.run_length) then Some reason.OutsideRange else None))))

-- the first entry that fails one, by its index
abbrev pub limits_break : Option Entry → ℕ → ℕ → ℕ → List Entry → Option (ℕ × Reason)
limits_break before low limit index [] = None
limits_break before low limit index (e ∷ es) = elim (entry_break before low limit e) [
  | Some why ↦ Some (index, why)
  | None ↦ limits_break (Some e) low limit (suc index) es
]

-- the id where the range of an entry ends: that of the next one, or the upper limit
abbrev pub end_before : List Entry → ℕ → ℕ
end_before [] limit = limit
end_before (d ∷ es) limit = d.tile_id

-- each entry with its index and that id
abbrev pub walk_each : (ℕ → Entry → ℕ → Walked) → ℕ → ℕ → List Entry → Walked
walk_each f index limit [] = intact
walk_each f index limit (e ∷ es) = then_walk (f index e (end_before es limit)) (walk_each f (suc index) limit es)

-- the contents of a tile entry lie in the bytes
abbrev pub tile_walk : Header → List ℕ → Place → Entry → Walked
tile_walk h b at e = tile_met (elim (range_of b (h.data_offset + e.offset) e.length) [ None ↦ breaks at reason.TilePastEnd | Some bytes ↦ intact ])

-- the leaf of an entry is read and walked
abbrev pub leaf_walk : (List Entry → Walked) → Place → Result (List Entry) PmtError → Walked
leaf_walk inner at (Ok leaf) = leaf_read (inner leaf)
leaf_walk inner at (Err errors.InvalidEntry) = leaf_read (breaks at reason.NotDecoded)
leaf_walk inner at (Err e) = breaks at reason.LeafPastEnd

-- a directory is walked in two turns: ids and runs, and then what its entries lead to
abbrev pub two_turns : (ℕ → Entry → ℕ → Walked) → Spot → ℕ → ℕ → List Entry → Walked
two_turns f at low limit es = elim (limits_break None low limit 0 es) [
  | Some x ↦ breaks (place at x.0) x.1
  | None ↦ walk_each f 0 limit es
]

abbrev pub one_deeper : Spot → Entry → Spot
one_deeper at e = record { depth = at.depth + 1; offset = e.offset }

-- an entry: the contents of a tile, or its leaf, where directories may stand below this one
abbrev pub entry_walk : Option (Spot → ℕ → ℕ → List Entry → Walked) → Header → List ℕ → Spot → ℕ → Entry → ℕ → Walked
entry_walk below h b at index e end = elim (nat_eq e.run_length 0) [
  | false ↦ tile_walk h b (place at index) e
  | true ↦ elim below [
    | None ↦ breaks (place at index) reason.TooDeep
    | Some inner ↦ leaf_walk (inner (one_deeper at e) e.tile_id end) (place at index) (leaf_of h b e)
  ]
]

-- a directory and the leaves below it, at most so many deep
unfoldable pub walked : ℕ → Header → List ℕ → Spot → ℕ → ℕ → List Entry → Walked
walked zero h b at low limit es = two_turns (entry_walk None h b at) at low limit es
walked (suc n) h b at low limit es = two_turns (entry_walk (Some (walked n h b)) h b at) at low limit es

-- what stands below a directory that may have so many leaves below it
abbrev pub below : ℕ → Header → List ℕ → Option (Spot → ℕ → ℕ → List Entry → Walked)
below zero h b = None
below (suc n) h b = Some (walked n h b)

abbrev pub root_spot : Spot
root_spot = record { depth = 0; offset = 0 }

-- all of an archive that opens
abbrev pub walk_of : List ℕ → Opened → Walked
walk_of b o = walked 6 o.0 b root_spot 0 (MAX_TILE_ID + 1) o.1

-- the first part that is broken
abbrev pub first_break : List ℕ → Opened → Option (Place × Reason)
first_break b o = (walk_of b o).broken

-- one id twice
pub twice : limits_break None 0 (MAX_TILE_ID + 1) 0 (entry 0 0 1 1 ∷ entry 0 0 1 1 ∷ []) ≡ Some (1, reason.IdsFall)
twice = refl
