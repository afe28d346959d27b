-- The tests of a tile entry.
use Rattle.pm_walk.proofs.Common.{Archive, Bool, Entry, Extent, false, Header, if◌then◌else◌, InvalidTileId, IsShallow, List, max, MAX_TILE_ID, nat_eq, nat_le, None, none-some, Option, range_of}
use Rattle.pm_walk.proofs.Common.{range_refusal, refl, run_refusal, Some, sym, tile_by, tile_reads, tile_refusal, tile_walk, TooDeep, true, true≢false, WalkError, Whole, Within, ℕ, [], ◌+◌, ◌∙◌, ◌∷◌}
use Rattle.pm_walk.proofs.Common.{◌≡◌, ◌≤◌}
use Rattle.pm_format.specs.declared.error.PmtError.TheVariants as errors
use Rattle.pm_format.specs.declared.error.ReadCause.TheVariants as causes
use Rattle.pm_walk.specs.declared.extent.TheConstants.{FIRST_TOO_DEEP}
use Rattle.pm_walk.proofs.CoveringLemmas.{le_by}

-- a run that passes the tests is one of tiles
pub run_fits : (e : Entry) → run_refusal e ≡ None → e.tile_id + e.run_length ≤ MAX_TILE_ID + 1
run_fits e fine = by_test (nat_le (e.tile_id + e.run_length) (MAX_TILE_ID + 1)) refl fine
  where
    by_test : (t : Bool) → nat_le (e.tile_id + e.run_length) (MAX_TILE_ID + 1) ≡ t
        → (if t then (if nat_eq e.length 0 then None else (if nat_le (e.tile_id + e.run_length) FIRST_TOO_DEEP then None else Some (TooDeep (max e.tile_id FIRST_TOO_DEEP)))) else Some (InvalidTileId (max e.tile_id (MAX_TILE_ID + 1)))) ≡ None
        → e.tile_id + e.run_length ≤ MAX_TILE_ID + 1
    by_test true is fine = le_by (e.tile_id + e.run_length) (MAX_TILE_ID + 1) is
    by_test false is fine = absurd (none-some (InvalidTileId (max e.tile_id (MAX_TILE_ID + 1))) (sym fine))

pub tile_fits : (ext : Extent) (h : Header) (b : List ℕ) (e : Entry) → tile_refusal ext h b e ≡ None → e.tile_id + e.run_length ≤ MAX_TILE_ID + 1
tile_fits Within h b e fine = by_test (nat_le (e.tile_id + e.run_length) (MAX_TILE_ID + 1)) refl fine
  where
    by_test : (t : Bool) → nat_le (e.tile_id + e.run_length) (MAX_TILE_ID + 1) ≡ t → (if t then None else Some (Archive errors.InvalidEntry)) ≡ None → e.tile_id + e.run_length ≤ MAX_TILE_ID + 1
    by_test true is fine = le_by (e.tile_id + e.run_length) (MAX_TILE_ID + 1) is
    by_test false is fine = absurd (none-some (Archive errors.InvalidEntry) (sym fine))
tile_fits Whole h b e fine = by_range (range_of b (h.data_offset + e.offset) e.length) fine
  where
    by_range : (r : Option (List ℕ)) → range_refusal r e ≡ None → e.tile_id + e.run_length ≤ MAX_TILE_ID + 1
    by_range None fine = absurd (none-some (Archive (errors.Reading causes.PastEnd)) (sym fine))
    by_range (Some bytes) fine = run_fits e fine

-- a tile entry that isn't refused is come to
pub tile_stands : (ext : Extent) (h : Header) (b : List ℕ) (e : Entry) → (tile_walk ext h b e).refusal ≡ None → (tile_refusal ext h b e ≡ None) × ((tile_walk ext h b e).entries ≡ e ∷ [])
tile_stands ext h b e fine = by_refusal (tile_refusal ext h b e) fine
  where
    by_refusal : (o : Option WalkError) → (tile_by (tile_reads ext) e o).refusal ≡ None → (o ≡ None) × ((tile_by (tile_reads ext) e o).entries ≡ e ∷ [])
    by_refusal None fine = (refl, refl)
    by_refusal (Some x) fine = absurd (none-some x (sym fine))

-- what the tests of a run that has bytes say
pub run_shallow : (e : Entry) → nat_eq e.length 0 ≡ false → run_refusal e ≡ None → IsShallow e
run_shallow e some fine = by_end (nat_le (e.tile_id + e.run_length) (MAX_TILE_ID + 1)) fine
  where
    by_deep : (t : Bool) → nat_le (e.tile_id + e.run_length) FIRST_TOO_DEEP ≡ t → (if t then None else Some (TooDeep (max e.tile_id FIRST_TOO_DEEP))) ≡ None → IsShallow e
    by_deep true at fine = le_by (e.tile_id + e.run_length) FIRST_TOO_DEEP at
    by_deep false at fine = absurd (none-some (TooDeep (max e.tile_id FIRST_TOO_DEEP)) (sym fine))

    by_empty : (t : Bool) → nat_eq e.length 0 ≡ t → (if t then None else (if nat_le (e.tile_id + e.run_length) FIRST_TOO_DEEP then None else Some (TooDeep (max e.tile_id FIRST_TOO_DEEP)))) ≡ None → IsShallow e
    by_empty true at fine = absurd (true≢false (sym at ∙ some))
    by_empty false at fine = by_deep (nat_le (e.tile_id + e.run_length) FIRST_TOO_DEEP) refl fine

    by_end : (t : Bool)
        → (if t then (if nat_eq e.length 0 then None else (if nat_le (e.tile_id + e.run_length) FIRST_TOO_DEEP then None else Some (TooDeep (max e.tile_id FIRST_TOO_DEEP)))) else Some (InvalidTileId (max e.tile_id (MAX_TILE_ID + 1)))) ≡ None
        → IsShallow e
    by_end true fine = by_empty (nat_eq e.length 0) refl fine
    by_end false fine = absurd (none-some (InvalidTileId (max e.tile_id (MAX_TILE_ID + 1))) (sym fine))
