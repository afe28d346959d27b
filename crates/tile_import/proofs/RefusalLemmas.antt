-- Refusals of an archive, and why they come.
use Rattle.tile_import.proofs.Common.{all_walked, ap, Archive, AreContentsOf, arith, Coord, coord_of, empty, Entry, Err, false, FIRST_TOO_DEEP, full, hilbert, IfSome, if◌then◌else◌, ImportError, inl}
use Rattle.tile_import.proofs.Common.{inr, IsCoord, IsRead, List, lt_or, MAX_TILE_ID, nat_le, nat_tests, None, of_read_error, of_walk_error, Ok, Opened, opened, Option, option_map, OutOfMemory}
use Rattle.tile_import.proofs.Common.{PmtError, pyramid, pyramid_grows, ReadCauses, Reads, refl, refusal_opened, Result, Some, StopCauses, subst, sym, tile_count, tile_id, TileSet, to_le}
use Rattle.tile_import.proofs.Common.{TooManyTiles, true≢false, walk_refusal, Walked, WalkError, with_contents, with_entries, ℕ, [], ◌+◌, ◌<◌, ◌^◌, ◌∙◌, ◌≡◌, ◌≤◌}
use Rattle.tile_ids.proofs.Bijection.{has_id}
use Rattle.tile_ids.proofs.Curve.{hilbert_below}
use Rattle.pm_format.specs.declared.error.PmtError.TheVariants as errors
use Rattle.pm_format.specs.declared.error.ReadCause.TheVariants as causes
use Rattle.pm_reader.specs.Answers.{LookUpCauses}
use Rattle.pm_walk.specs.Gathering.{Gathers}
use Rattle.pm_walk.specs.declared.error.WalkError.TheVariants as walks
use Rattle.pm_walk.specs.declared.extent.Extent.TheVariants.{Whole}
use Rattle.tile_import.proofs.TilesLemmas.{tiles_are}

-- a refusal of the walk is due where there are few before it, and too many tiles else
many_test : (n most : ℕ) → most < n → nat_le n most ≡ false
many_test n most many = grind (arith, nat_tests)

by_few : (most : ℕ) (w : Walked) → tile_count (full w.entries) ≤ most → walk_refusal most w ≡ option_map (of_walk_error most) w.refusal
by_few most w few = ap (λ b. if b then option_map (of_walk_error most) w.refusal else Some (TooManyTiles most)) (to_le (tile_count (full w.entries)) most few)

too_many : (most : ℕ) (w : Walked) → most < tile_count (full w.entries) → walk_refusal most w ≡ Some (TooManyTiles most)
too_many most w many = ap (λ b. if b then option_map (of_walk_error most) w.refusal else Some (TooManyTiles most)) (many_test (tile_count (full w.entries)) most many)

due : (most : ℕ) (w : Walked) (x : WalkError) → w.refusal ≡ Some x → tile_count (full w.entries) ≤ most → walk_refusal most w ≡ Some (of_walk_error most x)
due most w x is few = by_few most w few ∙ ap (option_map (of_walk_error most)) is

-- running out of memory
pub want_read : (told : Option (List ℕ)) (most : ℕ) → IfSome told (λ b. Reads most b (Err OutOfMemory))
want_read None most = tt
want_read (Some b) most = λ free. absurd (true≢false free)

-- or all is read
pub all_read : (most : ℕ) (b : List ℕ) (o : Opened) → opened b ≡ Ok o → (all_walked b o).refusal ≡ None → tile_count (full (all_walked b o).entries) ≤ most → IsRead most b (Ok (with_entries o.0 b empty (full (all_walked b o).entries)))
all_read most b o opens fine few =
    (ap (refusal_opened most b) opens ∙ (by_few most (all_walked b o) few ∙ ap (option_map (of_walk_error most)) fine), tiles_are b o opens fine)

-- told bytes are always read as something
pub something_read : (most : ℕ) (b : List ℕ) → (found : Result TileSet ImportError) × IsRead most b found
something_read most b = by_open (opened b) refl
  where
    by_refusal : (o : Opened) → opened b ≡ Ok o → (r : Option WalkError) → (all_walked b o).refusal ≡ r → tile_count (full (all_walked b o).entries) ≤ most → (found : Result TileSet ImportError) × IsRead most b found
    by_refusal o opens None is few = (Ok (with_entries o.0 b empty (full (all_walked b o).entries)), all_read most b o opens is few)
    by_refusal o opens (Some x) is few = (Err (of_walk_error most x), ap (refusal_opened most b) opens ∙ due most (all_walked b o) x is few)

    by_open : (r : Result Opened PmtError) → opened b ≡ r → (found : Result TileSet ImportError) × IsRead most b found
    by_open (Err e) is = (Err (Archive e), ap (refusal_opened most b) is)
    by_open (Ok o) is = elim (lt_or most (tile_count (full (all_walked b o).entries))) [
      | inl many ↦ (Err (TooManyTiles most), ap (refusal_opened most b) is ∙ too_many most (all_walked b o) many)
      | inr few ↦ by_refusal o is (all_walked b o).refusal refl few
    ]

pub look_up_causes : (most before now : ℕ) (e : PmtError) → LookUpCauses {A = Unit {0}} before now (Err e) → ReadCauses most before now (of_read_error e)
look_up_causes most before now errors.OutOfMemory c = tt
look_up_causes most before now errors.InvalidEntry c = tt
look_up_causes most before now (errors.Reading causes.PastEnd) c = tt
look_up_causes most before now (errors.Reading causes.Fault) c = c
look_up_causes most before now (errors.UnexpectedNumberOfBytesReturned asked got) c = c
look_up_causes most before now e c = absurd c

-- an id of zoom 31 has a coordinate of it
pub deep_coord : (id : ℕ) → FIRST_TOO_DEEP ≤ id → id ≤ MAX_TILE_ID → IsCoord (coord_of id) × ((coord_of id).z ≡ 31)
unfolding tile_id
deep_coord id low le =
    let h = has_id id le in
    let c : Coord = coord_of id in
    (h.0, deep c.z (hilbert c.z (c.x, c.y)) h.0.zoom (hilbert_below c.z (c.x, c.y)) h.1)
  where
    deep : (z n : ℕ) → z ≤ 31 → n < 4 ^ z → pyramid z + n ≡ id → z ≡ 31
    deep z n most below is = elim (lt_or z 31) [
      | inl less ↦
          let grows = pyramid_grows z 31 n below less in
          let size : pyramid 31 ≡ 1537228672809129301 = refl in
          absurd (omega (arith, grows, size, is, low))
      | inr high ↦ omega (arith, most, high)
    ]

pub stop_causes : (most before now : ℕ) (x : WalkError) → StopCauses Whole before now x → ReadCauses most before now (of_walk_error most x)
stop_causes most before now (walks.Archive e) c = look_up_causes most before now e c
stop_causes most before now walks.TooManyTiles c = refl
stop_causes most before now (walks.InvalidTileId id) c = c
stop_causes most before now (walks.TooDeep id) c = deep_coord id c.0 c.1

-- what is made of what a walk that isn't refused has read
pub tiles_taken : (told : Option (List ℕ)) (o : Opened) (most : ℕ) (es : List Entry) (cs : List (List ℕ)) (tiles : TileSet) → IfSome told (λ b. opened b ≡ Ok o) → IfSome told (λ b. Gathers Whole (all_walked b o) [] most (Ok es))
    → AreContentsOf told o.0 es cs → tiles ≡ with_contents empty es cs → IfSome told (λ b. Reads most b (Ok tiles))
tiles_taken None o most es cs tiles opens g are put = tt
tiles_taken (Some b) o most es cs tiles opens g are put =
    let made : tiles ≡ with_entries o.0 b empty es = put ∙ ap (with_contents empty es) are.1 in
    subst (λ (m : TileSet). IsRead most b (Ok m)) (sym (made ∙ ap (with_entries o.0 b empty) g.1)) (all_read most b o opens g.0 g.2)
