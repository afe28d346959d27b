use Rattle.tile_streaming.proofs.Common.{All, IsStored, length, List, Mark, refl, stored_in, subst, sym, ◌<◌, ◌≡◌, ◌≢◌}
use Rattle.std.proofs.Common.{flat_map}
use Rattle.tile_streaming.proofs.HashLemmas.{are_some, is_none, none_hashed, some_hashed}
use Rattle.tile_streaming.proofs.SpotLemmas.{all_within}
use Rattle.tile_streaming.proofs.StoredLemmas.{all_stored}
use Rattle.tile_streaming.specs.Common.{in_hexadecimal, tile_text}
use Rattle.tile_streaming.specs.Hashing.{AreHashed, tiles_with}
use Rattle.tile_streaming.specs.Spots.{AreSpots, marks_at}
use Rattle.tile_streaming.specs.declared.spots.Spot.{Spot}
use Rattle.tile_streaming.proofs.StepLemmas.{same_error}
use Rattle.tile_streaming.proofs.StandsLemmas.{base_anyway}
use Rattle.tile_streaming.specs.Stands.{BaseStands}
use Rattle.tile_streaming.proofs.hashing.hash_marked.Goals as goal

pub returns-then-is_empty-clause-hash : goal.returns-then-is_empty-clause-hash
returns-then-is_empty-clause-hash g c = λ s held has.
    let none = is_none (length c.as_slice-marks.result.now) c.is_empty.result c.is_empty.ensures c.if-is_empty.true in
    none_hashed (g.S.TileStore.tells c.args.store.now) (stored_in c.args.set.now (g.S.TileStore.told c.args.store.now)) c.args.set.now.marked s held has
    (subst (λ (l : List Mark). length l ≡ 0) c.as_slice-marks.ensures.value none) c.in_ok-hash.field-0 c.in_ok-hash.ensures

pub hash_spots-requires-clause-within : goal.hash_spots-requires-clause-within
hash_spots-requires-clause-within g c =
    subst (λ (l : List Spot). All (λ (s : Spot). s.index < length c.as_slice-marks.result.now) l) (sym c.deref.ensures.value) (all_within c.as_slice-marks.result.now c.in_ok-spots.spots.items c.in_ok-spots.ensures)

pub hash_spots-requires-clause-stored : goal.hash_spots-requires-clause-stored
hash_spots-requires-clause-stored g c = λ u.
    let t = stored_in c.args.set.now (g.S.TileStore.told c.args.store.now) in
    let from = c.requires.held in
    subst (λ (l : List Mark). All (IsStored t) l) (sym c.as_slice-marks.ensures.value)
    (all_stored t from.state.tiles c.args.set.now.marked.marks.items from.held.marks (from.has u))

pub returns-clause-hash : goal.returns-clause-hash
returns-clause-hash g c = λ s held has.
    let tells = g.S.TileStore.tells c.args.store.now in
    let t = stored_in c.args.set.now (g.S.TileStore.told c.args.store.now) in
    let set = c.args.set.now.marked in
    let slice = c.as_slice-marks.result.now in
    let spots = c.in_ok-spots.spots.items in
    let stream = c.hash_spots.new.stream in
    let a = in_hexadecimal set.algorithm in
    let some = subst (λ (l : List Mark). length l ≢ 0) c.as_slice-marks.ensures.value (are_some (length slice) c.is_empty.result c.is_empty.ensures c.if-is_empty.false) in
    let are : AreSpots set.marks.items spots = subst (λ (l : List Mark). AreSpots l spots) c.as_slice-marks.ensures.value c.in_ok-spots.ensures in
    let first = subst (λ b. AreHashed tells t b (marks_at slice c.deref.result.now) stream) c.in_hexadecimal.ensures (c.in_ok-hash_spots.ensures.hashed c.in_hexadecimal.result c.new-stream.ensures) in
    let all : AreHashed tells t a (marks_at set.marks.items spots) stream =
    subst (λ (l : List Mark). AreHashed tells t a (marks_at l spots) stream) c.as_slice-marks.ensures.value (subst (λ (l : List Spot). AreHashed tells t a (marks_at slice l) stream) c.deref.ensures.value first) in
    some_hashed tells t set s held has some spots are stream all c.in_ok-finish.field-0
    (c.in_ok-finish.ensures a (flat_map tile_text (tiles_with (marks_at set.marks.items spots) all.contents)) all.taken)

pub returns-in_err-hash-clause-still : goal.returns-in_err-hash-clause-still
returns-in_err-hash-clause-still g c = base_anyway _ _ c.from_residual.result refl

pub returns-in_err-spots-clause-still : goal.returns-in_err-spots-clause-still
returns-in_err-spots-clause-still g c = base_anyway _ _ c.from_residual-in_err-spots.result refl

pub returns-in_err-hash_spots-clause-still : goal.returns-in_err-hash_spots-clause-still
returns-in_err-hash_spots-clause-still g c = same_error c.in_err-hash_spots.field-0.0 _ (BaseStands (g.S.TileStore.faults c.args.store.now) (g.S.TileStore.faults c.hash_spots.new.store)) c.in_err-hash_spots.ensures.still c.from_residual-in_err-hash_spots.ensures.1

pub returns-in_err-finish-clause-still : goal.returns-in_err-finish-clause-still
returns-in_err-finish-clause-still g c = base_anyway _ _ c.from_residual-in_err-finish.result c.in_ok-hash_spots.ensures.still
