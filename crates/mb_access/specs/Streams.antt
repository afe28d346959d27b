-- One call of the iterators over a set's tiles.
use Rattle.std.specs.Prelude.{◌≡◌, ℕ, ◌<◌, Bool, true, List, Option, Some, None, IfOk, IfSome, OnErr, Result, Ok, Err}
use Rattle.mb_access.specs.Common.{contains_key, Coord, get, MbtError, place_at, ReadsOnly, State, Tables}
use Rattle.mb_access.specs.StreamSteps.{GivesCoord, GivesTile, StreamCauses, left_at_most, left_of, set_of}
use Rattle.mb_access.specs.declared.stream_state.StreamState.{StreamState}
use Rattle.mb_access.specs.declared.streams.Coords.{Coords}
use Rattle.mb_access.specs.declared.streams.Tiles.{Tiles}

-- What a call for the next coordinate gives, by what the store tells, whether it does, its count of faults, and whether
-- it is steady. Over a store that tells, the first of the tiles to come is given; over any store, a coordinate is one
-- of the set that was loaded, fewer are to come after each item, and none after an error or the end.
pub record StreamsCoord {S : Type 0} (holds : S → Tables) (shows : S → Bool) (failed : S → ℕ)
    (unfailing : S → Type 0) (s : Coords S StreamState)
    (item : Option (Result Coord MbtError)) (t : Coords S StreamState) : Type 0 where
  pub same_reference : t.store.ghost_name ≡ s.store.ghost_name
  pub items : shows s.store.now ≡ true → GivesCoord (set_of s.state).tiles
      (left_of (holds s.store.now) s.state) item (left_of (holds s.store.now) t.state)
  pub own : IfSome item (λ x. IfOk x (λ c. contains_key (set_of s.state).tiles (place_at c) ≡ true))
  pub set : set_of t.state ≡ set_of s.state
  pub fewer : IfSome item (λ _. left_at_most t.state < left_at_most s.state)
  pub err : IfSome item (λ x. OnErr x (left_at_most t.state ≡ 0))
  pub end : item ≡ None → left_at_most t.state ≡ 0
  pub causes : StreamCauses (failed s.store.now) (failed t.store.now) item
  pub kept : ReadsOnly holds shows failed unfailing s.store.now t.store.now

-- the same of a call for the next tile: its bytes or null are those of the set that was loaded
pub record StreamsTile {S : Type 0} (holds : S → Tables) (shows : S → Bool) (failed : S → ℕ)
    (unfailing : S → Type 0) (s : Tiles S StreamState)
    (item : Option (Result (Coord × Option (List ℕ)) MbtError))
    (t : Tiles S StreamState) : Type 0 where
  pub same_reference : t.store.ghost_name ≡ s.store.ghost_name
  pub items : shows s.store.now ≡ true
      → GivesTile (left_of (holds s.store.now) s.state) item (left_of (holds s.store.now) t.state)
  pub own : IfSome item (λ x. IfOk x (λ e. get (set_of s.state).tiles (place_at e.0) ≡ Some e.1))
  pub set : set_of t.state ≡ set_of s.state
  pub fewer : IfSome item (λ _. left_at_most t.state < left_at_most s.state)
  pub err : IfSome item (λ x. OnErr x (left_at_most t.state ≡ 0))
  pub end : item ≡ None → left_at_most t.state ≡ 0
  pub causes : StreamCauses (failed s.store.now) (failed t.store.now) item
  pub kept : ReadsOnly holds shows failed unfailing s.store.now t.store.now

-- what was loaded, or the refusal
abbrev pub coords_loaded : {S : Type 0} → Result (Coords S StreamState) MbtError
    → Result State MbtError
coords_loaded (Ok c) = Ok (set_of c.state)
coords_loaded (Err e) = Err e

abbrev pub tiles_loaded : {S : Type 0} → Result (Tiles S StreamState) MbtError
    → Result State MbtError
tiles_loaded (Ok c) = Ok (set_of c.state)
tiles_loaded (Err e) = Err e
