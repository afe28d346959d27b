-- A base whose contents stay in its store, under patches that are held.
use Rattle.std.specs.Prelude.{ℕ, ◌≡◌, ◌||◌, All, Bool, true, false, cond, is_some, List, map, None, Ok, Option, Some}
use Rattle.std.specs.FinMap.{empty}
use Rattle.std.specs.List.Sorted.{IsNonDecreasingBy, IsPermutation}
use Rattle.mb_edit.specs.Common.{Contents, FinMap, is_named, Text}
use Rattle.mb_store.specs.Store.{IsSound}
use Rattle.mb_tables.specs.Tiles.{place_cmp}
use Rattle.tile_streaming.specs.Collisions.{content_told}
use Rattle.tile_streaming.specs.Common.{address, Cell, cell_at, contains_key, entries, get, InRange, option_map, option_or, Place, State, state_of, Tables, TileSet}
use Rattle.tile_streaming.specs.Finding.{bytes_told, tile_told}
use Rattle.tile_streaming.specs.Layouts.{has_digests, over_layout}
use Rattle.tile_streaming.specs.Marks.{mark_of}
use Rattle.tile_streaming.specs.Stored.{HasBytes}
use Rattle.tile_streaming.specs.declared.overlaid.Overlaid.{Overlaid}
use Rattle.tile_streaming.specs.declared.rest.Rest.{Rest}

-- The ids and the contents of a set are those of what patches put, over those of the tiles that no patch has and of
-- the contents of the base that stand. Of a base that tells nothing there are none.
pub record HasParts (tells : Bool) (t : Tables) (rest : Rest) (tiles : TileSet) (over s : State) : Type 0 where
  pub ids : FinMap place_cmp Cell
  pub contents : Contents
  pub named : (p : Place) → get s.ids p ≡ option_or (get over.ids p) (get ids p)
  pub apart : (p : Place) → is_some (get over.ids p) ≡ true → get ids p ≡ None
  pub stored : (id : Cell) → get s.contents id ≡ option_or (get over.contents id) (get contents id)
  pub alike : (id c d : Cell) → get over.contents id ≡ Some c → get contents id ≡ Some d → c ≡ d
  -- each id has its contents
  pub own : (id : Cell) → is_named over.ids id ≡ true → is_some (get over.contents id) ≡ true
  pub known : (id : Cell) → is_named ids id ≡ true → is_some (get contents id) ≡ true
  -- what they are in tables
  pub only : (p : Place) → contains_key tiles p ≡ false → get ids p ≡ None
  pub is_told : tells ≡ true → (p : Place) → contains_key tiles p ≡ true → get ids p ≡ option_map (cell_at 3) (tile_told rest.layout t (address p))
  pub stands : tells ≡ true → (digest : List ℕ) → get contents (Text digest) ≡ cond (rest.is_whole || is_named ids (Text digest)) (content_told t (Text digest)) None
  pub none : tells ≡ false → (id : Cell) → get contents id ≡ None

-- A set is the tiles that are held whole over those of which marks are held, which have no place in common. Its names
-- and its algorithm are those of the set that is held whole. A store that tells has the bytes of the marks. Patches of
-- the set are tested as those of the set that is held whole, but for contents that collide with those of the base.
pub record StandsFor (tells : Bool) (t : Tables) (x : Overlaid) (s : State) : Type 0 where
  pub layout : x.rest.layout ≡ s.layout
  pub tiles : TileSet
  pub same : (p : Place) → get s.tiles p ≡ option_or (get x.over.state.tiles p) (get tiles p)
  pub apart : (p : Place) → contains_key x.over.state.tiles p ≡ true → contains_key tiles p ≡ false
  pub names : x.over.state.metadata ≡ s.metadata
  pub algorithm : x.over.state.algorithm ≡ s.algorithm
  pub marks : IsPermutation (map mark_of (entries tiles)) x.rest.marks.items
  pub rising : IsNonDecreasingBy (λ m. m.id) x.rest.marks.items
  pub ranged : All (λ e. InRange e.0) (entries s.tiles)
  pub has : tells ≡ true → HasBytes (bytes_told x.rest.layout t) tiles
  pub over : x.over.state.layout ≡ over_layout s.layout
  pub parts : has_digests s.layout ≡ true → HasParts tells t x.rest tiles x.over.state s

-- The state that tables load to, where they are told. Else it has no ids and no contents, since nothing that is looked
-- up later has to be that of the first reading.
pub record IsRoot (tells : Bool) (t : Tables) (s : State) : Type 0 where
  pub sound : tells ≡ true → IsSound t
  pub due : tells ≡ true → state_of t ≡ Ok s
  pub ids : tells ≡ false → s.ids ≡ empty
  pub contents : tells ≡ false → s.contents ≡ empty
