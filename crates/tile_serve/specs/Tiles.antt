-- The tiles that are held, the latest used first.
use Rattle.std.specs.Prelude.{◌≡◌, ◌⊎◌, ℕ, Bool, true, false, if◌then◌else◌, List, length, nat_eq, Contains, Option, Some, None, is_some, Result, Ok, Err}
use Rattle.tile_serve.specs.Common.{Bounded, fits, lookup, used, with_pair}
use Rattle.tile_serve.specs.Reply.{found_at}
use Rattle.tile_serve.specs.Request.{Request}
use Rattle.tile_serve.specs.declared.error.ServeError.{ServeError}
use Rattle.tile_serve.specs.declared.error.ServeError.TheVariants.{OutOfMemory}
use Rattle.tile_serve.specs.declared.found.Found.{Found}
use Rattle.tile_serve.specs.declared.found.Found.TheVariants.{Tile, Missing, InvalidEntry, PastEnd}

-- each pair that is held is an id with the tile that the archive has for it
abbrev pub AreTiles : List ℕ → List (ℕ × List ℕ) → Type 0
AreTiles b pairs = (e : ℕ × List ℕ) → Contains pairs e → found_at b e.0 ≡ Tile e.1

-- a tile that isn't longer than the limit is put in front, and the last ones are given up until the
-- rest is within the bounds
abbrev pub with_tile : Bounded (List ℕ) → ℕ → List ℕ → Bounded (List ℕ)
with_tile old t bytes = if fits length old.limit bytes then with_pair length old t bytes else old

-- what is held once something was found: a tile alone is kept
abbrev pub with_found : Bounded (List ℕ) → ℕ → Found → Bounded (List ℕ)
with_found old t (Tile bytes) = with_tile old t bytes
with_found old t Missing = old
with_found old t InvalidEntry = old
with_found old t PastEnd = old

-- whether a tile is held at an id
abbrev pub is_held : Bounded (List ℕ) → ℕ → Bool
is_held old t = is_some (lookup (nat_eq t) old.pairs)

-- What is held after an id was asked for: a held tile is the latest used, and another one is kept.
abbrev pub tiles_asked : Bounded (List ℕ) → ℕ → Found → Bounded (List ℕ)
tiles_asked old t found = if is_held old t then used old t else with_found old t found

-- What is held after an id was looked for: after running out of memory a held tile may be the latest used, and another
-- error leaves all as it was.
abbrev pub LeavesFound : Bounded (List ℕ) → Bounded (List ℕ) → ℕ → Result Found ServeError → Type 0
LeavesFound old new t (Ok found) = new ≡ tiles_asked old t found
LeavesFound old new t (Err OutOfMemory) = (new ≡ old) ⊎ (new ≡ used old t)
LeavesFound old new t (Err e) = new ≡ old

-- the same after a line
abbrev pub tiles_after : List ℕ → Option Request → Bounded (List ℕ) → Bounded (List ℕ)
tiles_after b None old = old
tiles_after b (Some r) old = tiles_asked old r.id (found_at b r.id)

-- whether the archive is read for a line
abbrev pub is_read : Option Request → Bounded (List ℕ) → Bool
is_read None old = false
is_read (Some r) old = if is_held old r.id then false else true
