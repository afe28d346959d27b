-- What a server owns beside the backend.
use Rattle.std.specs.Prelude.{◌≡◌, ℕ, List, length, Option, IfSome}
use Rattle.tile_serve.specs.Common.{Bounded, IsWithin, UsesOneLength, version_of}
use Rattle.pm_format.specs.Directory.{Entry}
use Rattle.pm_reader.specs.MapCaches.{held_by_use, uses_of}
use Rattle.pm_reader.specs.ReadsFrom.{ReadsFrom}
use Rattle.tile_serve.specs.Tiles.{AreTiles}
use Rattle.tile_serve.specs.declared.state.ServerState.{ServerState}

-- the tiles that are held, the latest used first, how many there may be and how many bytes they may have together
abbrev pub tiles_of : ServerState → Bounded (List ℕ)
tiles_of s = s.tiles

-- the same of the directories that are held, and of their entries
abbrev pub directories_of : ServerState → Bounded (List Entry)
directories_of s = uses_of s.directories

-- the version text that came when the archive was opened
abbrev pub opened_as : ServerState → Option (List ℕ)
opened_as s = version_of s.reader

-- the state is that of the bytes, and what it holds is theirs where each leaf offset is used with one length
pub record Serves (b : List ℕ) (s : ServerState) : Type 0 where
  pub reads : ReadsFrom b s.reader (held_by_use s.directories) ⊥
  pub tiles : UsesOneLength b → AreTiles b (tiles_of s).pairs

-- The same of bytes and version texts that may be told. The text of the opening is that of some read, and what is
-- held is within its bounds.
pub record IsServing (told : Option (List ℕ)) (versions : Option (ℕ → Option (List ℕ))) (s : ServerState) : Type 0 where
  pub archive : IfSome told (λ b. Serves b s)
  pub opened : IfSome versions (λ text. (n : ℕ) × (opened_as s ≡ text n))
  pub within : IsWithin length (tiles_of s)
  pub directories : IsWithin length (directories_of s)

-- how many tiles there may be, and how many bytes they may have, stay
abbrev pub KeepsBounds : ServerState → ServerState → Type 0
KeepsBounds old new = ((tiles_of new).capacity ≡ (tiles_of old).capacity) × ((tiles_of new).limit ≡ (tiles_of old).limit)

-- and so do how many directories there may be, and how many entries they may have
abbrev pub KeepsDirectories : ServerState → ServerState → Type 0
KeepsDirectories old new = ((directories_of new).capacity ≡ (directories_of old).capacity) × ((directories_of new).limit ≡ (directories_of old).limit)
