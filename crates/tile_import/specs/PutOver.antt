-- The tiles of an archive over those of a loaded set: what is answered, why, and what set is given.
use Rattle.std.specs.Prelude.{◌≡◌, ◌≤◌, ℕ, false, List, Option, None, Result, Ok, Err, IfSome}
use Rattle.tile_import.specs.Common.{Held, len, may_put, State, tiles_put, TileSet}
use Rattle.mb_tables.specs.Refusals as tests
use Rattle.tile_import.specs.Import.{Answers, ReadCauses, found_due}
use Rattle.tile_import.specs.Putting.{AreOnBoard}
use Rattle.tile_import.specs.Refusals.{IsRead}
use Rattle.tile_import.specs.Tiles.{HasTilesOf}
use Rattle.tile_import.specs.declared.error.ImportError.{ImportError}
use Rattle.tile_import.specs.declared.error.ImportError.TheVariants.{Store}

-- how many tiles there are beside a set that is given, or the refusal
abbrev pub count_in : Result (Held × ℕ) ImportError → Result ℕ ImportError
count_in (Ok r) = Ok r.1
count_in (Err e) = Err e

-- The answer is that of the set and of the bytes that are told; of a backend that tells nothing, that of something that
-- an archive may give.
pub record IsPutAnswer (most : ℕ) (told : Option (List ℕ)) (s : State) (answer : Result ℕ ImportError) : Type 0 where
  pub found : Result TileSet ImportError
  pub is_archive : IfSome told (λ b. IsRead most b found)
  pub answers : Answers (found_due s found) answer

-- A set with as many tiles as are answered over its own: those of the archive, where it tells its bytes.
pub record IsPutOver (told : Option (List ℕ)) (base next : Held) (n : ℕ) : Type 0 where
  pub tiles : TileSet
  pub are : IfSome told (λ b. HasTilesOf b tiles)
  pub on_board : AreOnBoard tiles
  pub count : n ≡ len tiles
  pub may : may_put base.state tiles ≡ None
  pub is : next ≡ tiles_put base tiles

-- why: the archive can't be read, or the set refuses the tiles; no store is asked
abbrev pub PutCauses : ℕ → ℕ → ℕ → Result ℕ ImportError → Type 0
PutCauses most before now (Ok n) = n ≤ most
PutCauses most before now (Err (Store e)) = tests.is_free e ≡ false
PutCauses most before now (Err e) = ReadCauses most before now e
