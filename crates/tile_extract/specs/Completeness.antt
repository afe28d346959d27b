-- Archives of which a part is extracted, where memory suffices and nothing fails.
use Rattle.std.specs.Prelude.{◌≡◌, ◌<◌, ◌≤◌, ◌^◌, ℕ, List, [], Some, Result, Ok, Err}
use Rattle.tile_extract.specs.Common.{archive_map, ArchiveFits, ArchivePlaces, AreApart, Coord, data_end, entries, FinMap, get, IsUtf8, metadata_read, nat_cmp, Rose, Sound}
use Rattle.tile_extract.specs.Cut.{subtree}
use Rattle.tile_extract.specs.Extract.{HasZooms, PartAnswers, PartCauses, part_count}
use Rattle.tile_extract.specs.Part.{cut, part_options}
use Rattle.tile_extract.specs.Subtree.{Answers, Causes}
use Rattle.tile_extract.specs.declared.error.ExtractError.{ExtractError}
use Rattle.tile_extract.specs.declared.error.ExtractError.TheVariants.{OutOfMemory}
use Rattle.tile_extract.specs.declared.part.TilePart.{TilePart}

-- The archive is sound and its metadata a text that lies in it, the zooms are valid, there are no more tiles than the
-- limit, and of the new archive neither the data nor the whole ends past u64 and no directory has 2^32 bytes or more.
pub record PartCanExtract (b : List ℕ) (part : TilePart) (most : ℕ) : Type 0 where
  pub zoom : HasZooms part
  pub sound : Sound b
  pub text : List ℕ
  pub metadata : metadata_read b sound.found.0 ≡ Ok text
  pub utf8 : IsUtf8 text
  pub few : part_count b sound.found part ≤ most
  pub tiles : FinMap nat_cmp (List ℕ)
  pub are : (id : ℕ) → get tiles id ≡ cut (archive_map b) part id
  pub ends : data_end (part_options sound.found.0 text part) (entries tiles) < 2 ^ 64
  pub fits : ArchiveFits (part_options sound.found.0 text part) (entries tiles)

-- the archive is there, or memory ran out
abbrev pub IsDoneOrWanting : Result ArchivePlaces ExtractError → Type 0
IsDoneOrWanting (Ok p) = Unit {0}
IsDoneOrWanting (Err OutOfMemory) = Unit {0}
IsDoneOrWanting (Err e) = ⊥

-- An extraction to an empty medium that tells its bytes, over a source that tells its own, ends so where no count of
-- faults rose. The intervals are in order and apart.
abbrev pub PartEndsWell : List ℕ → TilePart → ℕ → Result ArchivePlaces ExtractError → Type 0
PartEndsWell b part most result =
    (before now old new : ℕ) → AreApart 0 part.intervals → PartCanExtract b part most → PartCauses part most (Some []) before now old new result → PartAnswers (Some []) b part most result
    → (Rose before now → ⊥) → (Rose old new → ⊥) → IsDoneOrWanting result

-- the same of a tile and its descendants
abbrev pub CanExtract : List ℕ → Coord → ℕ → ℕ → Type 0
CanExtract b c m most = PartCanExtract b (subtree c m) most

abbrev pub EndsWell : List ℕ → Coord → ℕ → ℕ → Result ArchivePlaces ExtractError → Type 0
EndsWell b c m most result =
    (before now old new : ℕ) → CanExtract b c m most → Causes c m most (Some []) before now old new result → Answers (Some []) b c m most result → (Rose before now → ⊥) → (Rose old new → ⊥) → IsDoneOrWanting result
