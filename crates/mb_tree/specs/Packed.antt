-- A set with the tiles of files, and what its tables hold then.
use Rattle.std.specs.Prelude.{◌≡◌, ◌⊎◌, ℕ, codes, Bool, true, List, [], ◌∷◌, Option, Some, None, Result, Ok}
use Rattle.mb_tree.specs.Common.{entries, fresh, Held, is_free, MakesChanges, MbtError, NewTile, place_in, State, state_of, Tables, then, with_name, with_tile}
use Rattle.mb_load.specs.Committed.{IsCommitted}
use Rattle.mb_metadata.specs.NameEdits.{held_edited}
use Rattle.mb_metadata.specs.Updating.{update_edits}
use Rattle.mb_metadata.specs.declared.zoom_choice.UpdateZoomType.TheVariants.{Reset}
use Rattle.mb_tree.specs.Base.{base_of, made}
use Rattle.mb_tree.specs.Files.{File, Files, paths_in, paths_of}
use Rattle.mb_tree.specs.Format.{format_word}
use Rattle.mb_tree.specs.Packing.{batch_of, first_format, may_pack, packing}
use Rattle.mb_tree.specs.Wanting.{Gives}
use Rattle.mb_tree.specs.declared.format.FileFormat.{FileFormat}
use Rattle.mb_tree.specs.declared.scheme.TileScheme.{TileScheme}

-- each tile of a batch is put
abbrev pub tiles_in : Held → List NewTile → Held
tiles_in h [] = h
tiles_in h (t ∷ ts) = tiles_in (with_tile h (place_in t) t.tile_data) ts

-- a format is named, if there is one
abbrev pub with_format : Held → Option FileFormat → Held
with_format h (Some format) = with_name h (codes "format") (Some (format_word format))
with_format h None = h

-- the zooms are named as an update does that resets them
abbrev pub with_zooms : Held → Held
with_zooms h = held_edited h (update_edits Reset h.state)

-- a set with the tiles of files, their format, and the zooms of all tiles that it has then
unfoldable pub held_packed : TileScheme → List File → Held → Held
held_packed scheme files h = with_zooms (with_format (tiles_in h (batch_of scheme files)) (first_format (paths_in files)))

-- the same as a state
abbrev pub packed : TileScheme → List File → State → State
packed scheme files s = (held_packed scheme files (fresh s)).state

-- the answer that is due of what a store and a tree tell, and of some tables and paths that their answers could be
-- of, where they tell nothing
pub record IsPacking (scheme : TileScheme) (shows : Bool) (files : Files) (tells : Bool) (told : Tables) (answer : Result (Unit {0}) MbtError) : Type 0 where
  pub paths : List (List ℕ)
  pub listed : shows ≡ true → paths ≡ paths_of files
  pub tables : Tables
  pub is_told : tells ≡ true → tables ≡ told
  pub answers : Gives (then (base_of tables) (packing scheme paths)) answer

-- no test refused the files, the tables load again with their tiles, and one commit made of the tables that were there,
-- or that were made for it, exactly what the set with these asks for
pub record IsPacked (scheme : TileScheme) (shows : Bool) (told : Files) (old new : Tables) : Type 0 where
  pub files : List File
  pub read : shows ≡ true → files ≡ entries told
  pub base : State
  pub from : base_of old ≡ Ok base
  pub tested : may_pack scheme (paths_in files) base ≡ None
  pub again : state_of new ≡ Ok (packed scheme files base)
  pub committed : IsCommitted (held_packed scheme files (fresh base)) (made old) new
  pub commits : MakesChanges (held_packed scheme files (fresh base)) (made old) new

-- a refusal leaves the tables. Want of memory and a fault of the store may leave those made that
-- nothing was described of
abbrev pub IsLeft : Tables → Tables → MbtError → Type 0
IsLeft old new e = (new ≡ old) ⊎ ((is_free e ≡ true) × (new ≡ made old))
