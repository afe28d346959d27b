-- The commands that words are.
use Rattle.std.specs.Prelude.{◌≡◌, ℕ, ◌≤◌, ◌<◌, ◌&&◌, List, [], ◌∷◌, nat_eq, if◌then◌else◌, Option, Some, None, IfSome, codes, refl}
use Rattle.tileset_script.specs.Common.{bytes_eq, number_to, option_and_then}
use Rattle.tileset_script.specs.LeafEntries.{IsLeafEntries, leaf_entries_of}
use Rattle.tileset_script.specs.declared.words.Command.{Command}
use Rattle.tileset_script.specs.declared.words.Command.TheVariants.{ConvertHex, ConvertFile, Bulk}

-- 0 to 100,000 tiles, 1 to 1,000,000 ids with the same contents, and maybe how many entries a leaf may have
abbrev pub bulk_command : List ℕ → List ℕ → Option ℕ → Option Command
bulk_command tiles repeat leaf = option_and_then (λ n. option_and_then (λ k. if nat_eq k 0 then None else Some (Bulk n k leaf)) (number_to 1000000 repeat)) (number_to 100000 tiles)

abbrev pub command : List (List ℕ) → Option Command
command [] = None
command (word ∷ []) = None
command (first ∷ second ∷ []) = if bytes_eq first (codes "convert") && bytes_eq second (codes "hex") then Some ConvertHex else None
command (first ∷ second ∷ third ∷ []) = if bytes_eq first (codes "bulk") then bulk_command second third None
    else (if bytes_eq first (codes "convert") && bytes_eq second (codes "file") then Some ConvertFile else None)
command (first ∷ second ∷ third ∷ fourth ∷ []) = if bytes_eq first (codes "bulk") then option_and_then (λ l. bulk_command second third (Some l)) (leaf_entries_of fourth) else None
command (first ∷ second ∷ third ∷ fourth ∷ fifth ∷ words) = None

-- the numbers of a command are within their limits
abbrev pub IsCommand : Command → Type 0
IsCommand ConvertHex = Unit {0}
IsCommand ConvertFile = Unit {0}
IsCommand (Bulk n k leaf) = (n ≤ 100000) × (0 < k) × (k ≤ 1000000) × IfSome leaf IsLeafEntries

pub convert_hex : command (codes "convert" ∷ codes "hex" ∷ []) ≡ Some ConvertHex
convert_hex = refl

pub convert_file : command (codes "convert" ∷ codes "file" ∷ codes "world.pmtiles" ∷ []) ≡ Some ConvertFile
convert_file = refl

pub file_without_path : command (codes "convert" ∷ codes "file" ∷ []) ≡ None
file_without_path = refl

pub convert_alone : command (codes "convert" ∷ []) ≡ None
convert_alone = refl

pub bulk_of_numbers : command (codes "bulk" ∷ codes "4063" ∷ codes "1" ∷ []) ≡ Some (Bulk 4063 1 None)
bulk_of_numbers = refl

pub bulk_with_leaves : command (codes "bulk" ∷ codes "4064" ∷ codes "1" ∷ codes "16" ∷ []) ≡ Some (Bulk 4064 1 (Some 16))
bulk_with_leaves = refl

pub leaves_too_short : command (codes "bulk" ∷ codes "4064" ∷ codes "1" ∷ codes "15" ∷ []) ≡ None
leaves_too_short = refl

pub bulk_too_large : command (codes "bulk" ∷ codes "100001" ∷ codes "1" ∷ []) ≡ None
bulk_too_large = refl

pub bulk_repeats_nothing : command (codes "bulk" ∷ codes "1" ∷ codes "0" ∷ []) ≡ None
bulk_repeats_nothing = refl
