-- When bytes are a well-formed archive with given options.
use Rattle.std.specs.Prelude.{◌≡◌, ◌≢◌, ◌⊎◌, ℕ, ◌+◌, ◌-◌, ◌≤◌, Bool, List, [], ◌∷◌, ◌++◌, length, replicate, sum_by, flat_map, Ok, Some, nat_eq, filter, not, if◌then◌else◌}
use Rattle.pm_format.specs.Common.{MAX_TILE_ID}
use Rattle.pm_format.specs.declared.compression.Compression.TheVariants as compression
use Rattle.pm_format.specs.declared.header.Header.{Header}
use Rattle.pm_format.specs.declared.header.TheConstants.{HEADER_SIZE, ROOT_END, MAX_ROOT}
use Rattle.pm_format.specs.Directory.{Entry, entry, dir_of, dir_bytes}
use Rattle.pm_format.specs.Header.{header_bytes}
use Rattle.pm_format.specs.Opened.{opened}
use Rattle.pm_format.specs.Options.{Options}
use Rattle.pm_format.specs.Sound.{SoundDirectory}

-- what the bytes consist of: the entries of the root, of each directory of tile entries below it and of each upper
-- directory between them, and the contents in their order
pub record Parts : Type 0 where
  pub root : List Entry
  pub leaves : List (List Entry)
  pub uppers : List (List Entry)
  pub contents : List (List ℕ)

-- the directories below the root, in the order of the leaf part
abbrev pub below_root : Parts → List (List Entry)
below_root p = p.leaves ++ p.uppers

-- the entries of directories, one behind another
abbrev pub joined : List (List Entry) → List Entry
joined ls = flat_map (λ l. l) ls

-- the tile entries of all directories
abbrev pub tile_entries : Parts → List Entry
tile_entries p = filter (λ e. not (nat_eq e.run_length 0)) p.root ++ joined p.leaves

abbrev pub data_part : Parts → List ℕ
data_part p = flat_map (λ c. c) p.contents

abbrev pub leaf_part : Parts → List ℕ
leaf_part p = flat_map dir_bytes (below_root p)

-- the header of the parts, with the options: the root behind it, the metadata at the end of the front, the data behind
-- them, then the directories below the root
abbrev pub header_of : Options → Bool → Parts → Header
header_of o clustered p = record {
  version = 3;
  root_offset = HEADER_SIZE;
  root_length = length (dir_bytes p.root);
  metadata_offset = ROOT_END;
  metadata_length = length o.metadata;
  leaf_offset = if nat_eq (length p.leaves) 0 then 0 else (ROOT_END + length o.metadata + length (data_part p));
  leaf_length = length (leaf_part p);
  data_offset = ROOT_END + length o.metadata;
  data_length = length (data_part p);
  n_addressed_tiles = sum_by (λ e. e.run_length) (tile_entries p);
  n_tile_entries = length (tile_entries p);
  n_tile_contents = length p.contents;
  clustered = clustered;
  internal_compression = compression.None;
  tile_compression = o.tile_compression;
  tile_type = o.tile_type;
  min_zoom = o.min_zoom;
  max_zoom = o.max_zoom;
  min_longitude = o.min_longitude;
  min_latitude = o.min_latitude;
  max_longitude = o.max_longitude;
  max_latitude = o.max_latitude;
  center_zoom = o.center_zoom;
  center_longitude = o.center_longitude;
  center_latitude = o.center_latitude;
}

abbrev pub AllTiles : List Entry → Type 0
AllTiles [] = Unit {0}
AllTiles (e ∷ es) = (e.run_length ≢ 0) × AllTiles es

abbrev pub AllLeaves : List (List Entry) → Type 0
AllLeaves [] = Unit {0}
AllLeaves (l ∷ ls) = (l ≢ []) × AllTiles l × AllLeaves ls

-- no directory is empty
abbrev pub AllSome : List (List Entry) → Type 0
AllSome [] = Unit {0}
AllSome (l ∷ ls) = (l ≢ []) × AllSome ls

-- no directory has more entries than this
abbrev pub AllAtMost : ℕ → List (List Entry) → Type 0
AllAtMost most [] = Unit {0}
AllAtMost most (l ∷ ls) = (length l ≤ most) × AllAtMost most ls

abbrev pub first_id : List Entry → ℕ
first_id [] = 0
first_id (e ∷ es) = e.tile_id

-- an entry for each directory, these lying one behind another from a place on
abbrev pub root_of : ℕ → List (List Entry) → List Entry
root_of place [] = []
root_of place (l ∷ ls) = let n = length (dir_bytes l) in entry (first_id l) place n 0 ∷ root_of (place + n) ls

-- the range of an entry is that of a content, the contents lying one behind another from a place on
abbrev pub InContents : List (List ℕ) → ℕ → Entry → Type 0
InContents [] at e = ⊥
InContents (c ∷ cs) at e = ((e.offset ≡ at) × (e.length ≡ length c)) ⊎ InContents cs (at + length c) e

abbrev pub AllIn : List (List ℕ) → List Entry → Type 0
AllIn cs [] = Unit {0}
AllIn cs (e ∷ es) = InContents cs 0 e × AllIn cs es

-- no content is empty, and each is the range of a tile entry
abbrev pub IsNamed : List Entry → ℕ → ℕ → Type 0
IsNamed [] at len = ⊥
IsNamed (e ∷ es) at len = ((e.offset ≡ at) × (e.length ≡ len)) ⊎ IsNamed es at len

abbrev pub AllNamed : List Entry → ℕ → List (List ℕ) → Type 0
AllNamed es at [] = Unit {0}
AllNamed es at (c ∷ cs) = (c ≢ []) × IsNamed es at (length c) × AllNamed es (at + length c) cs

-- each directory is read from its bytes
abbrev pub AllRead : List (List Entry) → Type 0
AllRead [] = Unit {0}
AllRead (l ∷ ls) = (dir_of (dir_bytes l) ≡ Some l) × AllRead ls

-- the root has tile entries alone
pub record IsFlat (p : Parts) : Type 0 where
  pub tiles : AllTiles p.root
  pub leaves : p.leaves ≡ []
  pub uppers : p.uppers ≡ []

-- the root's entries name directories of tile entries
pub record NamesLeaves (p : Parts) : Type 0 where
  pub root : p.root ≡ root_of 0 p.leaves
  pub leaves : AllLeaves p.leaves
  pub uppers : p.uppers ≡ []

-- the root's entries name upper directories, which lie behind the others and whose entries name them
pub record NamesUppers (p : Parts) : Type 0 where
  pub root : p.root ≡ root_of (length (flat_map dir_bytes p.leaves)) p.uppers
  pub named : joined p.uppers ≡ root_of 0 p.leaves
  pub leaves : AllLeaves p.leaves
  pub uppers : AllSome p.uppers

-- the header, the root, and zeros up to the end of the front
abbrev pub front_bytes : Options → Bool → Parts → List ℕ
front_bytes o clustered p = header_bytes (header_of o clustered p) ++ (dir_bytes p.root ++ replicate (MAX_ROOT - length (dir_bytes p.root)) 0)

-- then the metadata, the contents and the directories below the root
unfoldable pub archive_bytes : Options → Bool → Parts → List ℕ
archive_bytes o clustered p = front_bytes o clustered p ++ (o.metadata ++ (data_part p ++ leaf_part p))

-- the bytes consist of these parts
pub record ConsistsOf (b : List ℕ) (o : Options) (clustered : Bool) (p : Parts) : Type 0 where
  pub bytes : b ≡ archive_bytes o clustered p
  pub small : length (dir_bytes p.root) ≤ MAX_ROOT
  pub opens : opened b ≡ Ok (header_of o clustered p, p.root)
  pub sound : SoundDirectory 6 (header_of o clustered p) b 0 (MAX_TILE_ID + 1) p.root
  pub kinds : IsFlat p ⊎ (NamesLeaves p ⊎ NamesUppers p)
  pub bounded : AllAtMost o.max_leaf_entries p.leaves
  pub read : AllRead (p.root ∷ below_root p)
  pub ranges : AllIn p.contents (tile_entries p)
  pub named : AllNamed (tile_entries p) 0 p.contents

-- the bytes are a well-formed archive, its contents in the order of ids or not
abbrev pub WellFormed : List ℕ → Options → Bool → Type 0
WellFormed b o clustered = (p : Parts) × ConsistsOf b o clustered p
