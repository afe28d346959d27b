-- What an archive has for an id: through the root and at most six leaves to the contents of a tile.
use Rattle.std.specs.Prelude.{ℕ, zero, suc, ◌+◌, ◌^◌, List, [], ◌∷◌, length, take, drop, nat_le, nat_lt, nat_eq, ◌&&◌, if◌then◌else◌, true, false, Option, Some, None, Result, Ok, Err}
use Rattle.pm_format.specs.Common.{MAX_TILE_ID}
use Rattle.pm_format.specs.declared.error.PmtError.{PmtError}
use Rattle.pm_format.specs.declared.error.PmtError.TheVariants as errors
use Rattle.pm_format.specs.declared.error.ReadCause.TheVariants as causes
use Rattle.pm_format.specs.declared.header.Header.{Header}
use Rattle.pm_format.specs.Directory.{Entry, dir_of}
use Rattle.pm_format.specs.Opened.{Opened, opened}
use Rattle.pm_format.specs.Scan.{scan}

-- a range of the bytes, where it lies in them and its end fits u64
abbrev pub range_of : List ℕ → ℕ → ℕ → Option (List ℕ)
range_of b at len = if nat_le (at + len) (length b) && nat_lt (at + len) (2 ^ 64) then Some (take len (drop at b)) else None

-- the directory at a place of the leaf part
abbrev pub directory_at : Header → List ℕ → ℕ → ℕ → Result (List Entry) PmtError
directory_at h b offset len = elim (range_of b (h.leaf_offset + offset) len) [
  | None ↦ Err (errors.Reading causes.PastEnd)
  | Some bytes ↦ elim (dir_of bytes) [ None ↦ Err errors.InvalidEntry | Some es ↦ Ok es ]
]

-- the directory that a leaf entry leads to
abbrev pub leaf_of : Header → List ℕ → Entry → Result (List Entry) PmtError
leaf_of h b e = directory_at h b e.offset e.length

-- the contents that a tile entry leads to
abbrev pub data_of : Header → List ℕ → Entry → Result (Option (List ℕ)) PmtError
data_of h b e = elim (range_of b (h.data_offset + e.offset) e.length) [ None ↦ Err (errors.Reading causes.PastEnd) | Some bytes ↦ Ok (Some bytes) ]

-- what a found entry leads to: a leaf, a tile, or nothing where none was found
abbrev pub led : {A : Type 0} → (Entry → A) → (Entry → A) → A → Option Entry → A
led leaf tile none None = none
led leaf tile none (Some e) = elim (nat_eq e.run_length 0) [ true ↦ leaf e | false ↦ tile e ]

-- where a look-up ends: at a tile entry, at none, or at a refusal; and how many leaves it read
pub record Reached : Type 0 where
  pub entry : Result (Option Entry) PmtError
  pub leaves : ℕ

-- no leaf is read any more
abbrev pub ends_at : Result (Option Entry) PmtError → Reached
ends_at x = record { entry = x; leaves = 0 }

-- a leaf was read before
abbrev pub leaf_more : Reached → Reached
leaf_more r = record { entry = r.entry; leaves = suc r.leaves }

-- through a leaf: one that is there is read, whether it decodes or not
abbrev pub through : (List Entry → Reached) → Result (List Entry) PmtError → Reached
through next (Ok leaf) = leaf_more (next leaf)
through next (Err errors.InvalidEntry) = leaf_more (ends_at (Err errors.InvalidEntry))
through next (Err e) = ends_at (Err e)

-- from what a directory has for an id to a tile entry, by at most so many leaves
unfoldable pub reached : ℕ → Header → List ℕ → ℕ → Option Entry → Reached
reached zero h b t found = led (λ e. ends_at (Ok None)) (λ e. ends_at (Ok (Some e))) (ends_at (Ok None)) found
reached (suc n) h b t found = led (λ e. through (λ leaf. reached n h b t (scan leaf t)) (leaf_of h b e)) (λ e. ends_at (Ok (Some e))) (ends_at (Ok None)) found

-- the entry that is reached, and the leaves that are read on the way
abbrev pub entry_from : ℕ → Header → List ℕ → ℕ → Option Entry → Result (Option Entry) PmtError
entry_from n h b t found = (reached n h b t found).entry

abbrev pub hops_from : ℕ → Header → List ℕ → ℕ → Option Entry → ℕ
hops_from n h b t found = (reached n h b t found).leaves

-- the contents of the entry that was reached
abbrev pub data_behind : Header → List ℕ → Result (Option Entry) PmtError → Result (Option (List ℕ)) PmtError
data_behind h b (Ok None) = Ok None
data_behind h b (Ok (Some e)) = data_of h b e
data_behind h b (Err r) = Err r

-- the tile at an id, from a directory and by at most so many leaves
unfoldable pub tile_by : ℕ → Header → List ℕ → List Entry → ℕ → Result (Option (List ℕ)) PmtError
tile_by n h b es t = data_behind h b (entry_from n h b t (scan es t))

-- how many leaves that look-up reads
unfoldable pub hops_by : ℕ → Header → List ℕ → List Entry → ℕ → ℕ
hops_by n h b es t = hops_from n h b t (scan es t)

-- in bytes that open; others have no tile
abbrev pub tile_opened : List ℕ → ℕ → Result Opened PmtError → Result (Option (List ℕ)) PmtError
tile_opened b t (Err e) = Ok None
tile_opened b t (Ok o) = tile_by 6 o.0 b o.1 t

abbrev pub archive_tile : List ℕ → ℕ → Result (Option (List ℕ)) PmtError
archive_tile b t = tile_opened b t (opened b)

abbrev pub hops_opened : List ℕ → ℕ → Result Opened PmtError → ℕ
hops_opened b t (Err e) = 0
hops_opened b t (Ok o) = hops_by 6 o.0 b o.1 t

abbrev pub hops : List ℕ → ℕ → ℕ
hops b t = hops_opened b t (opened b)

-- at least one byte, or nothing
abbrev pub filled : Result (Option (List ℕ)) PmtError → Option (List ℕ)
filled (Err e) = None
filled (Ok None) = None
filled (Ok (Some [])) = None
filled (Ok (Some (byte ∷ bytes))) = Some (byte ∷ bytes)

-- the tiles of at least one byte, by their ids
abbrev pub archive_map : List ℕ → ℕ → Option (List ℕ)
archive_map b t = if nat_le t MAX_TILE_ID then filled (archive_tile b t) else None
