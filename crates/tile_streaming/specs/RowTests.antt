-- What the tests of loading find in rows of contents and of tiles, and which finding refuses the set.
use Rattle.std.specs.Prelude.{◌≡◌, ◌&&◌, cond, List, Option, Some, None, Result, Ok, Err}
use Rattle.tile_streaming.specs.Common.{algorithm_of, algorithm_unknown, Cell, first_refused, has_tile_kinds, HashAlgorithm, InvalidDataFormat, list_all, MbtError, MbtType, name_kind_wrong, name_twice, names_of, option_or}
use Rattle.tile_streaming.specs.Common.{cell_at, is_id, reference_missing, then, tile_bad, wrong_content_hash, wrong_tile_hash}
use Rattle.tile_streaming.specs.declared.names.Named.{Named}
use Rattle.tile_streaming.specs.declared.row_tests.Findings.{Findings}

-- Whether all cells are of their kinds, the first bad row of a tile, the first whose contents aren't there, and the
-- first wrong digest: of contents, else of rows of tiles, since no layout has both.
pub record AreFindings (layout : MbtType) (a : HashAlgorithm) (contents rows : List (List Cell)) (f : Findings) : Type 0 where
  pub kinds : f.kinds ≡ (list_all (λ row. is_id layout (cell_at 0 row)) contents && list_all (has_tile_kinds layout) rows)
  pub bad : f.bad ≡ tile_bad layout contents rows
  pub missing : f.missing ≡ reference_missing layout contents rows
  pub hash : f.hash ≡ option_or (first_refused (wrong_content_hash layout a) contents) (first_refused (wrong_tile_hash layout a) rows)

-- the refusal of the tests over metadata
abbrev pub names_refused : List (List Cell) → Option MbtError
names_refused metadata = option_or (option_or (name_kind_wrong metadata) (name_twice metadata)) (algorithm_unknown metadata)

-- the names of rows of metadata, and the algorithm that they name
pub record IsNamedBy (metadata : List (List Cell)) (n : Named) : Type 0 where
  pub algorithm : n.algorithm ≡ algorithm_of metadata
  pub names : n.names ≡ names_of metadata

-- a refusal that was found, or a value
abbrev pub unless_found : {A : Type 0} → Option MbtError → A → Result A MbtError
unless_found (Some refusal) x = Err refusal
unless_found None x = Ok x

-- what metadata names, unless it is refused: cells that aren't of their kinds come before the metadata, and it before a
-- bad row, contents that are missing and a digest
abbrev pub settled : Findings → Result Named MbtError → Result Named MbtError
settled f named = cond f.kinds (then named (unless_found (option_or f.bad (option_or f.missing f.hash)))) (Err InvalidDataFormat)
