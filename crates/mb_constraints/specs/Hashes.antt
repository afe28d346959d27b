-- Stored digests of contents.
use Rattle.std.specs.Prelude.{ℕ, List, Option, None, map}
use Rattle.mb_constraints.specs.Common.{Blob, bytes_eq, Cell, cell_at, digest, first_refused, FlatWithHash, HashAlgorithm, IncorrectTileHash, MbtError, MbtType, Normalized, option_or, Text}
use Rattle.mb_constraints.specs.Common.{to_ascii_uppercase, unless}
use Rattle.mb_lists.specs.declared.entries.Content.{Content}
use Rattle.mb_tables.specs.declared.kind.NormalizedSchema.TheVariants.{Hash}

-- the refusal of a stored text that isn't the digest of bytes, ASCII case aside
abbrev pub wrong_digest : HashAlgorithm → List ℕ → List ℕ → Option MbtError
wrong_digest a bytes stored = unless (bytes_eq (map to_ascii_uppercase stored) (digest a bytes)) (IncorrectTileHash (map to_ascii_uppercase stored) (digest a bytes))

-- null contents have no digest, and a null one is none
abbrev pub wrong_hash : HashAlgorithm → Cell → Cell → Option MbtError
wrong_hash a (Blob bytes) (Text stored) = wrong_digest a bytes stored
wrong_hash a _ _ = None

-- rows that have the digest of their contents
abbrev pub wrong_tile_hash : MbtType → HashAlgorithm → List Cell → Option MbtError
wrong_tile_hash FlatWithHash a row = wrong_hash a (cell_at 3 row) (cell_at 4 row)
wrong_tile_hash _ a row = None

-- contents whose id is their digest, whether a tile names them or not
abbrev pub wrong_content_hash : MbtType → HashAlgorithm → List Cell → Option MbtError
wrong_content_hash (Normalized view Hash) a row = wrong_hash a (cell_at 1 row) (cell_at 0 row)
wrong_content_hash _ a row = None

-- the refusal of contents whose id isn't their digest
abbrev pub wrong_id : MbtType → HashAlgorithm → Content → Option MbtError
wrong_id (Normalized view Hash) a c = wrong_hash a c.cell c.id
wrong_id _ a c = None

-- a stored digest is wrong: the first one. No layout has both kinds of rows
abbrev pub hash_wrong : MbtType → HashAlgorithm → List (List Cell) → List (List Cell) → Option MbtError
hash_wrong layout a contents rows = option_or (first_refused (wrong_tile_hash layout a) rows) (first_refused (wrong_content_hash layout a) contents)
