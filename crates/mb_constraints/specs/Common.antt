-- What the crate's specs and sources name of the crates below, passed on from one place. Declares nothing.
pub use Rattle.mb_lists.specs.FromRows.{AreIndexed, rows_kept}
pub use Rattle.mb_tables.specs.Cell.{cell_eq, is_null}
pub use Rattle.mb_tables.specs.Kind.{contents_of, tile_table}
pub use Rattle.mb_tables.specs.Refusals.{first_refused, Tests, unless}
pub use Rattle.mb_tables.specs.Tiles.{cell_at, content_of, Place, place_cmp, place_of, tile_of}
pub use Rattle.mb_tables.specs.declared.cell.Cell.{Cell}
pub use Rattle.mb_tables.specs.declared.cell.Cell.TheVariants.{Blob, Int, Text}
pub use Rattle.mb_tables.specs.declared.error.MbtError.{MbtError}
pub use Rattle.mb_tables.specs.declared.error.MbtError.TheVariants.{CannotDiffFileWithoutHash, DiffingDiffFile, IncorrectTileHash, InvalidDataFormat, InvalidTileIndex, MissingTileReference}
pub use Rattle.mb_tables.specs.declared.error.MbtError.TheVariants.{NoUniquenessConstraint, PatchFileHasNoBeforeHash, PatchFileHasNoHashes, UnsupportedHashAlgorithm}
pub use Rattle.mb_tables.specs.declared.kind.MbtType.{MbtType}
pub use Rattle.mb_tables.specs.declared.kind.MbtType.TheVariants.{Cache, FlatWithHash, Normalized}
pub use Rattle.std.specs.Char.{to_ascii_lowercase, to_ascii_uppercase}
pub use Rattle.std.specs.List.{list_any}
pub use Rattle.std.specs.Option.{option_copied, option_or}
pub use Rattle.std.specs.Str.{bytes_eq}
pub use Rattle.tile_hash.specs.Digest.{digest, name_of}
pub use Rattle.tile_hash.specs.declared.algorithm.HashAlgorithm.{HashAlgorithm}
