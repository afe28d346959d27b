-- What the crate's specs and sources name of the crates below, passed on from one place. Declares nothing.
pub use Rattle.mb_edit.specs.Put.{state_put, tiles_put}
pub use Rattle.mb_lists.specs.Entries.{place_at}
pub use Rattle.mb_loaded.specs.State.{State}
pub use Rattle.mb_tables.specs.Refusals.{first_refusal, first_refused, is_free, Tests, unless}
pub use Rattle.mb_tables.specs.Table.{Tables}
pub use Rattle.mb_tables.specs.Tiles.{Place, place_cmp, TileSet}
pub use Rattle.mb_tables.specs.declared.cell.Cell.TheVariants.{Int}
pub use Rattle.mb_tables.specs.declared.error.MbtError.TheVariants.{DuplicateValues, InvalidTileIndex, UnsupportedCopyOperation}
pub use Rattle.std.specs.FinMap.{contains_key, empty, entries, from_entries, get, get-empty, get-from_entries, insert}
