-- What the crate's specs and sources name of the crates below, passed on from one place. Declares nothing.
pub use Rattle.mb_lists.specs.Metadata.{Names, text_at, text_of}
pub use Rattle.mb_load.specs.Begun.{IsBegun}
pub use Rattle.mb_load.specs.StateOf.{state_of}
pub use Rattle.mb_loaded.specs.State.{State}
pub use Rattle.mb_store.specs.Kept.{FaultsCounted, Keeps, ReadsOnly}
pub use Rattle.mb_tables.specs.Refusals.{Answers, is_free}
pub use Rattle.mb_tables.specs.Table.{table_eq, Tables}
pub use Rattle.mb_tables.specs.Tiles.{cell_at, TileSet}
pub use Rattle.mb_tables.specs.declared.error.MbtError.{MbtError}
pub use Rattle.serde_json.specs.Data.{array, Data, member, Members, no_members, null, number, object, put, string, unsigned}
pub use Rattle.serde_json.specs.View.{items_of, members_view, view}
pub use Rattle.serde_json.specs.Written.{compact_text, has_float}
pub use Rattle.std.specs.Cmp.Lexicographic.{slice_cmp}
pub use Rattle.std.specs.FinMap.{contains_key, entries, FinMap, from_entries, get, insert, remove}
pub use Rattle.std.specs.Fmt.{decimal, signed_decimal}
pub use Rattle.std.specs.Ordering.{nat_cmp}
pub use Rattle.std.specs.Str.{all_ascii_digits, bytes_eq}
pub use Rattle.tile_json.specs.LayerReading.{layers_of}
pub use Rattle.tile_json.specs.Reading.{whole_data}
pub use Rattle.tile_json.specs.declared.document.TileJson.{TileJson}
pub use Rattle.tile_json.specs.declared.extent.TileBounds.{TileBounds}
pub use Rattle.tile_json.specs.declared.extent.TileCenter.{TileCenter}
pub use Rattle.tile_json.specs.declared.layer.VectorLayer.{VectorLayer}
