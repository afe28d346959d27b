-- What the crate's specs and sources name of the crates below, passed on from one place. Declares nothing.
pub use Rattle.line_words.specs.Number.{number_to}
unfoldable pub use Rattle.line_words.specs.Parting.{parted}
pub use Rattle.line_words.specs.Parting.{words_of}
pub use Rattle.mb_check.specs.declared.tile_counts.Summary.{Summary}
pub use Rattle.mb_check.specs.declared.validation.AggHashType.{AggHashType}
pub use Rattle.mb_check.specs.declared.zoom_info.ZoomInfo.{ZoomInfo}
pub use Rattle.mb_copy.specs.Target.{layout_of_cli, made_type, wanted_type}
pub use Rattle.mb_copy.specs.declared.copier.MbtilesCopier.{MbtilesCopier}
pub use Rattle.mb_copy.specs.declared.copy_type.CopyType.{CopyType}
pub use Rattle.mb_copy.specs.declared.tile_box.TileBox.{TileBox}
pub use Rattle.mb_insert.specs.declared.mode.CopyDuplicateMode.{CopyDuplicateMode}
pub use Rattle.mb_lists.specs.Entries.{text_cell}
pub use Rattle.mb_lists.specs.Metadata.{Names}
pub use Rattle.mb_metadata.specs.LayerJson.{as_it_is, layers_data, put_some, with_entries, zoom_data}
pub use Rattle.mb_tables.specs.Kind.{layout_words}
pub use Rattle.mb_tables.specs.declared.cell.Cell.{Cell}
pub use Rattle.mb_tables.specs.declared.cell.Cell.TheVariants.{Text}
pub use Rattle.mb_tables.specs.declared.kind.MbtTypeCli.{MbtTypeCli}
pub use Rattle.mb_tree.specs.declared.scheme.TileScheme.{TileScheme}
pub use Rattle.pm_format.specs.declared.compression.Compression.{Compression}
pub use Rattle.pm_format.specs.declared.header.Header.{Header}
pub use Rattle.pm_format.specs.declared.tile_type.TileType.{TileType}
pub use Rattle.serde_json.specs.Data.{array, Data, Members, no_members, null, object, put, string}
pub use Rattle.serde_json.specs.Read.{read}
pub use Rattle.serde_json.specs.View.{items_of, members_view, view}
pub use Rattle.set_options.specs.ArchiveJson.{IsTextOf}
pub use Rattle.set_options.specs.DegreesText.{degrees_text}
pub use Rattle.std.specs.FinMap.{entries}
pub use Rattle.std.specs.Fmt.{decimal}
pub use Rattle.std.specs.Str.{bytes_eq}
pub use Rattle.tile_extract.specs.declared.error.ExtractError.{ExtractError}
pub use Rattle.tile_extract.specs.declared.zoom_box.ZoomBox.{ZoomBox}
pub use Rattle.tile_hash.specs.declared.algorithm.HashAlgorithm.{HashAlgorithm}
pub use Rattle.tile_json.specs.declared.document.TileJson.{TileJson}
pub use Rattle.tile_json.specs.declared.extent.TileBounds.{TileBounds}
pub use Rattle.tile_json.specs.declared.extent.TileCenter.{TileCenter}
pub use Rattle.tile_json.specs.declared.layer.VectorLayer.{VectorLayer}
