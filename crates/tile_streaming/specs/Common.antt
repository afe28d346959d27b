-- What the crate's specs and sources name of the crates below, passed on from one place. Declares nothing.
pub use Rattle.base_values.specs.Counts.{Rose}
pub use Rattle.byte_media.specs.Kept.{KeepsMedium}
pub use Rattle.mb_constraints.specs.Algorithm.{algorithm_of, algorithm_unknown}
pub use Rattle.mb_constraints.specs.Described.{index_missing, metadata_missing}
pub use Rattle.mb_constraints.specs.Hashes.{wrong_content_hash, wrong_id, wrong_tile_hash}
pub use Rattle.mb_constraints.specs.References.{missing_reference, reference_missing}
pub use Rattle.mb_constraints.specs.TileRows.{tile_bad, tile_in}
pub use Rattle.mb_lists.specs.Contents.{content_rows, id_twice}
pub use Rattle.mb_lists.specs.Entries.{place_at}
pub use Rattle.mb_lists.specs.FromRows.{AreIndexed, content_from, rows_kept}
pub use Rattle.mb_lists.specs.Metadata.{name_twice, names_of, text_at}
pub use Rattle.mb_lists.specs.Places.{address, InRange}
pub use Rattle.mb_lists.specs.declared.entries.Content.{Content}
pub use Rattle.mb_load.specs.LoadingOrder.{row_refusals}
pub use Rattle.mb_load.specs.StateOf.{state_of}
pub use Rattle.mb_loaded.specs.Aggregate.{bytes_of, hash_of, in_hexadecimal, tile_text}
unfoldable pub use Rattle.mb_loaded.specs.Aggregate.{aggregate}
pub use Rattle.mb_loaded.specs.Changing.{tile_key}
pub use Rattle.mb_loaded.specs.PutRows.{id_key}
pub use Rattle.mb_loaded.specs.State.{State}
pub use Rattle.mb_store.specs.Kept.{FaultsCounted, Keeps, ReadsOnly}
pub use Rattle.mb_tables.specs.Cell.{is_null}
pub use Rattle.mb_tables.specs.CellKinds.{has_tile_kinds, is_id, name_kind_wrong}
pub use Rattle.mb_tables.specs.Detection.{layout_of}
pub use Rattle.mb_tables.specs.Key.{has_key}
pub use Rattle.mb_tables.specs.Kind.{is_normalized, tile_table}
pub use Rattle.mb_tables.specs.Refusals.{first_refusal, first_refused, is_free, Tests, then}
pub use Rattle.mb_tables.specs.Table.{Tables}
pub use Rattle.mb_tables.specs.Tiles.{cell_at, content_of, contents_of, Place, tile_of, TileSet}
pub use Rattle.mb_tables.specs.declared.cell.Cell.{Cell}
pub use Rattle.mb_tables.specs.declared.error.MbtError.{MbtError}
pub use Rattle.mb_tables.specs.declared.error.MbtError.TheVariants.{InvalidDataFormat, StoreFault}
pub use Rattle.mb_tables.specs.declared.kind.MbtType.{MbtType}
pub use Rattle.mb_tables.specs.declared.kind.MbtType.TheVariants.{Cache, Normalized}
pub use Rattle.mb_tables.specs.declared.table.TableName.TheVariants.{Metadata}
pub use Rattle.pm_format.specs.LookUp.{archive_map}
pub use Rattle.pm_format.specs.Options.{Options}
pub use Rattle.pm_format.specs.declared.error.PmtError.{PmtError}
unfoldable pub use Rattle.pm_writer.specs.Archive.{archive}
pub use Rattle.pm_writer.specs.Bounds.{OptionsFit}
pub use Rattle.pm_writer.specs.Pieces.{IsHidden}
pub use Rattle.pm_writer.specs.Places.{places_of}
pub use Rattle.pm_writer.specs.Took.{Took, TookAll}
pub use Rattle.pm_writer.specs.Writing.{add_to, AddFits, has_failed, Writes}
pub use Rattle.pm_writer.specs.declared.places.ArchivePlaces.{ArchivePlaces}
pub use Rattle.pm_writer.specs.declared.state.WriterState.{WriterState}
pub use Rattle.set_options.specs.Facts.{facts_of, is_gzip, no_facts, with_filled}
pub use Rattle.set_options.specs.declared.facts.TileFacts.{TileFacts}
pub use Rattle.std.specs.FinMap.{contains_key, entries, from_entries, get}
pub use Rattle.std.specs.List.{cons_option, list_all, list_any}
pub use Rattle.std.specs.Option.{option_copied, option_map, option_map_or, option_or}
pub use Rattle.std.specs.Ordering.{nat_cmp}
pub use Rattle.tile_bridge.specs.Adds.{cell_bytes}
pub use Rattle.tile_bridge.specs.Convert.{ConvertCauses, HasPlaces, IsEmpty, IsPlain, SetLeaves}
pub use Rattle.tile_bridge.specs.Outcome.{due}
pub use Rattle.tile_bridge.specs.ReadingBack.{answered, GrewFrom, IsReadBack, of_read_error}
pub use Rattle.tile_bridge.specs.Stores.{IsDue, refusal_at, RoseAt}
pub use Rattle.tile_bridge.specs.Writing.{CanBeWritten, of_write_error}
pub use Rattle.tile_bridge.specs.declared.error.ConvertError.{ConvertError}
pub use Rattle.tile_bridge.specs.declared.options.ConvertOptions.{ConvertOptions}
pub use Rattle.tile_bridge.specs.declared.report.ConvertReport.{ConvertReport}
unfoldable pub use Rattle.tile_hash.specs.Xxh3.{xxh3_64}
pub use Rattle.tile_hash.specs.declared.algorithm.HashAlgorithm.{HashAlgorithm}
pub use Rattle.tile_ids.specs.Coord.{Coord, IsCoord}
unfoldable pub use Rattle.tile_ids.specs.Hilbert.{coord_of}
pub use Rattle.tile_ids.specs.Hilbert.{id_of}
