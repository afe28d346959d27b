-- What the crate's specs and sources name of the crates below, passed on from one place. Declares nothing.
pub use Rattle.mb_edit.specs.Put.{state_put, tiles_put}
pub use Rattle.mb_load.specs.Committing.{MakesChanges}
pub use Rattle.mb_load.specs.LoadedFrom.{IsLoadedFrom}
pub use Rattle.mb_load.specs.StateOf.{state_of}
pub use Rattle.mb_loaded.specs.State.{State}
pub use Rattle.mb_metadata.specs.Inserting.{document_edits, IsWithoutFloat}
pub use Rattle.mb_metadata.specs.NameEdits.{held_edited, is_edited, names_edited, state_edited}
pub use Rattle.mb_store.specs.Kept.{FaultsCounted, Keeps}
pub use Rattle.mb_store.specs.Store.{created, IsSound}
pub use Rattle.mb_tables.specs.Table.{Tables}
pub use Rattle.mb_tables.specs.Tiles.{TileSet}
pub use Rattle.mb_tables.specs.declared.kind.MbtType.TheVariants.{Flat}
pub use Rattle.pm_format.specs.declared.error.PmtError.{PmtError}
pub use Rattle.pm_reader.specs.Metadata.{metadata_read, MetadataAnswers}
pub use Rattle.pm_reader.specs.Reads.{GrewBetween, ReadsOnly}
pub use Rattle.std.specs.FinMap.{empty, FinMap, get, len}
pub use Rattle.tile_import.specs.Import.{Answers, ArchiveCauses, ImportCauses, IsAnswered, reads_at_most}
pub use Rattle.tile_import.specs.PutOver.{count_in, IsPutAnswer, IsPutOver, PutCauses}
pub use Rattle.tile_import.specs.Tiles.{HasTilesOf}
pub use Rattle.tile_import.specs.declared.error.ImportError.{ImportError}
pub use Rattle.tile_import.specs.declared.error.ImportError.TheVariants.{Archive, OutOfMemory, Store}
pub use Rattle.tile_json.specs.declared.document.TileJson.{TileJson}
