-- What the crate's proofs name of the crates below and of its specs, passed on from one place. Declares nothing.
pub use Rattle.byte_media.proofs.KeptLemmas.{medium_same, medium_then, reads_then}
pub use Rattle.pm_format.specs.declared.error.PmtError.{PmtError}
pub use Rattle.pm_reader.specs.Answers.{Gives, range_read, RangeCauses}
pub use Rattle.pm_reader.specs.declared.state.ReaderState.{ReaderState}
pub use Rattle.pm_writer.proofs.Canonical.{canon_is, entries_sorted}
pub use Rattle.pm_writer.proofs.Sorted.{adds_distinct, sorted_formed, tile_found}
pub use Rattle.pm_writer.proofs.Took.{took_as}
pub use Rattle.pm_writer.specs.Archive.{tile_in}
pub use Rattle.pm_writer.specs.Causes.{AddCauses, FinishCauses}
pub use Rattle.pm_writer.specs.Pieces.{IsHiddenOr}
pub use Rattle.pm_writer.specs.Writing.{AddFits}
pub use Rattle.std.proofs.Common.{All, ap, arith, Bool, drop, Err, false, get_or, IfErr, IfOk, IfSome, if◌then◌else◌, inl, inr, is_some, IsErrOf, length, List, map, max, min, nat_eq, nat_le, nat_lt, None, Ok, OnOk, Option, refl}
pub use Rattle.std.proofs.Common.{Result, rules, set, slice_get, slice_index, Some, subst, suc, sym, take, true, zero, ℕ, [], ◌&&◌, ◌++◌, ◌+◌, ◌-◌, ◌<◌, ◌^◌, ◌∙◌, ◌∷◌, ◌≡◌, ◌≢◌, ◌≤◌, ◌⊎◌}
pub use Rattle.std.proofs.Math.Seq.{map-set_same}
pub use Rattle.std.proofs.lemmas.Bool.{and_from, and_parts, true≢false}
pub use Rattle.std.proofs.lemmas.Bool.Decides.{nat_tests}
pub use Rattle.std.proofs.lemmas.List.{append-nil, append_assoc, drop_all, drop_more, get_or-map, get_or-set_other, get_or-set_same, length-append, length-map, length-set, map-append, map-set}
pub use Rattle.std.proofs.lemmas.List.Elements.{All-get_or, All-set}
pub use Rattle.std.specs.Option.{option_map}
pub use Rattle.std.proofs.lemmas.Option.{none-some, same_Some, slice_get-get_or, slice_get-map}
pub use Rattle.tile_join.specs.Common.{ArchivePlaces, IsHidden, places_of, places_read, add_to, has_failed, ids_of, Puts, PutsAll, Took, ByRoom, EndsBy, Rises, put_all}
pub use Rattle.tile_join.specs.Common.{Adds, AreOrdered, Entry, entry, Header, header_of, KeepsMedium, MAX_TILE_ID, Opened, Options, ReadCauses, ReadsOnly, root_of, Rose, StandsAtError, tile_count, Walked, Writes, WriterState}
unfoldable pub use Rattle.tile_join.specs.Common.{archive, opened, walked}
pub use Rattle.tile_join.specs.Gather.{gathered_of, GatherCauses, of_collect, of_read}
pub use Rattle.tile_join.specs.Gathered.{find_reads, FindCauses, reads_opened, found_few, found_met, found_opened, gather_reads, Gathered, gathered, gathered_from, IsAdded, met, none_yet, Refuses, runs_met, chain, whole, with_source}
unfoldable pub use Rattle.tile_join.specs.Gathered.{found}
pub use Rattle.tile_join.specs.Over.{AreLeft, between, cut_out, end_of, InOrder, numbered, over, piece}
pub use Rattle.tile_join.specs.Sources.{all_told, AreOnlyRead, MediumStands, MediumStandsAt, NoneFell, OthersStand, RoseAt, SourcesStand, SourcesStandAt, SourceStands, SourceStandsAt, total}
pub use Rattle.tile_join.specs.Written.{as_read, ComesTo, look_in, looked, of_add_error, of_write_error, past_end, piece_count, PieceCauses, PieceRead, PiecesAdded, PiecesPut, PiecesRefuse, put_next, put_pieces, PutsFound, PutsNext, PutsPieces}
pub use Rattle.tile_join.specs.Written.{IsWritten, IsArchiveOf, PiecesOverflow, ReadFails, ShowsNone, WriteCauses, WritesPieces}
pub use Rattle.tile_join.specs.declared.error.JoinError.{JoinError}
pub use Rattle.tile_join.specs.declared.error.JoinError.TheVariants.{Archive, Different, IndexEntryOverflow, MediumFault, MediumNotEmpty, NoSource, OutOfMemory, TooManyTiles}
pub use Rattle.tile_join.specs.declared.piece.Piece.{Piece}
pub use Rattle.tile_join.specs.Headers.{IsAlike, options_for, over_header, over_headers, UnlikeAt}
pub use Rattle.tile_join.specs.Join.{Due, IsEarly, last_of, Read}
pub use Rattle.tile_join.specs.Opening.{IsLastText, IsPlanned, PlanCauses, TextCauses, TextRead, TextRefused}
