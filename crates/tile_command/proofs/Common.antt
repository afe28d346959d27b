-- What the crate's proofs name of the crates below and of its specs, passed on from one place. Declares nothing.
pub use Rattle.mb_metadata.proofs.JsonLemmas.{entries_end, entries_kept}
pub use Rattle.set_options.proofs.FoldLemmas.{fold_at, fold_end}
pub use Rattle.std.proofs.Common.{ap, arith, drop, fold, length, List, map, None, Option, sym, take, ℕ, [], ◌∙◌, ◌≡◌}
pub use Rattle.std.specs.FinMap.{len-entries}
pub use Rattle.tile_command.specs.Common.{as_it_is, entries, members_view, no_members, parted, put, string, text_cell, view, with_entries}
