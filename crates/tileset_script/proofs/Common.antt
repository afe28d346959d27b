-- What the crate's proofs name of the crates below and of its specs, passed on from one place. Declares nothing.
pub use Rattle.line_words.proofs.PartingLemmas.{last_line, some_part}
pub use Rattle.std.proofs.Common.{All, ap, append-nil, append_assoc, ap₂, arith, Bool, Bor, codes, drop, Err, false, get_or, IfSome, if◌then◌else◌, length, length-append, List, map, MatchOption}
pub use Rattle.std.proofs.Common.{nat_eq, None, not, OnOk, Option, refl, remove, Result, rules, Some, subst, suc, sym, take, take-append-drop, true, ℕ, [], ◌&&◌, ◌++◌, ◌+◌, ◌-◌, ◌/◌, ◌<◌, ◌^◌, ◌∙◌}
pub use Rattle.std.proofs.Common.{◌∷◌, ◌≡◌, ◌≢◌, ◌≤◌}
pub use Rattle.std.proofs.lemmas.List.{map-append, nil_from_length, take_all}
pub use Rattle.std.proofs.lemmas.Slice.Eq.{text_from_reads}
pub use Rattle.std.proofs.lemmas.Str.{is_utf8-from_IsUtf8, IsUtf8-from_is_utf8, IsUtf8-had}
pub use Rattle.std.specs.Str.{IsUtf8}
pub use Rattle.tileset_script.specs.Bulk.{numbered_row}
unfoldable pub use Rattle.tileset_script.specs.Bulk.{bulk_tables}
pub use Rattle.tileset_script.specs.Common.{bytes_eq, Cell, HasNo, is_duplicate, no_rows, option_and_then, option_copied, option_map, option_to_list, Tables, with_row, words_of}
unfoldable pub use Rattle.tileset_script.specs.Common.{is_utf8, lines_of, parted, told_of}
pub use Rattle.tileset_script.specs.Reader.{due_of, HasRead}
pub use Rattle.tileset_script.specs.Reading.{drafted, DraftNeverFails, EndsAs, Takes, TakesLines}
pub use Rattle.tileset_script.specs.Script.{at_end, Draft, ended, no_lines, row_added, row_of, Script, script_from, with_line}
unfoldable pub use Rattle.tileset_script.specs.Script.{line_of, script_of}
pub use Rattle.tileset_script.specs.Section.{NeverFails}
pub use Rattle.tileset_script.specs.Setting.{bounds_of, center_of, compression_named, options_of, setting_of, type_in, type_named, with_settings, writer_of}
pub use Rattle.tileset_script.specs.Text.{byte_of, if_utf8, plain}
unfoldable pub use Rattle.tileset_script.specs.Text.{unescaped}
