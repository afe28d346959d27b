-- What the crate's proofs name of the crates below and of its specs, passed on from one place. Declares nothing.
pub use Rattle.pm_format.specs.Columns.{entries_at, ids_at}
unfoldable pub use Rattle.pm_format.specs.Columns.{columns_at}
pub use Rattle.pm_format.specs.Common.{ok_or, SomeIff, w32}
pub use Rattle.pm_format.specs.Directory.{column, DirFits, entries_of, Entry, entry, ids_from, IdsDontFall, IsPlaced, IsWritable, NotFalling, offset_of, offsets_from, spell_all, starts_from}
pub use Rattle.pm_format.specs.Directory.{steps_from, ◌>>=◌}
unfoldable pub use Rattle.pm_format.specs.Directory.{dir_bytes, dir_of}
pub use Rattle.pm_format.specs.Header.{bit, byte_at, compression_byte, compressions, degree_bytes, fields, header_bytes, HeaderFits, labelled, magic, tile_type_byte, tile_types}
unfoldable pub use Rattle.pm_format.specs.Header.{head}
pub use Rattle.pm_format.specs.LookUp.{ends_at, leaf_of, led, range_of, Reached, through}
unfoldable pub use Rattle.pm_format.specs.LookUp.{reached}
pub use Rattle.pm_format.specs.Scan.{covers, last_below, Parts}
unfoldable pub use Rattle.pm_format.specs.Scan.{scan}
pub use Rattle.pm_format.specs.Varint.{below, EndsAboveZero, IsShort, IsSpelling, number_at, short_of, spelled, spelled_value, SpellsU64}
unfoldable pub use Rattle.pm_format.specs.Varint.{u32_at, u64_at, varint}
pub use Rattle.pm_format.specs.declared.header.Header.{Header}
pub use Rattle.pm_format.specs.declared.header.TheConstants.{HEADER_SIZE, MAX_ROOT, ROOT_END}
pub use Rattle.std.proofs.Common.{add-one, All, ap, append-nil, append_assoc, arith, Bool, drop, drop-cons, Err, false, FitsSigned, get_or, if◌then◌else◌, inl, inr, IsTrue, length, length-append}
pub use Rattle.std.proofs.Common.{length-drop, length-take, List, lit<, lit≤, map, max, nat_eq, nat_le, nat_lt, None, Ok, Option, option_map, refl, replicate, Result, rules, slice_get, Some, subst}
pub use Rattle.std.proofs.Common.{suc, sym, take, true, zero, ℕ, [], ◌%◌, ◌*◌, ◌++◌, ◌+◌, ◌-◌, ◌/◌, ◌<◌, ◌^◌, ◌↔◌, ◌∙◌, ◌∷◌, ◌≡◌, ◌≤◌, ◌⊎◌}
pub use Rattle.std.proofs.Math.Nat.{mul-le-mul_left, mul-le-mul_right, pow-le-pow_right, pow-succ'}
pub use Rattle.std.proofs.lemmas.Bool.Decides.{nat_tests}
pub use Rattle.std.proofs.lemmas.Int.{ints, to_z-of_z}
pub use Rattle.std.proofs.lemmas.List.{drop_all, drop_at, length-map, length-replicate, take-append-le, take_all, take_at}
pub use Rattle.std.proofs.lemmas.Nat.{from_le_bytes-to_le_bytes_4, from_le_bytes-to_le_bytes_8, pow-add, pow_pos}
pub use Rattle.std.proofs.lemmas.Result.{err_from_is_err_and, IfOk-weaker}
pub use Rattle.std.specs.Prelude.{codes, ℤ}
pub use Rattle.tile_ids.proofs.Bijection.{lt_or}
