-- What the crate's proofs name of the crates below and of its specs, passed on from one place. Declares nothing.
pub use Rattle.hex.specs.Hex.{encode_lower, lower_digits, upper_digits}
unfoldable pub use Rattle.hex.specs.Hex.{encode_with}
pub use Rattle.std.proofs.Common.{add-one, add-suc, add-zero, add_assoc, ap, append_assoc, arith, Bool, drop, drop-cons, false, IfOk, inl, inr, length, length-append, length-drop, List, lit<, map}
pub use Rattle.std.proofs.Common.{nat_eq, nat_lt, refl, Result, slice_index, subst, suc, sym, take, true, zero, zero-add, ℕ, [], ◌%◌, ◌&&◌, ◌*◌, ◌++◌, ◌+◌, ◌-◌, ◌/◌, ◌<◌, ◌^◌, ◌∙◌, ◌∷◌, ◌≡◌, ◌≢◌, ◌≤◌}
pub use Rattle.std.proofs.lemmas.Bool.{cases_eq, eq-eqb, lt-leb, ne_eqb}
pub use Rattle.std.proofs.lemmas.Bool.Decides.{nat_tests}
pub use Rattle.std.proofs.lemmas.List.{append-nil, drop-append-le, drop-drop, drop_all, get_or-append-add, get_or-drop, get_or-take, get_or_append_left, length-take-le, map-append, take-append-drop}
pub use Rattle.std.proofs.lemmas.List.{take-append-le, take_all, take_at, take_rest}
pub use Rattle.std.proofs.lemmas.Slice.{take-put_mid}
pub use Rattle.tile_hash.specs.Common.{decimal, encode_upper}
pub use Rattle.tile_hash.specs.Digest.{digest, word_text}
pub use Rattle.tile_hash.specs.Fnv.{byte_hashed, fnv1a, offset_basis}
unfoldable pub use Rattle.tile_hash.specs.Fnv.{hashed_from}
pub use Rattle.tile_hash.specs.Words.{add64, mul64, prime64_1}
unfoldable pub use Rattle.tile_hash.specs.Words.{word64}
pub use Rattle.tile_hash.specs.Xxh3.{block_count, first_lanes, stripe_count}
unfoldable pub use Rattle.tile_hash.specs.Xxh3.{all_lanes, all_stripes, blocks, first_mixes, lane, lanes_merged, mix, more_mixes, of_long, pair, pairs, scrambled, striped, stripes, xxh3_64}
unfoldable pub use Rattle.tile_hash.specs.Xxh3Stream.{stripe_taken, taken}
unfoldable pub use Rattle.tile_hash.specs.Xxh64.{after_bytes, after_half, after_rest, after_words, avalanche, begun, byte_taken, lanes_after, word_taken, xxh64}
pub use Rattle.tile_hash.specs.Xxh64Stream.{HasTaken}
pub use Rattle.tile_hash.specs.declared.algorithm.HashAlgorithm.{HashAlgorithm}
pub use borrow.Rule.Slice.PartMut.{put_mid}
