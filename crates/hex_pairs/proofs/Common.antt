-- What the crate's proofs name of the crates below and of its specs, passed on from one place. Declares nothing.
pub use Rattle.hex.proofs.Pairs.{cons_byte, decode_done, decode_err, decode_pairs-ok_pair, decode_step, prepend}
pub use Rattle.hex.specs.Hex.{digit_or_error, pair_value, value_at}
unfoldable pub use Rattle.hex.specs.Hex.{encode_with}
pub use Rattle.hex.specs.declared.error.FromHexError.{FromHexError}
pub use Rattle.hex_pairs.specs.Common.{encode_lower, hex_digit_value, is_hex_digit}
unfoldable pub use Rattle.hex_pairs.specs.Common.{decode_pairs}
pub use Rattle.hex_pairs.specs.ValueLanes.{AreDigits, digit_value, lane_value, paired}
pub use Rattle.hex_pairs.specs.declared.digit_lanes.TheConstants.{DIGITS}
pub use Rattle.std.proofs.Common.{ap, append_assoc, arith, bit_and, bit_or, Bool, cond, drop, drop-drop, eqb, eqb-true, Err, false, Fits, get_or, is_some, leb, length, length-take-le, List, ltb}
pub use Rattle.std.proofs.Common.{ltb-true, map, None, not, Ok, Option, refl, replicate, Result, rules, slice_index, Some, subst, suc, sym, take, take-add, take-append-drop, true, true≢false}
pub use Rattle.std.proofs.Common.{unwrap_or, w8, zero, ℕ, [], ◌%◌, ◌&&◌, ◌*◌, ◌++◌, ◌+◌, ◌-◌, ◌/◌, ◌<◌, ◌^◌, ◌||◌, ◌∙◌, ◌∷◌, ◌≡◌, ◌≤◌}
pub use Rattle.std.proofs.lemmas.List.{ext_get_or, get_or-map, length-map, map-append}
pub use Rattle.std.proofs.lemmas.Simd.{below_from_Fits, Each1-all, Each1-weaker, Each1-zip2, Each2-splat, get_or-swz_l_below, length-put_chunk, length-swz_l, length-zip2, map-map, mask_l-mod}
pub use Rattle.std.proofs.lemmas.Simd.{splat_is_map, swz_l, SwzOk, SwzOk-from_below, take_more_put_chunk, zip2_of_maps, zip2_splat}
pub use lib.Lanes.{Each1, mask_l, pick_l, top, zip2}
