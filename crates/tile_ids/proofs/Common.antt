-- What the crate's proofs name of the crates below and of its specs, passed on from one place. Declares nothing.
pub use Rattle.std.proofs.Common.{ap, arith, Bool, false, get_or, if◌then◌else◌, inl, inr, List, lit<, nat_le, nat_lt, pos, refl, subst, suc, sym, true, zero, ℕ, ℤ, [], ◌%◌, ◌*◌, ◌+◌, ◌-◌, ◌/◌, ◌<◌}
pub use Rattle.std.proofs.Common.{◌^◌, ◌↔◌, ◌∙◌, ◌∷◌, ◌≡◌, ◌≤◌, ◌⊎◌}
pub use Rattle.std.proofs.Math.Nat.{div-div-eq-div-mul, le-mul_of_pos_right, mul-le-mul_left, mul-le-mul_right, pow-le-pow_right, pow-succ'}
pub use Rattle.std.proofs.lemmas.Bool.Decides.{nat_tests}
pub use Rattle.std.proofs.lemmas.Nat.{div-add-mod', div-mul-add, div_below, mod-mul-add, mod-pow-add, mod_below, mul-pow, pow-add, pow_below, pow_pos}
pub use Rattle.tile_ids.specs.Coord.{Coord, index_of, inverted_y, IsChild, IsCoord, IsDescendant, IsIndexOf, ShareSide, tile_index}
pub use Rattle.tile_ids.specs.Hilbert.{hilbert, id_of, last_tile, number_of, pyramid, quarter, turned, zoom_up_to}
unfoldable pub use Rattle.tile_ids.specs.Hilbert.{coord_of, tile_id}
pub use Rattle.tile_ids.specs.Orientation.{IsSixteenth, oriented}
pub use Rattle.tile_ids.specs.declared.id.TheConstants.{MAX_TILE_ID, PYRAMID_SIZE_BY_ZOOM}
