use Rattle.std.proofs.Common.{FitsSigned, w32}
use Rattle.std.proofs.lemmas.Int.{to_z-of_z}
use Rattle.tile_join.proofs.Common.{rules}
use Rattle.tile_join.proofs.HeaderLemmas.{over_is}
use Rattle.tile_join.proofs.headers.over_header.Goals as goal

pub returns : goal.returns
returns c =
    let west : FitsSigned w32 c.args.header.min_longitude = search rules in
    let south : FitsSigned w32 c.args.header.min_latitude = search rules in
    let east : FitsSigned w32 c.args.header.max_longitude = search rules in
    let north : FitsSigned w32 c.args.header.max_latitude = search rules in
    let other_west : FitsSigned w32 c.args.other.now.min_longitude = search rules in
    let other_south : FitsSigned w32 c.args.other.now.min_latitude = search rules in
    let other_east : FitsSigned w32 c.args.other.now.max_longitude = search rules in
    let other_north : FitsSigned w32 c.args.other.now.max_latitude = search rules in
    let least_west : FitsSigned w32 c.least.result = search rules in
    let least_south : FitsSigned w32 c.least-2.result = search rules in
    let most_east : FitsSigned w32 c.greatest.result = search rules in
    let most_north : FitsSigned w32 c.greatest-2.result = search rules in
    let center_x : FitsSigned w32 c.args.header.center_longitude = search rules in
    let center_y : FitsSigned w32 c.args.header.center_latitude = search rules in
    simp to_z-of_z
    (over_is c.args.header c.args.other.now c.min.result c.max.result c.least.result c.least-2.result c.greatest.result c.greatest-2.result c.min.ensures c.max.ensures
    (simp to_z-of_z at c.least.ensures) (simp to_z-of_z at c.least-2.ensures) (simp to_z-of_z at c.greatest.ensures) (simp to_z-of_z at c.greatest-2.ensures))
