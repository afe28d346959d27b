use Rattle.mb_loaded.proofs.Common.{All-permutation, apart_permuted, distinct_from_apart, IsDated, IsPermutation-sym, IsTile, place_of, places_total}
use Rattle.mb_loaded.proofs.DatedLemmas.{listed_have_ids}
use Rattle.mb_loaded.proofs.HeldLemmas.{held_permuted, tiles_are}
use Rattle.mb_loaded.proofs.assembling.set_of.Goals as goal

pub invariant_of-result : goal.invariant_of-result
invariant_of-result c = (c.in-Some.ensures.order, All-permutation (IsTile c.args.rows.contents.items.items) c.args.rows.tiles.items c.in-Some.tiles.items.items c.in-Some.ensures.same (tiles_are c.args.rows.contents.items.items c.args.rows.tiles.items c.requires.kept c.requires.whole), c.requires.indexed.rising, c.requires.names, c.requires.texts, listed_have_ids c.args.rows.contents.items.items c.args.rows.contents.live c.args.rows.contents.order.items c.requires.indexed, All-permutation (IsDated c.args.layout) c.args.rows.tiles.items c.in-Some.tiles.items.items c.in-Some.ensures.same c.requires.dated)

pub returns-in-Some-clause-held : goal.returns-in-Some-clause-held
returns-in-Some-clause-held c = held_permuted c.args.layout c.args.algorithm c.args.patch_type c.args.rows.contents.items.items c.args.rows.contents.order.items c.args.rows.tiles.items c.in-Some.tiles.items.items c.args.names.items.items c.in-Some.ensures.same c.in-Some.ensures.order.apart

pub returns-in-Some-clause-apart : goal.returns-in-Some-clause-apart
returns-in-Some-clause-apart c = distinct_from_apart places_total place_of c.args.rows.tiles.items (apart_permuted places_total place_of c.in-Some.tiles.items.items c.args.rows.tiles.items (IsPermutation-sym c.args.rows.tiles.items c.in-Some.tiles.items.items c.in-Some.ensures.same) c.in-Some.ensures.order.apart)
