use Rattle.tile_extract.proofs.Common.{arith, subst, sym, ◌<◌, ◌^◌}
use Rattle.tile_extract.proofs.NumberLemmas.{area_is, last_fits}
use Rattle.tile_extract.proofs.zoom_box.area_of.Goals as goal

pub overflow_add-result : goal.overflow_add-result
overflow_add-result c =
    omega (arith, last_fits c.args.root c.x.result c.z.result c.args.zoom c.z.ensures.value (subst (λ n. n < 2 ^ c.args.root.z) (sym c.x.ensures) c.z.ensures.within.column) c.requires.least c.requires.most)

pub overflow_add-result-2 : goal.overflow_add-result-2
overflow_add-result-2 c =
    omega (arith, last_fits c.args.root c.y.result c.z.result c.args.zoom c.z.ensures.value (subst (λ n. n < 2 ^ c.args.root.z) (sym c.y.ensures) c.z.ensures.within.row) c.requires.least c.requires.most)

pub returns : goal.returns
returns c = area_is c.args.root c.args.zoom c.z.result c.x.result c.y.result c.z.ensures.within c.requires.least c.requires.most c.z.ensures.value c.x.ensures c.y.ensures
