use Rattle.tile_extract.proofs.Common.{arith, true≢false, sym}
use Rattle.tile_extract.proofs.NumberLemmas.{id_within_by, of_number}
use Rattle.tile_extract.proofs.quadrants.tile_of.Goals as goal

pub overflow_add-zoom : goal.overflow_add-zoom
overflow_add-zoom c = omega (arith, id_within_by c.args.zoom c.args.number c.requires.zoom c.requires.number)

pub unreachable-requires : goal.unreachable-requires
unreachable-requires c = true≢false (sym (c.in_default.ensures.valid.1 (id_within_by c.args.zoom c.args.number c.requires.zoom c.requires.number)))

pub returns-clause-zoom : goal.returns-clause-zoom
returns-clause-zoom c = (of_number c.from.result c.args.zoom c.args.number _ c.from.ensures.0 c.requires.zoom c.requires.number c.from.ensures.1 c.in-Ok.ensures.value).0

pub returns-clause-number : goal.returns-clause-number
returns-clause-number c = (of_number c.from.result c.args.zoom c.args.number _ c.from.ensures.0 c.requires.zoom c.requires.number c.from.ensures.1 c.in-Ok.ensures.value).1
