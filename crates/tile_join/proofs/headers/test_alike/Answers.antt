use Rattle.tile_join.proofs.Common.{refl, rules}
use Rattle.tile_join.proofs.HeaderLemmas.{none_tested, one_tested, unlike_found}
use Rattle.tile_join.specs.Headers.{IsAlike}
use Rattle.tile_join.proofs.headers.test_alike.Goals as goal

pub loop-reader-init : goal.loop-reader-init
loop-reader-init c = none_tested c.args.last.now c.args.readers.now

pub returns-then-not-is_alike-clause-err : goal.returns-then-not-is_alike-clause-err
returns-then-not-is_alike-clause-err c =
    let unlike : IsAlike c.args.last.now c.get_header.result.now → ⊥ = search rules in
    (c.loop-reader.number, refl, unlike_found c.args.last.now c.get_header.result.now c.args.readers.now c.loop-reader.rest.now c.in-Some.others.now c.in-Some.reader.now c.loop-reader.number c.in-Some.ensures.cases.0 c.get_header.ensures unlike c.loop-reader.invariant)

pub loop-reader-preserved : goal.loop-reader-preserved
loop-reader-preserved c =
    let like : IsAlike c.args.last.now c.get_header.result.now = search rules in
    one_tested c.args.last.now c.get_header.result.now c.args.readers.now c.loop-reader.rest.now c.in-Some.others.now c.in-Some.reader.now c.loop-reader.number c.in-Some.ensures.cases.0 c.get_header.ensures like c.loop-reader.invariant
