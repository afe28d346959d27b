use Rattle.tile_join.proofs.Common.{ap, header_of, map, ◌∙◌, sym}
use Rattle.pm_walk.proofs.ClippingLemmas.{no_items}
use Rattle.tile_join.proofs.HeaderLemmas.{headers_more}
use Rattle.tile_join.specs.Headers.{over_headers}
use Rattle.tile_join.proofs.headers.over_headers.Goals as goal

pub loop-reader-preserved : goal.loop-reader-preserved
loop-reader-preserved c =
    headers_more c.loop-reader.whole c.over_header-next.result (over_headers c.args.header (map header_of c.args.readers.now)) c.get_header.result.now c.loop-reader.rest.now c.in-Some.others.now c.in-Some.reader.now c.in-Some.ensures.cases.0 c.get_header.ensures c.over_header-next.ensures c.loop-reader.invariant

pub returns : goal.returns
returns c = sym (ap (λ l. over_headers c.loop-reader.whole (map header_of l)) (no_items c.loop-reader.rest.now c.in_default.ensures.cases)) ∙ c.loop-reader.invariant
