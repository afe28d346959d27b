use Rattle.pm_reader.proofs.OpeningLemmas.{refused_within, still_opens, told_front, told_opens, told_refused}
use Rattle.pm_reader.proofs.state.ReaderState.open.Goals as goal

pub returns-in_err-header-clause-answer : goal.returns-in_err-header-clause-answer
returns-in_err-header-clause-answer g c =
    let front = told_front (g.B.Backend.told c.args.backend.now) c.as_slice.result.now _ c.as_slice.ensures c.in_ok-response.ensures.answer in
    told_refused (g.B.Backend.told c.args.backend.now) c.as_slice.result.now c.from_residual-in_err-header.result c.in_err-header.field-0.0 c.from_residual-in_err-header.ensures.1 front c.in_err-header.ensures.refused

pub returns-in_err-header-clause-causes : goal.returns-in_err-header-clause-causes
returns-in_err-header-clause-causes g c =
    refused_within _ _ c.as_slice.result.now c.from_residual-in_err-header.result c.in_err-header.field-0.0 c.from_residual-in_err-header.ensures.1 c.in_err-header.ensures.refused

pub returns-clause-answer : goal.returns-clause-answer
returns-clause-answer g c =
    let front = told_front (g.B.Backend.told c.args.backend.now) c.as_slice.result.now _ c.as_slice.ensures c.in_ok-response.ensures.answer in
    told_opens (g.B.Backend.told c.args.backend.now) c.as_slice.result.now c.in_ok-header.header c.in_ok-header.root front c.in_ok-header.ensures.found

pub returns-clause-open : goal.returns-clause-open
returns-clause-open g c =
    let front = told_front (g.B.Backend.told c.args.backend.now) c.as_slice.result.now _ c.as_slice.ensures c.in_ok-response.ensures.answer in
    still_opens (g.B.Backend.told c.args.backend.now) _ c.in_ok-header.header c.in_ok-header.root c.read_front.ensures.kept.told (told_opens (g.B.Backend.told c.args.backend.now) c.as_slice.result.now c.in_ok-header.header c.in_ok-header.root front c.in_ok-header.ensures.found)
