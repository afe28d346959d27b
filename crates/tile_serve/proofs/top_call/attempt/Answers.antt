use Rattle.tile_serve.proofs.Common.{InputFault, InputTooLong, limits_in, outcome_of, rules, Some, Usage, ◌≡◌}
use Rattle.tile_serve.proofs.LinesLemmas.{outcome_is}
use Rattle.tile_serve.proofs.RunLemmas.{for_some, read_as, read_opened, taken_read, taken_unread, unread, writes_input}
use Rattle.tile_serve.proofs.top_call.attempt.Goals as goal

pub returns-in_err-requests-clause-words : goal.returns-in_err-requests-clause-words
returns-in_err-requests-clause-words g c =
    let some : limits_in c.args.words.now ≡ Some c.in-Some.limits = search rules in
    for_some (limits_in c.args.words.now) c.in-Some.limits (outcome_of c.from_residual.result) some (unread (g.B.Backend.told c.args.source.now) c.in_err-requests.field-0.0 (outcome_of c.from_residual.result) (outcome_is c.from_residual.result _ c.from_residual.ensures.1)).words

pub returns-in_err-requests-clause-writes : goal.returns-in_err-requests-clause-writes
returns-in_err-requests-clause-writes g c = (unread (g.B.Backend.told c.args.source.now) c.in_err-requests.field-0.0 (outcome_of c.from_residual.result) (outcome_is c.from_residual.result _ c.from_residual.ensures.1)).writes (limits_in c.args.words.now) (g.B.Backend.versions c.args.source.now) _ _ (g.O.Sink.held c.args.output.now) (g.I.Source.left c.args.input.now)

pub returns-in_err-requests-clause-texts : goal.returns-in_err-requests-clause-texts
returns-in_err-requests-clause-texts g c = (unread (g.B.Backend.told c.args.source.now) c.in_err-requests.field-0.0 (outcome_of c.from_residual.result) (outcome_is c.from_residual.result _ c.from_residual.ensures.1)).texts _ _ _

pub returns-in_err-requests-clause-opens : goal.returns-in_err-requests-clause-opens
returns-in_err-requests-clause-opens g c = (unread (g.B.Backend.told c.args.source.now) c.in_err-requests.field-0.0 (outcome_of c.from_residual.result) (outcome_is c.from_residual.result _ c.from_residual.ensures.1)).opens

pub returns-in_err-requests-clause-read : goal.returns-in_err-requests-clause-read
returns-in_err-requests-clause-read g c = λ done. absurd ((unread (g.B.Backend.told c.args.source.now) c.in_err-requests.field-0.0 (outcome_of c.from_residual.result) (outcome_is c.from_residual.result _ c.from_residual.ensures.1)).done done)

pub returns-in_err-requests-clause-taken : goal.returns-in_err-requests-clause-taken
returns-in_err-requests-clause-taken g c = taken_unread _ _ c.in_err-requests.field-0.0 (outcome_of c.from_residual.result) (outcome_is c.from_residual.result _ c.from_residual.ensures.1) c.in_err-requests.ensures.counted

pub returns-in_err-requests-clause-untaken : goal.returns-in_err-requests-clause-untaken
returns-in_err-requests-clause-untaken g c = λ usage. absurd ((unread (g.B.Backend.told c.args.source.now) c.in_err-requests.field-0.0 (outcome_of c.from_residual.result) (outcome_is c.from_residual.result _ c.from_residual.ensures.1)).words usage)

pub returns-in_err-requests-clause-causes : goal.returns-in_err-requests-clause-causes
returns-in_err-requests-clause-causes g c = (unread (g.B.Backend.told c.args.source.now) c.in_err-requests.field-0.0 (outcome_of c.from_residual.result) (outcome_is c.from_residual.result _ c.from_residual.ensures.1)).causes _ _

pub returns-in_err-requests-clause-unmodified : goal.returns-in_err-requests-clause-unmodified
returns-in_err-requests-clause-unmodified g c = λ uniform. (unread (g.B.Backend.told c.args.source.now) c.in_err-requests.field-0.0 (outcome_of c.from_residual.result) (outcome_is c.from_residual.result _ c.from_residual.ensures.1)).unmodified

pub returns-in_err-requests-clause-output_fault : goal.returns-in_err-requests-clause-output_fault
returns-in_err-requests-clause-output_fault g c = λ fault. absurd ((unread (g.B.Backend.told c.args.source.now) c.in_err-requests.field-0.0 (outcome_of c.from_residual.result) (outcome_is c.from_residual.result _ c.from_residual.ensures.1)).other fault)

pub returns-clause-words : goal.returns-clause-words
returns-clause-words g c =
    let some : limits_in c.args.words.now ≡ Some c.in-Some.limits = search rules in
    for_some (limits_in c.args.words.now) c.in-Some.limits (outcome_of c.serve_requests.result) some (read_as (outcome_of c.serve_requests.result) Usage c.serve_requests.ensures.read)

pub returns-clause-writes : goal.returns-clause-writes
returns-clause-writes g c =
    let some : limits_in c.args.words.now ≡ Some c.in-Some.limits = search rules in
    writes_input (limits_in c.args.words.now) c.in-Some.limits (g.B.Backend.told c.args.source.now) (g.I.Source.left c.args.input.now) (g.I.Source.left c.read_input.new.source) (g.B.Backend.versions c.args.source.now) _ _ c.as_slice.result.now
    (g.O.Sink.held c.args.output.now) (g.O.Sink.held c.serve_requests.new.output) (outcome_of c.serve_requests.result) some (search rules) c.in_ok-requests.ensures.end c.serve_requests.ensures.writes

pub returns-clause-taken : goal.returns-clause-taken
returns-clause-taken g c = taken_read _ _ _ (outcome_of c.serve_requests.result) c.in_ok-requests.ensures.counted c.serve_requests.ensures.read

pub returns-clause-too_long : goal.returns-clause-too_long
returns-clause-too_long g c = λ long. absurd (read_as (outcome_of c.serve_requests.result) InputTooLong c.serve_requests.ensures.read long)

pub returns-clause-untaken : goal.returns-clause-untaken
returns-clause-untaken g c = λ usage. absurd (read_as (outcome_of c.serve_requests.result) Usage c.serve_requests.ensures.read usage)

pub returns-clause-unread : goal.returns-clause-unread
returns-clause-unread g c = λ unopened. absurd (read_opened (outcome_of c.serve_requests.result) c.serve_requests.ensures.read unopened)

pub returns-clause-input_fault : goal.returns-clause-input_fault
returns-clause-input_fault g c = λ fault. absurd (read_as (outcome_of c.serve_requests.result) InputFault c.serve_requests.ensures.read fault)
