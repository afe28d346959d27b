use Rattle.archive_rows.proofs.Common.{List, refl, ℕ}
use Rattle.pm_contents.specs.Places.{put_new}
use Rattle.pm_contents.proofs.ContentLemmas.{holds_alike}
use Rattle.archive_rows.proofs.contents.put.Goals as goal

pub put-requires-clause-sought : goal.put-requires-clause-sought
put-requires-clause-sought c = ((λ x. c.args.digest), c.in-Ok.ensures.sought (λ x. c.args.digest) refl)

pub returns-in_default-put : goal.returns-in_default-put
returns-in_default-put c = (c.requires.0, holds_alike (λ x. c.args.digest) c.args.contents.now c.put.new.self c.requires.0 c.in_default-put.ensures.refused c.requires.1)

pub returns : goal.returns
returns c =
    let name : List ℕ → ℕ = λ x. c.args.digest in
    let found = c.in-Ok.ensures.found name c.requires.0 refl c.requires.1 in
    (put_new c.requires.0 found.0, c.in-Ok-put.ensures.put name c.requires.0 found.0 (c.in-Ok.ensures.sought name refl) c.requires.1 found.1)
