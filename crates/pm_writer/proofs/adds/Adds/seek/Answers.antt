use Rattle.pm_writer.proofs.Common.{contents_from, IsUnasked, length, subst, sym, unasked_of, xxh3_64, []}
use Rattle.pm_writer.proofs.Took.{sought_as}
use Rattle.pm_writer.proofs.adds.Adds.seek.Goals as goal

pub returns-clause-found : goal.returns-clause-found
returns-clause-found g c = λ adds m t.
    let cs = contents_from [] adds in
    let x = c.args.bytes.now in
    sought_as (g.M.Backend.told c.args.medium.now) (g.M.Backend.reads c.args.medium.now) (g.M.Backend.reads c.seek.new.medium) c.args.self.now.contents cs x c.seek.result
    (c.seek.ensures.known xxh3_64 cs c.requires.digest m.contents t) (λ s. subst (λ d. IsUnasked c.args.self.now.contents d (length x)) c.requires.digest (c.seek.ensures.asked s))
    (c.seek.ensures.found xxh3_64 cs c.requires.digest m.contents)

pub returns-clause-quiet : goal.returns-clause-quiet
returns-clause-quiet g c = λ adds m u.
    let x = c.args.bytes.now in
    c.seek.ensures.quiet (subst (λ d. IsUnasked c.args.self.now.contents d (length x)) (sym c.requires.digest) (unasked_of xxh3_64 c.args.self.now.contents (contents_from [] adds) x m.contents u))
