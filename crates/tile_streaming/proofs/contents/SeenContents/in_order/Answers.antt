use Rattle.tile_streaming.proofs.Common.{◌∙◌}
use Rattle.tile_streaming.proofs.KnownLemmas.{apart_of, indexed_of, twice_of}
use Rattle.tile_streaming.proofs.contents.SeenContents.in_order.Goals as goal

pub returns-in-Some-clause-indexed : goal.returns-in-Some-clause-indexed
returns-in-Some-clause-indexed c = (indexed_of _ c.in-Some.list c.args.self.items.items c.in-Some.is c.in_ok-ordered.ensures.order c.in_ok-ordered.ensures.items c.in_ok-ordered.ensures.same c.requires).1

pub returns-in-Some-clause-tests : goal.returns-in-Some-clause-tests
returns-in-Some-clause-tests c = λ layout a rows sees.
    let parts = indexed_of _ c.in-Some.list c.args.self.items.items c.in-Some.is c.in_ok-ordered.ensures.order c.in_ok-ordered.ensures.items c.in_ok-ordered.ensures.same c.requires in
    apart_of c.in-Some.list rows (parts.0 ∙ sees.items) parts.1

pub returns-in-Some-clause-findings : goal.returns-in-Some-clause-findings
returns-in-Some-clause-findings c = λ layout a rows sees. sees.findings

pub returns-in-Some-clause-known : goal.returns-in-Some-clause-known
returns-in-Some-clause-known c = λ layout a rows sees.
    let parts = indexed_of _ c.in-Some.list c.args.self.items.items c.in-Some.is c.in_ok-ordered.ensures.order c.in_ok-ordered.ensures.items c.in_ok-ordered.ensures.same c.requires in
    record { items = parts.0 ∙ sees.items; indexed = parts.1; marks = sees.marks }

pub returns-in-None-clause-tests : goal.returns-in-None-clause-tests
returns-in-None-clause-tests c = λ layout a rows sees. (λ free. twice_of _ c.args.self.items.items rows c.in-None.is c.in_ok-ordered.ensures.twice sees.items, λ e. absurd (cc))
