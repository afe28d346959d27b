use Rattle.mb_cache.proofs.Common.{arith, deref, rest_all}
use Rattle.mb_cache.proofs.RoundLemmas.{round_full, round_last}
use Rattle.mb_cache.proofs.sizing.next_round.Goals as goal

pub returns-then-len-ge-ROUND : goal.returns-then-len-ge-ROUND
returns-then-len-ge-ROUND c = round_full c.loop-entry.round.items c.loop-entry.entry-iterator c.args.entries.now.keys 64 c.loop-entry.invariant.whole (omega (arith, c.if-len-ge-ROUND.true, c.len.ensures)) c.loop-entry.invariant.short

pub returns : goal.returns
returns c = round_last c.loop-entry.round.items c.loop-entry.entry-iterator c.args.entries.now.keys 64 c.loop-entry.invariant.whole (rest_all deref c.loop-entry.entry-iterator c.next.new.self c.next.result c.in-None.is c.next.ensures.steps) c.loop-entry.invariant.short
