use Rattle.mb_cache.proofs.Common.{deref, is_expired_entry, rest_more, take_while}
use Rattle.mb_cache.proofs.PurgeLemmas.{one_expired}
use Rattle.mb_cache.proofs.purging.expired.Goals as goal

pub loop-entry-preserved : goal.loop-entry-preserved
loop-entry-preserved c = one_expired (is_expired_entry c.args.now) c.loop-entry.expired.items c.push.new.self.items c.next.new.self c.loop-entry.entry-iterator (take_while (is_expired_entry c.args.now) c.args.entries.now.keys) c.in-Some.entry.now c.is_expired.result
    (rest_more deref c.loop-entry.entry-iterator c.next.new.self c.next.result c.in-Some.entry c.in-Some.is c.next.ensures.steps) c.is_expired.ensures c.if-not-is_expired.false c.in_ok-push.ensures.items c.loop-entry.invariant
