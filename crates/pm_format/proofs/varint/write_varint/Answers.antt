use Rattle.pm_format.proofs.Common.{arith, length, rules, [], ◌%◌, ◌++◌, ◌+◌, ◌∷◌, ◌≡◌}
use Rattle.std.proofs.lemmas.Grind.{common_steps}
use Rattle.pm_format.proofs.VarintLemmas.{completes_more, completes_first, take_keeps}
use Rattle.pm_format.proofs.varint.write_varint.Goals as goal

pub loop-rest-init : goal.loop-rest-init
loop-rest-init c = ((9, completes_first _ _ c.ranges.value.fits), grind (arith, common_steps))

pub loop-rest-preserved : goal.loop-rest-preserved
loop-rest-preserved c =
    let e : c.push.new.self.items ≡ c.loop-rest.out.items ++ (c.loop-rest.rest % 128 + 128) ∷ [] = search rules in
    let inv = c.loop-rest.invariant in
    let n : c.len-before.result ≡ length c.args.out.now.items = search rules in
    rw e (completes_more _ _ _ inv.0.0 c.loop-rest-test.true inv.0.1, take_keeps _ _ _ _ inv.1 n)
