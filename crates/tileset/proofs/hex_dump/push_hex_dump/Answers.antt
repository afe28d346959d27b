use Rattle.tileset.proofs.Common.{length, rules, ◌<◌, ◌≤◌}
use Rattle.tileset.proofs.HexDumpLemmas.{one_line_on, no_line}
use Rattle.tileset.proofs.hex_dump.push_hex_dump.Goals as goal

pub loop-rest-preserved : goal.loop-rest-preserved
loop-rest-preserved c =
    let some : 0 < length c.loop-rest.rest.now = search rules in
    record {
      whole = one_line_on _ _ _ _ _ _ _ _ _ some c.min.ensures c.split_at.ensures.front c.split_at.ensures.back c.in_ok-push_shown.ensures (search rules) c.loop-rest.invariant.whole;
      fits = search rules;
    }

pub returns : goal.returns
returns c =
    let none : length c.loop-rest.rest.now ≤ 0 = search rules in
    no_line _ _ _ _ none c.loop-rest.invariant.whole
