use Rattle.pm_reader.proofs.Common.{arith, length, length-take-le, sym, take_all, ◌≤◌}
use Rattle.pm_reader.proofs.view.front_of.Goals as goal

pub slice_bounds-result-end : goal.slice_bounds-result-end
slice_bounds-result-end c =
    let long : 16384 ≤ length c.args.bytes.now = omega (arith, c.if-bytes-gt-FRONT.true) in
    sym (length-take-le 16384 c.args.bytes.now long)

pub returns-else-bytes-gt-FRONT : goal.returns-else-bytes-gt-FRONT
returns-else-bytes-gt-FRONT c = sym (take_all 16384 c.args.bytes.now c.if-bytes-gt-FRONT.false)
