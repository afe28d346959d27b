use Rattle.mb_access.proofs.Common.{arith, next_row, suc, ◌-◌, ◌≡◌}
use Rattle.mb_access.proofs.StreamLoop.{index_given, index_own, refilled}
use Rattle.mb_access.proofs.stream_state.StreamState.next_index.Goals as goal

pub returns-in-Some-clause-items : goal.returns-in-Some-clause-items
returns-in-Some-clause-items g c = λ t.
    let m = g.S.TileStore in
    let s = c.has_row.new.self in
    let u = record c.take_row.new.self { left = c.take_row.new.self.left - 1 } in
    let w = refilled m.told m.tells m.faults m.steady c.args.self.now c.loop-self.self s c.args.store.now c.loop-self.store c.has_row.new.store c.loop-self.invariant c.in-Ok-true.ensures.rows c.has_row.ensures.set c.has_row.ensures.left c.has_row.ensures.kept c.in-Ok-true.ensures.fault.still in
    let more : s.left ≡ suc (c.take_row.new.self.left - 1) = omega (arith, c.loop-self-test.true, c.has_row.ensures.left, c.take_row.ensures.left) in
    index_given m.told m.tells m.faults m.steady c.args.self.now s u (next_row s) c.in-Some.index c.args.store.now c.has_row.new.store w c.take_row.ensures.rows c.in-Some.ensures.index c.take_row.ensures.set more t

pub returns-in-Some-clause-own : goal.returns-in-Some-clause-own
returns-in-Some-clause-own g c =
    let m = g.S.TileStore in
    let s = c.has_row.new.self in
    let w = refilled m.told m.tells m.faults m.steady c.args.self.now c.loop-self.self s c.args.store.now c.loop-self.store c.has_row.new.store c.loop-self.invariant c.in-Ok-true.ensures.rows c.has_row.ensures.set c.has_row.ensures.left c.has_row.ensures.kept c.in-Ok-true.ensures.fault.still in
    index_own m.told m.tells m.faults m.steady c.args.self.now s (next_row s) c.in-Some.index c.args.store.now c.has_row.new.store w c.in-Some.ensures.index
