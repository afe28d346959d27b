use Rattle.pm_reader.proofs.Common.{ap, arith, Err, Ok, sym, ◌<◌, ◌∙◌, ◌≤◌}
use Rattle.pm_reader.proofs.RowReadLemmas.{refused_as, walk_first, walk_begun, walk_later, walk_stop, walk_done}
use Rattle.pm_reader.proofs.view.scan.walk.Goals as goal
use Rattle.pm_reader.proofs.view.scan.walk.Goals.{then-tile_id-id, else-tile_id-id}

pub loop-i-init : goal.loop-i-init
loop-i-init c = walk_first _ _ _ _ c.requires

pub next_entry-requires : goal.next_entry-requires
next_entry-requires c = c.loop-i.invariant.within

pub returns-in_err-entry-clause-answer : goal.returns-in_err-entry-clause-answer
returns-in_err-entry-clause-answer c =
    refused_as c.from_residual.result _ c.in_err-entry.field-0.0 c.from_residual.ensures.1
    (walk_stop _ _ _ _ _ _ _ c.loop-i-test.true c.in_err-entry.ensures.none c.loop-i.invariant ∙ ap Err (sym c.in_err-entry.ensures.error))

pub loop-i-preserved : goal.loop-i-preserved
loop-i-preserved c =
    elim c.if-tile_id-id.branch [
      | then-tile_id-id w ↦
          let low : c.in_ok-entry.entry.tile_id ≤ c.args.id = omega (arith, c.tile_id.ensures, w.if-tile_id-id.true) in
          rw w.found-is (walk_begun _ _ _ _ _ _ _ _ _ c.loop-i-test.true c.in_ok-entry.ensures.within low c.in_ok-entry.ensures.found c.loop-i.invariant)
      | else-tile_id-id w ↦
          let high : c.args.id < c.in_ok-entry.entry.tile_id = omega (arith, c.tile_id.ensures, w.if-tile_id-id.false) in
          rw w.found-is (walk_later _ _ _ _ _ _ _ _ _ c.loop-i-test.true c.in_ok-entry.ensures.within high c.in_ok-entry.ensures.found c.loop-i.invariant)
    ]

pub covering-requires : goal.covering-requires
covering-requires c = c.loop-i.invariant.begun

pub returns-clause-answer : goal.returns-clause-answer
returns-clause-answer c = ap Ok c.covering.ensures ∙ sym (walk_done _ _ _ _ _ _ _ c.loop-i-test.false c.loop-i.invariant)
