use Rattle.set_import.proofs.Common.{arith, Bool, refl, subst, sym, ◌∙◌}
use Rattle.set_import.proofs.StreamLemmas.{keeps_then, run_begun, run_done, run_more, run_stopped}
use Rattle.set_import.specs.Batches.{IsPart, IsStream}
use Rattle.tile_import.specs.Putting.{place_of_id}
use Rattle.std.proofs.Common.{Some, ◌+◌}
use Rattle.std.specs.FinMap.{insert}
use Rattle.set_import.proofs.runs.put_run.Goals as goal

pub loop-left-init : goal.loop-left-init
loop-left-init g c = record {
  so_far = λ made all s.
      run_begun (g.S.TileStore.tells c.args.store.now) made (g.S.TileStore.told c.args.store.now) c.args.batch.now.tiles all c.args.bytes.now c.args.entry.tile_id c.args.entry.run_length c.tile_id-id.result c.run_length-left.result c.tile_id-id.ensures c.run_length-left.ensures s;
  end = omega (arith, c.tile_id-id.ensures, c.run_length-left.ensures);
  plain = c.requires.plain;
  described = λ t. refl;
  kept = record { tells = refl; faults = omega arith; steady = λ s. s; calm = λ s. refl };
  still = refl;
}

pub returns-in-Err-clause-streams : goal.returns-in-Err-clause-streams
returns-in-Err-clause-streams g c = λ made all s.
    let i = c.loop-left.invariant in
    let r = i.so_far made all s in
    let now = g.S.TileStore.told c.loop-left.store in
    let new = g.S.TileStore.told c.put_tile.new.store in
    let next = insert r.so_far (place_of_id c.loop-left.id) (Some c.args.bytes.now) in
    let part = subst (λ (t : Bool). IsPart t made new next (c.loop-left.id + 1)) i.kept.tells
    (c.in-Err.ensures.streams made r.so_far (subst (λ (t : Bool). IsStream t made now c.loop-left.batch.tiles r.so_far c.loop-left.id) (sym i.kept.tells) r.stream)) in
    run_stopped (g.S.TileStore.tells c.args.store.now) made new all r.so_far c.args.bytes.now c.args.entry.tile_id c.args.entry.run_length c.loop-left.id c.loop-left.left
    (omega (arith, c.loop-left-test.true)) i.end (omega (arith, i.end, c.requires.shallow)) r.rest part

pub loop-left-preserved : goal.loop-left-preserved
loop-left-preserved g c =
    let i = c.loop-left.invariant in
    let now = g.S.TileStore.told c.loop-left.store in
    let new = g.S.TileStore.told c.put_tile.new.store in
    record {
      so_far = λ made all s.
          let r = i.so_far made all s in
          let next = insert r.so_far (place_of_id c.loop-left.id) (Some c.args.bytes.now) in
          let stream = subst (λ (t : Bool). IsStream t made new c.put_tile.new.batch.tiles next (c.loop-left.id + 1)) i.kept.tells
          (c.in-Ok.ensures.streams made r.so_far (subst (λ (t : Bool). IsStream t made now c.loop-left.batch.tiles r.so_far c.loop-left.id) (sym i.kept.tells) r.stream)) in
          run_more (g.S.TileStore.tells c.args.store.now) made new c.put_tile.new.batch.tiles all r.so_far c.args.bytes.now c.args.entry.tile_id c.args.entry.run_length c.loop-left.id c.loop-left.left
          (omega (arith, c.loop-left-test.true)) r.rest stream;
      end = omega (arith, i.end, c.loop-left-test.true);
      plain = c.in-Ok.ensures.plain;
      described = λ t. c.in-Ok.ensures.described (i.kept.tells ∙ t) ∙ i.described t;
      kept = keeps_then g.S.TileStore.tells g.S.TileStore.faults g.S.TileStore.steady c.args.store.now c.loop-left.store c.put_tile.new.store i.kept c.in-Ok.ensures.kept;
      still = c.in-Ok.ensures.fault.still ∙ i.still;
    }

pub returns-clause-streams : goal.returns-clause-streams
returns-clause-streams g c = λ made all s.
    let i = c.loop-left.invariant in
    run_done (g.S.TileStore.tells c.args.store.now) made (g.S.TileStore.told c.loop-left.store) c.loop-left.batch.tiles all c.args.bytes.now c.args.entry.tile_id c.args.entry.run_length c.loop-left.id c.loop-left.left
    (omega (arith, c.loop-left-test.false)) i.end (i.so_far made all s)
