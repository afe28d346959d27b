use Rattle.set_import.proofs.Common.{arith, IfSome, List, Ok, subst, sym, ℕ}
use Rattle.pm_reader.specs.Answers.{Gives, range_read}
use Rattle.pm_reader.specs.Opening.{header_of}
use Rattle.set_import.proofs.EntriesLemmas.{entry_read, entry_stopped, read_free, read_stops, store_free, store_stops}
use Rattle.set_import.specs.Batches.{StopAnswers, StopCauses}
use Rattle.std.proofs.Common.{◌+◌}
use Rattle.set_import.proofs.entries.put_entry.Goals as goal

pub returns-in-Err-clause-puts : goal.returns-in-Err-clause-puts
returns-in-Err-clause-puts g c = λ made all s.
    entry_stopped (g.B.Backend.told c.args.backend.now) (header_of c.args.reader.now) (g.S.TileStore.tells c.args.store.now) made (g.S.TileStore.told c.args.store.now) c.args.batch.now.tiles all c.args.entry c.of_reader.result
    (omega (arith, c.requires.shallow)) s.part

pub returns-in-Err-clause-causes : goal.returns-in-Err-clause-causes
returns-in-Err-clause-causes g c =
    let before = g.B.Backend.faults c.args.backend.now in
    let now = g.B.Backend.faults c.read_contents.new.backend in
    let store = g.S.TileStore.faults c.args.store.now in
    subst (StopCauses before now store store) (sym c.of_reader.ensures) (read_stops (List ℕ) before now store store c.in-Err.error c.in-Err.ensures.causes)

pub returns-in-Err-clause-told : goal.returns-in-Err-clause-told
returns-in-Err-clause-told g c =
    subst (StopAnswers (g.B.Backend.told c.args.backend.now)) (sym c.of_reader.ensures)
    (read_free (g.B.Backend.told c.args.backend.now) (header_of c.args.reader.now) c.args.entry c.offset.result c.length.result c.in-Err.error c.offset.ensures c.length.ensures c.requires.there c.in-Err.ensures.answer)

pub returns-in-Ok-put_run-clause-puts : goal.returns-in-Ok-put_run-clause-puts
returns-in-Ok-put_run-clause-puts g c = λ made all s. record {
  bytes = c.as_slice.result.now;
  are = entry_read (g.B.Backend.told c.args.backend.now) (header_of c.args.reader.now) c.args.entry c.offset.result c.length.result c.as_slice.result.now c.offset.ensures c.length.ensures
      (subst (λ l. IfSome (g.B.Backend.told c.args.backend.now) (λ b. Gives (range_read b ((header_of c.args.reader.now).data_offset + c.offset.result) c.length.result) (Ok l))) (sym c.as_slice.ensures) c.in-Ok.ensures.answer);
  streams = c.in-Ok-put_run.ensures.streams made all s;
}

pub returns-clause-puts : goal.returns-clause-puts
returns-clause-puts g c = λ made all s. record {
  bytes = c.as_slice.result.now;
  are = entry_read (g.B.Backend.told c.args.backend.now) (header_of c.args.reader.now) c.args.entry c.offset.result c.length.result c.as_slice.result.now c.offset.ensures c.length.ensures
      (subst (λ l. IfSome (g.B.Backend.told c.args.backend.now) (λ b. Gives (range_read b ((header_of c.args.reader.now).data_offset + c.offset.result) c.length.result) (Ok l))) (sym c.as_slice.ensures) c.in-Ok.ensures.answer);
  streams = c.in-Err-put_run.ensures.streams made all s;
}

pub returns-clause-causes : goal.returns-clause-causes
returns-clause-causes g c =
    let before = g.B.Backend.faults c.args.backend.now in
    let now = g.B.Backend.faults c.read_contents.new.backend in
    let old = g.S.TileStore.faults c.args.store.now in
    let new = g.S.TileStore.faults c.put_run.new.store in
    subst (StopCauses before now old new) (sym c.of_store.ensures) (store_stops before now old old new c.in-Err-put_run.error (omega arith) c.in-Err-put_run.ensures.free c.in-Err-put_run.ensures.fault.rose)

pub returns-clause-told : goal.returns-clause-told
returns-clause-told g c =
    subst (StopAnswers (g.B.Backend.told c.args.backend.now)) (sym c.of_store.ensures) (store_free (g.B.Backend.told c.args.backend.now) c.in-Err-put_run.error c.in-Err-put_run.ensures.free)
