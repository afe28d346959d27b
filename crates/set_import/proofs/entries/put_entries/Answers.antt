use Rattle.set_import.proofs.Common.{ap, arith, Bool, Err, ImportError, length, List, Ok, Option, refl, subst, sym, ◌∙◌, ◌∷◌, ◌≡◌, ℕ}
use Rattle.byte_media.proofs.KeptLemmas.{reads_same, reads_then}
use Rattle.pm_reader.specs.Opening.{header_of}
use Rattle.pm_walk.proofs.ClippingLemmas.{no_items}
use Rattle.pm_walk.specs.Collecting.{AllShallow}
use Rattle.set_import.proofs.EntriesLemmas.{at_entry, entries_begun, entries_done, entries_more, entries_stopped, entries_unsettled}
use Rattle.set_import.proofs.StreamLemmas.{keeps_then, plain_empty}
use Rattle.set_import.specs.Batches.{AreThere, IsPlain, IsStream, PutsEntry}
use Rattle.set_import.proofs.entries.put_entries.Goals as goal

pub loop-entry-init : goal.loop-entry-init
loop-entry-init g c = record {
  so_far = entries_begun (g.B.Backend.told c.args.backend.now) (header_of c.args.reader.now) (g.S.TileStore.tells c.args.store.now) (g.S.TileStore.told c.args.store.now) c.no_batch-batch.result.tiles c.args.entries.now c.no_batch-batch.ensures c.requires.ordered;
  shallow = c.requires.shallow;
  there = c.requires.there;
  plain = subst IsPlain (sym c.no_batch-batch.ensures) plain_empty;
  described = λ t. refl;
  read_only = reads_same _ _ _ _ _;
  kept = record { tells = refl; faults = omega arith; steady = λ s. s; calm = λ s. refl };
  unread = refl;
  still = refl;
  reads = omega arith;
}

pub returns-in-Err-clause-puts : goal.returns-in-Err-clause-puts
returns-in-Err-clause-puts g c =
    let i = c.loop-entry.invariant in
    let told = g.B.Backend.told c.args.backend.now in
    let h = header_of c.args.reader.now in
    let tells = g.S.TileStore.tells c.args.store.now in
    let made = g.S.TileStore.told c.args.store.now in
    let now = g.S.TileStore.told c.loop-entry.store in
    let new = g.S.TileStore.told c.put_entry.new.store in
    let next = c.put_entry.new.batch.tiles in
    let e = c.in-Some.entry.now in
    let stream = at_entry told h tells made now c.loop-entry.batch.tiles c.args.entries.now c.loop-entry.rest.now e c.in-Some.others.now c.in-Some.ensures.cases.0 i.so_far in
    entries_stopped told h tells made now new c.loop-entry.batch.tiles next c.args.entries.now c.loop-entry.rest.now e c.in-Some.others.now c.in-Err.error c.in-Some.ensures.cases.0 i.so_far
    (subst (λ (o : Option (List ℕ)). PutsEntry {A = Unit {0}} o h tells made new next i.so_far.all e (Err c.in-Err.error)) i.read_only.told
    (subst (λ (t : Bool). PutsEntry {A = Unit {0}} (g.B.Backend.told c.loop-entry.backend) h t made new next i.so_far.all e (Err c.in-Err.error)) i.kept.tells
    (c.in-Err.ensures.puts made i.so_far.all (subst (λ (t : Bool). IsStream t made now c.loop-entry.batch.tiles i.so_far.all e.tile_id) (sym i.kept.tells) stream))))

pub loop-entry-preserved : goal.loop-entry-preserved
loop-entry-preserved g c =
    let i = c.loop-entry.invariant in
    let told = g.B.Backend.told c.args.backend.now in
    let h = header_of c.args.reader.now in
    let tells = g.S.TileStore.tells c.args.store.now in
    let made = g.S.TileStore.told c.args.store.now in
    let now = g.S.TileStore.told c.loop-entry.store in
    let new = g.S.TileStore.told c.put_entry.new.store in
    let next = c.put_entry.new.batch.tiles in
    let e = c.in-Some.entry.now in
    let first = c.in-Some.ensures.cases.0 in
    let stream = at_entry told h tells made now c.loop-entry.batch.tiles c.args.entries.now c.loop-entry.rest.now e c.in-Some.others.now first i.so_far in
    record {
      so_far = entries_more told h tells made now new c.loop-entry.batch.tiles next c.args.entries.now c.loop-entry.rest.now e c.in-Some.others.now first i.so_far
          (subst (λ (o : Option (List ℕ)). PutsEntry {A = Unit {0}} {E = ImportError} o h tells made new next i.so_far.all e (Ok tt)) i.read_only.told
          (subst (λ (t : Bool). PutsEntry {A = Unit {0}} {E = ImportError} (g.B.Backend.told c.loop-entry.backend) h t made new next i.so_far.all e (Ok tt)) i.kept.tells
          (c.in-Ok.ensures.puts made i.so_far.all (subst (λ (t : Bool). IsStream t made now c.loop-entry.batch.tiles i.so_far.all e.tile_id) (sym i.kept.tells) stream))));
      shallow = (subst AllShallow first i.shallow).1;
      there = (subst (AreThere told h) first i.there).1;
      plain = c.in-Ok.ensures.plain;
      described = λ t. c.in-Ok.ensures.described (i.kept.tells ∙ t) ∙ i.described t;
      read_only = reads_then _ _ _ _ _ _ _ i.read_only c.in-Ok.ensures.backend_kept;
      kept = keeps_then g.S.TileStore.tells g.S.TileStore.faults g.S.TileStore.steady c.args.store.now c.loop-entry.store c.put_entry.new.store i.kept c.in-Ok.ensures.store_kept;
      unread = c.in-Ok.ensures.backend_still ∙ i.unread;
      still = c.in-Ok.ensures.store_still ∙ i.still;
      reads = let n : length c.loop-entry.rest.now ≡ length (e ∷ c.in-Some.others.now) = ap length first in omega (arith, i.reads, c.in-Ok.ensures.reads, n);
    }

pub returns-in-Ok-commit_batch-clause-puts : goal.returns-in-Ok-commit_batch-clause-puts
returns-in-Ok-commit_batch-clause-puts g c =
    let i = c.loop-entry.invariant in
    entries_done (g.B.Backend.told c.args.backend.now) (header_of c.args.reader.now) (g.S.TileStore.tells c.args.store.now) (g.S.TileStore.told c.args.store.now) (g.S.TileStore.told c.loop-entry.store) (g.S.TileStore.told c.commit_batch.new.store) c.loop-entry.batch.tiles c.args.entries.now c.loop-entry.rest.now
    (no_items c.loop-entry.rest.now c.in_default.ensures.cases) i.so_far (λ t. c.in-Ok-commit_batch.ensures.committed (i.kept.tells ∙ t))

pub returns-in-Err-commit_batch-clause-puts : goal.returns-in-Err-commit_batch-clause-puts
returns-in-Err-commit_batch-clause-puts g c =
    let i = c.loop-entry.invariant in
    entries_unsettled (g.B.Backend.told c.args.backend.now) (header_of c.args.reader.now) (g.S.TileStore.tells c.args.store.now) (g.S.TileStore.told c.args.store.now) (g.S.TileStore.told c.loop-entry.store) (g.S.TileStore.told c.commit_batch.new.store) c.loop-entry.batch.tiles c.args.entries.now c.loop-entry.rest.now c.of_store.result
    (no_items c.loop-entry.rest.now c.in_default.ensures.cases) i.so_far c.in-Err-commit_batch.ensures.refused
