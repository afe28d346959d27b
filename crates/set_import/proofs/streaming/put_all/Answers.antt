use Rattle.set_import.proofs.Common.{arith, flat_made, inl, inr, subst, sym, Tables, ◌∙◌}
use Rattle.pm_reader.specs.Opening.{header_of}
use Rattle.set_import.proofs.CountLemmas.{all_below}
use Rattle.set_import.proofs.EntriesLemmas.{some_contents_of, store_free, store_stops}
use Rattle.set_import.proofs.FillingLemmas.{either_free}
use Rattle.set_import.proofs.StreamedLemmas.{flat_described, flat_still_described, later_stop, moved_part, whole_part}
use Rattle.set_import.specs.Batches.{ArePutInto, end_of, StopAnswers, StopCauses}
use Rattle.tile_import.specs.Putting.{with_contents}
use Rattle.set_import.proofs.Common.{empty}
use Rattle.set_import.proofs.streaming.put_all.Goals as goal

pub put_entries-requires-clause-flat : goal.put_entries-requires-clause-flat
put_entries-requires-clause-flat g c t =
    let tells = sym c.init_mbtiles_schema.ensures.kept.tells ∙ t in
    flat_described (g.S.TileStore.told c.args.store.now) (g.S.TileStore.told c.init_mbtiles_schema.new.store) (c.requires.new tells) (c.in-Ok.ensures.ok tells)

pub commit_plain-requires-clause-flat : goal.commit_plain-requires-clause-flat
commit_plain-requires-clause-flat g c t =
    let mid = sym c.put_entries.ensures.store_kept.tells ∙ t in
    let tells = sym c.init_mbtiles_schema.ensures.kept.tells ∙ mid in
    flat_still_described (g.S.TileStore.told c.init_mbtiles_schema.new.store) (g.S.TileStore.told c.put_entries.new.store)
    (flat_described (g.S.TileStore.told c.args.store.now) (g.S.TileStore.told c.init_mbtiles_schema.new.store) (c.requires.new tells) (c.in-Ok.ensures.ok tells))
    (c.put_entries.ensures.described mid)

pub returns-in-Err-clause-fills : goal.returns-in-Err-clause-fills
returns-in-Err-clause-fills g c t =
    let some = some_contents_of (g.B.Backend.told c.args.backend.now) (header_of c.args.reader.now) c.args.entries.now in
    record { contents = some.0; are = some.1; by = inl c.in-Err.ensures.err }

pub returns-in-Err-clause-causes : goal.returns-in-Err-clause-causes
returns-in-Err-clause-causes g c =
    let before = g.B.Backend.faults c.args.backend.now in
    let old = g.S.TileStore.faults c.args.store.now in
    let new = g.S.TileStore.faults c.init_mbtiles_schema.new.store in
    subst (StopCauses before before old new) (sym c.of_store.ensures) (store_stops before before old old new c.in-Err.error (omega arith) (either_free c.in-Err.error c.in-Err.ensures.errors) c.in-Err.ensures.fault.rose)

pub returns-in-Err-clause-told : goal.returns-in-Err-clause-told
returns-in-Err-clause-told g c =
    subst (StopAnswers (g.B.Backend.told c.args.backend.now)) (sym c.of_store.ensures) (store_free (g.B.Backend.told c.args.backend.now) c.in-Err.error (either_free c.in-Err.error c.in-Err.ensures.errors))

pub returns-in-Err-put_entries-clause-fills : goal.returns-in-Err-put_entries-clause-fills
returns-in-Err-put_entries-clause-fills g c t =
    let p = c.in-Err-put_entries.ensures.puts in
    record {
      contents = p.contents;
      are = p.are;
      by = inr (moved_part (g.S.TileStore.tells c.init_mbtiles_schema.new.store) (g.S.TileStore.told c.init_mbtiles_schema.new.store) (flat_made (g.S.TileStore.told c.args.store.now)) (g.S.TileStore.told c.put_entries.new.store) (with_contents empty c.args.entries.now p.contents) (end_of 0 c.args.entries.now)
          (c.init_mbtiles_schema.ensures.kept.tells ∙ t) (c.in-Ok.ensures.ok t) p.settled);
    }

pub returns-in-Err-put_entries-clause-causes : goal.returns-in-Err-put_entries-clause-causes
returns-in-Err-put_entries-clause-causes g c =
    later_stop (g.B.Backend.faults c.args.backend.now) (g.B.Backend.faults c.args.backend.now) (g.B.Backend.faults c.put_entries.new.backend) (g.S.TileStore.faults c.args.store.now) (g.S.TileStore.faults c.init_mbtiles_schema.new.store) (g.S.TileStore.faults c.put_entries.new.store) c.in-Err-put_entries.error
    (omega arith) c.init_mbtiles_schema.ensures.kept.faults c.in-Err-put_entries.ensures.causes

pub returns-in-Ok-commit_plain-clause-fills : goal.returns-in-Ok-commit_plain-clause-fills
returns-in-Ok-commit_plain-clause-fills g c t =
    let p = c.in-Ok-put_entries.ensures.puts in
    let mid = c.init_mbtiles_schema.ensures.kept.tells ∙ t in
    let all = with_contents empty c.args.entries.now p.contents in
    record {
      contents = p.contents;
      are = p.are;
      by = record {
        mid = g.S.TileStore.told c.put_entries.new.store;
        into = subst (λ (x : Tables). ArePutInto x (g.S.TileStore.told c.put_entries.new.store) all) (c.in-Ok.ensures.ok t) (p.settled mid);
        last = c.in-Ok-commit_plain.ensures.committed (c.put_entries.ensures.store_kept.tells ∙ mid);
      };
    }

pub returns-in-Err-commit_plain-clause-fills : goal.returns-in-Err-commit_plain-clause-fills
returns-in-Err-commit_plain-clause-fills g c t =
    let p = c.in-Ok-put_entries.ensures.puts in
    let mid = c.init_mbtiles_schema.ensures.kept.tells ∙ t in
    let all = with_contents empty c.args.entries.now p.contents in
    record {
      contents = p.contents;
      are = p.are;
      by = inr (whole_part (flat_made (g.S.TileStore.told c.args.store.now)) (g.S.TileStore.told c.put_entries.new.store) (g.S.TileStore.told c.commit_plain.new.store) all (end_of 0 c.args.entries.now)
          (all_below c.args.entries.now p.contents p.are.0 c.requires.ordered)
          (subst (λ (x : Tables). ArePutInto x (g.S.TileStore.told c.put_entries.new.store) all) (c.in-Ok.ensures.ok t) (p.settled mid))
          c.in-Err-commit_plain.ensures.refused);
    }

pub returns-in-Err-commit_plain-clause-causes : goal.returns-in-Err-commit_plain-clause-causes
returns-in-Err-commit_plain-clause-causes g c =
    let before = g.B.Backend.faults c.args.backend.now in
    let now = g.B.Backend.faults c.put_entries.new.backend in
    let old = g.S.TileStore.faults c.args.store.now in
    let mid = g.S.TileStore.faults c.put_entries.new.store in
    let new = g.S.TileStore.faults c.commit_plain.new.store in
    let first = c.init_mbtiles_schema.ensures.kept.faults in
    let next = c.put_entries.ensures.store_kept.faults in
    subst (StopCauses before now old new) (sym c.of_store-in-Err-commit_plain.ensures) (store_stops before now mid old new c.in-Err-commit_plain.error (omega (arith, first, next)) c.in-Err-commit_plain.ensures.free c.in-Err-commit_plain.ensures.fault.rose)

pub returns-in-Err-commit_plain-clause-told : goal.returns-in-Err-commit_plain-clause-told
returns-in-Err-commit_plain-clause-told g c =
    subst (StopAnswers (g.B.Backend.told c.args.backend.now)) (sym c.of_store-in-Err-commit_plain.ensures) (store_free (g.B.Backend.told c.args.backend.now) c.in-Err-commit_plain.error c.in-Err-commit_plain.ensures.free)
