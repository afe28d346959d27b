use Rattle.tile_streaming.proofs.Common.{ap, IsTaken, subst, sym, xxh3_64, ◌∙◌}
use Rattle.tile_streaming.proofs.StandsLemmas.{written_medium}
use Rattle.tile_streaming.proofs.writing.add_row.Goals as goal

pub add_raw_tile_with_digest-requires-clause-digest : goal.add_raw_tile_with_digest-requires-clause-digest
add_raw_tile_with_digest-requires-clause-digest g c = c.requires.digest ∙ ap xxh3_64 (sym c.bytes_in-bytes.ensures)

pub returns-in-Ok-clause-added : goal.returns-in-Ok-clause-added
returns-in-Ok-clause-added g c = λ o adds w.
    let told = g.M.Backend.told c.args.medium.now in
    let a = c.in-Ok.ensures.added o adds w in
    subst (λ bytes. IsTaken o adds c.args.mark.now.id bytes told (g.M.Backend.told c.add_raw_tile_with_digest.new.medium) c.add_raw_tile_with_digest.new.self) c.bytes_in-bytes.ensures
    (record { taken = a.0; took = a.1.0; writes = a.2 })

pub returns-clause-still : goal.returns-clause-still
returns-clause-still g c = written_medium _ _ c.in-Err.error c.of_writer.result c.of_writer.ensures
