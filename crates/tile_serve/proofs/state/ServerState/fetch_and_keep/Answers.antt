use Rattle.tile_serve.proofs.Common.{archive_tile, Finds, Ok, tiles_of, UsesOneLength}
use Rattle.tile_serve.proofs.ReplyingLemmas.{tiles_found_told}
use Rattle.tile_serve.proofs.ServingLemmas.{serves_by, tiles_told, told_again}
use Rattle.tile_serve.proofs.state.ServerState.fetch_and_keep.Goals as goal

pub returns-clause-serving : goal.returns-clause-serving
returns-clause-serving g c =
    let told = g.B.Backend.told c.fetch.new.backend in
    let versions = g.B.Backend.versions c.fetch.new.backend in
    let serving = c.in_ok-found.ensures.serving in
    let finds = told_again (λ b. UsesOneLength b → Finds (archive_tile b c.args.id) (Ok c.in_ok-found.found)) (g.B.Backend.told c.args.backend.now) told c.in_ok-found.ensures.kept.told c.in_ok-found.ensures.finds in
    serves_by told versions c.fetch.new.self c.keep.new.self c.keep.ensures.reader c.keep.ensures.directories (c.keep.ensures.within serving.within)
    (tiles_found_told told (tiles_of c.fetch.new.self) (tiles_of c.keep.new.self) c.args.id c.in_ok-found.found c.in_ok-keep.ensures.ok finds (tiles_told told versions c.fetch.new.self serving)) serving
