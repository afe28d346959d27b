use Rattle.tile_serve.proofs.Common.{lookup, nat_eq, None, refl, rules, Some, tiles_of, ◌≡◌}
use Rattle.tile_serve.proofs.ReplyingLemmas.{finds_held, leaves_fetched, tiles_used_told}
use Rattle.tile_serve.proofs.ServingLemmas.{serves_by, tiles_told}
use Rattle.tile_serve.proofs.state.ServerState.find.Goals as goal

pub returns-in_err-bytes-clause-serving : goal.returns-in_err-bytes-clause-serving
returns-in_err-bytes-clause-serving g c =
    let told = g.B.Backend.told c.args.backend.now in
    let versions = g.B.Backend.versions c.args.backend.now in
    serves_by told versions c.args.self.now _ refl refl c.get.ensures.within (tiles_used_told told (tiles_of c.args.self.now) c.get.new.self c.args.id c.get.ensures.used (tiles_told told versions c.args.self.now c.requires.serving)) c.requires.serving

pub fetch_and_keep-requires : goal.fetch_and_keep-requires
fetch_and_keep-requires g c =
    let told = g.B.Backend.told c.args.backend.now in
    let versions = g.B.Backend.versions c.args.backend.now in
    record {
      serving = serves_by told versions c.args.self.now _ refl refl c.get.ensures.within (tiles_used_told told (tiles_of c.args.self.now) c.get.new.self c.args.id c.get.ensures.used (tiles_told told versions c.args.self.now c.requires.serving)) c.requires.serving;
    }

pub returns-in-Some-clause-serving : goal.returns-in-Some-clause-serving
returns-in-Some-clause-serving g c =
    let told = g.B.Backend.told c.args.backend.now in
    let versions = g.B.Backend.versions c.args.backend.now in
    serves_by told versions c.args.self.now _ refl refl c.get.ensures.within (tiles_used_told told (tiles_of c.args.self.now) c.get.new.self c.args.id c.get.ensures.used (tiles_told told versions c.args.self.now c.requires.serving)) c.requires.serving

pub returns-in-Some-clause-finds : goal.returns-in-Some-clause-finds
returns-in-Some-clause-finds g c =
    let told = g.B.Backend.told c.args.backend.now in
    let held : lookup (nat_eq c.args.id) (tiles_of c.args.self.now).pairs ≡ Some c.in-Some.bytes = search rules in
    finds_held told (tiles_of c.args.self.now) c.args.id c.in-Some.bytes held (tiles_told told (g.B.Backend.versions c.args.backend.now) c.args.self.now c.requires.serving)

pub returns-in-None-clause-tiles : goal.returns-in-None-clause-tiles
returns-in-None-clause-tiles g c =
    let none : lookup (nat_eq c.args.id) (tiles_of c.args.self.now).pairs ≡ None = search rules in
    leaves_fetched (tiles_of c.args.self.now) c.get.new.self (tiles_of c.fetch_and_keep.new.self) c.args.id c.fetch_and_keep.result c.get.ensures.used none c.fetch_and_keep.ensures.tiles c.fetch_and_keep.ensures.err
