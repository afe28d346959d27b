use Rattle.tile_serve.proofs.Common.{refl}
use Rattle.tile_serve.proofs.ServingLemmas.{fetched, limited}
use Rattle.tile_serve.proofs.state.ServerState.fetch.Goals as goal

pub returns-clause-serving : goal.returns-clause-serving
returns-clause-serving g c =
    let e = c.get_unmodified_tile-read.ensures in
    fetched (g.B.Backend.told c.args.backend.now) (g.B.Backend.told c.get_unmodified_tile-read.new.backend) (g.B.Backend.versions c.args.backend.now) (g.B.Backend.versions c.get_unmodified_tile-read.new.backend) c.args.self.now _
    e.kept.told e.kept.versions refl refl e.limits e.from c.requires.serving

pub returns-clause-directories : goal.returns-clause-directories
returns-clause-directories g c =
    let w = limited c.args.self.now.directories c.get_unmodified_tile-read.new.cache c.get_unmodified_tile-read.ensures.limits c.requires.serving.directories in
    (w.0, w.1)
