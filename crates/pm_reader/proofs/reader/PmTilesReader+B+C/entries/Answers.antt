use Rattle.pm_reader.proofs.WalkBeginsLemmas.{told_begins}
use Rattle.pm_reader.proofs.reader.PmTilesReader+B+C.entries.Goals as goal

pub returns-clause-items : goal.returns-clause-items
returns-clause-items g c =
    told_begins (g.B.Backend.told c.args.self.backend.now) c.args.self.state c.entries.result c.args.budget _ (g.C.DirectoryCache.idle c.args.self.cache) c.entries.ensures.items c.requires.tied
