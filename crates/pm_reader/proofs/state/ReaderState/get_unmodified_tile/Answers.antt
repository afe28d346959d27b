use Rattle.pm_reader.proofs.ReadsFromLemmas.{reads_on, unmodified_answer, unmodified_hops, unmodified_trusts}
use Rattle.pm_reader.proofs.state.ReaderState.get_unmodified_tile.Goals as goal

pub returns-clause-from : goal.returns-clause-from
returns-clause-from g c =
    reads_on (g.B.Backend.told c.args.backend.now) _ c.args.self.now _ _ (g.C.DirectoryCache.idle c.args.cache.now) _ c.find_unmodified.ensures.kept.told (λ i o. g.met.C.DirectoryCache.idle_is_empty _ o i) c.requires.from
    (unmodified_trusts (g.B.Backend.told c.args.backend.now) c.args.self.now c.args.tile_id _ _ _ _ (g.C.DirectoryCache.idle c.args.cache.now) _ _ c.find_unmodified.ensures.found)

pub returns-clause-answer : goal.returns-clause-answer
returns-clause-answer g c =
    unmodified_answer (g.B.Backend.told c.args.backend.now) c.args.self.now c.args.tile_id _ _ _ _ (g.C.DirectoryCache.idle c.args.cache.now) _ c.find_unmodified.result c.requires.from c.find_unmodified.ensures.found

pub returns-clause-hops : goal.returns-clause-hops
returns-clause-hops g c =
    unmodified_hops (g.B.Backend.told c.args.backend.now) c.args.self.now c.args.tile_id _ _ _ _ (g.C.DirectoryCache.idle c.args.cache.now) _ c.find_unmodified.result c.requires.from c.find_unmodified.ensures.found
