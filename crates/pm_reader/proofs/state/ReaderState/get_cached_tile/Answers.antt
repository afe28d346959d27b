use Rattle.pm_reader.proofs.Common.{ap, Ok, refl}
use Rattle.pm_reader.proofs.ReadsFromLemmas.{found_answer, found_hops, found_trusts, reads_on}
use Rattle.pm_reader.proofs.state.ReaderState.get_cached_tile.Goals as goal

pub returns-in-Ok-clause-from : goal.returns-in-Ok-clause-from
returns-in-Ok-clause-from g c =
    reads_on (g.B.Backend.told c.args.backend.now) _ c.args.self.now _ _ (g.C.DirectoryCache.idle c.args.cache.now) _ c.find_tile.ensures.kept.told (λ i o. g.met.C.DirectoryCache.idle_is_empty _ o i) c.requires.from
    (found_trusts (g.B.Backend.told c.args.backend.now) c.args.self.now c.args.tile_id _ _ _ _ (g.C.DirectoryCache.idle c.args.cache.now) _ _ c.find_tile.ensures.found)

pub returns-in-Ok-clause-answer : goal.returns-in-Ok-clause-answer
returns-in-Ok-clause-answer g c =
    found_answer (g.B.Backend.told c.args.backend.now) c.args.self.now c.args.tile_id _ _ _ _ (g.C.DirectoryCache.idle c.args.cache.now) _ _ (Ok c.contents.result) (ap Ok c.contents.ensures) c.requires.from c.in-Ok.ensures.found

pub returns-in-Ok-clause-hops : goal.returns-in-Ok-clause-hops
returns-in-Ok-clause-hops g c =
    found_hops (g.B.Backend.told c.args.backend.now) c.args.self.now c.args.tile_id _ _ _ _ (g.C.DirectoryCache.idle c.args.cache.now) _ _ c.requires.from c.find_tile.ensures.found

pub returns-in-Err-clause-from : goal.returns-in-Err-clause-from
returns-in-Err-clause-from g c =
    reads_on (g.B.Backend.told c.args.backend.now) _ c.args.self.now _ _ (g.C.DirectoryCache.idle c.args.cache.now) _ c.find_tile.ensures.kept.told (λ i o. g.met.C.DirectoryCache.idle_is_empty _ o i) c.requires.from
    (found_trusts (g.B.Backend.told c.args.backend.now) c.args.self.now c.args.tile_id _ _ _ _ (g.C.DirectoryCache.idle c.args.cache.now) _ _ c.find_tile.ensures.found)

pub returns-in-Err-clause-answer : goal.returns-in-Err-clause-answer
returns-in-Err-clause-answer g c =
    found_answer (g.B.Backend.told c.args.backend.now) c.args.self.now c.args.tile_id _ _ _ _ (g.C.DirectoryCache.idle c.args.cache.now) _ _ _ refl c.requires.from c.in-Err.ensures.found

pub returns-in-Err-clause-hops : goal.returns-in-Err-clause-hops
returns-in-Err-clause-hops g c =
    found_hops (g.B.Backend.told c.args.backend.now) c.args.self.now c.args.tile_id _ _ _ _ (g.C.DirectoryCache.idle c.args.cache.now) _ _ c.requires.from c.find_tile.ensures.found
