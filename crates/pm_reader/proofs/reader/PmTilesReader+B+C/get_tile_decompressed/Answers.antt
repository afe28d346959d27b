use Rattle.pm_reader.proofs.Common.{IsCacheable}
use Rattle.pm_reader.proofs.PlainLemmas.{plain_answer_if, plain_causes, plain_whole}
use Rattle.pm_reader.proofs.reader.PmTilesReader+B+C.get_tile_decompressed.Goals as goal

pub returns-clause-answer : goal.returns-clause-answer
returns-clause-answer g c =
    plain_answer_if (g.B.Backend.told c.args.self.now.backend.now) (λ b. IsCacheable b (g.C.DirectoryCache.idle c.args.self.now.cache)) c.args.tile_id c.get_tile-found.new.self.state.header.tile_compression c.get_tile-found.result _ c.require_plain.ensures c.get_tile-found.ensures.answer

pub returns-clause-causes : goal.returns-clause-causes
returns-clause-causes g c = plain_causes c.get_tile-found.new.self.state.header.tile_compression _ _ c.get_tile-found.result _ c.require_plain.ensures c.get_tile-found.ensures.causes

pub returns-clause-whole : goal.returns-clause-whole
returns-clause-whole g c = plain_whole (g.B.Backend.told c.args.self.now.backend.now) c.get_tile-found.new.self.state.header.tile_compression c.get_tile-found.result _ c.require_plain.ensures c.get_tile-found.ensures.whole
