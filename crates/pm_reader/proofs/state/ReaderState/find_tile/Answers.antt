use Rattle.pm_reader.proofs.Common.{◌∙◌}
use Rattle.pm_reader.proofs.FoundTileLemmas.{told_found, told_none, told_past, told_refused}
use Rattle.pm_reader.proofs.state.ReaderState.find_tile.Goals as goal

pub returns-in_err-reached-clause-found : goal.returns-in_err-reached-clause-found
returns-in_err-reached-clause-found g c =
    told_refused (g.B.Backend.told c.args.backend.now) c.args.self.now.header c.args.self.now.root c.args.tile_id c.copied-found.result _ _ (g.C.DirectoryCache.held c.args.cache.now) _ (g.C.DirectoryCache.idle c.args.cache.now) _ c.in_err-reached.field-0.0 c.from_residual.result
    (c.copied-found.ensures ∙ c.find_tile_id.ensures) c.in_err-reached.ensures.way c.from_residual.ensures.1

pub returns-in_default-clause-found : goal.returns-in_default-clause-found
returns-in_default-clause-found g c =
    told_none (g.B.Backend.told c.args.backend.now) c.args.self.now.header c.args.self.now.root c.args.tile_id c.copied-found.result c.in_ok-reached.reached _ _ (g.C.DirectoryCache.held c.args.cache.now) _ (g.C.DirectoryCache.idle c.args.cache.now) _
    (c.copied-found.ensures ∙ c.find_tile_id.ensures) c.in_default.is c.in_ok-reached.ensures.way

pub returns-in_err-response-clause-found : goal.returns-in_err-response-clause-found
returns-in_err-response-clause-found g c =
    told_past (g.B.Backend.told c.args.backend.now) _ c.args.self.now.header c.args.self.now.root c.args.tile_id c.copied-found.result c.in_ok-reached.reached c.in-Some.entry c.offset.result c.from-length.result _ _ _
    (g.C.DirectoryCache.held c.args.cache.now) _ (g.C.DirectoryCache.idle c.args.cache.now) _ c.in_err-response.field-0.0 c.from_residual-in_err-response.result
    c.in_ok-reached.ensures.kept.told (c.copied-found.ensures ∙ c.find_tile_id.ensures) c.in-Some.is (cc) (cc) c.in_ok-reached.ensures.way c.in_err-response.ensures.answer c.in_err-response.ensures.reads.most c.from_residual-in_err-response.ensures.1

pub returns-clause-found : goal.returns-clause-found
returns-clause-found g c =
    told_found (g.B.Backend.told c.args.backend.now) _ c.args.self.now.header c.args.self.now.root c.args.tile_id c.copied-found.result c.in_ok-reached.reached c.in-Some.entry c.offset.result c.from-length.result _ _ _
    (g.C.DirectoryCache.held c.args.cache.now) _ (g.C.DirectoryCache.idle c.args.cache.now) _ c.in_ok-response.response.bytes
    c.in_ok-reached.ensures.kept.told (c.copied-found.ensures ∙ c.find_tile_id.ensures) c.in-Some.is (cc) (cc) c.in_ok-reached.ensures.way c.in_ok-response.ensures.answer c.in_ok-response.ensures.reads.most
