use Rattle.set_import.proofs.Common.{false≢true, sym, ◌∙◌, ◌≡◌}
use Rattle.set_import.proofs.StreamedLemmas.{left_stopped, reads_fewer, refused_more}
use Rattle.set_import.proofs.streaming.stream_in.Goals as goal

pub stream-requires-clause-new : goal.stream-requires-clause-new
stream-requires-clause-new g c t = (c.requires.new t).0 c.if-is_new.true

pub fill_in-requires-clause-new : goal.fill_in-requires-clause-new
fill_in-requires-clause-new g c t = (λ is. absurd (false≢true is), λ none. absurd (false≢true (sym c.if-is_new.false ∙ (c.requires.new t).1 none)))

pub returns-clause-refused : goal.returns-clause-refused
returns-clause-refused g c = refused_more (g.S.TileStore.told c.fill_in.new.store ≡ g.S.TileStore.told c.args.store.now) c.fill_in.result c.fill_in.ensures.refused

pub returns-clause-stopped : goal.returns-clause-stopped
returns-clause-stopped g c t =
    left_stopped (g.B.Backend.told c.args.backend.now) (g.S.TileStore.told c.args.store.now) (g.S.TileStore.told c.fill_in.new.store) c.fill_in.result (λ none. false≢true (sym c.if-is_new.false ∙ (c.requires.new t).1 none)) (c.fill_in.ensures.left t)

pub returns-clause-reads : goal.returns-clause-reads
returns-clause-reads g c = reads_fewer (g.B.Backend.told c.args.backend.now) (g.B.Backend.reads c.args.backend.now) (g.B.Backend.reads c.fill_in.new.backend) c.fill_in.ensures.reads
