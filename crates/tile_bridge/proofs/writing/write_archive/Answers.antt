use Rattle.tile_bridge.proofs.Common.{all_took_as, archive, IsHiddenOr, rules, shown, sym, told_as_given, ◌∙◌, ◌≡◌}
use Rattle.std.proofs.lemmas.Result.{on_ok_weaker}
use Rattle.tile_bridge.proofs.WritingLemmas.{at_ok, finish_refused, placed, written_took}
use Rattle.tile_bridge.proofs.writing.write_archive.Goals as goal

pub finalize-requires : goal.finalize-requires
finalize-requires g c =
    let t = c.in_ok-add_all.ensures.added c.args.options.now c.in_ok-state.ensures.begun in
    record { writes = (c.args.options.now, t.0, t.2) }

pub returns-clause-causes : goal.returns-clause-causes
returns-clause-causes g c =
    let o = c.args.options.now in
    let adds = shown c.args.set.now.state.tiles c.args.adds.now in
    let t = c.in_ok-add_all.ensures.added o c.in_ok-state.ensures.begun in
    finish_refused o t.0 (g.M.Backend.faults c.args.medium.now) (g.M.Backend.faults c.add_all.new.medium) (g.M.Backend.faults c.finalize.new.medium) _ _
    c.in_ok-add_all.ensures.alive (written_took _ o adds t.0 t.1 c.requires.fit) (search rules) (c.finalize.ensures.causes o t.0 t.2)

pub returns-clause-bytes : goal.returns-clause-bytes
returns-clause-bytes g c =
    let o = c.args.options.now in
    let adds = shown c.args.set.now.state.tiles c.args.adds.now in
    let t = c.in_ok-add_all.ensures.added o c.in_ok-state.ensures.begun in
    on_ok_weaker c.finalize.result (told_as_given (λ adds b. b ≡ archive o adds) _ (g.M.Backend.told c.finalize.new.medium) adds t.0 (c.finalize.ensures.kept.tells ∙ c.add_all.ensures.kept.tells) t.1) (c.finalize.ensures.bytes o t.0 t.2)

pub returns-clause-places : goal.returns-clause-places
returns-clause-places g c =
    let o = c.args.options.now in
    let adds = shown c.args.set.now.state.tiles c.args.adds.now in
    let t = c.in_ok-add_all.ensures.added o c.in_ok-state.ensures.begun in
    placed (g.M.Backend.told c.args.medium.now) o adds t.0 c.finalize.result (all_took_as _ (g.M.Backend.told c.args.medium.now) adds t.0 (sym c.start.ensures.tells) t.1) (c.finalize.ensures.places o t.0 t.2)

pub returns-clause-shown : goal.returns-clause-shown
returns-clause-shown g c =
    let o = c.args.options.now in
    let adds = shown c.args.set.now.state.tiles c.args.adds.now in
    let t = c.in_ok-add_all.ensures.added o c.in_ok-state.ensures.begun in
    told_as_given (λ adds. IsHiddenOr (archive o adds)) _ (g.M.Backend.told c.finalize.new.medium) adds t.0 (c.finalize.ensures.kept.tells ∙ c.add_all.ensures.kept.tells) t.1 (c.finalize.ensures.shown o t.0 t.2)

pub returns-clause-still : goal.returns-clause-still
returns-clause-still g c = at_ok _ _ _ c.finalize.result (c.in_ok-add_all.ensures.still ∙ c.in_ok-state.ensures.still) c.finalize.ensures.still
