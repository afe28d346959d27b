use Rattle.tile_bridge.proofs.Common.{add_to, ap, medium_then, rules, shown, subst, sym, take, Took, took_as, took_more, TookAll, ◌∙◌}
use Rattle.tile_bridge.proofs.WritingLemmas.{add_refused, added_to, fits_at}
use Rattle.tile_bridge.proofs.writing.add_all.Goals as goal

pub returns-in_err-add_raw_tile_by_id-clause-causes : goal.returns-in_err-add_raw_tile_by_id-clause-causes
returns-in_err-add_raw_tile_by_id-clause-causes g c =
    let i = c.loop-index.invariant in
    let tiles = c.args.set.now.state.tiles in
    let told = g.M.Backend.told c.args.medium.now in
    let before = g.M.Backend.told c.loop-index.medium in
    let m = i.0 _ c.requires.begun.1 in
    let u = c.in_err-add_raw_tile_by_id.ensures.causes _ _ (c.in_ok-make_room.ensures.same _ _ _ m.2) in
    let fits = fits_at told c.requires.begun.0 tiles c.args.adds.now c.loop-index.index c.index-adds-index.result m.0 u.0 c.loop-index-test.true c.index-adds-index.is c.requires.begun.2 m.1 (subst (λ bytes. Took told bytes u.0) c.tile_bytes.ensures (took_as (λ takes. takes c.tile_bytes.result.now u.0) before told (sym i.2.tells) u.1.0)) in
    add_refused _ _ (g.M.Backend.faults c.args.medium.now) (g.M.Backend.faults c.loop-index.medium) (g.M.Backend.faults c.add_raw_tile_by_id.new.medium) _ _ _ (c.in_ok-make_room.ensures.alive ∙ i.1)
    fits i.2.faults u.2 c.from_residual-in_err-add_raw_tile_by_id.ensures.1

pub loop-index-preserved : goal.loop-index-preserved
loop-index-preserved g c =
    let i = c.loop-index.invariant in
    let tiles = c.args.set.now.state.tiles in
    let id = c.index-adds-index.result.id in
    let bytes = c.tile_bytes.result.now in
    let told = g.M.Backend.told c.args.medium.now in
    let before = g.M.Backend.told c.loop-index.medium in (
      λ o w.
          let m = i.0 o w in
          let a = c.in_ok-add_raw_tile_by_id.ensures.added o m.0 (c.in_ok-make_room.ensures.same o _ _ m.2) in (
            add_to m.0 id a.0,
            subst (λ adds. TookAll told adds (add_to m.0 id a.0))
                (ap (add_to (take c.loop-index.index (shown tiles c.args.adds.now)) id) c.tile_bytes.ensures ∙ added_to tiles c.args.adds.now c.loop-index.index c.index-adds-index.result c.loop-index-test.true c.index-adds-index.is c.requires.begun.2.filled)
                (took_more told (take c.loop-index.index (shown tiles c.args.adds.now)) m.0 id bytes a.0 m.1 (took_as (λ takes. takes bytes a.0) before told (sym i.2.tells) a.1.0)),
            a.2,
          ),
      search rules,
      medium_then g.M.Backend.told g.M.Backend.versions g.M.Backend.reads g.M.Backend.faults g.M.Backend.steady c.args.medium.now c.loop-index.medium c.add_raw_tile_by_id.new.medium i.2 c.in_ok-add_raw_tile_by_id.ensures.kept,
      c.in_ok-add_raw_tile_by_id.ensures.still ∙ i.3,
    )
