use Rattle.tile_streaming.proofs.Common.{ap, Bool, map, subst, sym, ◌∙◌, ◌∷◌, ◌≡◌}
use Rattle.mb_loaded.specs.Held.{Held}
use Rattle.tile_bridge.proofs.StandsLemmas.{base_stands, stores_anyway, stores_handed}
use Rattle.tile_bridge.specs.Stands.{StoresStandAt}
use Rattle.tile_bridge.specs.Stores.{due_patches, Refuses}
use Rattle.tile_streaming.proofs.OverlaidLemmas.{stands_bytes}
use Rattle.tile_streaming.proofs.PatchLemmas.{stands_again}
use Rattle.tile_streaming.proofs.ResolveLemmas.{base_refused, begun_is, begun_told, has_settled, patches_refused}
use Rattle.tile_streaming.specs.Patching.{if_told}
use Rattle.tile_streaming.proofs.resolving.resolve.Goals as goal

pub patch_all-requires : goal.patch_all-requires
patch_all-requires g c =
    let begun = c.in_ok-set.ensures.begun in
    let kept = c.read_base.ensures.kept in
    (begun.state, stands_again (g.S.TileStore.tells c.args.base.now) (g.S.TileStore.tells c.read_base.new.base) (g.S.TileStore.told c.args.base.now) (g.S.TileStore.told c.read_base.new.base) c.in_ok-set.set begun.state kept.tells kept.told begun.stands)

pub returns-in_err-set-clause-refused : goal.returns-in_err-set-clause-refused
returns-in_err-set-clause-refused g c =
    base_refused g.S.TileStore.tells g.S.TileStore.told g.P.TileStore.tells g.P.TileStore.told c.args.base.now c.args.patches.now.items c.args.force
    c.in_err-set.field-0.0 c.from_residual.result c.in_err-set.ensures.refused c.from_residual.ensures.1

pub returns-in_err-set-2-clause-refused : goal.returns-in_err-set-2-clause-refused
returns-in_err-set-2-clause-refused g c =
    let begun = c.in_ok-set.ensures.begun in
    let kept = c.read_base.ensures.kept in
    let stands = stands_again (g.S.TileStore.tells c.args.base.now) (g.S.TileStore.tells c.read_base.new.base) (g.S.TileStore.told c.args.base.now) (g.S.TileStore.told c.read_base.new.base) c.in_ok-set.set begun.state kept.tells kept.told begun.stands in
    patches_refused g.S.TileStore.tells g.S.TileStore.told g.P.TileStore.tells g.P.TileStore.told c.args.base.now c.args.patches.now.items c.args.force begun.state begun.is_told
    c.in_err-set-2.field-0.0 c.from_residual-in_err-set-2.result
    (subst (λ (b : Bool). Refuses (if_told b (due_patches c.args.force 1 begun.state (map g.P.TileStore.tells c.args.patches.now.items) (map g.P.TileStore.told c.args.patches.now.items))) c.in_err-set-2.field-0.0) kept.tells (c.in_err-set-2.ensures.refused begun.state stands))
    c.from_residual-in_err-set-2.ensures.1

pub returns-clause-held : goal.returns-clause-held
returns-clause-held g c =
    let tells = g.S.TileStore.tells c.args.base.now in
    let told = g.S.TileStore.told c.args.base.now in
    let begun = c.in_ok-set.ensures.begun in
    let kept = c.read_base.ensures.kept in
    let set = c.in_ok-set-2.set in
    let p = c.in_ok-settle.field-0 in
    let after = c.in_ok-set-2.ensures.after begun.state (stands_again tells (g.S.TileStore.tells c.read_base.new.base) told (g.S.TileStore.told c.read_base.new.base) c.in_ok-set.set begun.state kept.tells kept.told begun.stands) in
    let stands = stands_again (g.S.TileStore.tells c.read_base.new.base) tells (g.S.TileStore.told c.read_base.new.base) told set after.state (sym kept.tells) (sym kept.told) after.stands in
    record {
      state = after.state;
      is_due = begun_is g.S.TileStore.tells g.S.TileStore.told g.P.TileStore.tells g.P.TileStore.told c.args.base.now c.args.patches.now.items c.args.force begun.state begun.is_told after.state after.is_due;
      told = begun_told g.S.TileStore.tells g.S.TileStore.told g.P.TileStore.tells g.P.TileStore.told c.args.base.now c.args.patches.now.items c.args.force;
      held = c.in_ok-settle.ensures.held tells told after.state stands;
      has = λ u.
          has_settled p set.over.state.tiles set.rest.layout told after.state.tiles (ap (λ (h : Held). h.state.tiles) c.in_ok-settle.ensures.over) c.in_ok-settle.ensures.layout
          (stands_bytes tells told set after.state stands u);
    }

pub returns-in_err-set-clause-still : goal.returns-in_err-set-clause-still
returns-in_err-set-clause-still g c =
    base_stands (g.S.TileStore.faults c.args.base.now) (g.S.TileStore.faults c.read_base.new.base) (map g.P.TileStore.faults c.args.patches.now.items) c.in_err-set.field-0.0 c.from_residual.result c.in_err-set.ensures.placed c.from_residual.ensures.1

pub returns-in_err-set-2-clause-still : goal.returns-in_err-set-2-clause-still
returns-in_err-set-2-clause-still g c =
    let before = map g.P.TileStore.faults c.args.patches.now.items in
    let now = g.S.TileStore.faults c.patch_all.new.base ∷ map g.P.TileStore.faults c.patch_all.new.patches.items in
    stores_handed (g.S.TileStore.faults c.args.base.now ∷ before) now c.in_err-set-2.field-0.0 c.from_residual-in_err-set-2.result
    (subst (λ n. StoresStandAt (n ∷ before) now c.in_err-set-2.field-0.0) c.in_ok-set.ensures.still c.in_err-set-2.ensures.still) c.from_residual-in_err-set-2.ensures.1

pub returns-in_err-settle-clause-still : goal.returns-in_err-settle-clause-still
returns-in_err-settle-clause-still g c =
    let before = map g.P.TileStore.faults c.args.patches.now.items in
    stores_anyway (g.S.TileStore.faults c.args.base.now ∷ before) (g.S.TileStore.faults c.patch_all.new.base ∷ map g.P.TileStore.faults c.patch_all.new.patches.items) c.from_residual-in_err-settle.result (c.in_ok-set-2.ensures.still ∙ ap (λ n. n ∷ before) c.in_ok-set.ensures.still)

pub returns-clause-still : goal.returns-clause-still
returns-clause-still g c =
    let before = map g.P.TileStore.faults c.args.patches.now.items in
    c.in_ok-set-2.ensures.still ∙ ap (λ n. n ∷ before) c.in_ok-set.ensures.still
