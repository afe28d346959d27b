use Rattle.tile_bridge.proofs.Common.{ap, arith, ConvertCauses, ConvertOptions, due, IsEmpty, IsStored, Leaves, length-map, map, MediumFault, not, refl, rules, SetCauses, subst, sym, unwrap_or, ◌∙◌, ◌∷◌}
use Rattle.tile_bridge.proofs.BaseLemmas.{base_of}
use Rattle.tile_bridge.proofs.ConvertLemmas.{none_told}
use Rattle.tile_bridge.proofs.FoldLemmas.{as_long}
use Rattle.tile_bridge.proofs.LeavesLemmas.{of_set}
use Rattle.tile_bridge.proofs.OutcomeLemmas.{refused_causes, set_causes, store_refuses}
use Rattle.tile_bridge.proofs.StandsLemmas.{base_stands, medium_after, medium_anyway, medium_handed, stores_after, stores_anyway, stores_handed}
use Rattle.tile_bridge.proofs.conversion.convert.Goals as goal

pub returns-in_err-store_patches-clause-causes : goal.returns-in_err-store_patches-clause-causes
returns-in_err-store_patches-clause-causes g c =
    let due_by = λ (o : ConvertOptions). due g.S.TileStore.tells g.S.TileStore.told g.P.TileStore.tells g.P.TileStore.told c.args.base.now c.args.patches.now.items o in
    let o = c.asked-asked.result.now in
    let told = g.M.Backend.told c.args.medium.now in
    subst (λ (o : ConvertOptions). ConvertCauses o.writer (due_by o) told c.from_residual-in_err-store_patches.result) c.asked-asked.ensures
    (refused_causes o.writer (due_by o) told c.in_err-store_patches.field-0.0 c.from_residual-in_err-store_patches.result
    (none_told _ _ c.in_ok-length.ensures.answer c.if-length-ne0.false) (search rules) (store_refuses (due_by o) c.in_err-store_patches.field-0.0 c.in_err-store_patches.ensures.causes) c.from_residual-in_err-store_patches.ensures.1)

pub convert_set-requires-clause-empty : goal.convert_set-requires-clause-empty
convert_set-requires-clause-empty g c = subst IsEmpty (sym c.len.ensures.kept.told) (none_told _ _ c.in_ok-length.ensures.answer c.if-length-ne0.false)

pub returns-clause-causes : goal.returns-clause-causes
returns-clause-causes g c =
    let due_by = λ (o : ConvertOptions). due g.S.TileStore.tells g.S.TileStore.told g.P.TileStore.tells g.P.TileStore.told c.args.base.now c.args.patches.now.items o in
    let o = c.asked-asked.result.now in
    let told = g.M.Backend.told c.args.medium.now in
    subst (λ (o : ConvertOptions). ConvertCauses o.writer (due_by o) told c.convert_set.result) c.asked-asked.ensures
    (set_causes o.writer (due_by o) c.in_ok-set.set.state c.in_ok-set.ensures.state told c.convert_set.result
    (none_told _ _ c.in_ok-length.ensures.answer c.if-length-ne0.false) (search rules) (subst (λ m. SetCauses m c.convert_set.result) c.len.ensures.kept.told c.convert_set.ensures.causes))

pub returns-clause-leaves : goal.returns-clause-leaves
returns-clause-leaves g c =
    let due_by = λ (o : ConvertOptions). due g.S.TileStore.tells g.S.TileStore.told g.P.TileStore.tells g.P.TileStore.told c.args.base.now c.args.patches.now.items o in
    let gives = g.O.ArchiveOptions.gives c.args.options.now in
    let o = c.asked-asked.result.now in
    let patches = c.args.patches.now.items in
    let base = g.S.TileStore.told c.args.base.now in
    let base_now = g.S.TileStore.told c.store_patches.new.base in
    let tells = g.S.TileStore.tells c.args.base.now in
    let patches_tell = map g.P.TileStore.tells patches in
    let patches_told = map g.P.TileStore.told patches in
    let medium = g.M.Backend.told c.args.medium.now in
    let medium_now = g.M.Backend.told c.convert_set.new.medium in
    subst (λ (o : ConvertOptions). Leaves gives (due_by o) o tells patches_tell patches_told c.args.coords.now c.convert_set.result medium medium_now base base_now) c.asked-asked.ensures
    (of_set gives (due_by o) o tells patches_tell patches_told c.args.coords.now c.convert_set.result medium (g.M.Backend.told c.len.new.self) medium_now base base_now
    c.in_ok-set.set.state c.chosen.result.now c.in_ok-set.aggregate c.in_ok-set.ensures.state
    (subst (gives c.in_ok-set.set.state) (sym (c.chosen.ensures.writer ∙ ap (λ (o : ConvertOptions). unwrap_or c.in_ok-made.made o.writer) c.asked-asked.ensures)) c.in_ok-made.ensures.given)
    (none_told _ _ c.in_ok-length.ensures.answer c.if-length-ne0.false) c.len.ensures.kept.told c.convert_set.ensures.causes c.convert_set.ensures.leaves c.convert_set.ensures.places c.convert_set.ensures.aggregate c.in_ok-set.ensures.aggregate
    (base_of o tells patches_tell patches_told base base_now c.in_ok-set.set c.in_ok-set.ensures.held
    c.resolve.new.patches.len (not c.is_empty.result) (omega (arith, c.resolve.new.patches.ok.0, as_long g.P.TileStore.told patches c.resolve.new.patches.items c.in_ok-set.ensures.patches.told, length-map patches g.P.TileStore.told)) (ap not c.is_empty.ensures)
    (λ u. subst (λ a. IsStored (not c.is_empty.result) c.in_ok-set.set a base_now) c.in_ok-set.ensures.base_kept.told (c.in_ok-store_patches.ensures.stored (c.in_ok-set.ensures.base_kept.tells ∙ u)))
    (λ u. g.met.S.TileStore.sound c.store_patches.new.base (c.in_ok-store_patches.ensures.kept.tells ∙ c.in_ok-set.ensures.base_kept.tells ∙ u))))

pub returns-in_err-length-clause-stores_still : goal.returns-in_err-length-clause-stores_still
returns-in_err-length-clause-stores_still g c = stores_anyway _ _ c.from_residual.result refl

pub returns-in_err-set-clause-stores_still : goal.returns-in_err-set-clause-stores_still
returns-in_err-set-clause-stores_still g c = stores_handed _ _ c.in_err-set.field-0.0 c.from_residual-in_err-set.result c.in_err-set.ensures.still c.from_residual-in_err-set.ensures.1

pub returns-in_err-made-clause-stores_still : goal.returns-in_err-made-clause-stores_still
returns-in_err-made-clause-stores_still g c = stores_anyway _ _ c.from_residual-in_err-made.result c.in_ok-set.ensures.still

pub returns-in_err-store_patches-clause-stores_still : goal.returns-in_err-store_patches-clause-stores_still
returns-in_err-store_patches-clause-stores_still g c =
    let patches = map g.P.TileStore.faults c.resolve.new.patches.items in
    stores_after (g.S.TileStore.faults c.args.base.now ∷ map g.P.TileStore.faults c.args.patches.now.items) (g.S.TileStore.faults c.resolve.new.base ∷ patches) (g.S.TileStore.faults c.store_patches.new.base ∷ patches) c.from_residual-in_err-store_patches.result c.in_ok-set.ensures.still
    (base_stands (g.S.TileStore.faults c.resolve.new.base) (g.S.TileStore.faults c.store_patches.new.base) patches c.in_err-store_patches.field-0.0 c.from_residual-in_err-store_patches.result c.in_err-store_patches.ensures.placed c.from_residual-in_err-store_patches.ensures.1)

pub returns-clause-stores_still : goal.returns-clause-stores_still
returns-clause-stores_still g c =
    let patches = map g.P.TileStore.faults c.resolve.new.patches.items in
    stores_anyway (g.S.TileStore.faults c.args.base.now ∷ map g.P.TileStore.faults c.args.patches.now.items) (g.S.TileStore.faults c.store_patches.new.base ∷ patches) c.convert_set.result (ap (λ n. n ∷ patches) c.in_ok-store_patches.ensures.still ∙ c.in_ok-set.ensures.still)

pub returns-in_err-length-clause-medium_still : goal.returns-in_err-length-clause-medium_still
returns-in_err-length-clause-medium_still g c = medium_handed _ _ MediumFault c.from_residual.result tt c.from_residual.ensures.1

pub returns-in_err-set-clause-medium_still : goal.returns-in_err-set-clause-medium_still
returns-in_err-set-clause-medium_still g c = medium_anyway _ _ c.from_residual-in_err-set.result c.in_ok-length.ensures.still

pub returns-in_err-made-clause-medium_still : goal.returns-in_err-made-clause-medium_still
returns-in_err-made-clause-medium_still g c = medium_anyway _ _ c.from_residual-in_err-made.result c.in_ok-length.ensures.still

pub returns-in_err-store_patches-clause-medium_still : goal.returns-in_err-store_patches-clause-medium_still
returns-in_err-store_patches-clause-medium_still g c = medium_anyway _ _ c.from_residual-in_err-store_patches.result c.in_ok-length.ensures.still

pub returns-clause-medium_still : goal.returns-clause-medium_still
returns-clause-medium_still g c = medium_after _ _ _ c.convert_set.result c.in_ok-length.ensures.still c.convert_set.ensures.still
