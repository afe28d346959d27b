use Rattle.tile_bridge.proofs.Common.{ap, ConvertCauses, ConvertOptions, due, Err, false, IsEmpty, Leaves, map, MediumFault, MemStore, rules, SetCauses, subst, sym, told_of, true, unwrap_or, ◌∙◌}
use Rattle.tile_bridge.proofs.ConvertLemmas.{none_told}
use Rattle.tile_bridge.proofs.FoldLemmas.{has_failed}
use Rattle.tile_bridge.proofs.LeavesLemmas.{of_set}
use Rattle.tile_bridge.proofs.OutcomeLemmas.{refused_causes, set_causes}
use Rattle.tile_bridge.proofs.StandsLemmas.{medium_after, medium_anyway, medium_handed}
use Rattle.tile_bridge.proofs.owned.convert_owned.Goals as goal

pub returns-in_err-set-clause-causes : goal.returns-in_err-set-clause-causes
returns-in_err-set-clause-causes g c =
    let due_by = λ (o : ConvertOptions). due (λ (s : MemStore). true) told_of g.P.TileStore.tells g.P.TileStore.told c.args.base c.args.patches.items o in
    let o = c.asked-asked.result.now in
    let told = g.M.Backend.told c.args.medium.now in
    subst (λ (o : ConvertOptions). ConvertCauses o.writer (due_by o) told c.from_residual-in_err-set.result) c.asked-asked.ensures
    (refused_causes o.writer (due_by o) told c.in_err-set.field-0.0 c.from_residual-in_err-set.result
    (none_told _ _ c.in_ok-length.ensures.answer c.if-length-ne0.false) (search rules) c.in_err-set.ensures.refused c.from_residual-in_err-set.ensures.1)

pub returns-in_err-set-clause-store_fault : goal.returns-in_err-set-clause-store_fault
returns-in_err-set-clause-store_fault g c =
    has_failed g.P.TileStore.tells g.P.TileStore.told g.P.TileStore.faults g.P.TileStore.steady c.args.patches.items c.resolve_owned.new.patches.items c.in_err-set.ensures.patches
    c.in_err-set.field-0.0 c.from_residual-in_err-set.result (λ p is. c.in_err-set.ensures.fault p (ap Err is)) c.from_residual-in_err-set.ensures.1

pub convert_set-requires-clause-empty : goal.convert_set-requires-clause-empty
convert_set-requires-clause-empty g c = subst IsEmpty (sym c.len.ensures.kept.told) (none_told _ _ c.in_ok-length.ensures.answer c.if-length-ne0.false)

pub returns-clause-causes : goal.returns-clause-causes
returns-clause-causes g c =
    let due_by = λ (o : ConvertOptions). due (λ (s : MemStore). true) told_of g.P.TileStore.tells g.P.TileStore.told c.args.base c.args.patches.items o in
    let o = c.asked-asked.result.now in
    let told = g.M.Backend.told c.args.medium.now in
    subst (λ (o : ConvertOptions). ConvertCauses o.writer (due_by o) told c.convert_set.result) c.asked-asked.ensures
    (set_causes o.writer (due_by o) c.in_ok-set.set.state c.in_ok-set.ensures.state told c.convert_set.result
    (none_told _ _ c.in_ok-length.ensures.answer c.if-length-ne0.false) (search rules) (subst (λ m. SetCauses m c.convert_set.result) c.len.ensures.kept.told c.convert_set.ensures.causes))

pub returns-clause-leaves : goal.returns-clause-leaves
returns-clause-leaves g c =
    let due_by = λ (o : ConvertOptions). due (λ (s : MemStore). true) told_of g.P.TileStore.tells g.P.TileStore.told c.args.base c.args.patches.items o in
    let gives = g.O.ArchiveOptions.gives c.args.options.now in
    let o = c.asked-asked.result.now in
    let patches_tell = map g.P.TileStore.tells c.args.patches.items in
    let patches_told = map g.P.TileStore.told c.args.patches.items in
    let base = told_of c.args.base in
    let medium = g.M.Backend.told c.args.medium.now in
    let medium_now = g.M.Backend.told c.convert_set.new.medium in
    subst (λ (o : ConvertOptions). Leaves gives (due_by o) o false patches_tell patches_told c.args.coords.now c.convert_set.result medium medium_now base base) c.asked-asked.ensures
    (of_set gives (due_by o) o false patches_tell patches_told c.args.coords.now c.convert_set.result medium (g.M.Backend.told c.len.new.self) medium_now base base
    c.in_ok-set.set.state c.chosen.result.now c.in_ok-set.aggregate c.in_ok-set.ensures.state
    (subst (gives c.in_ok-set.set.state) (sym (c.chosen.ensures.writer ∙ ap (λ (o : ConvertOptions). unwrap_or c.in_ok-made.made o.writer) c.asked-asked.ensures)) c.in_ok-made.ensures.given)
    (none_told _ _ c.in_ok-length.ensures.answer c.if-length-ne0.false) c.len.ensures.kept.told c.convert_set.ensures.causes c.convert_set.ensures.leaves c.convert_set.ensures.places c.convert_set.ensures.aggregate c.in_ok-set.ensures.aggregate
    (λ u. absurd (cc)))

pub returns-in_err-length-clause-medium_still : goal.returns-in_err-length-clause-medium_still
returns-in_err-length-clause-medium_still g c = medium_handed _ _ MediumFault c.from_residual.result tt c.from_residual.ensures.1

pub returns-in_err-set-clause-medium_still : goal.returns-in_err-set-clause-medium_still
returns-in_err-set-clause-medium_still g c = medium_anyway _ _ c.from_residual-in_err-set.result c.in_ok-length.ensures.still

pub returns-in_err-made-clause-medium_still : goal.returns-in_err-made-clause-medium_still
returns-in_err-made-clause-medium_still g c = medium_anyway _ _ c.from_residual-in_err-made.result c.in_ok-length.ensures.still

pub returns-clause-medium_still : goal.returns-clause-medium_still
returns-clause-medium_still g c = medium_after _ _ _ c.convert_set.result c.in_ok-length.ensures.still c.convert_set.ensures.still
