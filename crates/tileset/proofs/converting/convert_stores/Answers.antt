use Rattle.tileset.proofs.Common.{ConvertCauses, ConvertLeaves, ConvertOptions, HasAggregate, IfOk, map, outcome, Some, subst, told_of}
use Rattle.tile_bridge.proofs.LeavesLemmas.{stated_aggregate, stated_leaves}
use Rattle.tileset.proofs.ConvertingLemmas.{due_told, no_store_fault}
use Rattle.tileset.proofs.PrintedLemmas.{stated_report}
use Rattle.tileset.specs.Printed.{IsOfDue}
use Rattle.tileset.proofs.converting.convert_stores.Goals as goal

pub returns-clause-causes : goal.returns-clause-causes
returns-clause-causes g c =
    let o = c.convert_options-options.result in
    let told = g.M.Backend.told c.args.medium.now in
    subst (λ (o : ConvertOptions). ConvertCauses o.writer (Some (outcome (told_of c.args.base) (map told_of c.args.patches.items) o.force o.verify)) told c.convert_owned.result) c.convert_options-options.ensures
    (subst (λ d. ConvertCauses o.writer d told c.convert_owned.result) (due_told c.args.base c.args.patches.items o) c.convert_owned.ensures.causes)

pub returns-clause-leaves : goal.returns-clause-leaves
returns-clause-leaves g c =
    let o = c.convert_options-options.result in
    let old = g.M.Backend.told c.args.medium.now in
    let new = g.M.Backend.told c.convert_owned.new.medium in
    subst (λ (o : ConvertOptions). ConvertLeaves o.writer (Some (outcome (told_of c.args.base) (map told_of c.args.patches.items) o.force o.verify)) c.args.coords.now c.convert_owned.result old new) c.convert_options-options.ensures
    (subst (λ d. ConvertLeaves o.writer d c.args.coords.now c.convert_owned.result old new) (due_told c.args.base c.args.patches.items o) (stated_leaves o _ _ _ _ _ _ _ _ _ _ c.convert_owned.ensures.causes c.convert_owned.ensures.leaves))

pub returns-clause-aggregate : goal.returns-clause-aggregate
returns-clause-aggregate g c =
    let o = c.convert_options-options.result in
    subst (λ (o : ConvertOptions). IfOk c.convert_owned.result (HasAggregate (Some (outcome (told_of c.args.base) (map told_of c.args.patches.items) o.force o.verify)))) c.convert_options-options.ensures
    (subst (λ d. IfOk c.convert_owned.result (HasAggregate d)) (due_told c.args.base c.args.patches.items o) (stated_aggregate o _ _ _ _ _ _ _ _ _ _ c.convert_owned.ensures.leaves))

pub returns-clause-stores : goal.returns-clause-stores
returns-clause-stores g c = no_store_fault c.convert_owned.result c.args.patches.items c.requires.patches c.convert_owned.ensures.store_fault

pub returns-clause-reported : goal.returns-clause-reported
returns-clause-reported g c =
    let o = c.convert_options-options.result in
    let old = g.M.Backend.told c.args.medium.now in
    subst (λ (o : ConvertOptions). IfOk c.convert_owned.result (IsOfDue (outcome (told_of c.args.base) (map told_of c.args.patches.items) o.force o.verify) o.writer old)) c.convert_options-options.ensures
    (stated_report o _ _ _ _ _ _ _ _ _ _ _ (due_told c.args.base c.args.patches.items o) c.convert_owned.ensures.leaves)
