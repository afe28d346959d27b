use Rattle.tile_extract.proofs.Common.{ap, arith, Err, header_of, IfSome, length, None, Ok, part_options, root_of, ShowsNone, subst, sym, WritesParts, ◌∙◌}
use Rattle.tile_extract.proofs.DoneLemmas.{err_answers, err_leaves, err_uncompared, ok_answers, ok_leaves}
use Rattle.tile_extract.proofs.LyingLemmas.{as_many_ids}
use Rattle.tile_extract.proofs.PlanLemmas.{collect_causes, early_leaves}
use Rattle.tile_extract.proofs.PlanToldLemmas.{answered, planned, uncollected}
use Rattle.tile_extract.proofs.extraction.extract_into.Goals as goal

pub returns-in-Err-collect_intervals-clause-answers : goal.returns-in-Err-collect_intervals-clause-answers
returns-in-Err-collect_intervals-clause-answers g c =
    let told = g.B.Backend.told c.args.source.now in
    let again = g.B.Backend.told c.read_source.new.source in
    answered c.args.part.now c.args.max_tiles c.in-Err-collect_intervals.error told (g.M.Backend.told c.args.medium.now)
    (uncollected c.args.part.now c.args.max_tiles _ _ c.in-Ok.read.0 c.in-Ok.read.1 c.in-Err-collect_intervals.error told again c.read_source.ensures.kept.told c.in-Ok.ensures.answer c.in-Err-collect_intervals.ensures.causes c.in-Err-collect_intervals.ensures.refused)

pub returns-in-Err-collect_intervals-clause-leaves : goal.returns-in-Err-collect_intervals-clause-leaves
returns-in-Err-collect_intervals-clause-leaves g c =
    let told = g.B.Backend.told c.args.source.now in
    let again = g.B.Backend.told c.read_source.new.source in
    let before = g.B.Backend.faults c.read_source.new.source in
    let now = g.B.Backend.faults c.collect_intervals.new.source in
    let held = g.M.Backend.told c.args.medium.now in
    let faults = g.M.Backend.faults c.args.medium.now in
    early_leaves told c.args.part.now c.args.max_tiles (g.B.Backend.faults c.args.source.now) now faults faults c.in-Err-collect_intervals.error held
    (collect_causes c.args.max_tiles (g.B.Backend.faults c.args.source.now) before now faults faults c.in-Err-collect_intervals.error c.read_source.ensures.kept.faults c.in-Err-collect_intervals.ensures.causes)
    (uncollected c.args.part.now c.args.max_tiles _ _ c.in-Ok.read.0 c.in-Ok.read.1 c.in-Err-collect_intervals.error told again c.read_source.ensures.kept.told c.in-Ok.ensures.answer c.in-Err-collect_intervals.ensures.causes c.in-Err-collect_intervals.ensures.refused)
    c.requires.empty

pub returns-in-Ok-write_parts-clause-answers : goal.returns-in-Ok-write_parts-clause-answers
returns-in-Ok-write_parts-clause-answers g c =
    let told = g.B.Backend.told c.args.source.now in
    let again = g.B.Backend.told c.collect_intervals.new.source in
    let h = header_of c.in-Ok.read.0 in
    let held = g.M.Backend.told c.write_parts.new.medium in
    let items = c.in-Ok-collect_intervals.parts.items in
    ok_answers c.args.part.now c.args.max_tiles h (root_of c.in-Ok.read.0) c.in-Ok.read.1 items told again held (g.M.Backend.told c.args.medium.now) c.part_options-options.result c.in-Ok-write_parts.written
    (c.part_options-options.ensures ∙ ap (λ k. part_options k c.in-Ok.read.1 c.args.part.now) c.get_header.ensures) (c.collect_intervals.ensures.kept.told ∙ c.read_source.ensures.kept.told) (sym c.write_parts.ensures.medium_kept.tells)
    (planned c.args.part.now c.args.max_tiles c.in-Ok.read.0 c.in-Ok.read.1 items told (g.B.Backend.told c.read_source.new.source) c.read_source.ensures.kept.told c.in-Ok.ensures.answer c.in-Ok-collect_intervals.ensures.collected)
    (subst (λ l. WritesParts c.part_options-options.result h again l held (Ok c.in-Ok-write_parts.written)) c.deref.ensures.value c.in-Ok-write_parts.ensures.written)

pub returns-in-Ok-write_parts-clause-leaves : goal.returns-in-Ok-write_parts-clause-leaves
returns-in-Ok-write_parts-clause-leaves g c =
    let told = g.B.Backend.told c.args.source.now in
    let again = g.B.Backend.told c.collect_intervals.new.source in
    let h = header_of c.in-Ok.read.0 in
    let held = g.M.Backend.told c.write_parts.new.medium in
    let items = c.in-Ok-collect_intervals.parts.items in
    ok_leaves c.args.part.now c.args.max_tiles h (root_of c.in-Ok.read.0) c.in-Ok.read.1 items told again held c.part_options-options.result c.in-Ok-write_parts.written
    (c.part_options-options.ensures ∙ ap (λ k. part_options k c.in-Ok.read.1 c.args.part.now) c.get_header.ensures) (c.collect_intervals.ensures.kept.told ∙ c.read_source.ensures.kept.told) (record { ordered = c.in-Ok-collect_intervals.ensures.ordered; few = c.in-Ok-collect_intervals.ensures.few; within = c.in-Ok-collect_intervals.ensures.within })
    (planned c.args.part.now c.args.max_tiles c.in-Ok.read.0 c.in-Ok.read.1 items told (g.B.Backend.told c.read_source.new.source) c.read_source.ensures.kept.told c.in-Ok.ensures.answer c.in-Ok-collect_intervals.ensures.collected)
    (subst (λ l. WritesParts c.part_options-options.result h again l held (Ok c.in-Ok-write_parts.written)) c.deref.ensures.value c.in-Ok-write_parts.ensures.written)

pub returns-clause-answers : goal.returns-clause-answers
returns-clause-answers g c =
    let told = g.B.Backend.told c.args.source.now in
    let again = g.B.Backend.told c.collect_intervals.new.source in
    let h = header_of c.in-Ok.read.0 in
    let held = g.M.Backend.told c.write_parts.new.medium in
    let items = c.in-Ok-collect_intervals.parts.items in
    err_answers c.args.part.now c.args.max_tiles h (root_of c.in-Ok.read.0) c.in-Ok.read.1 items told again held (g.M.Backend.told c.args.medium.now) _ _ _ _ c.part_options-options.result c.in-Err-write_parts.error
    (c.part_options-options.ensures ∙ ap (λ k. part_options k c.in-Ok.read.1 c.args.part.now) c.get_header.ensures) (c.collect_intervals.ensures.kept.told ∙ c.read_source.ensures.kept.told) (sym c.write_parts.ensures.medium_kept.tells)
    (planned c.args.part.now c.args.max_tiles c.in-Ok.read.0 c.in-Ok.read.1 items told (g.B.Backend.told c.read_source.new.source) c.read_source.ensures.kept.told c.in-Ok.ensures.answer c.in-Ok-collect_intervals.ensures.collected) c.in-Err-write_parts.ensures.causes
    (subst (λ l. WritesParts c.part_options-options.result h again l held (Err c.in-Err-write_parts.error)) c.deref.ensures.value c.in-Err-write_parts.ensures.written)

pub returns-clause-leaves : goal.returns-clause-leaves
returns-clause-leaves g c =
    let told = g.B.Backend.told c.args.source.now in
    let again = g.B.Backend.told c.collect_intervals.new.source in
    let h = header_of c.in-Ok.read.0 in
    let held = g.M.Backend.told c.write_parts.new.medium in
    let items = c.in-Ok-collect_intervals.parts.items in
    err_leaves c.args.part.now c.args.max_tiles h (root_of c.in-Ok.read.0) c.in-Ok.read.1 items told again held _ _ _ _ c.part_options-options.result c.in-Err-write_parts.error
    (c.part_options-options.ensures ∙ ap (λ k. part_options k c.in-Ok.read.1 c.args.part.now) c.get_header.ensures) (c.collect_intervals.ensures.kept.told ∙ c.read_source.ensures.kept.told) (record { ordered = c.in-Ok-collect_intervals.ensures.ordered; few = c.in-Ok-collect_intervals.ensures.few; within = c.in-Ok-collect_intervals.ensures.within })
    (planned c.args.part.now c.args.max_tiles c.in-Ok.read.0 c.in-Ok.read.1 items told (g.B.Backend.told c.read_source.new.source) c.read_source.ensures.kept.told c.in-Ok.ensures.answer c.in-Ok-collect_intervals.ensures.collected) c.in-Err-write_parts.ensures.causes
    (subst (λ l. WritesParts c.part_options-options.result h again l held (Err c.in-Err-write_parts.error)) c.deref.ensures.value c.in-Err-write_parts.ensures.written)
    (subst (λ l. IfSome held (ShowsNone c.part_options-options.result h again l)) c.deref.ensures.value c.in-Err-write_parts.ensures.shown)

pub returns-clause-uncompared : goal.returns-clause-uncompared
returns-clause-uncompared g c =
    let told = g.B.Backend.told c.args.source.now in
    let again = g.B.Backend.told c.collect_intervals.new.source in
    let h = header_of c.in-Ok.read.0 in
    let held = g.M.Backend.told c.write_parts.new.medium in
    let items = c.in-Ok-collect_intervals.parts.items in
    err_uncompared c.args.part.now c.args.max_tiles h (root_of c.in-Ok.read.0) c.in-Ok.read.1 items told again held (g.M.Backend.told c.args.medium.now) _ _ _ _
    (g.M.Backend.reads c.args.medium.now) (g.M.Backend.reads c.write_parts.new.medium) c.part_options-options.result c.in-Err-write_parts.error
    (c.part_options-options.ensures ∙ ap (λ k. part_options k c.in-Ok.read.1 c.args.part.now) c.get_header.ensures) (c.collect_intervals.ensures.kept.told ∙ c.read_source.ensures.kept.told) (sym c.write_parts.ensures.medium_kept.tells)
    (planned c.args.part.now c.args.max_tiles c.in-Ok.read.0 c.in-Ok.read.1 items told (g.B.Backend.told c.read_source.new.source) c.read_source.ensures.kept.told c.in-Ok.ensures.answer c.in-Ok-collect_intervals.ensures.collected) c.in-Err-write_parts.ensures.causes
    (subst (λ l. WritesParts c.part_options-options.result h again l held (Err c.in-Err-write_parts.error)) c.deref.ensures.value c.in-Err-write_parts.ensures.written)

pub returns-in-Ok-write_parts-clause-compared : goal.returns-in-Ok-write_parts-clause-compared
returns-in-Ok-write_parts-clause-compared g c =
    let items = c.in-Ok-collect_intervals.parts.items in
    omega (arith, c.write_parts.ensures.compared, as_many_ids 0 items None c.in-Ok-collect_intervals.ensures.ordered, c.in-Ok-collect_intervals.ensures.few, ap length c.deref.ensures.value)

pub returns-clause-compared : goal.returns-clause-compared
returns-clause-compared g c =
    let items = c.in-Ok-collect_intervals.parts.items in
    omega (arith, c.write_parts.ensures.compared, as_many_ids 0 items None c.in-Ok-collect_intervals.ensures.ordered, c.in-Ok-collect_intervals.ensures.few, ap length c.deref.ensures.value)
