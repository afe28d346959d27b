use Rattle.tile_join.proofs.Common.{all_told, ap, arith, length, length-map, map, piece_count, rules, ◌-◌, ◌≤◌}
use Rattle.tile_join.proofs.PlanLemmas.{many_told, not_few, plan_found, planned_told, text_plan, text_told, unlike_causes, unlike_told}
use Rattle.tile_join.proofs.planning.plan.Goals as goal

pub returns-in-Err-last_text-clause-refused : goal.returns-in-Err-last_text-clause-refused
returns-in-Err-last_text-clause-refused g c =
    text_told (all_told (map g.B.Backend.told c.args.sources.now.items)) (all_told (map g.B.Backend.told c.gather.new.sources.items)) c.args.max_tiles c.in-Ok.found.0.items c.deref.result.now c.in-Ok.found.1.items c.in-Err-last_text.error
    (ap all_told c.gather.ensures.kept.told) c.deref.ensures.value c.in-Ok.ensures.gathered c.in-Err-last_text.ensures.read

pub returns-in-Err-last_text-clause-causes : goal.returns-in-Err-last_text-clause-causes
returns-in-Err-last_text-clause-causes g c =
    text_plan c.args.max_tiles (map g.B.Backend.faults c.args.sources.now.items) (map g.B.Backend.faults c.gather.new.sources.items) (map g.B.Backend.faults c.last_text.new.sources.items) c.in-Err-last_text.error c.in-Ok.ensures.still c.in-Err-last_text.ensures.causes

pub returns-in-Err-test_alike-clause-refused : goal.returns-in-Err-test_alike-clause-refused
returns-in-Err-test_alike-clause-refused g c =
    let ts = map g.B.Backend.told c.args.sources.now.items in
    let readers = c.in-Ok.found.0.items in
    let pieces = c.in-Ok.found.1.items in
    let h = c.get_header-last.result.now in
    let found =
    plan_found ts (all_told (map g.B.Backend.told c.gather.new.sources.items)) c.args.max_tiles readers c.deref.result.now pieces c.in-Ok-last_text.text h c.index.result.now (c.len.result - 1) (ap all_told c.gather.ensures.kept.told) c.deref.ensures.value
    (omega (arith, c.in-Ok.ensures.all, length-map c.args.sources.now.items g.B.Backend.told)) (omega (arith, c.in-Ok.ensures.all, c.requires.some)) (omega (arith, c.len.ensures)) c.index.ensures c.get_header-last.ensures c.in-Ok.ensures.gathered c.in-Ok-last_text.ensures.read in
    unlike_told (all_told ts) c.args.max_tiles readers c.deref-2.result.now pieces c.in-Ok-last_text.text h c.in-Err-test_alike.error c.in-Err-test_alike.ensures.err.0 c.deref-2.ensures.value c.in-Err-test_alike.ensures.err.1 c.in-Err-test_alike.ensures.err.2 found

pub returns-in-Err-test_alike-clause-causes : goal.returns-in-Err-test_alike-clause-causes
returns-in-Err-test_alike-clause-causes g c =
    unlike_causes c.args.max_tiles (map g.B.Backend.faults c.args.sources.now.items) (map g.B.Backend.faults c.last_text.new.sources.items) c.deref-2.result.now c.get_header-last.result.now c.in-Err-test_alike.error c.in-Err-test_alike.ensures.err.0
    (omega (arith, ap length c.deref-2.ensures.value, c.in-Ok.ensures.all, length-map c.args.sources.now.items g.B.Backend.faults)) c.in-Err-test_alike.ensures.err.1 c.in-Err-test_alike.ensures.err.2

pub returns-then-not-are_few-clause-refused : goal.returns-then-not-are_few-clause-refused
returns-then-not-are_few-clause-refused g c =
    let ts = map g.B.Backend.told c.args.sources.now.items in
    let readers = c.in-Ok.found.0.items in
    let pieces = c.in-Ok.found.1.items in
    let h = c.get_header-last.result.now in
    let found =
    plan_found ts (all_told (map g.B.Backend.told c.gather.new.sources.items)) c.args.max_tiles readers c.deref.result.now pieces c.in-Ok-last_text.text h c.index.result.now (c.len.result - 1) (ap all_told c.gather.ensures.kept.told) c.deref.ensures.value
    (omega (arith, c.in-Ok.ensures.all, length-map c.args.sources.now.items g.B.Backend.told)) (omega (arith, c.in-Ok.ensures.all, c.requires.some)) (omega (arith, c.len.ensures)) c.index.ensures c.get_header-last.ensures c.in-Ok.ensures.gathered c.in-Ok-last_text.ensures.read in
    let unless : piece_count c.deref-3.result.now ≤ c.args.max_tiles → ⊥ = search rules in
    many_told (all_told ts) c.args.max_tiles readers c.deref-2.result.now pieces c.deref-3.result.now c.in-Ok-last_text.text h c.deref-2.ensures.value c.deref-3.ensures.value c.in-Ok-test_alike.ensures.ok (not_few (piece_count c.deref-3.result.now) c.args.max_tiles unless) found

pub returns-clause-planned : goal.returns-clause-planned
returns-clause-planned g c =
    let ts = map g.B.Backend.told c.args.sources.now.items in
    let readers = c.in-Ok.found.0.items in
    let pieces = c.in-Ok.found.1.items in
    let h = c.get_header-last.result.now in
    let found =
    plan_found ts (all_told (map g.B.Backend.told c.gather.new.sources.items)) c.args.max_tiles readers c.deref.result.now pieces c.in-Ok-last_text.text h c.index.result.now (c.len.result - 1) (ap all_told c.gather.ensures.kept.told) c.deref.ensures.value
    (omega (arith, c.in-Ok.ensures.all, length-map c.args.sources.now.items g.B.Backend.told)) (omega (arith, c.in-Ok.ensures.all, c.requires.some)) (omega (arith, c.len.ensures)) c.index.ensures c.get_header-last.ensures c.in-Ok.ensures.gathered c.in-Ok-last_text.ensures.read in
    let few : piece_count c.deref-3.result.now ≤ c.args.max_tiles = search rules in
    planned_told (all_told ts) c.args.max_tiles c.options_for-options.result readers c.deref-2.result.now c.deref-4.result.now pieces c.deref-3.result.now c.in-Ok-last_text.text h c.deref-2.ensures.value c.deref-4.ensures.value c.deref-3.ensures.value c.in-Ok-test_alike.ensures.ok few c.options_for-options.ensures found
