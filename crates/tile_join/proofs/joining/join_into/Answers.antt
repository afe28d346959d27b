use Rattle.tile_join.proofs.Common.{all_told, ap, arith, Err, IfSome, length, map, Ok, refl, ShowsNone, sym, WritesPieces}
use Rattle.tile_join.proofs.DoneLemmas.{as_planned, done_answers, done_leaves, late_answers, late_leaves, late_uncompared}
use Rattle.tile_join.proofs.PieceLemmas.{as_many_tiles}
use Rattle.tile_join.proofs.SourceLemmas.{all_then}
use Rattle.tile_join.proofs.joining.join_into.Goals as goal

pub returns-in-Ok-write_pieces-clause-sources_kept : goal.returns-in-Ok-write_pieces-clause-sources_kept
returns-in-Ok-write_pieces-clause-sources_kept g c = all_then _ _ _ _ _ _ _ c.plan.ensures.kept c.write_pieces.ensures.sources_kept

pub returns-in-Ok-write_pieces-clause-answers : goal.returns-in-Ok-write_pieces-clause-answers
returns-in-Ok-write_pieces-clause-answers g c =
    let source = all_told (map g.B.Backend.told c.args.sources.now.items) in
    let again = all_told (map g.B.Backend.told c.plan.new.sources.items) in
    let told = g.M.Backend.told c.write_pieces.new.medium in
    let p = c.in-Ok.planned in
    done_answers c.args.max_tiles p.0 p.1.items p.2.items told (g.M.Backend.told c.args.medium.now) source c.in-Ok-write_pieces.written (sym c.write_pieces.ensures.medium_kept.tells) c.in-Ok.ensures.planned
    (as_planned (λ o hs s ps. WritesPieces o hs s ps told (Ok c.in-Ok-write_pieces.written)) source again p.0 _ p.1.items c.deref.result.now p.2.items c.deref-2.result.now refl c.deref.ensures.value c.deref-2.ensures.value (ap all_told c.plan.ensures.kept.told) c.in-Ok-write_pieces.ensures.written)

pub returns-in-Ok-write_pieces-clause-leaves : goal.returns-in-Ok-write_pieces-clause-leaves
returns-in-Ok-write_pieces-clause-leaves g c =
    let source = all_told (map g.B.Backend.told c.args.sources.now.items) in
    let again = all_told (map g.B.Backend.told c.plan.new.sources.items) in
    let told = g.M.Backend.told c.write_pieces.new.medium in
    let p = c.in-Ok.planned in
    done_leaves c.args.max_tiles p.0 p.1.items p.2.items source told c.in-Ok-write_pieces.written c.in-Ok.ensures.few c.in-Ok.ensures.planned
    (as_planned (λ o hs s ps. WritesPieces o hs s ps told (Ok c.in-Ok-write_pieces.written)) source again p.0 _ p.1.items c.deref.result.now p.2.items c.deref-2.result.now refl c.deref.ensures.value c.deref-2.ensures.value (ap all_told c.plan.ensures.kept.told) c.in-Ok-write_pieces.ensures.written)

pub returns-clause-answers : goal.returns-clause-answers
returns-clause-answers g c =
    let source = all_told (map g.B.Backend.told c.args.sources.now.items) in
    let again = all_told (map g.B.Backend.told c.plan.new.sources.items) in
    let told = g.M.Backend.told c.write_pieces.new.medium in
    let p = c.in-Ok.planned in
    late_answers c.args.max_tiles p.0 p.1.items p.2.items source told (g.M.Backend.told c.args.medium.now) _ _ _ _ c.in-Err-write_pieces.error (sym c.write_pieces.ensures.medium_kept.tells) c.in-Ok.ensures.planned c.in-Err-write_pieces.ensures.causes
    (as_planned (λ o hs s ps. WritesPieces o hs s ps told (Err c.in-Err-write_pieces.error)) source again p.0 _ p.1.items c.deref.result.now p.2.items c.deref-2.result.now refl c.deref.ensures.value c.deref-2.ensures.value (ap all_told c.plan.ensures.kept.told) c.in-Err-write_pieces.ensures.written)

pub returns-clause-leaves : goal.returns-clause-leaves
returns-clause-leaves g c =
    let source = all_told (map g.B.Backend.told c.args.sources.now.items) in
    let again = all_told (map g.B.Backend.told c.plan.new.sources.items) in
    let told = g.M.Backend.told c.write_pieces.new.medium in
    let p = c.in-Ok.planned in
    late_leaves c.args.max_tiles p.0 p.1.items p.2.items source told _ _ _ _ c.in-Err-write_pieces.error c.in-Ok.ensures.few c.in-Ok.ensures.planned c.in-Err-write_pieces.ensures.causes
    (as_planned (λ o hs s ps. WritesPieces o hs s ps told (Err c.in-Err-write_pieces.error)) source again p.0 _ p.1.items c.deref.result.now p.2.items c.deref-2.result.now refl c.deref.ensures.value c.deref-2.ensures.value (ap all_told c.plan.ensures.kept.told) c.in-Err-write_pieces.ensures.written)
    (as_planned (λ o hs s ps. IfSome told (ShowsNone o hs s ps)) source again p.0 _ p.1.items c.deref.result.now p.2.items c.deref-2.result.now refl c.deref.ensures.value c.deref-2.ensures.value (ap all_told c.plan.ensures.kept.told) c.in-Err-write_pieces.ensures.shown)

pub returns-clause-uncompared : goal.returns-clause-uncompared
returns-clause-uncompared g c =
    let source = all_told (map g.B.Backend.told c.args.sources.now.items) in
    let again = all_told (map g.B.Backend.told c.plan.new.sources.items) in
    let told = g.M.Backend.told c.write_pieces.new.medium in
    let p = c.in-Ok.planned in
    late_uncompared c.args.max_tiles p.0 p.1.items p.2.items source told (g.M.Backend.told c.args.medium.now) _ _ _ _ (g.M.Backend.reads c.args.medium.now) (g.M.Backend.reads c.write_pieces.new.medium) c.in-Err-write_pieces.error (sym c.write_pieces.ensures.medium_kept.tells) c.in-Ok.ensures.planned
    c.in-Err-write_pieces.ensures.causes
    (as_planned (λ o hs s ps. WritesPieces o hs s ps told (Err c.in-Err-write_pieces.error)) source again p.0 _ p.1.items c.deref.result.now p.2.items c.deref-2.result.now refl c.deref.ensures.value c.deref-2.ensures.value (ap all_told c.plan.ensures.kept.told) c.in-Err-write_pieces.ensures.written)

pub returns-in-Ok-write_pieces-clause-compared : goal.returns-in-Ok-write_pieces-clause-compared
returns-in-Ok-write_pieces-clause-compared g c =
    let items = c.in-Ok.planned.2.items in
    omega (arith, c.write_pieces.ensures.compared, as_many_tiles _ 0 items c.in-Ok.ensures.ordered, c.in-Ok.ensures.few, ap length c.deref-2.ensures.value)

pub returns-clause-compared : goal.returns-clause-compared
returns-clause-compared g c =
    let items = c.in-Ok.planned.2.items in
    omega (arith, c.write_pieces.ensures.compared, as_many_tiles _ 0 items c.in-Ok.ensures.ordered, c.in-Ok.ensures.few, ap length c.deref-2.ensures.value)
