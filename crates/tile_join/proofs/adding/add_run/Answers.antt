use Rattle.tile_join.proofs.Common.{Err, ids_of, Ok, Puts, subst, sym, ◌∙◌}
use Rattle.tile_extract.proofs.AddedLemmas.{add_faulted, err_is, run_added, run_refused, same_ids}
use Rattle.tile_join.proofs.adding.add_run.Goals as goal
use Rattle.tile_extract.specs.Written.{of_write_error}

pub returns-in-Ok-clause-added : goal.returns-in-Ok-clause-added
returns-in-Ok-clause-added g c = λ o done w.
    let e = c.in-Ok.ensures in
    let bytes = c.args.bytes.now in
    let before = g.M.Backend.told c.args.medium.now in
    let after = g.M.Backend.told c.add_raw_run_with_digest.new.medium in
    let s = c.add_raw_run_with_digest.new.self in
    let a = e.added o done w in
    let u = e.causes o done w in
    subst (λ ids. Puts o bytes done ids after s (Ok tt)) (same_ids c.tile_id-first.result c.args.part.tile_id c.run_length-count.result c.args.part.run_length c.tile_id-first.ensures c.run_length-count.ensures)
    (run_added before after o s done c.tile_id-first.result c.run_length-count.result bytes a.0 u.0 e.kept.tells a.2 (e.failed ∙ c.requires.alive) a.1.0 u.1.0 u.2.2)

pub returns-in-Err-clause-added : goal.returns-in-Err-clause-added
returns-in-Err-clause-added g c = λ o done w.
    let e = c.in-Err.ensures in
    let bytes = c.args.bytes.now in
    let before = g.M.Backend.told c.args.medium.now in
    let after = g.M.Backend.told c.add_raw_run_with_digest.new.medium in
    let s = c.add_raw_run_with_digest.new.self in
    let u = e.causes o done w in
    subst (λ x. Puts o bytes done (ids_of c.args.part) after s (Err x)) (sym c.of_writer.ensures)
    (subst (λ ids. Puts o bytes done ids after s (Err (of_write_error c.in-Err.error))) (same_ids c.tile_id-first.result c.args.part.tile_id c.run_length-count.result c.args.part.run_length c.tile_id-first.ensures c.run_length-count.ensures)
    (run_refused before after o bytes u.0 done c.tile_id-first.result c.run_length-count.result _ s _ (g.M.Backend.faults c.args.medium.now) (g.M.Backend.faults c.add_raw_run_with_digest.new.medium) c.in-Err.error e.kept.tells c.requires.alive u.1.0 u.2))

pub returns-in-Err-clause-fault : goal.returns-in-Err-clause-fault
returns-in-Err-clause-fault g c = λ is.
    let w = c.requires.writes in
    let u = c.in-Err.ensures.causes w.0 w.1 w.2 in
    add_faulted _ _ _ (g.M.Backend.faults c.args.medium.now) (g.M.Backend.faults c.add_raw_run_with_digest.new.medium) c.in-Err.error c.requires.alive u.2
    (sym c.of_writer.ensures ∙ err_is c.of_writer.result _ is)
