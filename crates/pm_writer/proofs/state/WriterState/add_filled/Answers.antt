use Rattle.pm_writer.proofs.Common.{arith, err_from_is_err_and, FilledFits, length, on_ok_weaker, refl, subst, sym, Took, TookBy, ◌+◌, ◌<◌, ◌^◌, ◌∙◌, ◌≡◌}
use Rattle.pm_writer.proofs.AddedBytes.{ends_at, new_long}
use Rattle.pm_writer.proofs.Complete.{put_refused}
use Rattle.pm_writer.proofs.Took.{itself_by, took_length}
use Rattle.pm_writer.proofs.state.WriterState.add_filled.Goals as goal

pub returns-in_err-sought-clause-causes : goal.returns-in_err-sought-clause-causes
returns-in_err-sought-clause-causes g c = λ o adds w.
    let x = c.args.bytes.now in
    let p = err_from_is_err_and c.from_residual.result c.from_residual.ensures.1 in
    let low : length x < 2 ^ 32 = omega arith in
    (x, itself_by (g.M.Backend.told c.args.medium.now) (g.M.Backend.reads c.args.medium.now) (g.M.Backend.reads c.seek.new.medium) x, rw (p.1, p.2) (put_refused (length x) (FilledFits o adds c.args.id x) _ _ c.in_err-sought.field-0.0 c.requires.some low c.in_err-sought.ensures.causes))

pub returns-then-not-fits-clause-causes : goal.returns-then-not-fits-clause-causes
returns-then-not-fits-clause-causes g c = λ o adds w.
    let s = c.seek.new.self in
    let found = c.in_ok-sought.ensures.found o adds w in
    let no = c.if-not-fits.ensures.no refl in
    let end = ends_at o _ s adds s.adds.contents.total (c.in_ok-sought.ensures.same o adds w) c.in_ok-sought.ensures.alive refl in
    let whole : length c.args.bytes.now ≡ c.in-Ok.size = omega arith in
    let same = took_length (g.M.Backend.told c.args.medium.now) c.args.bytes.now found.0 found.1.0 ∙ whole in
    (found.0, found.1, (refl, refl, new_long o adds c.args.id (s.data_offset + s.adds.contents.total) c.in-Ok.size found.0 end same (found.2.found ∙ no.0) no.1))

pub returns-clause-added : goal.returns-clause-added
returns-clause-added g c = λ o adds w.
    let x = c.args.bytes.now in
    let told = g.M.Backend.told c.args.medium.now in
    let found = c.in_ok-sought.ensures.found o adds w in
    let took = subst (λ t. Took t x found.0) (sym c.in_ok-sought.ensures.kept.told) found.1.0 in
    let by = subst (λ n. TookBy told (g.M.Backend.reads c.args.medium.now) n x found.0) (sym c.add_sought.ensures.reads) found.1 in
    on_ok_weaker c.add_sought.result (λ both. (found.0, by, both.1)) (c.add_sought.ensures.added o adds found.0 (c.in_ok-sought.ensures.same o adds w) took found.2)
