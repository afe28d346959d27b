use Rattle.pm_writer.proofs.Common.{has_failed, false, length, List, on_ok_weaker, refl, rules, run_size, subst, sym, Writes, ℕ, ◌<◌, ◌≡◌}
use Rattle.pm_writer.proofs.RunTaken.{empty_sized, none_fits, none_sized, run_causes, run_of_none, run_taken}
use Rattle.pm_writer.proofs.Took.{itself_by}
use Rattle.pm_writer.proofs.state.WriterState.add_raw_run_with_digest.Goals as goal
use Rattle.pm_writer.proofs.state.WriterState.add_raw_run_with_digest.Goals.{then-count-eq0-via-then-count-eq0, then-count-eq0-via-else-count-eq0+then-is_empty}

pub returns-then-self-clause-causes : goal.returns-then-self-clause-causes
returns-then-self-clause-causes g c = λ o adds w. (c.args.bytes.now, itself_by (g.M.Backend.told c.args.medium.now) (g.M.Backend.reads c.args.medium.now) (g.M.Backend.reads c.args.medium.now) c.args.bytes.now, search rules)

pub returns-then-count-eq0-clause-added : goal.returns-then-count-eq0-clause-added
returns-then-count-eq0-clause-added g c = λ o adds w.
    let told = g.M.Backend.told c.args.medium.now in
    let reads = g.M.Backend.reads c.args.medium.now in
    let x : List ℕ = c.args.bytes.now in
    let none : run_size c.args.count (length x) ≡ 0 = elim c.then-count-eq0.branch [
      | then-count-eq0-via-then-count-eq0 w ↦ none_sized c.args.count (length x) (search rules)
      | then-count-eq0-via-else-count-eq0+then-is_empty w ↦ empty_sized c.args.count (length x) (search rules)
    ] in
    (x, itself_by told reads reads x, subst (Writes o told c.args.self.now) (sym (run_of_none adds c.args.first c.args.count x none)) w)

pub returns-then-count-eq0-clause-causes : goal.returns-then-count-eq0-clause-causes
returns-then-count-eq0-clause-causes g c = λ o adds w.
    let told = g.M.Backend.told c.args.medium.now in
    let reads = g.M.Backend.reads c.args.medium.now in
    let x : List ℕ = c.args.bytes.now in
    let none : run_size c.args.count (length x) ≡ 0 = elim c.then-count-eq0.branch [
      | then-count-eq0-via-then-count-eq0 w ↦ none_sized c.args.count (length x) (search rules)
      | then-count-eq0-via-else-count-eq0+then-is_empty w ↦ empty_sized c.args.count (length x) (search rules)
    ] in
    (x, itself_by told reads reads x, (c.if-self.false, refl, none_fits o told c.args.self.now adds c.args.first c.args.count x none w c.if-self.false))

pub returns-clause-added : goal.returns-clause-added
returns-clause-added g c = λ o adds w.
    on_ok_weaker c.add_filled.result
    (λ t. (t.0, t.1, subst (λ more. Writes o (g.M.Backend.told c.add_filled.new.medium) c.add_filled.new.self more) (run_taken (g.M.Backend.told c.args.medium.now) adds c.args.first c.args.count c.args.bytes.now t.0 (search rules) t.1.0) (search rules)))
    (c.add_filled.ensures.added o adds w)

pub returns-clause-causes : goal.returns-clause-causes
returns-clause-causes g c = λ o adds w.
    let x : List ℕ = c.args.bytes.now in
    let t = c.add_filled.ensures.causes o adds w in
    let alive : has_failed c.args.self.now ≡ false = search rules in
    let count : 0 < c.args.count = search rules in
    let some : 0 < length x = search rules in
    (t.0, t.1, rw alive (run_causes (g.M.Backend.told c.args.medium.now) o adds c.args.first c.args.count x t.0 _ _ _ c.add_filled.result count some t.1.0 t.2))
