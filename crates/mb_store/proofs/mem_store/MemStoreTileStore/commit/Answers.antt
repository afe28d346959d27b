use Rattle.mb_store.proofs.Common.{ap, AreOfTables, Change, List, rows_at, subst, sym, TableDesc, Tables, told_of, ◌∙◌}
use Rattle.mb_store.proofs.GatheredLemmas.{tables_same, tables_settled}
use Rattle.mb_store.proofs.HeldLemmas.{commits_told, held_kept, kept_settled, on_err}
use Rattle.mb_store.proofs.KeptCommit.{kept_after}
use Rattle.mb_store.proofs.mem_store.MemStoreTileStore.commit.Goals as goal

pub invariant_of-self-2-clause-kept : goal.invariant_of-self-2-clause-kept
unfolding told_of
invariant_of-self-2-clause-kept c =
    let s = c.settle.new.self in
    let same = ap (λ (t : Tables). t.descriptions) c.in_ok-settle.ensures.told in
    held_kept s.descriptions.items s.tables c.commit_all.new.tables s.gathered c.in_ok-settle.ensures.none c.in_ok-settle.ensures.closed s.kept.gathered
    (kept_after s.descriptions.items c.as_slice.result.now (subst (λ (cs : List Change). AreOfTables s.descriptions.items cs) (sym c.as_slice.ensures.all) (subst (λ (ds : List TableDesc). AreOfTables ds c.args.changes.now) (sym same) c.requires)) c.commit_all.result s.tables c.commit_all.new.tables c.commit_all.ensures.ok c.commit_all.ensures.err c.commit_all.ensures.stored
    (kept_settled s.descriptions.items s.tables s.gathered c.in_ok-settle.ensures.none s.kept))

pub returns-in_err-commit_all-clause-err : goal.returns-in_err-commit_all-clause-err
unfolding told_of
returns-in_err-commit_all-clause-err c =
    let s = c.settle.new.self in
    on_err c.from_residual-in_err-commit_all.result _
    (tables_settled s.descriptions.items c.commit_all.new.tables s.gathered c.in_ok-settle.ensures.none
    ∙ (tables_same s.descriptions.items (rows_at c.commit_all.new.tables) (rows_at s.tables) c.in_err-commit_all.ensures.err
    ∙ (sym c.in_ok-settle.ensures.plain ∙ c.in_ok-settle.ensures.told)))

pub returns-clause-ok : goal.returns-clause-ok
unfolding told_of
returns-clause-ok c =
    let s = c.settle.new.self in
    commits_told c.args.changes.now c.as_slice.result.now (told_of c.args.self.now) _ s.descriptions.items s.tables c.commit_all.new.tables c.as_slice.ensures.all
    (sym c.in_ok-settle.ensures.told ∙ c.in_ok-settle.ensures.plain)
    (tables_settled s.descriptions.items c.commit_all.new.tables s.gathered c.in_ok-settle.ensures.none)
    c.in_ok-commit_all.ensures.ok
