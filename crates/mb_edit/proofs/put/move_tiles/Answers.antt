use Rattle.mb_edit.proofs.Common.{ap, Held, IsLoadedFrom, may_put, NamesAlgorithm, None, subst, sym, ◌∙◌, ◌≡◌}
use Rattle.mb_edit.proofs.PutLemmas.{both_pass, put_loaded, put_named, put_state}
use Rattle.mb_edit.proofs.put.move_tiles.Goals as goal

pub returns-clause-state : goal.returns-clause-state
returns-clause-state c = ap (λ (h : Held). h.state) c.in_ok-put.ensures ∙ put_state c.args.base c.args.tiles.state.tiles

pub returns-clause-loaded : goal.returns-clause-loaded
returns-clause-loaded c t loaded on =
    let may : may_put c.args.base.state c.args.tiles.state.tiles ≡ None = both_pass c.args.base.state c.args.tiles.state.tiles c.mbt_type.result c.mbt_type.ensures c.in_ok-test_editable.ensures.tests c.in_ok-ids.ensures.tests in
    subst (IsLoadedFrom t) (sym c.in_ok-put.ensures) (put_loaded t c.args.base c.args.tiles.state.tiles may on loaded)

pub returns-clause-named : goal.returns-clause-named
returns-clause-named c named = subst (λ (h : Held). NamesAlgorithm h.state) (sym c.in_ok-put.ensures) (put_named c.args.base c.args.tiles.state.tiles named)
