use Rattle.mb_reading.proofs.Common.{first_layout, is_there, Metadata, read_of, Some, state, subst, sym, Tiles, ◌∙◌, ◌≡◌}
use Rattle.mb_reading.proofs.AskLemmas.{clean_before, stays_by, stays_then}
use Rattle.mb_reading.proofs.ReadLemmas.{reads_set}
use Rattle.mb_reading.proofs.reading.read_all.Goals as goal

pub returns-clause-same : goal.returns-clause-same
returns-clause-same g c clean =
    let s = state g.S.Store c.args.connection.now in
    let mid = c.ask.new.connection in
    let new = c.read_by.new.connection in
    let a = state g.S.Store mid in
    let clean_mid = clean_before g.S.Store mid new c.read_by.ensures.survives clean in
    stays_then s a (state g.S.Store new) (stays_by s a (c.in-Ok.ensures.same clean_mid)) (c.in_ok-store.ensures.same clean)

pub returns-clause-read : goal.returns-clause-read
returns-clause-read g c clean =
    let s = state g.S.Store c.args.connection.now in
    let mid = c.ask.new.connection in
    let new = c.read_by.new.connection in
    let a = state g.S.Store mid in
    let clean_mid = clean_before g.S.Store mid new c.read_by.ensures.survives clean in
    let master = c.in-Ok.master.items in
    let found = c.in_ok-layout.ensures in
    let layout = subst (λ rows. first_layout rows ≡ Some c.in-Some.layout) c.as_slice.ensures.value (sym found ∙ c.in-Some.is) in
    let there = subst (λ rows. c.is_there-has_tiles.result ≡ is_there rows Tiles) c.as_slice-2.ensures.value c.is_there-has_tiles.ensures in
    let has = subst (λ rows. c.is_there-has_names.result ≡ is_there rows Metadata) c.as_slice-3.ensures.value c.is_there-has_names.ensures in
    reads_set master c.of_master.result.now c.is_there-has_tiles.result c.in-Some.layout c.is_there-has_names.result s a (read_of c.in_ok-store.store) c.of_master.ensures (c.in-Ok.ensures.shown clean_mid) there layout has
    (stays_by s a (c.in-Ok.ensures.same clean_mid)) (c.in_ok-store.ensures.read clean)
