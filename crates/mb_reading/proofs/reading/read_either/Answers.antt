use Rattle.mb_reading.proofs.Common.{Flat, IfNone, IfSome, IsRead, LacksLayout, read_of, ReadsLayout, state, subst}
use Rattle.mb_reading.proofs.AskLemmas.{clean_before, stays_then}
use Rattle.mb_reading.proofs.FillLemmas.{is_set}
use Rattle.mb_reading.proofs.ReadLemmas.{reads_first, reads_flat}
use Rattle.mb_reading.proofs.reading.read_either.Goals as goal

pub returns-in-Some-clause-read : goal.returns-in-Some-clause-read
returns-in-Some-clause-read g c clean =
    let s = state g.S.Store c.args.connection.now in
    reads_first c.args.layout c.args.has_names s (read_of c.in-Some.store) (subst (λ o. IfSome o (λ full. ReadsLayout c.args.layout c.args.has_names s (read_of full))) c.in-Some.is (c.in_ok-store.ensures.read clean))

pub returns-in-Some-clause-told : goal.returns-in-Some-clause-told
returns-in-Some-clause-told g c = is_set c.args.layout (read_of c.in-Some.store) (subst (λ o. IfSome o (λ full. IsRead c.args.layout (read_of full))) c.in-Some.is c.in_ok-store.ensures.told)

pub returns-in-Some-2-clause-read : goal.returns-in-Some-2-clause-read
returns-in-Some-2-clause-read g c clean =
    let s = state g.S.Store c.args.connection.now in
    let mid = c.read_layout.new.connection in
    let new = c.read_layout-2.new.connection in
    let a = state g.S.Store mid in
    let clean_mid = clean_before g.S.Store mid new c.read_layout-2.ensures.survives clean in
    reads_flat c.args.layout c.args.has_names s a (read_of c.in-Some-2.store) (subst (λ o. IfNone o (LacksLayout c.args.layout c.args.has_names s)) c.in_default.is (c.in_ok-store.ensures.lacks clean_mid))
    (c.in_ok-store.ensures.same clean_mid) (subst (λ o. IfSome o (λ full. ReadsLayout Flat c.args.has_names a (read_of full))) c.in-Some-2.is (c.in_ok-store-2.ensures.read clean))

pub returns-in-Some-2-clause-same : goal.returns-in-Some-2-clause-same
returns-in-Some-2-clause-same g c clean =
    let s = state g.S.Store c.args.connection.now in
    let mid = c.read_layout.new.connection in
    let new = c.read_layout-2.new.connection in
    let clean_mid = clean_before g.S.Store mid new c.read_layout-2.ensures.survives clean in
    stays_then s (state g.S.Store mid) (state g.S.Store new) (c.in_ok-store.ensures.same clean_mid) (c.in_ok-store-2.ensures.same clean)

pub returns-in-Some-2-clause-told : goal.returns-in-Some-2-clause-told
returns-in-Some-2-clause-told g c = is_set Flat (read_of c.in-Some-2.store) (subst (λ o. IfSome o (λ full. IsRead Flat (read_of full))) c.in-Some-2.is c.in_ok-store-2.ensures.told)
