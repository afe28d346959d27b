use Rattle.mb_reading.proofs.Common.{ap, IfNone, IfSome, IsFilled, IsUnfit, Metadata, nothing_left, Read, read_of, ReadsTable, refl, start, state, subst, told_of, true, ◌∙◌, ◌≡◌}
use Rattle.mb_reading.proofs.AskLemmas.{clean_before, commits_then, stays_then}
use Rattle.mb_reading.proofs.FillLemmas.{has_tile_table, is_read}
use Rattle.mb_reading.proofs.ReadLemmas.{lacks_contents, lacks_tiles, never_unfit, reads_layout}
use Rattle.mb_reading.proofs.reading.read_layout.Goals as goal

pub returns-in_default-2-clause-lacks : goal.returns-in_default-2-clause-lacks
returns-in_default-2-clause-lacks g c clean =
    let s = state g.S.Store c.args.connection.now in
    let none : Read = (told_of c.in-Ok.store, nothing_left) in
    absurd (never_unfit c.args.has_names s none (subst (λ o. IfNone o (IsUnfit c.args.has_names Metadata s none)) c.in_default-2.is (c.in_ok-named.ensures.unfit clean)))

pub returns-in_default-3-clause-lacks : goal.returns-in_default-3-clause-lacks
returns-in_default-3-clause-lacks g c clean =
    let s = state g.S.Store c.args.connection.now in
    let first = c.read_table.new.connection in
    let a = state g.S.Store first in
    let none : Read = (told_of c.in-Ok.store, nothing_left) in
    let empty : none ≡ start c.args.layout = ap (λ t. (t, nothing_left)) c.in-Ok.ensures.told in
    let names = read_of c.in-Some.named in
    let clean_first = clean_before g.S.Store first c.read_table-2.new.connection c.read_table-2.ensures.survives clean in
    let stays = c.in_ok-named.ensures.same clean_first in
    let one = subst (λ o. IfSome o (λ full. ReadsTable c.args.has_names Metadata s none (read_of full))) c.in-Some.is (c.in_ok-named.ensures.read clean_first) in
    lacks_contents c.args.layout c.args.has_names c.has_contents-has.result c.content_table-table.result _ s a a none empty c.has_contents-has.ensures c.content_table-table.ensures refl names names names stays stays one
    (subst (λ o. IfNone o (IsUnfit c.has_contents-has.result c.content_table-table.result a names)) c.in_default-3.is (c.in_ok-held.ensures.unfit clean))

pub returns-in_default-4-clause-lacks : goal.returns-in_default-4-clause-lacks
returns-in_default-4-clause-lacks g c clean =
    let s = state g.S.Store c.args.connection.now in
    let first = c.read_table.new.connection in
    let second = c.read_table-2.new.connection in
    let a = state g.S.Store first in
    let b = state g.S.Store second in
    let none : Read = (told_of c.in-Ok.store, nothing_left) in
    let empty : none ≡ start c.args.layout = ap (λ t. (t, nothing_left)) c.in-Ok.ensures.told in
    let names = read_of c.in-Some.named in
    let more = read_of c.in-Some-2.held in
    let clean_second = clean_before g.S.Store second c.read_table-3.new.connection c.read_table-3.ensures.survives clean in
    let clean_first = clean_before g.S.Store first second c.read_table-2.ensures.survives clean_second in
    let to_a = c.in_ok-named.ensures.same clean_first in
    let to_b = stays_then s a b to_a (c.in_ok-held.ensures.same clean_second) in
    let one = subst (λ o. IfSome o (λ full. ReadsTable c.args.has_names Metadata s none (read_of full))) c.in-Some.is (c.in_ok-named.ensures.read clean_first) in
    let two = subst (λ o. IfSome o (λ full. ReadsTable c.has_contents-has.result c.content_table-table.result a names (read_of full))) c.in-Some-2.is (c.in_ok-held.ensures.read clean_second) in
    lacks_tiles c.args.layout c.args.has_names c.has_contents-has.result c.content_table-table.result c.tile_table.result s a b none empty c.has_contents-has.ensures c.content_table-table.ensures c.tile_table.ensures names
    more more to_a to_b one two (subst (λ o. IfNone o (IsUnfit true c.tile_table.result b more)) c.in_default-4.is (c.in_ok-full.ensures.unfit clean))

pub returns-clause-read : goal.returns-clause-read
returns-clause-read g c clean =
    let s = state g.S.Store c.args.connection.now in
    let first = c.read_table.new.connection in
    let second = c.read_table-2.new.connection in
    let new = c.read_table-3.new.connection in
    let a = state g.S.Store first in
    let b = state g.S.Store second in
    let none : Read = (told_of c.in-Ok.store, nothing_left) in
    let empty : none ≡ start c.args.layout = ap (λ t. (t, nothing_left)) c.in-Ok.ensures.told in
    let names = read_of c.in-Some.named in
    let more = read_of c.in-Some-2.held in
    let clean_second = clean_before g.S.Store second new c.read_table-3.ensures.survives clean in
    let clean_first = clean_before g.S.Store first second c.read_table-2.ensures.survives clean_second in
    let to_a = c.in_ok-named.ensures.same clean_first in
    let to_b = stays_then s a b to_a (c.in_ok-held.ensures.same clean_second) in
    let one = subst (λ o. IfSome o (λ full. ReadsTable c.args.has_names Metadata s none (read_of full))) c.in-Some.is (c.in_ok-named.ensures.read clean_first) in
    let two = subst (λ o. IfSome o (λ full. ReadsTable c.has_contents-has.result c.content_table-table.result a names (read_of full))) c.in-Some-2.is (c.in_ok-held.ensures.read clean_second) in
    let three = subst (λ o. IfSome o (λ full. ReadsTable true c.tile_table.result b more (read_of full))) c.in-Some-3.is (c.in_ok-full.ensures.read clean) in
    reads_layout c.args.layout c.args.has_names c.has_contents-has.result c.content_table-table.result c.tile_table.result s a b none empty c.has_contents-has.ensures c.content_table-table.ensures c.tile_table.ensures names
    more (read_of c.in-Some-3.full) to_a to_b one two three

pub returns-clause-same : goal.returns-clause-same
returns-clause-same g c clean =
    let s = state g.S.Store c.args.connection.now in
    let first = c.read_table.new.connection in
    let second = c.read_table-2.new.connection in
    let new = c.read_table-3.new.connection in
    let a = state g.S.Store first in
    let b = state g.S.Store second in
    let clean_second = clean_before g.S.Store second new c.read_table-3.ensures.survives clean in
    let clean_first = clean_before g.S.Store first second c.read_table-2.ensures.survives clean_second in
    let to_b = stays_then s a b (c.in_ok-named.ensures.same clean_first) (c.in_ok-held.ensures.same clean_second) in
    stays_then s b (state g.S.Store new) to_b (c.in_ok-full.ensures.same clean)

pub returns-clause-told : goal.returns-clause-told
returns-clause-told g c =
    let none : Read = (told_of c.in-Ok.store, nothing_left) in
    let empty : none ≡ start c.args.layout = ap (λ t. (t, nothing_left)) c.in-Ok.ensures.told in
    let names = read_of c.in-Some.named in
    let more = read_of c.in-Some-2.held in
    let one = subst (λ o. IfSome o (λ full. IsFilled c.args.has_names Metadata none (read_of full))) c.in-Some.is c.in_ok-named.ensures.told in
    let two = subst (λ o. IfSome o (λ full. IsFilled c.has_contents-has.result c.content_table-table.result names (read_of full))) c.in-Some-2.is c.in_ok-held.ensures.told in
    let three = subst (λ o. IfSome o (λ full. IsFilled true c.tile_table.result more (read_of full))) c.in-Some-3.is c.in_ok-full.ensures.told in
    is_read c.args.layout c.args.has_names c.has_contents-has.result c.content_table-table.result c.tile_table.result none names more (read_of c.in-Some-3.full) empty c.has_contents-has.ensures c.content_table-table.ensures
    c.tile_table.ensures one two three

pub read_table-requires-3-clause-described : goal.read_table-requires-3-clause-described
read_table-requires-3-clause-described g c _ =
    let none = told_of c.in-Ok.store in
    let names = told_of c.in-Some.named.store in
    let held = told_of c.in-Some-2.held.store in
    let one = subst (λ o. IfSome o (λ full. (told_of full.store).descriptions ≡ none.descriptions)) c.in-Some.is c.in_ok-named.ensures.described in
    let two = subst (λ o. IfSome o (λ full. (told_of full.store).descriptions ≡ names.descriptions)) c.in-Some-2.is c.in_ok-held.ensures.described in
    has_tile_table held.descriptions c.args.layout c.tile_table.result (two ∙ (one ∙ ap (λ t. t.descriptions) c.in-Ok.ensures.told)) c.tile_table.ensures

pub returns-clause-survives : goal.returns-clause-survives
returns-clause-survives g c =
    let old = c.args.connection.now in
    let first = c.read_table.new.connection in
    let second = c.read_table-2.new.connection in
    let to_second = commits_then g.S.Store old first second c.read_table.ensures.survives c.read_table-2.ensures.survives in
    commits_then g.S.Store old second c.read_table-3.new.connection to_second c.read_table-3.ensures.survives
