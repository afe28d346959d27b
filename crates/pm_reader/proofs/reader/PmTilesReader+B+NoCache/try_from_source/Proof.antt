-- The backend is lent to `ReaderState::open`, and held again where that succeeds. What a refusal leaves is what
-- `open` left. Assumes `Logic`.
use Rattle.pm_reader.proofs.Common.{a_type, addr, after, agg, alloc_all, alone, and_then, and_tt, Args, arm_body, at_exit, at_ret, await, Back, beside, bounded, by, by_result, calls_at, dcons, dnil}
use Rattle.pm_reader.proofs.Common.{emp, enter, Env, env, Err, err_of, err_out, exec, fact, fact_i, feq_i, first, fjoin, fld, flft, Fn, fpack, framed, free_all, fres, fsplit, fsplit3, ftrue, get}
use Rattle.pm_reader.proofs.Common.{get_in, get_tag, gives_back, GName, Goes-dropped, Goes-spent_ref, head, heard, holds, id⊢, in_variant, Incl-trans, inst_fn, join, lands_as, Lasts, lasts, later}
use Rattle.pm_reader.proofs.Common.{layout, leaves, LeftByOpening, lends_within, Lft, Lfts, List, lit, lit<, live, look_at, meet_⊑_right, move, mut_ref_to, mut_Tells, MutBor, MutRef, named, named_lft}
use Rattle.pm_reader.proofs.Common.{no_more, None, nothing, of_list, of_opd, Ok, ok_of, ok_out, owns, param, param_laws, pass_all, pick, plain, prop, proved_at, qed, RattleType, raw, refl, regoal}
use Rattle.pm_reader.proofs.Common.{rests_err, rests_ok, returns, rewrite, sets, sets_last, Share, some, split, SProp, stay_dropped, Stays, stop, switches_on, tables, then_runs, told, triple_of}
use Rattle.pm_reader.proofs.Common.{type_at, types_at, use0, use1, use2, use3, Val, Valss, vptr, vrt, vstruct, walk_of, whole, within, WpFn, yes, ℕ, !, [], ‵, ◌$◌, ◌++◌, ◌∵◌, ◌∷◌, ◌≡◌, ◌⊑◌, ◌⊛◌}
use types.Kit.{Item, drop}
use types.ByLocal.{through}
use denote.Struct.Declared as Declared
use Rattle.std.proofs.alloc.Global.TheLaws as global
use Rattle.std.specs.contracts.alloc.Global as G-type
use Rattle.pm_format.proofs.error.PmtError.TheLaws as error-laws
use Rattle.pm_format.specs.contracts.error.PmtError as E-type
use Rattle.pm_format.specs.declared.error.PmtError.TheVariants as errors
use Rattle.pm_format.specs.declared.error.ReadCause.TheVariants as causes
use Rattle.pm_reader.proofs.state.ReaderState.TheLaws as state
use Rattle.pm_reader.specs.contracts.state.ReaderState as S-type
use Rattle.pm_reader.specs.contracts.cache.none.NoCache as N-type
use Rattle.pm_reader.specs.contracts.reader.PmTilesReader as W-type
use Rattle.pm_reader.specs.contracts.state.ReaderState.open as s
use Rattle.pm_reader.proofs.state.ReaderState.open.Met as started
use Rattle.pm_reader.specs.contracts.reader.PmTilesReader+B+NoCache.try_from_source as f
use Rattle.pm_reader.specs.contracts.reader.PmTilesReader+B+NoCache.try_from_source.Key.{name as #self}
use Rattle.pm_reader.proofs.reader.PmTilesReader+B+NoCache.try_from_source.Statement.{statement}
use Rattle.pm_reader.proofs.reader.PmTilesReader+B+NoCache.try_from_source.Code as code
use Rattle.pm_reader.proofs.RefusedLemmas.{causes_again, failure, is_ok, no_fault, empty_fits, opens_again}

pub try_from_source_spec : {M : Type 1} → statement M
try_from_source_spec 𝓤 𝓛 𝓜 𝓡 wired Y L gb db mb =
    let H = 𝓛.H in let R : RattleType = param 0 Y in let En = f.ended Y gb db in
    let inst = bounded (a_type ∷ []) (Y, tt) (dcons db dnil) in let fn : Fn = inst_fn inst code.function in
    let c = f.clauses Y gb db 𝓛 𝓜.mem 𝓡.returns in let 𝓣 = tables 𝓤 H 𝓜 𝓡 𝓡.env in
    let Start = triple_of 𝓛 (s.signature Y) (s.spec Y gb db 𝓛 𝓜.mem 𝓡.returns) in let sEn = s.ended Y gb db in let sc = s.clauses Y gb db 𝓛 𝓜.mem 𝓡.returns in
    let known = started.met 𝓤 𝓛 𝓜 𝓡 (code.calls-pm_reader::state::ReaderState::open 𝓡.env wired) Y L gb db mb in
    let hs : Stays En.signature.params En.kept = (stay_dropped (plain (λ _. G-type.the_row)) yes, (stay_dropped (mut_ref_to (0 ∷ []) tt (plain (λ _. R))) (En.kept.1.0), tt)) in
    proved_at 𝓛 En hs c 𝓜 𝓡 (Goes-dropped 𝓛 2 (plain (λ _. G-type.the_row)) yes (λ κs x w. refl), (Goes-spent_ref 𝓛 2 (0 ∷ []) tt (plain (λ _. R)), tt))
    (#self inst) fn (code.unfolded 𝓤 H 𝓜 𝓡 wired (Y, tt) db) (λ z are.
    let κs = z.0.0 in let qs = z.0.1 in let a = z.0.3 in let vss = z.0.4 in let al = a.0 in let m = a.1.0 in
    let κ : Lft = κs.0 in let q : Share = qs.0 in let γ : GName = m.ghost_name in
    let t₀ : Item 𝓤 = ‵ (flft κ q) in let t₁ : Item 𝓤 = ‵ (flft κs.1.0 qs.1.0) in
    let Post : Val → SProp 𝓤 = (walk_of 𝓛 En hs c).post z in let Run : List Val → SProp 𝓤 = λ us. WpFn 𝓤 H 𝓣.C 𝓣.Λ fn us Post in
    let NC : RattleType = N-type.the_row in let WS : RattleType = S-type.the_row in let PE : RattleType = E-type.the_row in
    let ℓ = named_lft 2 0 tt κs in let W : RattleType = W-type.the_row ℓ R NC WS in
    let Out : RattleType = type_at En.signature.result κs in let Made : RattleType = type_at sEn.signature.result κs in
    let Inside : Type 0 = κs.1.0 ⊑ Y.lives in
    let one = alone (layout G-type.the_row) vss.0 (((param_laws 0 G-type.the_row global.the_row_laws).lawful 𝓛).typed al vss.0 are.0) in
    let av : Val = one.0 in let mv : Val = vptr m.ref_ptr.0 m.ref_ptr.1 in let nv : Val = vstruct (of_list []) in
    let e₀ : vss.0 ≡ av ∷ [] = one.1.0 in let e₁ : vss.1.0 ≡ mv ∷ [] = mut_Tells (named 0) κ R m vss.1.0 are.1.0 in
    qed 𝓛 (((t₀ ⊛ t₁ ⊛ ‵ ftrue) ⊛ ‵ (owns (types_at En.signature.params κs) a vss)) ∷ (raw (fact 𝓤 Inside) ⊛ raw (emp 𝓤)) ∷ []) ∵
    move ! (1 ∷ []) $ split ! $ heard ! Inside (λ le. drop ! $ split ! $ split ! $ move ! (2 ∷ []) $ fsplit3 ! $ move ! (1 ∷ 2 ∷ 0 ∷ []) $
    -- [the backend; nothing; the allocator; the tokens]
    rewrite ! 0 (λ (us : List Val). ‵ ((MutRef (named 0) κ R).own_val m us)) e₁ refl $ rewrite ! 2 (λ (us : List Val). ‵ ((G-type.the_row).own_val al us)) e₀ refl $
    regoal ! (λ (us : List Val). prop (Run us)) (λ i. e₀ i ++ (e₁ i ++ [])) refl $
    enter ! 𝓣.C 𝓣.Λ fn (av ∷ mv ∷ []) Post $ alloc_all ! (λ l. pass_all ! refl (one.1.1, ((tt, tt), tt)) $ let Ev : Env 𝓤 H = env fn.locals l in
    sets ! (addr ! (through ! refl (stop !))) refl (tt, tt) $ move ! (0 ∷ 3 ∷ []) $
    use2 𝓛 (later (some (λ (n : ℕ × GName × Share). ‵ ((MutRef (named 0) (n.0 ∷ κ) R).own_val (record m { ghost_name = n.1 }) (mv ∷ [])) ⊛ ‵ (flft (n.0 ∷ κ) n.2) ⊛ raw (Back 𝓛 R (named 0) κ q m n))))
    (lends_within 𝓛 R (named 0) κ q m) $ await ! tt $ pick ! (λ n. split ! $ move ! (1 ∷ []) $ split ! $
    -- [the loan's token; the way back; the loan; nothing; the allocator; the other token]
    let κs' : Lfts 2 = (n.0 ∷ κ, (κs.1.0, tt)) in let a' : Args (s.signature Y) κs' = (al, (record m { ghost_name = n.1 }, tt)) in
    let y : Start.Ghost = ((κs', (n.2, (qs.1.0, tt)), (Incl-trans (meet_⊑_right (n.0 ∷ []) κ) z.0.2.0, tt), a', (av ∷ [], (mv ∷ [], tt))), tt) in
    move ! (2 ∷ 3 ∷ []) $ fjoin ! $ move ! (3 ∷ 0 ∷ []) $ fjoin ! $
    -- [what `open` is given; the loan's token; the way back; the other token]
    move ! (1 ∷ 3 ∷ []) $ join ! $ join ! $
    use0 𝓛 (raw (emp 𝓤)) (id⊢ 𝓤 (emp 𝓤)) $ use0 𝓛 (raw (fact 𝓤 Inside)) (fact_i 𝓤 Inside (emp 𝓤) le) $ join ! $ move ! (1 ∷ 0 ∷ []) $ join ! $ use1 𝓛 (raw (Start.pre y)) (id⊢ 𝓤 _) $
    calls_at ! (framed 𝓤 H 𝓜 𝓣) Start known y (and_then ! (get ! refl) (and_then ! (get ! refl) (no_more !))) (λ v.
    use1 𝓛 (later (some (λ (r : Made.Denot). ((‵ (flft (n.0 ∷ κ) n.2) ⊛ t₁ ⊛ ‵ ftrue) ⊛ ‵ (Made.own_val r (v ∷ []))) ⊛
    some (λ (ws : Lasts sEn κs' a'). ‵ (lasts sEn κs' a' ws) ⊛ raw ((sc κs' a').ensures tt r (at_exit sEn κs' a' ws)))))) (id⊢ 𝓤 _) $
    await ! tt $ pick ! (λ r. split ! $ split ! $ move ! (2 ∷ []) $ pick ! (λ ws. split ! $ let w : Y.Denot = ws.1.0 in let mr : MutBor Y.Denot = record m { now = w } in
    -- [the last values; what `open` ensures; the tokens; the result; the way back]
    fsplit ! $ drop ! $ fsplit ! $ fsplit ! $ move ! (1 ∷ 2 ∷ []) $ drop ! $ drop ! $ move ! (2 ∷ []) $ split ! $ move ! (0 ∷ 2 ∷ 5 ∷ []) $
    use3 𝓛 (later (‵ ((MutRef (named 0) κ R).own_val mr (mv ∷ [])) ⊛ t₀)) (gives_back 𝓛 R (named 0) κ q m n w) $ await ! tt $ split ! $ move ! (1 ∷ 2 ∷ []) $ join ! $
    -- [the tokens; the backend; what `open` ensures; the result]
    by_result r
    (λ x is. rewrite ! 3 (λ (r' : Made.Denot). ‵ (Made.own_val r' (v ∷ []))) is refl $ rewrite ! 2 (λ (r' : Made.Denot). raw ((sc κs' a').ensures tt r' (at_exit sEn κs' a' ws))) is refl $ move ! (2 ∷ []) $
    told ! (λ answer. told ! (λ opened. told ! (λ why. told ! (λ still. told ! (λ version. told ! (λ kept. heard ! _ (λ reads. move ! (2 ∷ []) $
    ok_out WS PE state.the_row_laws ! x v (λ u ev good.
    let d : W.Denot = record { backend = mr; cache = record {}; state = x } in let wv : Val = vstruct (of_list (mv ∷ nv ∷ u ∷ [])) in let rv : Val = live 0 (of_list (wv ∷ [])) in
    lands_as ! ev refl (and_tt _ good.0, (record { fits = lit< tt }, (good.1, tt))) $
    first ! $ switches_on ! (get_tag ! (vrt ! refl (fld ! refl (stop !))) (whole !)) $ exec ! 𝓣.C 𝓣.Λ Ev (arm_body 0 (head (after 2 fn.body))) (then_runs 𝓛 𝓣.C 𝓣.Λ Ev (after 3 fn.body) (at_ret Ev Post)) $
    sets ! (of_opd ! (get_in ! (vrt ! refl (fld ! refl (stop !))) (in_variant ! 0 0 refl refl (whole !)))) refl good $
    sets ! (addr ! (through ! refl (stop !))) refl (tt, tt) $ sets ! (agg ! (no_more !)) refl (tt, tt) $ sets ! (of_opd ! (get ! refl)) refl good $
    sets ! (agg ! (and_then ! (get ! refl) (and_then ! (get ! refl) (and_then ! (get ! refl) (no_more !))))) refl (and_tt _ good.0, (tt, (tt, (good.1, tt)))) $
    sets_last ! (agg ! (and_then ! (lit ! tt) (and_then ! (get ! refl) (no_more !)))) refl (and_tt _ (and_tt _ good.0), (record { fits = lit< tt }, ((tt, (tt, (good.1, tt))), tt))) $
    exec ! 𝓣.C 𝓣.Λ Ev (after 3 fn.body) (at_ret Ev Post) $
    sets ! (of_opd ! (get ! refl)) refl (and_tt _ (and_tt _ good.0), (record { fits = lit< tt }, ((tt, (tt, (good.1, tt))), tt))) $
    returns ! (look_at ! 0 refl) $ free_all ! refl $
    -- [the state; the tokens; the backend]
    nothing ! $ feq_i ! (List Val) (nv ∷ []) (nv ∷ []) refl $ fjoin ! $ fpack ! (Valss []) (within (Declared.shape N-type.the_type) tt (nv ∷ [])) tt $
    -- [the cache; the state; the tokens; the backend]
    move ! (3 ∷ 0 ∷ 1 ∷ []) $ nothing ! $ move ! (3 ∷ 0 ∷ []) $ fjoin ! $ move ! (2 ∷ 0 ∷ []) $ fjoin ! $ move ! (1 ∷ 0 ∷ []) $ fjoin ! $ feq_i ! (List Val) (wv ∷ []) (wv ∷ []) refl $ fjoin ! $
    fpack ! (Valss (MutRef (named 0) κ R ∷ NC ∷ WS ∷ [])) (within (Declared.shape (W-type.the_type ℓ R NC WS)) (mr, (record {}, (x, tt))) (wv ∷ [])) (mv ∷ [], (nv ∷ [], (u ∷ [], tt))) $
    use1 𝓛 (‵ (Out.own_val (Ok d) (rv ∷ []))) (ok_of 𝓛 W PE d wv) $
    use0 𝓛 (raw ((c κs a).ensures tt (Ok d) (at_exit En κs a (tt, (tt, tt)))))
    (beside 𝓛 (rests_ok 𝓛 R m (λ (t : W.Denot). t.backend.ghost_name) PE.Denot (LeftByOpening {A = W.Denot} gb.told gb.versions gb.faults gb.reads gb.steady m.now (Ok d)) d refl)
    (holds 𝓛 tt (holds 𝓛 tt (holds 𝓛 (λ steady below same. is_ok WS.Denot W.Denot 0 0 (Ok d) d (errors.Reading causes.Fault) refl same)
    (holds 𝓛 refl (holds 𝓛 (empty_fits (gb.told w) x (λ o. None) (Unit {0}) (λ o. refl) opened) (holds 𝓛 (opens_again (gb.told m.now) (gb.told w) x kept.told opened)
    (holds 𝓛 version (holds 𝓛 still (holds 𝓛 kept (fact_i 𝓤 _ (emp 𝓤) reads))))))))))) $
    nothing ! $ nothing ! $ fjoin ! $ nothing ! $ fjoin ! $ move ! (3 ∷ 0 ∷ 2 ∷ 1 ∷ []) $ by ! (leaves 𝓛 En hs c z rv (Ok d) (tt, (tt, tt)) (tt, (tt, tt))))))))))))
    (λ error is. rewrite ! 3 (λ (r' : Made.Denot). ‵ (Made.own_val r' (v ∷ []))) is refl $ rewrite ! 2 (λ (r' : Made.Denot). raw ((sc κs' a').ensures tt r' (at_exit sEn κs' a' ws))) is refl $ move ! (2 ∷ []) $
    told ! (λ answer. told ! (λ opened. told ! (λ why. told ! (λ still. told ! (λ version. told ! (λ kept. heard ! _ (λ reads. move ! (2 ∷ []) $
    err_out WS PE error-laws.the_row_laws ! error v (λ u ev good.
    let rv : Val = live 1 (of_list (u ∷ [])) in let before : ℕ = gb.faults m.now in let now : ℕ = gb.faults w in
    let Leaves : Y.Denot → Type 0 = LeftByOpening {A = W.Denot} gb.told gb.versions gb.faults gb.reads gb.steady m.now (Err error) in
    let left : Leaves w = record { causes = causes_again WS.Denot W.Denot before now error why; still = still; kept = kept; reads = reads } in
    lands_as ! ev refl (and_tt _ good.0, (record { fits = lit< tt }, (good.1, tt))) $
    first ! $ switches_on ! (get_tag ! (vrt ! refl (fld ! refl (stop !))) (whole !)) $ exec ! 𝓣.C 𝓣.Λ Ev (arm_body 1 (head (after 2 fn.body))) (then_runs 𝓛 𝓣.C 𝓣.Λ Ev (after 3 fn.body) (at_ret Ev Post)) $
    sets ! (of_opd ! (get_in ! (vrt ! refl (fld ! refl (stop !))) (in_variant ! 1 0 refl refl (whole !)))) refl good $ sets ! (of_opd ! (get ! refl)) refl good $
    sets_last ! (agg ! (and_then ! (lit ! tt) (and_then ! (get ! refl) (no_more !)))) refl (and_tt _ good.0, (record { fits = lit< tt }, (good.1, tt))) $
    exec ! 𝓣.C 𝓣.Λ Ev (after 3 fn.body) (at_ret Ev Post) $ sets ! (of_opd ! (get ! refl)) refl (and_tt _ good.0, (record { fits = lit< tt }, (good.1, tt))) $
    returns ! (look_at ! 0 refl) $ free_all ! refl $
    -- [the error; the tokens; the backend]
    use1 𝓛 (‵ (Out.own_val (Err error) (rv ∷ []))) (err_of 𝓛 W PE error u) $ move ! (2 ∷ []) $ fsplit3 ! $ drop ! $
    use1 𝓛 (‵ (fres γ (R.coded.code w))) (𝓛.names.obs-res γ (R.coded.code w)) $ move ! (1 ∷ []) $ drop ! $
    use1 𝓛 (raw ((c κs a).ensures tt (Err error) (at_exit En κs a (tt, (tt, tt)))))
    (beside 𝓛 (rests_err 𝓛 R m (λ (t : W.Denot). t.backend.ghost_name) PE.Denot Leaves error w left) (holds 𝓛 answer (holds 𝓛 (failure WS.Denot W.Denot before now error why)
    (holds 𝓛 (λ steady below same. no_fault WS.Denot W.Denot before now (Err error) error why below (kept.calm steady).1 refl same)
    (holds 𝓛 tt (holds 𝓛 tt (holds 𝓛 tt (holds 𝓛 tt (holds 𝓛 tt (holds 𝓛 tt (fact_i 𝓤 _ (emp 𝓤) tt))))))))))) $
    nothing ! $ nothing ! $ fjoin ! $ nothing ! $ fjoin ! $ move ! (3 ∷ 0 ∷ 2 ∷ 1 ∷ []) $ by ! (leaves 𝓛 En hs c z rv (Err error) (tt, (tt, tt)) (tt, (tt, tt)))))))))))))))))))
