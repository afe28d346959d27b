-- The backend is lent to `ServerState::open`, and held again where that succeeds. What a refusal leaves is what that
-- call left. Assumes `Logic`.
use Rattle.tile_serve.proofs.Common.{Err, IfErr-at_err, IsLimits, List, lit<, Ok, refl, ℕ, [], ◌++◌, ◌∷◌, ◌≡◌}
use base.Fml.{Lft, Share, GName, Incl-trans, ftrue, flft, fres}
use base.Logic.{SProp, emp, id⊢}
use mir.Syntax.{Fn, a_type, named, dcons, dnil}
use mir.MapTy.{inst_fn}
use mir.Val.{Val, vptr, vstruct, of_list}
use prog.Wp.{Env, WpFn}
use types.Match.{live, vrt, in_variant}
use types.Kit.{Item, ‵, raw, ◌⊛◌, prop, some, later, at_ret, ◌$◌, ◌∵◌, !, qed, by, move, drop, use0, use1, use2, use3, split, split3, join, pick, await, rewrite, regoal, fsplit, fsplit3, fjoin, fpack, feq_i}
use types.Run.{stop, fld, addr, lit, of_opd, no_more, and_then, first, switches_on, exec, returns, enter}
use types.Part.{whole, agg}
use types.ByLocal.{alloc_all, pass_all, free_all, look_at, get, get_in, get_tag, through, sets, sets_last, lands_as, env}
use contract.BorrowLft.{◌⊑◌, meet_⊑_right}
use contract.Lifetimes.{Lfts}
use contract.Monad.{fact, fact_i}
use contract.Running.{tables}
use denote.Exit.{yes}
use denote.Param.{param, layout, bounded}
use denote.Param.Laws.{param_laws}
use denote.RattleType.{RattleType, Valss, owns}
use denote.Ref.{MutBor, MutRef, mut_Tells}
use denote.Signature.{plain, mut_ref_to, type_at, types_at, named_lft}
use denote.Steps.{nothing, heard}
use denote.Struct.Declared as Declared
use denote.Struct.Struct.{within}
use denote.Triple.Call.{calls_at}
use denote.Triple.Clauses.{Lasts, lasts, at_exit}
use denote.Triple.Entry.{Args}
use denote.Triple.Spec.{triple_of}
use denote.Triple.Table.{framed}
use denote.Triple.Walked.{Stays, stay_dropped, Goes-dropped, Goes-spent_ref, walk_of}
use Rattle.std.proofs.raw_atomic.Walks.{proved_at, leaves}
use Rattle.std.proofs.alloc.Global.TheLaws as global
use Rattle.std.specs.contracts.alloc.Global as G-type
use Rattle.base_values.proofs.ByHand.Bodies.{after, head, arm_body, then_runs}
use Rattle.base_values.proofs.ByHand.Values.{alone, and_tt, by_result, told, holds, beside, ok_out, err_out, ok_of, err_of}
use Rattle.base_values.proofs.ByHand.Rests.{rests_ok, rests_err}
use Rattle.base_values.proofs.ByHand.Lending.{Back, lends_within, gives_back}
use Rattle.tile_serve.proofs.error.ServeError.TheLaws as error-laws
use Rattle.tile_serve.specs.contracts.error.ServeError as E-type
use Rattle.tile_serve.proofs.limits.ServeLimits.TheLaws as limit-laws
use Rattle.tile_serve.specs.contracts.limits.ServeLimits as L-type
use Rattle.tile_serve.proofs.state.ServerState.TheLaws as state
use Rattle.tile_serve.specs.contracts.state.ServerState as S-type
use Rattle.tile_serve.specs.contracts.server.TileServer as W-type
use Rattle.tile_serve.specs.contracts.state.ServerState.open as s
use Rattle.tile_serve.proofs.state.ServerState.open.Met as started
use Rattle.tile_serve.specs.contracts.server.TileServer+B.open as f
use Rattle.tile_serve.specs.contracts.server.TileServer+B.open.Key.{name as #self}
use Rattle.tile_serve.proofs.server.TileServer+B.open.Statement.{statement}
use Rattle.tile_serve.proofs.server.TileServer+B.open.Code as code
use Rattle.tile_serve.specs.Refused.{LeftByOpening}
use Rattle.tile_serve.proofs.RefusedLemmas.{failure, no_fault}

pub open_spec : {M : Type 1} → statement M
open_spec 𝓤 𝓛 𝓜 𝓡 wired Y L gb db mb =
    let H = 𝓛.H in let R : RattleType = param 0 Y in let En = f.ended Y gb db in
    let inst = bounded (a_type ∷ []) (Y, tt) (dcons db dnil) in let fn : Fn = inst_fn inst code.function in
    let c = f.clauses Y gb db 𝓛 𝓜.mem 𝓡.returns in let 𝓣 = tables 𝓤 H 𝓜 𝓡 𝓡.env in
    let Start = triple_of 𝓛 (s.signature Y) (s.spec Y gb db 𝓛 𝓜.mem 𝓡.returns) in let sEn = s.ended Y gb db in let sc = s.clauses Y gb db 𝓛 𝓜.mem 𝓡.returns in
    let known = started.met 𝓤 𝓛 𝓜 𝓡 (code.calls-tile_serve::state::ServerState::open 𝓡.env wired) Y L gb db mb in
    let hs : Stays En.signature.params En.kept = (stay_dropped (plain (λ _. G-type.the_row)) yes, (stay_dropped (mut_ref_to (0 ∷ []) tt (plain (λ _. R))) (En.kept.1.0), (stay_dropped (plain (λ _. L-type.the_row)) yes, tt))) in
    proved_at 𝓛 En hs c 𝓜 𝓡 (Goes-dropped 𝓛 2 (plain (λ _. G-type.the_row)) yes (λ κs x w. refl), (Goes-spent_ref 𝓛 2 (0 ∷ []) tt (plain (λ _. R)), (Goes-dropped 𝓛 2 (plain (λ _. L-type.the_row)) yes (λ κs x w. refl), tt)))
    (#self inst) fn (code.unfolded 𝓤 H 𝓜 𝓡 wired (Y, tt) db) (λ z are.
    let κs = z.0.0 in let qs = z.0.1 in let a = z.0.3 in let vss = z.0.4 in let al = a.0 in let m = a.1.0 in let li = a.1.1.0 in
    let κ : Lft = κs.0 in let q : Share = qs.0 in let γ : GName = m.ghost_name in
    let t₀ : Item 𝓤 = ‵ (flft κ q) in let t₁ : Item 𝓤 = ‵ (flft κs.1.0 qs.1.0) in
    let Post : Val → SProp 𝓤 = (walk_of 𝓛 En hs c).post z in let Run : List Val → SProp 𝓤 = λ us. WpFn 𝓤 H 𝓣.C 𝓣.Λ fn us Post in
    let WS : RattleType = S-type.the_row in let SE : RattleType = E-type.the_row in let ℓ = named_lft 2 0 tt κs in let W : RattleType = W-type.the_row ℓ R WS in
    let Out : RattleType = type_at En.signature.result κs in let Made : RattleType = type_at sEn.signature.result κs in
    let Inside : Type 0 = κs.1.0 ⊑ Y.lives in let Fits : Type 0 = IsLimits li in
    let one = alone (layout G-type.the_row) vss.0 (((param_laws 0 G-type.the_row global.the_row_laws).lawful 𝓛).typed al vss.0 are.0) in
    let two = alone (layout L-type.the_row) vss.1.1.0 (((param_laws 0 L-type.the_row limit-laws.the_row_laws).lawful 𝓛).typed li vss.1.1.0 are.1.1.0) in
    let av : Val = one.0 in let mv : Val = vptr m.ref_ptr.0 m.ref_ptr.1 in let lv : Val = two.0 in
    let e₀ : vss.0 ≡ av ∷ [] = one.1.0 in let e₁ : vss.1.0 ≡ mv ∷ [] = mut_Tells (named 0) κ R m vss.1.0 are.1.0 in let e₂ : vss.1.1.0 ≡ lv ∷ [] = two.1.0 in
    qed 𝓛 (((t₀ ⊛ t₁ ⊛ ‵ ftrue) ⊛ ‵ (owns (types_at En.signature.params κs) a vss)) ∷ (raw (fact 𝓤 Inside) ⊛ raw (fact 𝓤 Fits)) ∷ []) ∵
    move ! (1 ∷ []) $ split ! $ heard ! Inside (λ le. heard ! Fits (λ fits. split ! $ split ! $ move ! (2 ∷ []) $ fsplit3 ! $ move ! (2 ∷ []) $ fsplit ! $ move ! (3 ∷ []) $
    -- [the backend; the limits; nothing; the allocator; the tokens]
    rewrite ! 0 (λ (us : List Val). ‵ ((MutRef (named 0) κ R).own_val m us)) e₁ refl $ rewrite ! 1 (λ (us : List Val). ‵ ((L-type.the_row).own_val li us)) e₂ refl $
    rewrite ! 3 (λ (us : List Val). ‵ ((G-type.the_row).own_val al us)) e₀ refl $ regoal ! (λ (us : List Val). prop (Run us)) (λ i. e₀ i ++ (e₁ i ++ (e₂ i ++ []))) refl $
    enter ! 𝓣.C 𝓣.Λ fn (av ∷ mv ∷ lv ∷ []) Post $ alloc_all ! (λ l. pass_all ! refl (one.1.1, ((tt, tt), (two.1.1, tt))) $ let Ev : Env 𝓤 H = env fn.locals l in
    sets ! (addr ! (through ! refl (stop !))) refl (tt, tt) $ move ! (0 ∷ 4 ∷ []) $
    use2 𝓛 (later (some (λ (n : ℕ × GName × Share). ‵ ((MutRef (named 0) (n.0 ∷ κ) R).own_val (record m { ghost_name = n.1 }) (mv ∷ [])) ⊛ ‵ (flft (n.0 ∷ κ) n.2) ⊛ raw (Back 𝓛 R (named 0) κ q m n))))
    (lends_within 𝓛 R (named 0) κ q m) $ await ! tt $ pick ! (λ n. split3 ! $
    -- [the loan; its token; the way back; the limits; nothing; the allocator; the other token]
    let κs' : Lfts 2 = (n.0 ∷ κ, (κs.1.0, tt)) in let a' : Args (s.signature Y) κs' = (al, (record m { ghost_name = n.1 }, (li, tt))) in
    let y : Start.Ghost = ((κs', (n.2, (qs.1.0, tt)), (Incl-trans (meet_⊑_right (n.0 ∷ []) κ) z.0.2.0, tt), a', (av ∷ [], (mv ∷ [], (lv ∷ [], tt)))), tt) in
    move ! (3 ∷ 4 ∷ []) $ fjoin ! $ move ! (1 ∷ 0 ∷ []) $ fjoin ! $ move ! (3 ∷ 0 ∷ []) $ fjoin ! $
    -- [what `open` is given; the loan's token; the way back; the other token]
    move ! (1 ∷ 3 ∷ []) $ join ! $ join ! $
    use0 𝓛 (raw (fact 𝓤 Fits)) (fact_i 𝓤 Fits (emp 𝓤) fits) $ use0 𝓛 (raw (fact 𝓤 Inside)) (fact_i 𝓤 Inside (emp 𝓤) le) $ join ! $ move ! (1 ∷ 0 ∷ []) $ join ! $ use1 𝓛 (raw (Start.pre y)) (id⊢ 𝓤 _) $
    calls_at ! (framed 𝓤 H 𝓜 𝓣) Start known y (and_then ! (get ! refl) (and_then ! (get ! refl) (and_then ! (get ! refl) (no_more !)))) (λ v.
    use1 𝓛 (later (some (λ (r : Made.Denot). ((‵ (flft (n.0 ∷ κ) n.2) ⊛ t₁ ⊛ ‵ ftrue) ⊛ ‵ (Made.own_val r (v ∷ []))) ⊛
    some (λ (ws : Lasts sEn κs' a'). ‵ (lasts sEn κs' a' ws) ⊛ raw ((sc κs' a').ensures tt r (at_exit sEn κs' a' ws)))))) (id⊢ 𝓤 _) $
    await ! tt $ pick ! (λ r. split ! $ split ! $ move ! (2 ∷ []) $ pick ! (λ ws. split ! $ let w : Y.Denot = ws.1.0 in let mr : MutBor Y.Denot = record m { now = w } in
    -- [the last values; what `open` ensures; the tokens; the result; the way back]
    fsplit ! $ drop ! $ fsplit ! $ move ! (1 ∷ []) $ drop ! $ fsplit ! $ move ! (1 ∷ []) $ drop ! $ move ! (2 ∷ []) $ split ! $ move ! (0 ∷ 2 ∷ 5 ∷ []) $
    use3 𝓛 (later (‵ ((MutRef (named 0) κ R).own_val mr (mv ∷ [])) ⊛ t₀)) (gives_back 𝓛 R (named 0) κ q m n w) $ await ! tt $ split ! $ move ! (1 ∷ 2 ∷ []) $ join ! $
    -- [the tokens; the backend; what `open` ensures; the result]
    by_result r
    (λ x is. rewrite ! 3 (λ (r' : Made.Denot). ‵ (Made.own_val r' (v ∷ []))) is refl $ rewrite ! 2 (λ (r' : Made.Denot). raw ((sc κs' a').ensures tt r' (at_exit sEn κs' a' ws))) is refl $ move ! (2 ∷ []) $
    told ! (λ answer. told ! (λ why. told ! (λ still. told ! (λ serving. told ! (λ version. told ! (λ tiles. told ! (λ directories. told ! (λ kept. heard ! _ (λ reads. move ! (2 ∷ []) $
    ok_out WS SE state.the_row_laws ! x v (λ u ev good.
    let d : W.Denot = record { backend = mr; state = x } in let wv : Val = vstruct (of_list (mv ∷ u ∷ [])) in let rv : Val = live 0 (of_list (wv ∷ [])) in
    lands_as ! ev refl (and_tt _ good.0, (record { fits = lit< tt }, (good.1, tt))) $
    first ! $ switches_on ! (get_tag ! (vrt ! refl (fld ! refl (stop !))) (whole !)) $ exec ! 𝓣.C 𝓣.Λ Ev (arm_body 0 (head (after 2 fn.body))) (then_runs 𝓛 𝓣.C 𝓣.Λ Ev (after 3 fn.body) (at_ret Ev Post)) $
    sets ! (of_opd ! (get_in ! (vrt ! refl (fld ! refl (stop !))) (in_variant ! 0 0 refl refl (whole !)))) refl good $
    sets ! (addr ! (through ! refl (stop !))) refl (tt, tt) $ sets ! (of_opd ! (get ! refl)) refl good $
    sets ! (agg ! (and_then ! (get ! refl) (and_then ! (get ! refl) (no_more !)))) refl (and_tt _ good.0, (tt, (good.1, tt))) $
    sets_last ! (agg ! (and_then ! (lit ! tt) (and_then ! (get ! refl) (no_more !)))) refl (and_tt _ (and_tt _ good.0), (record { fits = lit< tt }, ((tt, (good.1, tt)), tt))) $
    exec ! 𝓣.C 𝓣.Λ Ev (after 3 fn.body) (at_ret Ev Post) $
    sets ! (of_opd ! (get ! refl)) refl (and_tt _ (and_tt _ good.0), (record { fits = lit< tt }, ((tt, (good.1, tt)), tt))) $
    returns ! (look_at ! 0 refl) $ free_all ! refl $
    -- [the state; the tokens; the backend]
    move ! (2 ∷ 0 ∷ []) $ nothing ! $ move ! (2 ∷ 0 ∷ []) $ fjoin ! $ move ! (1 ∷ 0 ∷ []) $ fjoin ! $ feq_i ! (List Val) (wv ∷ []) (wv ∷ []) refl $ fjoin ! $
    fpack ! (Valss (MutRef (named 0) κ R ∷ WS ∷ [])) (within (Declared.shape (W-type.the_type ℓ R WS)) (mr, (x, tt)) (wv ∷ [])) (mv ∷ [], (u ∷ [], tt)) $
    use1 𝓛 (‵ (Out.own_val (Ok d) (rv ∷ []))) (ok_of 𝓛 W SE d wv) $
    use0 𝓛 (raw ((c κs a).ensures tt (Ok d) (at_exit En κs a (tt, (tt, (tt, tt))))))
    (beside 𝓛 (rests_ok 𝓛 R m (λ (t : W.Denot). t.backend.ghost_name) SE.Denot (LeftByOpening {A = W.Denot} gb.told gb.versions gb.faults gb.reads gb.steady m.now (Ok d)) d refl)
    (holds 𝓛 tt (holds 𝓛 tt (holds 𝓛 (λ steady below same. IfErr-at_err (λ _. ⊥) same tt)
    (holds 𝓛 refl (holds 𝓛 serving (holds 𝓛 tiles (holds 𝓛 directories (holds 𝓛 version (holds 𝓛 still (holds 𝓛 kept (fact_i 𝓤 _ (emp 𝓤) reads)))))))))))) $
    nothing ! $ nothing ! $ fjoin ! $ nothing ! $ fjoin ! $ nothing ! $ fjoin ! $ move ! (3 ∷ 0 ∷ 2 ∷ 1 ∷ []) $ by ! (leaves 𝓛 En hs c z rv (Ok d) (tt, (tt, (tt, tt))) (tt, (tt, (tt, tt)))))))))))))))
    (λ error is. rewrite ! 3 (λ (r' : Made.Denot). ‵ (Made.own_val r' (v ∷ []))) is refl $ rewrite ! 2 (λ (r' : Made.Denot). raw ((sc κs' a').ensures tt r' (at_exit sEn κs' a' ws))) is refl $ move ! (2 ∷ []) $
    told ! (λ answer. told ! (λ why. told ! (λ still. told ! (λ serving. told ! (λ version. told ! (λ tiles. told ! (λ directories. told ! (λ kept. heard ! _ (λ reads. move ! (2 ∷ []) $
    err_out WS SE error-laws.the_row_laws ! error v (λ u ev good.
    let rv : Val = live 1 (of_list (u ∷ [])) in let before : ℕ = gb.faults m.now in let now : ℕ = gb.faults w in
    let Leaves : Y.Denot → Type 0 = LeftByOpening {A = W.Denot} gb.told gb.versions gb.faults gb.reads gb.steady m.now (Err error) in
    let left : Leaves w = record { causes = why; still = still; kept = kept; reads = reads } in
    lands_as ! ev refl (and_tt _ good.0, (record { fits = lit< tt }, (good.1, tt))) $
    first ! $ switches_on ! (get_tag ! (vrt ! refl (fld ! refl (stop !))) (whole !)) $ exec ! 𝓣.C 𝓣.Λ Ev (arm_body 1 (head (after 2 fn.body))) (then_runs 𝓛 𝓣.C 𝓣.Λ Ev (after 3 fn.body) (at_ret Ev Post)) $
    sets ! (of_opd ! (get_in ! (vrt ! refl (fld ! refl (stop !))) (in_variant ! 1 0 refl refl (whole !)))) refl good $ sets ! (of_opd ! (get ! refl)) refl good $
    sets_last ! (agg ! (and_then ! (lit ! tt) (and_then ! (get ! refl) (no_more !)))) refl (and_tt _ good.0, (record { fits = lit< tt }, (good.1, tt))) $
    exec ! 𝓣.C 𝓣.Λ Ev (after 3 fn.body) (at_ret Ev Post) $ sets ! (of_opd ! (get ! refl)) refl (and_tt _ good.0, (record { fits = lit< tt }, (good.1, tt))) $
    returns ! (look_at ! 0 refl) $ free_all ! refl $
    -- [the error; the tokens; the backend]
    use1 𝓛 (‵ (Out.own_val (Err error) (rv ∷ []))) (err_of 𝓛 W SE error u) $ move ! (2 ∷ []) $ fsplit3 ! $ drop ! $
    use1 𝓛 (‵ (fres γ (R.coded.code w))) (𝓛.names.obs-res γ (R.coded.code w)) $ move ! (1 ∷ []) $ drop ! $
    use1 𝓛 (raw ((c κs a).ensures tt (Err error) (at_exit En κs a (tt, (tt, (tt, tt))))))
    (beside 𝓛 (rests_err 𝓛 R m (λ (t : W.Denot). t.backend.ghost_name) SE.Denot Leaves error w left) (holds 𝓛 answer (holds 𝓛 (failure before now error why)
    (holds 𝓛 (λ steady below same. no_fault {A = W.Denot} before now (Err error) why below (kept.calm steady).1 same)
    (holds 𝓛 tt (holds 𝓛 tt (holds 𝓛 tt (holds 𝓛 tt (holds 𝓛 tt (holds 𝓛 tt (holds 𝓛 tt (fact_i 𝓤 _ (emp 𝓤) tt)))))))))))) $
    nothing ! $ nothing ! $ fjoin ! $ nothing ! $ fjoin ! $ nothing ! $ fjoin ! $ move ! (3 ∷ 0 ∷ 2 ∷ 1 ∷ []) $ by ! (leaves 𝓛 En hs c z rv (Err error) (tt, (tt, (tt, tt))) (tt, (tt, (tt, tt)))))))))))))))))))))))
