-- The backend is lent to `open_with`, and held again where that succeeds. What a refusal leaves is what
-- `open_with` left. Assumes `Logic`.
use Rattle.pm_reader.proofs.Common.{a_type, addr, after, agg, alloc_all, alone, and_then, and_tt, ap, Args, arm_body, as_fields, at_exit, at_ret, await, Back, beside, bounded, by, by_result, calls_at}
use Rattle.pm_reader.proofs.Common.{dcons, dnil, emp, enter, Env, env, Err, err_of, err_out, exec, fact, fact_i, feq_i, first, fjoin, fld, flft, Fn, fpack, framed, free_all, fres, fsplit, fsplit3}
use Rattle.pm_reader.proofs.Common.{ftrue, get, get_in, get_tag, gives_back, GName, Goes-dropped, Goes-spent_ref, head, heard, holds, id⊢, in_variant, Incl-trans, inst_fn, join, lands_as, Lasts}
use Rattle.pm_reader.proofs.Common.{lasts, later, layout, leaves, LeftByOpening, lends_within, Lft, Lfts, List, lit, lit<, live, look_at, meet_⊑_right, move, mut_ref_to, mut_Tells, MutBor, MutRef}
use Rattle.pm_reader.proofs.Common.{named, named_lft, no, no_more, None, nothing, of_list, of_opd, Ok, ok_of, ok_out, owns, param, param_laws, pass_all, pick, plain, prop, proved_at, qed, RattleType}
use Rattle.pm_reader.proofs.Common.{raw, refl, regoal, rests_err, rests_ok, returns, rewrite, sets, sets_last, Share, some, split, split3, SProp, stay_dropped, Stays, stop, sub, switches_on, tables}
use Rattle.pm_reader.proofs.Common.{then_runs, told, triple_of, type_at, types_at, use0, use1, use2, use3, Val, Valss, vptr, vrt, vstruct, walk_of, whole, within, WpFn, yes, ℕ, !, [], ‵, ◌$◌, ◌++◌}
use Rattle.pm_reader.proofs.Common.{◌∙◌, ◌∵◌, ◌∷◌, ◌≡◌, ◌⊑◌, ◌⊛◌}
use types.Kit.{Item, drop}
use types.ByLocal.{through}
use denote.Struct.Declared as Declared
use denote.Struct.Tuple.{Tuple, tuple_laws}
use Rattle.std.proofs.alloc.Global.TheLaws as global
use Rattle.std.specs.contracts.alloc.Global as G-type
use Rattle.pm_format.proofs.error.PmtError.TheLaws as error-laws
use Rattle.pm_format.specs.contracts.error.PmtError as E-type
use Rattle.pm_format.specs.declared.error.PmtError.TheVariants as errors
use Rattle.pm_format.specs.declared.error.ReadCause.TheVariants as causes
use Rattle.pm_reader.proofs.state.ReaderState.TheLaws as state
use Rattle.pm_reader.specs.contracts.state.ReaderState as S-type
use Rattle.pm_reader.specs.contracts.reader.PmTilesReader as W-type
use Rattle.pm_reader.specs.contracts.reader.open_with as s
use Rattle.pm_reader.proofs.reader.open_with.Met as started
use Rattle.pm_reader.specs.contracts.reader.PmTilesReader+B+C.try_from_cached_source as f
use Rattle.pm_reader.specs.contracts.reader.PmTilesReader+B+C.try_from_cached_source.Key.{name as #self}
use Rattle.pm_reader.proofs.reader.PmTilesReader+B+C.try_from_cached_source.Statement.{statement}
use Rattle.pm_reader.proofs.reader.PmTilesReader+B+C.try_from_cached_source.Code as code
use Rattle.base_values.proofs.ByHand.Pairs.{pair_out}
use Rattle.pm_reader.proofs.RefusedLemmas.{causes_again, failure, is_ok, no_fault, fits_cache, opens_again}

pub try_from_cached_source_spec : {M : Type 1} → statement M
try_from_cached_source_spec 𝓤 𝓛 𝓜 𝓡 wired Y Z L LZ gb db gc dc dd mb mc md =
    let H = 𝓛.H in let R : RattleType = param 0 Y in let CR : RattleType = param 1 Z in let En = f.ended Y Z gb db gc dc dd in
    let inst = bounded (a_type ∷ a_type ∷ []) (Y, (Z, tt)) (dcons db (dcons dc (dcons dd dnil))) in let fn : Fn = inst_fn inst code.function in
    let c = f.clauses Y Z gb db gc dc dd 𝓛 𝓜.mem 𝓡.returns in let 𝓣 = tables 𝓤 H 𝓜 𝓡 𝓡.env in
    let Start = triple_of 𝓛 (s.signature Y Z) (s.spec Y Z gb db gc dc dd 𝓛 𝓜.mem 𝓡.returns) in let sEn = s.ended Y Z gb db gc dc dd in let sc = s.clauses Y Z gb db gc dc dd 𝓛 𝓜.mem 𝓡.returns in
    let known = started.met 𝓤 𝓛 𝓜 𝓡 (code.calls-pm_reader::reader::open_with 𝓡.env wired) Y Z L LZ gb db gc dc dd mb mc md in
    let hs : Stays En.signature.params En.kept = (stay_dropped (plain (λ _. G-type.the_row)) yes, (stay_dropped (mut_ref_to (0 ∷ []) tt (plain (λ _. R))) (En.kept.1.0), (stay_dropped (plain (λ _. CR)) no, tt))) in
    proved_at 𝓛 En hs c 𝓜 𝓡 (Goes-dropped 𝓛 3 (plain (λ _. G-type.the_row)) yes (λ κs x w. refl), (Goes-spent_ref 𝓛 3 (0 ∷ []) tt (plain (λ _. R)), (Goes-dropped 𝓛 3 (plain (λ _. CR)) no (λ κs x w. refl), tt)))
    (#self inst) fn (code.unfolded 𝓤 H 𝓜 𝓡 wired (Y, (Z, tt)) db dc dd) (λ z are.
    let κs = z.0.0 in let qs = z.0.1 in let a = z.0.3 in let vss = z.0.4 in let al = a.0 in let m = a.1.0 in let ca = a.1.1.0 in
    let κ : Lft = κs.0 in let q : Share = qs.0 in let γ : GName = m.ghost_name in
    let t₀ : Item 𝓤 = ‵ (flft κ q) in let t₁ : Item 𝓤 = ‵ (flft κs.1.0 qs.1.0) in let t₂ : Item 𝓤 = ‵ (flft κs.1.1.0 qs.1.1.0) in
    let Post : Val → SProp 𝓤 = (walk_of 𝓛 En hs c).post z in let Run : List Val → SProp 𝓤 = λ us. WpFn 𝓤 H 𝓣.C 𝓣.Λ fn us Post in
    let LC = param_laws 1 Z LZ in let WS : RattleType = S-type.the_row in let PE : RattleType = E-type.the_row in let Two : RattleType = Tuple (CR ∷ WS ∷ []) in
    let ℓ = named_lft 3 0 tt κs in let W : RattleType = W-type.the_row ℓ R CR WS in
    let Out : RattleType = type_at En.signature.result κs in let Made : RattleType = type_at sEn.signature.result κs in
    let Inside : Type 0 = κs.1.0 ⊑ Y.lives in let Kept : Type 0 = κs.1.1.0 ⊑ Z.lives in let Empty : Type 0 = (o : ℕ) → gc.held ca o ≡ None in
    let one = alone (layout G-type.the_row) vss.0 (((param_laws 0 G-type.the_row global.the_row_laws).lawful 𝓛).typed al vss.0 are.0) in
    let two = alone (layout CR) vss.1.1.0 ((LC.lawful 𝓛).typed ca vss.1.1.0 are.1.1.0) in
    let av : Val = one.0 in let mv : Val = vptr m.ref_ptr.0 m.ref_ptr.1 in let cv : Val = two.0 in
    let e₀ : vss.0 ≡ av ∷ [] = one.1.0 in let e₁ : vss.1.0 ≡ mv ∷ [] = mut_Tells (named 0) κ R m vss.1.0 are.1.0 in let e₂ : vss.1.1.0 ≡ cv ∷ [] = two.1.0 in
    qed 𝓛 (((t₀ ⊛ t₁ ⊛ t₂ ⊛ ‵ ftrue) ⊛ ‵ (owns (types_at En.signature.params κs) a vss)) ∷ (raw (fact 𝓤 Inside) ⊛ raw (fact 𝓤 Kept) ⊛ raw (fact 𝓤 Empty)) ∷ []) ∵
    move ! (1 ∷ []) $ split3 ! $ heard ! Inside (λ le. heard ! Kept (λ le'. heard ! Empty (λ empty. split ! $ split ! $ move ! (2 ∷ []) $ fsplit3 ! $ move ! (2 ∷ []) $ fsplit ! $ move ! (3 ∷ 0 ∷ 1 ∷ 2 ∷ []) $
    -- [the backend; the cache; nothing; the allocator; the tokens]
    rewrite ! 0 (λ (us : List Val). ‵ ((MutRef (named 0) κ R).own_val m us)) e₁ refl $ rewrite ! 1 (λ (us : List Val). ‵ (CR.own_val ca us)) e₂ refl $ rewrite ! 3 (λ (us : List Val). ‵ ((G-type.the_row).own_val al us)) e₀ refl $
    regoal ! (λ (us : List Val). prop (Run us)) (λ i. e₀ i ++ (e₁ i ++ (e₂ i ++ []))) refl $
    enter ! 𝓣.C 𝓣.Λ fn (av ∷ mv ∷ cv ∷ []) Post $ alloc_all ! (λ l. pass_all ! refl (one.1.1, ((tt, tt), (two.1.1, tt))) $ let Ev : Env 𝓤 H = env fn.locals l in
    sets ! (addr ! (through ! refl (stop !))) refl (tt, tt) $ sets ! (of_opd ! (get ! refl)) refl two.1.1 $ move ! (0 ∷ 4 ∷ []) $
    use2 𝓛 (later (some (λ (n : ℕ × GName × Share). ‵ ((MutRef (named 0) (n.0 ∷ κ) R).own_val (record m { ghost_name = n.1 }) (mv ∷ [])) ⊛ ‵ (flft (n.0 ∷ κ) n.2) ⊛ raw (Back 𝓛 R (named 0) κ q m n))))
    (lends_within 𝓛 R (named 0) κ q m) $ await ! tt $ pick ! (λ n. split3 ! $
    -- [the loan; its token; the way back; the cache; nothing; the allocator; the other tokens]
    let κs' : Lfts 3 = (n.0 ∷ κ, (κs.1.0, (κs.1.1.0, tt))) in let a' : Args (s.signature Y Z) κs' = (al, (record m { ghost_name = n.1 }, (ca, tt))) in
    let y : Start.Ghost = ((κs', (n.2, (qs.1.0, (qs.1.1.0, tt))), (Incl-trans (meet_⊑_right (n.0 ∷ []) κ) z.0.2.0, tt), a', (av ∷ [], (mv ∷ [], (cv ∷ [], tt)))), tt) in
    move ! (3 ∷ 4 ∷ []) $ fjoin ! $ move ! (1 ∷ 0 ∷ []) $ fjoin ! $ move ! (3 ∷ 0 ∷ []) $ fjoin ! $
    -- [what `open_with` is given; the loan's token; the way back; the other tokens]
    move ! (1 ∷ 3 ∷ []) $ join ! $ join ! $
    use0 𝓛 (raw (emp 𝓤)) (id⊢ 𝓤 (emp 𝓤)) $ use0 𝓛 (raw (fact 𝓤 Kept)) (fact_i 𝓤 Kept (emp 𝓤) le') $ join ! $ use0 𝓛 (raw (fact 𝓤 Inside)) (fact_i 𝓤 Inside (emp 𝓤) le) $ join ! $ move ! (1 ∷ 0 ∷ []) $ join ! $ use1 𝓛 (raw (Start.pre y)) (id⊢ 𝓤 _) $
    calls_at ! (framed 𝓤 H 𝓜 𝓣) Start known y (and_then ! (get ! refl) (and_then ! (get ! refl) (and_then ! (get ! refl) (no_more !)))) (λ v.
    use1 𝓛 (later (some (λ (r : Made.Denot). ((‵ (flft (n.0 ∷ κ) n.2) ⊛ t₁ ⊛ t₂ ⊛ ‵ ftrue) ⊛ ‵ (Made.own_val r (v ∷ []))) ⊛
    some (λ (ws : Lasts sEn κs' a'). ‵ (lasts sEn κs' a' ws) ⊛ raw ((sc κs' a').ensures tt r (at_exit sEn κs' a' ws)))))) (id⊢ 𝓤 _) $
    await ! tt $ pick ! (λ r. split ! $ split ! $ move ! (2 ∷ []) $ pick ! (λ ws. split ! $ let w : Y.Denot = ws.1.0 in let mr : MutBor Y.Denot = record m { now = w } in
    -- [the last values; what `open_with` ensures; the tokens; the result; the way back]
    fsplit ! $ drop ! $ fsplit ! $ move ! (1 ∷ []) $ drop ! $ fsplit ! $ move ! (1 ∷ []) $ drop ! $ move ! (2 ∷ []) $ split ! $ move ! (0 ∷ 2 ∷ 5 ∷ []) $
    use3 𝓛 (later (‵ ((MutRef (named 0) κ R).own_val mr (mv ∷ [])) ⊛ t₀)) (gives_back 𝓛 R (named 0) κ q m n w) $ await ! tt $ split ! $ move ! (1 ∷ 2 ∷ []) $ join ! $
    -- [the tokens; the backend; what `open_with` ensures; the result]
    by_result r
    (λ x is. rewrite ! 3 (λ (r' : Made.Denot). ‵ (Made.own_val r' (v ∷ []))) is refl $ rewrite ! 2 (λ (r' : Made.Denot). raw ((sc κs' a').ensures tt r' (at_exit sEn κs' a' ws))) is refl $ move ! (2 ∷ []) $
    told ! (λ answer. told ! (λ why. told ! (λ still. told ! (λ opened. told ! (λ same. told ! (λ version. told ! (λ kept. heard ! _ (λ reads. move ! (2 ∷ []) $
    ok_out Two PE (tuple_laws (CR ∷ WS ∷ []) (LC, (state.the_row_laws, tt))) ! x v (λ u ev whole-good. pair_out CR WS LC state.the_row_laws ! x u (λ p s' eu p-good s-good.
    let d : W.Denot = record { backend = mr; cache = x.0; state = x.1 } in let wv : Val = vstruct (of_list (mv ∷ p ∷ s' ∷ [])) in let rv : Val = live 0 (of_list (wv ∷ [])) in
    let both = as_fields (layout CR ∷ layout WS ∷ []) (p ∷ s' ∷ []) (p-good, (s-good, tt)) in
    lands_as ! (ev ∙ ap (λ (k : Val). live 0 (of_list (k ∷ []))) eu) refl (and_tt _ both.0, (record { fits = lit< tt }, (both.1, tt))) $
    first ! $ switches_on ! (get_tag ! (vrt ! refl (fld ! refl (stop !))) (whole !)) $ exec ! 𝓣.C 𝓣.Λ Ev (arm_body 0 (head (after 3 fn.body))) (then_runs 𝓛 𝓣.C 𝓣.Λ Ev (after 4 fn.body) (at_ret Ev Post)) $
    sets ! (of_opd ! (get_in ! (vrt ! refl (fld ! refl (stop !))) (in_variant ! 0 0 refl refl (whole !)))) refl both $
    sets ! (addr ! (through ! refl (stop !))) refl (tt, tt) $
    sets ! (of_opd ! (get_in ! (fld ! refl (stop !)) (sub ! 0 refl (whole !)))) refl p-good $ sets ! (of_opd ! (get_in ! (fld ! refl (stop !)) (sub ! 1 refl (whole !)))) refl s-good $
    sets ! (agg ! (and_then ! (get ! refl) (and_then ! (get ! refl) (and_then ! (get ! refl) (no_more !))))) refl (both.0, (tt, both.1)) $
    sets_last ! (agg ! (and_then ! (lit ! tt) (and_then ! (get ! refl) (no_more !)))) refl (and_tt _ both.0, (record { fits = lit< tt }, ((tt, both.1), tt))) $
    exec ! 𝓣.C 𝓣.Λ Ev (after 4 fn.body) (at_ret Ev Post) $
    sets ! (of_opd ! (get ! refl)) refl (and_tt _ both.0, (record { fits = lit< tt }, ((tt, both.1), tt))) $
    returns ! (look_at ! 0 refl) $ free_all ! refl $
    -- [the state; the cache; the tokens; the backend]
    nothing ! $ move ! (1 ∷ 0 ∷ []) $ fjoin ! $ move ! (1 ∷ 0 ∷ []) $ fjoin ! $ move ! (2 ∷ 0 ∷ []) $ fjoin ! $ feq_i ! (List Val) (wv ∷ []) (wv ∷ []) refl $ fjoin ! $
    fpack ! (Valss (MutRef (named 0) κ R ∷ CR ∷ WS ∷ [])) (within (Declared.shape (W-type.the_type ℓ R CR WS)) (mr, (x.0, (x.1, tt))) (wv ∷ [])) (mv ∷ [], (p ∷ [], (s' ∷ [], tt))) $
    use1 𝓛 (‵ (Out.own_val (Ok d) (rv ∷ []))) (ok_of 𝓛 W PE d wv) $
    use0 𝓛 (raw ((c κs a).ensures tt (Ok d) (at_exit En κs a (tt, (tt, (tt, tt))))))
    (beside 𝓛 (rests_ok 𝓛 R m (λ (t : W.Denot). t.backend.ghost_name) PE.Denot (LeftByOpening {A = W.Denot} gb.told gb.versions gb.faults gb.reads gb.steady m.now (Ok d)) d refl)
    (holds 𝓛 tt (holds 𝓛 tt (holds 𝓛 (λ steady below same'. is_ok Two.Denot W.Denot 0 0 (Ok d) d (errors.Reading causes.Fault) refl same')
    (holds 𝓛 refl (holds 𝓛 (fits_cache Z.Denot (gb.told w) x.1 gc.held gc.idle ca x.0 same empty opened) (holds 𝓛 (opens_again (gb.told m.now) (gb.told w) x.1 kept.told opened)
    (holds 𝓛 same (holds 𝓛 version (holds 𝓛 still (holds 𝓛 kept (fact_i 𝓤 _ (emp 𝓤) reads)))))))))))) $
    nothing ! $ nothing ! $ fjoin ! $ nothing ! $ fjoin ! $ nothing ! $ fjoin ! $ move ! (3 ∷ 0 ∷ 2 ∷ 1 ∷ []) $ by ! (leaves 𝓛 En hs c z rv (Ok d) (tt, (tt, (tt, tt))) (tt, (tt, (tt, tt)))))))))))))))
    (λ error is. rewrite ! 3 (λ (r' : Made.Denot). ‵ (Made.own_val r' (v ∷ []))) is refl $ rewrite ! 2 (λ (r' : Made.Denot). raw ((sc κs' a').ensures tt r' (at_exit sEn κs' a' ws))) is refl $ move ! (2 ∷ []) $
    told ! (λ answer. told ! (λ why. told ! (λ still. told ! (λ opened. told ! (λ same. told ! (λ version. told ! (λ kept. heard ! _ (λ reads. move ! (2 ∷ []) $
    err_out Two PE error-laws.the_row_laws ! error v (λ u ev good.
    let rv : Val = live 1 (of_list (u ∷ [])) in let before : ℕ = gb.faults m.now in let now : ℕ = gb.faults w in
    let Leaves : Y.Denot → Type 0 = LeftByOpening {A = W.Denot} gb.told gb.versions gb.faults gb.reads gb.steady m.now (Err error) in
    let left : Leaves w = record { causes = causes_again Two.Denot W.Denot before now error why; still = still; kept = kept; reads = reads } in
    lands_as ! ev refl (and_tt _ good.0, (record { fits = lit< tt }, (good.1, tt))) $
    first ! $ switches_on ! (get_tag ! (vrt ! refl (fld ! refl (stop !))) (whole !)) $ exec ! 𝓣.C 𝓣.Λ Ev (arm_body 1 (head (after 3 fn.body))) (then_runs 𝓛 𝓣.C 𝓣.Λ Ev (after 4 fn.body) (at_ret Ev Post)) $
    sets ! (of_opd ! (get_in ! (vrt ! refl (fld ! refl (stop !))) (in_variant ! 1 0 refl refl (whole !)))) refl good $ sets ! (of_opd ! (get ! refl)) refl good $
    sets_last ! (agg ! (and_then ! (lit ! tt) (and_then ! (get ! refl) (no_more !)))) refl (and_tt _ good.0, (record { fits = lit< tt }, (good.1, tt))) $
    exec ! 𝓣.C 𝓣.Λ Ev (after 4 fn.body) (at_ret Ev Post) $ sets ! (of_opd ! (get ! refl)) refl (and_tt _ good.0, (record { fits = lit< tt }, (good.1, tt))) $
    returns ! (look_at ! 0 refl) $ free_all ! refl $
    -- [the error; the tokens; the backend]
    use1 𝓛 (‵ (Out.own_val (Err error) (rv ∷ []))) (err_of 𝓛 W PE error u) $ move ! (2 ∷ []) $ fsplit3 ! $ drop ! $
    use1 𝓛 (‵ (fres γ (R.coded.code w))) (𝓛.names.obs-res γ (R.coded.code w)) $ move ! (1 ∷ []) $ drop ! $
    use1 𝓛 (raw ((c κs a).ensures tt (Err error) (at_exit En κs a (tt, (tt, (tt, tt))))))
    (beside 𝓛 (rests_err 𝓛 R m (λ (t : W.Denot). t.backend.ghost_name) PE.Denot Leaves error w left) (holds 𝓛 answer (holds 𝓛 (failure Two.Denot W.Denot before now error why)
    (holds 𝓛 (λ steady below same'. no_fault Two.Denot W.Denot before now (Err error) error why below (kept.calm steady).1 refl same')
    (holds 𝓛 tt (holds 𝓛 tt (holds 𝓛 tt (holds 𝓛 tt (holds 𝓛 tt (holds 𝓛 tt (holds 𝓛 tt (fact_i 𝓤 _ (emp 𝓤) tt)))))))))))) $
    nothing ! $ nothing ! $ fjoin ! $ nothing ! $ fjoin ! $ nothing ! $ fjoin ! $ move ! (3 ∷ 0 ∷ 2 ∷ 1 ∷ []) $ by ! (leaves 𝓛 En hs c z rv (Err error) (tt, (tt, (tt, tt))) (tt, (tt, (tt, tt)))))))))))))))))))))))
