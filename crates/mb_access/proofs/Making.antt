-- How a method of a set makes a stream of a store: the store is lent to `StreamState::start`, and held again where that
-- succeeds. What a refusal leaves is what `start` left. Assumes `Logic`.
use Rattle.mb_access.proofs.Common.{a_type, addr, addr_of, aggregate, alloc_all, alone, and_then, and_tt, AreAllLeft, Args, arm, assign, at_exit, at_ret, await, beside, bounded, by, by_result, call}
use Rattle.mb_access.proofs.Common.{Callee, calls_at, Clauses, Closed, closing, copy, dcons, deref, Dict, dnil, emp, Ended, enter, Env, env, erased, Err, err_of, err_out, exec, fact, fact_i, field}
use Rattle.mb_access.proofs.Common.{first, fjoin, fld, flft, Fn, framed, free_all, fres, fsplit, fsplit3, ftrue, get_in, get_tag, GName, Goes-dropped, Goes-spent_ref, heard, holds, id⊢, IfOk, imm}
use Rattle.mb_access.proofs.Common.{Incl-trans, int, IsBegun, Item, join, lands_as, Lasts, lasts, later, Laws, layout, leaves, left_at_most, len, Lft, Lfts, Lifetime, List, lit, lit<, Local, local}
use Rattle.mb_access.proofs.Common.{Logic, look_at, meet_⊑_right, Meets, Model, move, mut, mut_ref_to, mut_Tells, MutBor, MutRef, named, no, no_default, no_more, nothing, of_list, of_opd, Ok, ok_of}
use Rattle.mb_access.proofs.Common.{ok_out, owns, param, param_laws, pass_all, pick, place, plain, prop, proved_at, qed, RattleType, raw, ReadsOnly, refl, regoal, RestsIfErr, return, returns, rewrite}
use Rattle.mb_access.proofs.Common.{Running, rv_opd, sem, sep, seq, set_of, sets, sets_last, Share, shr_Tells, some, split, split3, SProp, stay_dropped, Stays, stop, subst, switch, switches_on, Sym, sym, Tables, tables}
use Rattle.mb_access.proofs.Common.{tcons, through, tnil, told, triple_of, true, ttcons, ttnil, Ty, ty_enum, ty_named, ty_param, ty_ref, ty_struct, type_at, types_at, Ura, use0, use1, use2, use3, Val}
use Rattle.mb_access.proofs.Common.{value_local, variant, vptr, vstruct, w8, walk_of, WpFn, yes, ℕ, !, [], ‵, ◌$◌, ◌++◌, ◌∵◌, ◌∷◌, ◌≡◌, ◌⊑◌, ◌⊛◌}
use mir.Syntax.{Args as Given}
use mir.Syntax.{Place}
use prog.Wired.{Wired}
use types.Match.{live, vrt, in_variant}
use types.Kit.{drop}
use types.Part.{whole, agg}
use types.ByLocal.{get}
use denote.Builtin.{RefOf}
use Rattle.std.proofs.alloc.Global.TheLaws as global
use Rattle.std.specs.contracts.alloc.Global as G-type
use Rattle.std.specs.contracts.result.Result as RS
use Rattle.mb_tables.proofs.error.MbtError.TheLaws as error-laws
use Rattle.mb_tables.specs.contracts.error.MbtError as E-type
use Rattle.mb_tables.specs.declared.error.MbtError.TheVariants as errors
use Rattle.base_values.proofs.ByHand.Bodies.{after, head, arm_body, then_runs}
use Rattle.base_values.proofs.ByHand.Rests.{rests_ok, rests_err}
use Rattle.base_values.proofs.ByHand.Lending.{Back, lends_within, gives_back}
use Rattle.mb_access.proofs.stream_state.StreamState.TheLaws as state
use Rattle.mb_access.specs.contracts.mbtiles.Mbtiles as M-type
use Rattle.mb_access.specs.contracts.stream_state.StreamState as S-type
use Rattle.mb_access.specs.contracts.stream_state.StreamState.start as s
use Rattle.mb_access.proofs.stream_state.StreamState.start.Met as started
use Rattle.mb_access.proofs.stream_state.StreamState.start.Symbol as start
use Rattle.mb_store.specs.declared.store.TileStore.{Ghosts}
use Rattle.mb_store.specs.contracts.store.TileStore.TheBound.{Met}
use Rattle.mb_access.proofs.Keeping.{Keeps, of_parts}
use Rattle.mb_access.specs.Refused.{IsUnfailing, LeftByStart}
use Rattle.mb_access.proofs.RefusedLemmas.{fault_again, is_ok, no_fault}

abbrev struct_name : Ty → Sym
struct_name (ty_struct σ τs) = σ
struct_name _ = []

abbrev enum_name : Ty → Sym
enum_name (ty_enum σ τs) = σ
enum_name _ = []

-- what a call passes for a store's type
abbrev pub inst : RattleType → Dict → Given
inst Y db = bounded (a_type ∷ []) (Y, tt) (dcons db dnil)

module _ {M : Type 1} (𝓤 : Ura M) (𝓛 : Logic 𝓤) (𝓜 : Model 𝓤 𝓛.H) (𝓡 : Running 𝓤 𝓛.H 𝓜) (Y : RattleType) (L : Laws Y) (gb : Ghosts Y.Denot) (db : Dict) (mb : Met 𝓛 𝓜 𝓡 𝓡.env Y gb db)
    (σ : Sym) (V : Lfts 3 → RattleType) (K : (κs : Lfts 3) → Keeps 𝓛 (param 0 Y) (V κs) κs.1.0) where
  open 𝓛 use {H}

  abbrev B : RattleType
  B = M-type.the_row

  abbrev R : RattleType
  R = param 0 Y

  abbrev En : Ended
  En = record {
    signature = record {
      lifetimes = 3;
      outlives = record { long = 2; long_ok = tt; short = named 1; short_ok = tt } ∷ [];
      params = RefOf (0 ∷ []) tt (plain {n = 3} (λ _. B)) (λ _. tt) ∷ plain (λ _. G-type.the_row) ∷ mut_ref_to (1 ∷ []) tt (plain (λ _. R)) ∷ [];
      result = plain (λ κs. RS.the_row (V κs) E-type.the_row);
    };
    kept = (yes, (yes, (no, tt)));
  }

  -- what a refusal leaves of the store; the refusal or what was loaded; and what is made
  abbrev c : Clauses 𝓤 En
  c κs a = let m = a.1.1.0 in let k = K κs in record {
    ghost = Unit {0};
    requires = λ g. sep 𝓤 (fact 𝓤 (κs.1.1.0 ⊑ Y.lives)) (emp 𝓤);
    ensures = λ g r e. sep 𝓤 (sem 𝓛 (RestsIfErr R m (λ d. (k.store d).ghost_name) r (LeftByStart gb.told gb.tells gb.faults gb.steady m.now r)))
        (sep 𝓤 (fact 𝓤 (IsBegun Ok (gb.tells m.now) (gb.told m.now) (k.loaded r)))
        (sep 𝓤 (fact 𝓤 (IsUnfailing (gb.steady m.now) (gb.faults m.now) r))
        (sep 𝓤 (fact 𝓤 (IfOk r (λ d. (k.store d).ghost_name ≡ m.ghost_name)))
        (sep 𝓤 (fact 𝓤 (gb.tells m.now ≡ true → IfOk r (λ d. AreAllLeft (gb.told m.now) (gb.told (k.store d).now) (k.state d))))
        (sep 𝓤 (fact 𝓤 (IfOk r (λ d. left_at_most (k.state d) ≡ len (set_of (k.state d)).tiles)))
        (sep 𝓤 (fact 𝓤 (IfOk r (λ d. ReadsOnly gb.told gb.tells gb.faults gb.steady m.now (k.store d).now)))
        (fact 𝓤 (IfOk r (λ d. gb.faults (k.store d).now ≡ gb.faults m.now)))))))));
  }

  abbrev Store : Lifetime → Ty
  Store ℓ = ty_ref ℓ mut (ty_param 0)

  abbrev Kept : Lifetime → Ty
  Kept ℓ = ty_struct σ (tcons (Store ℓ) (tcons (layout S-type.the_row) tnil))

  abbrev Made : Ty → Ty
  Made τ = ty_enum (enum_name (layout (RS.the_row S-type.the_row E-type.the_row))) (ttcons (tcons τ tnil) (ttcons (tcons (layout E-type.the_row) tnil) ttnil))

  abbrev own : Ty → Local
  own τ = local τ value_local

  abbrev at : ℕ → Place
  at n = place n []

  -- match start(alloc, store) { Ok(state) => Ok(Kept { store, state }), Err(error) => Err(error) }
  abbrev making : Fn
  making = record {
    lifetimes = 2;
    outlives = (2, 1) ∷ [];
    ty_params = [];
    givens = 0;
    params = 3;
    locals = own (Made (Kept (named 1))) ∷ own (ty_ref (named 0) imm (ty_named (struct_name (layout B), []) tnil)) ∷ own (layout G-type.the_row) ∷ own (Store (named 1)) ∷ own (layout S-type.the_row) ∷ own (layout E-type.the_row) ∷ own (Made (layout S-type.the_row)) ∷ own (Store erased)
        ∷ own (Made (Kept erased)) ∷ own (Store erased) ∷ own (layout S-type.the_row) ∷ own (Kept erased) ∷ own (layout E-type.the_row) ∷ [];
    body = seq (assign (at 7) (addr_of (place 3 (deref (layout Y) ∷ []))))
        (seq (call (start.name (inst Y db)) (copy (at 2) ∷ copy (at 7) ∷ []) (at 6))
        (seq (switch (copy (place 6 (variant 0 ∷ field 0 ∷ [])))
        (arm (0 ∷ []) (seq (assign (at 4) (rv_opd (copy (place 6 (variant 0 ∷ field 1 ∷ []))))) (seq (assign (at 9) (addr_of (place 3 (deref (layout Y) ∷ [])))) (seq (assign (at 10) (rv_opd (copy (at 4))))
        (seq (assign (at 11) (aggregate (copy (at 9) ∷ copy (at 10) ∷ []))) (assign (at 8) (aggregate (int w8 0 ∷ copy (at 11) ∷ [])))))))
        (arm (1 ∷ []) (seq (assign (at 5) (rv_opd (copy (place 6 (variant 1 ∷ field 1 ∷ []))))) (seq (assign (at 12) (rv_opd (copy (at 5)))) (assign (at 8) (aggregate (int w8 1 ∷ copy (at 12) ∷ [])))))
        no_default)))
        (seq (assign (at 0) (rv_opd (copy (at 8)))) return)));
  }

  pub makes : (callee : Callee) → Closed 𝓤 H (tables 𝓤 H 𝓜 𝓡 𝓡.env).C (tables 𝓤 H 𝓜 𝓡 𝓡.env).Λ callee making → Wired 𝓡.env start.code
      → Meets 𝓛 En.signature ((tables 𝓤 H 𝓜 𝓡 𝓡.env).C callee) (closing 𝓛 En c)
  makes callee closed wired =
      let fn : Fn = making in let 𝓣 = tables 𝓤 H 𝓜 𝓡 𝓡.env in
      let Start = triple_of 𝓛 (s.signature Y) (s.spec Y gb db 𝓛 𝓜.mem 𝓡.returns) in let sEn = s.ended Y gb db in let sc = s.clauses Y gb db 𝓛 𝓜.mem 𝓡.returns in
      let known = started.met 𝓤 𝓛 𝓜 𝓡 wired Y L gb db mb in
      let Self = RefOf (0 ∷ []) tt (plain {n = 3} (λ _. B)) (λ _. tt) in
      let hs : Stays En.signature.params En.kept = (stay_dropped Self yes, (stay_dropped (plain (λ _. G-type.the_row)) yes, (stay_dropped (mut_ref_to (1 ∷ []) tt (plain (λ _. R))) no, tt))) in
      proved_at 𝓛 En hs c 𝓜 𝓡 (Goes-dropped 𝓛 3 Self yes (λ κs x w. refl), (Goes-dropped 𝓛 3 (plain (λ _. G-type.the_row)) yes (λ κs x w. refl), (Goes-spent_ref 𝓛 3 (1 ∷ []) tt (plain (λ _. R)), tt)))
      callee fn closed (λ z are.
      let κs = z.0.0 in let qs = z.0.1 in let a = z.0.3 in let vss = z.0.4 in let o = a.0 in let al = a.1.0 in let m = a.1.1.0 in
      let κ : Lft = κs.1.0 in let q : Share = qs.1.0 in let γ : GName = m.ghost_name in
      let t₀ : Item 𝓤 = ‵ (flft κs.0 qs.0) in let t₁ : Item 𝓤 = ‵ (flft κ q) in let t₂ : Item 𝓤 = ‵ (flft κs.1.1.0 qs.1.1.0) in
      let Post : Val → SProp 𝓤 = (walk_of 𝓛 En hs c).post z in let Run : List Val → SProp 𝓤 = λ us. WpFn 𝓤 H 𝓣.C 𝓣.Λ fn us Post in
      let WS : RattleType = S-type.the_row in let PE : RattleType = E-type.the_row in
      let W : RattleType = V κs in let k = K κs in
      let Out : RattleType = type_at En.signature.result κs in let Made : RattleType = type_at sEn.signature.result κs.1 in
      let Inside : Type 0 = κs.1.1.0 ⊑ Y.lives in
      let one = alone (layout G-type.the_row) vss.1.0 (((param_laws 0 G-type.the_row global.the_row_laws).lawful 𝓛).typed al vss.1.0 are.1.0) in
      let ov : Val = vptr o.ref_ptr.0 o.ref_ptr.1 in let av : Val = one.0 in let mv : Val = vptr m.ref_ptr.0 m.ref_ptr.1 in
      let e₀ : vss.0 ≡ ov ∷ [] = shr_Tells (named 0) κs.0 B o vss.0 are.0 in let e₁ : vss.1.0 ≡ av ∷ [] = one.1.0 in
      let e₂ : vss.1.1.0 ≡ mv ∷ [] = mut_Tells (named 1) κ R m vss.1.1.0 are.1.1.0 in
      qed 𝓛 (((t₀ ⊛ t₁ ⊛ t₂ ⊛ ‵ ftrue) ⊛ ‵ (owns (types_at En.signature.params κs) a vss)) ∷ (raw (fact 𝓤 Inside) ⊛ raw (emp 𝓤)) ∷ []) ∵
      move ! (1 ∷ []) $ split ! $ heard ! Inside (λ le. drop ! $ split ! $ split3 ! $ move ! (3 ∷ []) $ fsplit3 ! $ move ! (2 ∷ []) $ fsplit ! $
      -- [the store; nothing; what it is called on; the allocator; the tokens]
      rewrite ! 0 (λ (us : List Val). ‵ ((MutRef (named 1) κ R).own_val m us)) e₂ refl $ rewrite ! 2 (λ (us : List Val). ‵ ((type_at Self κs).own_val o us)) e₀ refl $
      rewrite ! 3 (λ (us : List Val). ‵ ((G-type.the_row).own_val al us)) e₁ refl $ regoal ! (λ (us : List Val). prop (Run us)) (λ i. e₀ i ++ (e₁ i ++ (e₂ i ++ []))) refl $
      enter ! 𝓣.C 𝓣.Λ fn (ov ∷ av ∷ mv ∷ []) Post $ alloc_all ! (λ l. pass_all ! refl ((tt, tt), (one.1.1, ((tt, tt), tt))) $ let Ev : Env 𝓤 H = env fn.locals l in
      sets ! (addr ! (through ! refl (stop !))) refl (tt, tt) $ move ! (2 ∷ []) $ drop ! $ move ! (0 ∷ 4 ∷ 1 ∷ 2 ∷ 5 ∷ []) $
      -- [the store; its token; nothing; the allocator; the other token; that of what it is called on]
      use2 𝓛 (later (some (λ (n : ℕ × GName × Share). ‵ ((MutRef (named 1) (n.0 ∷ κ) R).own_val (record m { ghost_name = n.1 }) (mv ∷ [])) ⊛ ‵ (flft (n.0 ∷ κ) n.2) ⊛ raw (Back 𝓛 R (named 1) κ q m n))))
      (lends_within 𝓛 R (named 1) κ q m) $ await ! tt $ pick ! (λ n. split ! $ move ! (1 ∷ []) $ split ! $
      -- [the loan's token; the way back; the loan; nothing; the allocator; the other token]
      let κs' : Lfts 2 = (n.0 ∷ κ, (κs.1.1.0, tt)) in let a' : Args (s.signature Y) κs' = (al, (record m { ghost_name = n.1 }, tt)) in
      let y : Start.Ghost = ((κs', (n.2, (qs.1.1.0, tt)), (Incl-trans (meet_⊑_right (n.0 ∷ []) κ) z.0.2.0, tt), a', (av ∷ [], (mv ∷ [], tt))), tt) in
      move ! (2 ∷ 3 ∷ []) $ fjoin ! $ move ! (3 ∷ 0 ∷ []) $ fjoin ! $
      -- [what `open` is given; the loan's token; the way back; the other token]
      move ! (1 ∷ 3 ∷ []) $ join ! $ join ! $
      use0 𝓛 (raw (emp 𝓤)) (id⊢ 𝓤 (emp 𝓤)) $ use0 𝓛 (raw (fact 𝓤 Inside)) (fact_i 𝓤 Inside (emp 𝓤) le) $ join ! $ move ! (1 ∷ 0 ∷ []) $ join ! $ use1 𝓛 (raw (Start.pre y)) (id⊢ 𝓤 _) $
      calls_at ! (framed 𝓤 H 𝓜 𝓣) Start known y (and_then ! (get ! refl) (and_then ! (get ! refl) (no_more !))) (λ v.
      use1 𝓛 (later (some (λ (r : Made.Denot). ((‵ (flft (n.0 ∷ κ) n.2) ⊛ t₂ ⊛ ‵ ftrue) ⊛ ‵ (Made.own_val r (v ∷ []))) ⊛
      some (λ (ws : Lasts sEn κs' a'). ‵ (lasts sEn κs' a' ws) ⊛ raw ((sc κs' a').ensures tt r (at_exit sEn κs' a' ws)))))) (id⊢ 𝓤 _) $
      await ! tt $ pick ! (λ r. split ! $ split ! $ move ! (2 ∷ []) $ pick ! (λ ws. split ! $ let w : Y.Denot = ws.1.0 in let mr : MutBor Y.Denot = record m { now = w } in
      -- [the last values; what `open` ensures; the tokens; the result; the way back]
      fsplit ! $ drop ! $ fsplit ! $ fsplit ! $ move ! (1 ∷ 2 ∷ []) $ drop ! $ drop ! $ move ! (2 ∷ []) $ split ! $ move ! (0 ∷ 2 ∷ 5 ∷ []) $
      use3 𝓛 (later (‵ ((MutRef (named 1) κ R).own_val mr (mv ∷ [])) ⊛ t₁)) (gives_back 𝓛 R (named 1) κ q m n w) $ await ! tt $ split ! $ move ! (1 ∷ 2 ∷ []) $ join ! $
      -- [the tokens; the backend; what `open` ensures; the result]
      by_result r
      (λ x is. rewrite ! 3 (λ (r' : Made.Denot). ‵ (Made.own_val r' (v ∷ []))) is refl $ rewrite ! 2 (λ (r' : Made.Denot). raw ((sc κs' a').ensures tt r' (at_exit sEn κs' a' ws))) is refl $ move ! (2 ∷ []) $
      told ! (λ answer. told ! (λ items. told ! (λ most. told ! (λ kept. heard ! _ (λ fault. move ! (2 ∷ []) $
      ok_out WS PE state.the_row_laws ! x v (λ u ev good.
      let d : W.Denot = k.make mr x in let of = of_parts k mr x in let wv : Val = vstruct (of_list (mv ∷ u ∷ [])) in let rv : Val = live 0 (of_list (wv ∷ [])) in
      lands_as ! ev refl (and_tt _ good.0, (record { fits = lit< tt }, (good.1, tt))) $
      first ! $ switches_on ! (get_tag ! (vrt ! refl (fld ! refl (stop !))) (whole !)) $ exec ! 𝓣.C 𝓣.Λ Ev (arm_body 0 (head (after 2 fn.body))) (then_runs 𝓛 𝓣.C 𝓣.Λ Ev (after 3 fn.body) (at_ret Ev Post)) $
      sets ! (of_opd ! (get_in ! (vrt ! refl (fld ! refl (stop !))) (in_variant ! 0 0 refl refl (whole !)))) refl good $
      sets ! (addr ! (through ! refl (stop !))) refl (tt, tt) $ sets ! (of_opd ! (get ! refl)) refl good $
      sets ! (agg ! (and_then ! (get ! refl) (and_then ! (get ! refl) (no_more !)))) refl (and_tt _ good.0, (tt, (good.1, tt))) $
      sets_last ! (agg ! (and_then ! (lit ! tt) (and_then ! (get ! refl) (no_more !)))) refl (and_tt _ (and_tt _ good.0), (record { fits = lit< tt }, ((tt, (good.1, tt)), tt))) $
      exec ! 𝓣.C 𝓣.Λ Ev (after 3 fn.body) (at_ret Ev Post) $
      sets ! (of_opd ! (get ! refl)) refl (and_tt _ (and_tt _ good.0), (record { fits = lit< tt }, ((tt, (good.1, tt)), tt))) $
      returns ! (look_at ! 0 refl) $ free_all ! refl $
      -- [the state; the tokens; the store]
      move ! (2 ∷ 0 ∷ []) $ use2 𝓛 (‵ (W.own_val d (wv ∷ []))) (k.owns mr x mv u) $
      use1 𝓛 (‵ (Out.own_val (Ok d) (rv ∷ []))) (ok_of 𝓛 W PE d wv) $
      use0 𝓛 (raw ((c κs a).ensures tt (Ok d) (at_exit En κs a (tt, (tt, (tt, tt))))))
      (beside 𝓛 (rests_ok 𝓛 R m (λ (t : W.Denot). (k.store t).ghost_name) PE.Denot (LeftByStart {A = W.Denot} gb.told gb.tells gb.faults gb.steady m.now (Ok d)) d (of (λ b s. b.ghost_name ≡ γ) refl))
      (holds 𝓛 (subst (IsBegun Ok (gb.tells m.now) (gb.told m.now)) (sym (k.loads mr x)) answer) (holds 𝓛 (λ steady below same. is_ok WS.Denot W.Denot d errors.StoreFault same)
      (holds 𝓛 (of (λ b s. b.ghost_name ≡ γ) refl) (holds 𝓛 (λ tells. of (λ b s. AreAllLeft (gb.told m.now) (gb.told b.now) s) (subst (λ (t : Tables). AreAllLeft (gb.told m.now) t x) (sym kept.told) (items tells)))
      (holds 𝓛 (of (λ b s. left_at_most s ≡ len (set_of s).tiles) most) (holds 𝓛 (of (λ b s. ReadsOnly gb.told gb.tells gb.faults gb.steady m.now b.now) kept)
      (fact_i 𝓤 _ (emp 𝓤) (of (λ b s. gb.faults b.now ≡ gb.faults m.now) fault.still))))))))) $
      -- [the promise; the answer; the tokens; that of what it is called on]
      move ! (3 ∷ 2 ∷ []) $ join ! $ move ! (1 ∷ 2 ∷ 0 ∷ []) $
      nothing ! $ nothing ! $ fjoin ! $ nothing ! $ fjoin ! $ nothing ! $ fjoin ! $ move ! (3 ∷ 0 ∷ 2 ∷ 1 ∷ []) $ by ! (leaves 𝓛 En hs c z rv (Ok d) (tt, (tt, (tt, tt))) (tt, (tt, (tt, tt)))))))))))
      (λ error is. rewrite ! 3 (λ (r' : Made.Denot). ‵ (Made.own_val r' (v ∷ []))) is refl $ rewrite ! 2 (λ (r' : Made.Denot). raw ((sc κs' a').ensures tt r' (at_exit sEn κs' a' ws))) is refl $ move ! (2 ∷ []) $
      told ! (λ answer. told ! (λ items. told ! (λ most. told ! (λ kept. heard ! _ (λ fault. move ! (2 ∷ []) $
      err_out WS PE error-laws.the_row_laws ! error v (λ u ev good.
      let rv : Val = live 1 (of_list (u ∷ [])) in let before : ℕ = gb.faults m.now in let now : ℕ = gb.faults w in
      let Leaves : Y.Denot → Type 0 = LeftByStart {A = W.Denot} gb.told gb.tells gb.faults gb.steady m.now (Err error) in
      let left : Leaves w = record { kept = kept; fault = record { rose = fault_again WS.Denot W.Denot error fault.rose; still = tt } } in
      lands_as ! ev refl (and_tt _ good.0, (record { fits = lit< tt }, (good.1, tt))) $
      first ! $ switches_on ! (get_tag ! (vrt ! refl (fld ! refl (stop !))) (whole !)) $ exec ! 𝓣.C 𝓣.Λ Ev (arm_body 1 (head (after 2 fn.body))) (then_runs 𝓛 𝓣.C 𝓣.Λ Ev (after 3 fn.body) (at_ret Ev Post)) $
      sets ! (of_opd ! (get_in ! (vrt ! refl (fld ! refl (stop !))) (in_variant ! 1 0 refl refl (whole !)))) refl good $ sets ! (of_opd ! (get ! refl)) refl good $
      sets_last ! (agg ! (and_then ! (lit ! tt) (and_then ! (get ! refl) (no_more !)))) refl (and_tt _ good.0, (record { fits = lit< tt }, (good.1, tt))) $
      exec ! 𝓣.C 𝓣.Λ Ev (after 3 fn.body) (at_ret Ev Post) $ sets ! (of_opd ! (get ! refl)) refl (and_tt _ good.0, (record { fits = lit< tt }, (good.1, tt))) $
      returns ! (look_at ! 0 refl) $ free_all ! refl $
      -- [the error; the tokens; the store]
      use1 𝓛 (‵ (Out.own_val (Err error) (rv ∷ []))) (err_of 𝓛 W PE error u) $ move ! (2 ∷ []) $ fsplit3 ! $ drop ! $
      use1 𝓛 (‵ (fres γ (R.coded.code w))) (𝓛.names.obs-res γ (R.coded.code w)) $ move ! (1 ∷ []) $ drop ! $
      use1 𝓛 (raw ((c κs a).ensures tt (Err error) (at_exit En κs a (tt, (tt, (tt, tt))))))
      (beside 𝓛 (rests_err 𝓛 R m (λ (t : W.Denot). (k.store t).ghost_name) PE.Denot Leaves error w left)
      (holds 𝓛 (subst (IsBegun Ok (gb.tells m.now) (gb.told m.now)) (sym (k.refuses error)) answer) (holds 𝓛 (λ steady below same. no_fault WS.Denot W.Denot before now error fault.rose below (kept.calm steady) same)
      (holds 𝓛 tt (holds 𝓛 (λ tells. tt) (holds 𝓛 tt (holds 𝓛 tt (fact_i 𝓤 _ (emp 𝓤) tt)))))))) $
      -- [the promise; the answer; the tokens; that of what it is called on]
      move ! (3 ∷ 2 ∷ []) $ join ! $ move ! (1 ∷ 2 ∷ 0 ∷ []) $
      nothing ! $ nothing ! $ fjoin ! $ nothing ! $ fjoin ! $ nothing ! $ fjoin ! $ move ! (3 ∷ 0 ∷ 2 ∷ 1 ∷ []) $ by ! (leaves 𝓛 En hs c z rv (Err error) (tt, (tt, (tt, tt))) (tt, (tt, (tt, tt))))))))))))))))))
