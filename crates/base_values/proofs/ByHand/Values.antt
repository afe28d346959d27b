-- How a proof by hand makes a `Result` and takes one apart. Assumes `Logic`.
use Rattle.base_values.proofs.Common.{ap, done, drop, emp, ent, Err, feq_i, feq_l, fjoin, fpack, fpick, fsplit, Goal, has_ty, heard, id⊢, Item, join, Laws, layout, List, Logic, move, nothing, of_list}
use Rattle.base_values.proofs.Common.{Ok, only, owns, param, param_laws, peeks, qed, RattleType, raw, refl, Result, rewrite, sem, sep, Seq, split, SProp, T, Ty, Ura, use0, use1, Val, Valss, WT, !, []}
use Rattle.base_values.proofs.Common.{‵, ◌$◌, ◌++◌, ◌∙◌, ◌∵◌, ◌∷◌, ◌≡◌, ◌⊛◌}
use mathlib.Core.Bool.{Bool, true, false, ◌&&◌}
use contract.Monad.{fact, fact_i}
use types.Match.{live}
use denote.Laws.{Typed, Is, shows}
use denote.Enum.Row.{tagged_with}
use denote.Enum.Enum.{form_of, in_a_row}
use denote.Enum.Declared.{shape}
use Rattle.std.specs.contracts.result.Result as RS

module _ {M : Type 1} {𝓤 : Ura M} (𝓛 : Logic 𝓤) (R R' : RattleType) where
  pub ok_of : (x : R.Denot) (v : Val) → ent 𝓤 (sem 𝓛 (R.own_val x (v ∷ []))) (sem 𝓛 ((RS.the_row R R').own_val (Ok x) (live 0 (of_list (v ∷ [])) ∷ [])))
  ok_of x v =
      qed 𝓛 (‵ (R.own_val x (v ∷ [])) ∷ []) ∵ nothing ! $ move ! (1 ∷ 0 ∷ []) $ fjoin ! $ feq_i ! (List Val) (v ∷ []) (v ∷ []) refl $ fjoin ! $
      fpack ! (Valss (R ∷ [])) (in_a_row (R ∷ []) (owns (R ∷ []) (x, tt)) (v ∷ [])) (v ∷ [], tt) $
      feq_i ! (List Val) (live 0 (of_list (v ∷ [])) ∷ []) (live 0 (of_list (v ∷ [])) ∷ []) refl $ fjoin ! $
      fpack ! (List Val) (tagged_with (form_of (shape (RS.the_type R R'))) (form_of (shape (RS.the_type R R'))).payload ((RS.the_type R R').to (Ok x)) (live 0 (of_list (v ∷ [])) ∷ [])) (v ∷ []) $ done !

  pub err_of : (x : R'.Denot) (v : Val) → ent 𝓤 (sem 𝓛 (R'.own_val x (v ∷ []))) (sem 𝓛 ((RS.the_row R R').own_val (Err x) (live 1 (of_list (v ∷ [])) ∷ [])))
  err_of x v =
      qed 𝓛 (‵ (R'.own_val x (v ∷ [])) ∷ []) ∵ nothing ! $ move ! (1 ∷ 0 ∷ []) $ fjoin ! $ feq_i ! (List Val) (v ∷ []) (v ∷ []) refl $ fjoin ! $
      fpack ! (Valss (R' ∷ [])) (in_a_row (R' ∷ []) (owns (R' ∷ []) (x, tt)) (v ∷ [])) (v ∷ [], tt) $
      feq_i ! (List Val) (live 1 (of_list (v ∷ [])) ∷ []) (live 1 (of_list (v ∷ [])) ∷ []) refl $ fjoin ! $
      fpack ! (List Val) (tagged_with (form_of (shape (RS.the_type R R'))) (form_of (shape (RS.the_type R R'))).payload ((RS.the_type R R').to (Err x)) (live 1 (of_list (v ∷ [])) ∷ [])) (v ∷ []) $ done !

module _ {M : Type 1} {𝓤 : Ura M} (𝓛 : Logic 𝓤) where
  -- several facts are shown, the first of them by p
  pub holds : {P : Type 0} {Q : SProp 𝓤} → P → ent 𝓤 (emp 𝓤) Q → ent 𝓤 (emp 𝓤) (sep 𝓤 (fact 𝓤 P) Q)
  holds {P} {Q} p h = qed 𝓛 [] ∵ use0 𝓛 (raw Q) h $ use0 𝓛 (raw (fact 𝓤 P)) (fact_i 𝓤 P (emp 𝓤) p) $ join ! $ done !

  pub beside : {X P Q : SProp 𝓤} → ent 𝓤 X P → ent 𝓤 (emp 𝓤) Q → ent 𝓤 X (sep 𝓤 P Q)
  beside {X} {P} {Q} h g = qed 𝓛 (raw X ∷ []) ∵ use1 𝓛 (raw P) h $ use0 𝓛 (raw Q) g $ move ! (1 ∷ 0 ∷ []) $ join ! $ done !

pub alone : (τ : Ty) (vs : List Val) → Typed (τ ∷ []) vs → (v : Val) × ((vs ≡ v ∷ []) × (T (has_ty τ v) × WT v))
alone τ [] t = absurd t
alone τ (v ∷ []) t = (v, (refl, t.0))
alone τ (v ∷ w ∷ vs) t = absurd t.1

pub and_tt : (b : Bool) → T b → T (b && true)
and_tt true t = tt
and_tt false t = absurd t

pub by_result : {X Y : Type 0} {Z : Type 1} (r : Result X Y) → ((x : X) → r ≡ Ok x → Z) → ((y : Y) → r ≡ Err y → Z) → Z
by_result (Ok x) ok err = ok x refl
by_result (Err y) ok err = err y refl

module _ {M : Type 1} {𝓤 : Ura M} {𝓛 : Logic 𝓤} {K : Type 0} {Γ : List (Item 𝓤)} {G : Goal 𝓤 𝓛.H} where
  -- what is owned of a value is one machine value, of its type
  pub one_of : (R : RattleType) → Laws R → K → (x : R.Denot) (vs : List Val) → ((v : Val) → vs ≡ v ∷ [] → (T (has_ty (layout R) v) × WT v) → Seq K 𝓛 (‵ (R.own_val x (v ∷ [])) ∷ Γ) G)
      → Seq K 𝓛 (‵ (R.own_val x vs) ∷ Γ) G
  one_of R L t x vs k =
      peeks t (param 0 R) (Is (param 0 R)) (shows 𝓛 (param 0 R)) x vs (λ is.
      let one = alone (layout R) vs (((param_laws 0 R L).lawful 𝓛).typed x vs is) in
      rewrite t 0 (λ (us : List Val). ‵ (R.own_val x us)) one.1.0 refl $ k one.0 one.1.0 one.1.1)

  module _ (R R' : RattleType) where
    pub ok_out : Laws R → K → (x : R.Denot) (v : Val) → ((u : Val) → v ≡ live 0 (of_list (u ∷ [])) → (T (has_ty (layout R) u) × WT u) → Seq K 𝓛 (‵ (R.own_val x (u ∷ [])) ∷ Γ) G)
        → Seq K 𝓛 (‵ ((RS.the_row R R').own_val (Ok x) (v ∷ [])) ∷ Γ) G
    ok_out L t x v k = fpick t (λ us. fsplit t $ feq_l t (λ ev. fpick t (λ vss. fsplit t $ feq_l t (λ eu. fsplit t $ move t (1 ∷ []) $ drop t $ one_of R L t x vss.0 (λ u e good.
        k u (ap only ev ∙ ap (λ (ws : List Val). live 0 (of_list ws)) (eu ∙ ap (λ (ws : List Val). ws ++ []) e)) good)))))

    pub err_out : Laws R' → K → (x : R'.Denot) (v : Val) → ((u : Val) → v ≡ live 1 (of_list (u ∷ [])) → (T (has_ty (layout R') u) × WT u) → Seq K 𝓛 (‵ (R'.own_val x (u ∷ [])) ∷ Γ) G)
        → Seq K 𝓛 (‵ ((RS.the_row R R').own_val (Err x) (v ∷ [])) ∷ Γ) G
    err_out L t x v k = fpick t (λ us. fsplit t $ feq_l t (λ ev. fpick t (λ vss. fsplit t $ feq_l t (λ eu. fsplit t $ move t (1 ∷ []) $ drop t $ one_of R' L t x vss.0 (λ u e good.
        k u (ap only ev ∙ ap (λ (ws : List Val). live 1 (of_list ws)) (eu ∙ ap (λ (ws : List Val). ws ++ []) e)) good)))))

  -- the first of several facts is learned
  pub told : K → {P : Type 0} {Q : SProp 𝓤} → (P → Seq K 𝓛 (raw Q ∷ Γ) G) → Seq K 𝓛 (raw (sep 𝓤 (fact 𝓤 P) Q) ∷ Γ) G
  told t {P} {Q} k = use1 𝓛 (raw (fact 𝓤 P) ⊛ raw Q) (id⊢ 𝓤 (sep 𝓤 (fact 𝓤 P) Q)) $ split t $ heard t P k
