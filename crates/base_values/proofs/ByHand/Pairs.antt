-- How a proof by hand takes a pair apart. Assumes `Logic`.
use Rattle.base_values.proofs.Common.{ap, drop, feq_l, fpick, fsplit, fsplit3, Goal, has_ty, Item, Laws, layout, List, Logic, move, of_list, only, RattleType, Seq, T, Ura, Val, vstruct, WT, [], ‵}
use Rattle.base_values.proofs.Common.{◌$◌, ◌++◌, ◌∙◌, ◌∷◌, ◌≡◌}
use denote.Struct.Tuple.{Tuple}
use Rattle.base_values.proofs.ByHand.Values.{one_of}

module _ {M : Type 1} {𝓤 : Ura M} {𝓛 : Logic 𝓤} {K : Type 0} {Γ : List (Item 𝓤)} {G : Goal 𝓤 𝓛.H} (R R' : RattleType) where
  -- what is owned of a pair is two machine values, one behind the other
  pub pair_out : Laws R → Laws R' → K → (x : R.Denot × R'.Denot) (u : Val)
      → ((p q : Val) → u ≡ vstruct (of_list (p ∷ q ∷ [])) → (T (has_ty (layout R) p) × WT p) → (T (has_ty (layout R') q) × WT q) → Seq K 𝓛 (‵ (R'.own_val x.1 (q ∷ [])) ∷ ‵ (R.own_val x.0 (p ∷ [])) ∷ Γ) G)
      → Seq K 𝓛 (‵ ((Tuple (R ∷ R' ∷ [])).own_val x (u ∷ [])) ∷ Γ) G
  pair_out L L' t x u k = fpick t (λ vss. fsplit t $ feq_l t (λ eu. fsplit3 t $ move t (2 ∷ []) $ drop t $ one_of R L t x.0 vss.0 (λ p ep good. move t (1 ∷ []) $ one_of R' L' t x.1 vss.1.0 (λ q eq good'.
      k p q (ap only eu ∙ (λ i. vstruct (of_list (ep i ++ (eq i ++ []))))) good good'))))
