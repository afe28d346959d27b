-- What a constructor that may refuse leaves of what it would borrow, for a proof by hand. Assumes `Logic`.
use Rattle.base_values.proofs.Common.{done, emp, ent, Err, fpack, fres, GName, Logic, MutBor, Ok, OnErr, OnOk, qed, RattleType, refl, Result, sem, subst, sym, Ura, use0, !, [], ‵, ◌$◌, ◌∵◌, ◌∷◌, ◌≡◌}
use mathlib.Core.Option.{some}
use denote.Follow.{follows, follows_by, such_by}
use borrow.Follows.Kept.{follows_itself}
use Rattle.std.specs.Borrow.{RestsIfErr, name_if_ok}

module _ {M : Type 1} {𝓤 : Ura M} (𝓛 : Logic 𝓤) (R : RattleType) (s : MutBor R.Denot) {V : Type 0} (name : V → GName) (E : Type 0) (P : R.Denot → Type 0) where
  open 𝓛 use {A}

  abbrev Meets : Result V E → Type 0
  Meets r = (t : (R.Denot → R.Denot) × R.Denot) × ((w : R.Denot) → OnOk r (t.0 w ≡ w)) × OnErr r (P t.1)

  -- refused: it rests at n
  pub rests_err : (e : E) (n : R.Denot) → P n → ent 𝓤 (A.res s.ghost_name (R.coded.code n)) (sem 𝓛 (RestsIfErr R s name (Err e) P))
  unfolding such_by follows_by
  rests_err e n p =
      qed 𝓛 (‵ (fres s.ghost_name (R.coded.code n)) ∷ []) ∵
      fpack ! (Meets (Err e)) (λ t. follows_by R.Denot R.Denot R.coded.code R.coded.code s.ghost_name (name_if_ok name (Err e)) t.0.0 t.0.1) (((λ w. w), n), (λ w. tt), p) $ done !

  -- taken: it ends as what it is borrowed by leaves
  pub rests_ok : (x : V) → name x ≡ s.ghost_name → ent 𝓤 (emp 𝓤) (sem 𝓛 (RestsIfErr R s name {E = E} (Ok x) P))
  unfolding such_by follows_by
  rests_ok x same =
      let T : GName → Type 1 = λ γ. ent 𝓤 (emp 𝓤) (sem 𝓛 (base.Fml.fex (Meets (Ok x)) (λ t. follows_by R.Denot R.Denot R.coded.code R.coded.code s.ghost_name (some γ) t.0.0 t.0.1))) in
      subst T (sym same)
      (qed 𝓛 [] ∵ use0 𝓛 (‵ (follows R R s.ghost_name s.ghost_name (λ w. w))) (follows_itself 𝓛 R s.ghost_name) $
      fpack ! (Meets (Ok x)) (λ t. follows_by R.Denot R.Denot R.coded.code R.coded.code s.ghost_name (some s.ghost_name) t.0.0 t.0.1) (((λ w. w), s.now), (λ w. refl), tt) $ done !)
