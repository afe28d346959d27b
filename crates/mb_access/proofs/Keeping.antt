-- A struct that keeps a store and a state, made of both.
use Rattle.mb_access.proofs.Common.{ent, Err, Lft, Logic, MbtError, MutBor, MutRef, named, of_list, Ok, RattleType, Result, sem, sep, set_of, State, StreamState, subst, sym, Ura, Val, vstruct, []}
use Rattle.mb_access.proofs.Common.{◌∷◌, ◌≡◌}
use Rattle.mb_access.specs.contracts.stream_state.StreamState as S-type

-- What is read of it is what it was made of, it is owned where that is, and what it answers to have
-- loaded is what the state has.
pub record Keeps {M : Type 1} {𝓤 : Ura M} (𝓛 : Logic 𝓤) (R V : RattleType) (κ : Lft) : Type 1 where
  pub make : MutBor R.Denot → StreamState → V.Denot
  pub store : V.Denot → MutBor R.Denot
  pub state : V.Denot → StreamState
  pub loaded : Result V.Denot MbtError → Result State MbtError
  pub same_store : (r : MutBor R.Denot) (x : StreamState) → store (make r x) ≡ r
  pub same_state : (r : MutBor R.Denot) (x : StreamState) → state (make r x) ≡ x
  pub loads : (r : MutBor R.Denot) (x : StreamState) → loaded (Ok (make r x)) ≡ Ok (set_of x)
  pub refuses : (e : MbtError) → loaded (Err e) ≡ Err e
  pub owns : (r : MutBor R.Denot) (x : StreamState) (v u : Val)
      → ent 𝓤 (sep 𝓤 (sem 𝓛 ((MutRef (named 1) κ R).own_val r (v ∷ []))) (sem 𝓛 ((S-type.the_row).own_val x (u ∷ [])))) (sem 𝓛 (V.own_val (make r x) (vstruct (of_list (v ∷ u ∷ [])) ∷ [])))

module _ {M : Type 1} {𝓤 : Ura M} {𝓛 : Logic 𝓤} {R V : RattleType} {κ : Lft} (k : Keeps 𝓛 R V κ) (r : MutBor R.Denot) (x : StreamState) where
  -- what holds of its parts holds of what is read of it
  pub of_parts : (P : MutBor R.Denot → StreamState → Type 0) → P r x → P (k.store (k.make r x)) (k.state (k.make r x))
  of_parts P p =
      let d = k.make r x in
      subst (λ (s : StreamState). P (k.store d) s) (sym (k.same_state r x)) (subst (λ (b : MutBor R.Denot). P b x) (sym (k.same_store r x)) p)
