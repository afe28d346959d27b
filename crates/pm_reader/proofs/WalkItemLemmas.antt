-- What a step of a walk gives, and what it leaves.
use Rattle.pm_reader.proofs.Common.{ap, arith, cond, Enters, Entry, Err, false, Gives, IfSome, IsRefused, Item, leaf_of, left_of, List, nat_eq, None, Ok, Option, PmtError, queue_of, queued, refl}
use Rattle.pm_reader.proofs.Common.{Result, Some, subst, suc, sym, true, WalkState, Yields, zero, ℕ, [], ◌+◌, ◌<◌, ◌∙◌, ◌∷◌, ◌≡◌}
use Rattle.pm_format.specs.declared.error.PmtError.TheVariants as errors
use Rattle.pm_format.specs.declared.error.ReadCause.TheVariants as causes
use Rattle.pm_reader.proofs.QueueLemmas.{queued_end, queued_leaf, queued_none, queued_tile}

-- a state from which the first entry was taken
pub record Took (s t : WalkState) (e : Entry) : Type 0 where
  pub queue : queue_of s ≡ e ∷ queue_of t
  pub header : t.header ≡ s.header
  pub budget : t.budget ≡ s.budget
  pub ended : t.ended ≡ s.ended
  pub goes : s.ended ≡ false

left_is : (b : List ℕ) (s : WalkState) → s.ended ≡ false → left_of b s ≡ queued s.budget s.header b (queue_of s)
left_is b s goes = ap (λ x. cond x [] (queued s.budget s.header b (queue_of s))) goes

left_took : (b : List ℕ) (s t : WalkState) (e : Entry) → Took s t e → left_of b s ≡ queued t.budget t.header b (e ∷ queue_of t)
left_took b s t e w =
    left_is b s w.goes
    ∙ (ap (queued s.budget s.header b) w.queue
    ∙ (ap (λ n. queued n s.header b (e ∷ queue_of t)) (sym w.budget) ∙ ap (λ h. queued t.budget h b (e ∷ queue_of t)) (sym w.header)))

pub told_tile : (told : Option (List ℕ)) (first s t : WalkState) (e : Entry) → IfSome told (λ b. left_of b s ≡ left_of b first) → Took s t e → nat_eq e.run_length 0 ≡ false → IfSome told (λ b. Yields (left_of b first) (Some (Ok e)) (left_of b t))
told_tile None first s t e same w tile = tt
told_tile (Some b) first s t e same w tile =
    sym same ∙ (left_took b s t e w ∙ (queued_tile t.header b t.budget e (queue_of t) tile ∙ ap (λ z. Ok e ∷ z) (sym (left_is b t (w.ended ∙ w.goes)))))

pub told_spent : (told : Option (List ℕ)) (first s t u : WalkState) (e : Entry) → IfSome told (λ b. left_of b s ≡ left_of b first) → Took s t e → nat_eq e.run_length 0 ≡ true → t.budget ≡ 0 → u.ended ≡ true
    → IfSome told (λ b. Yields (left_of b first) (Some (Err errors.BudgetSpent)) (left_of b u))
told_spent None first s t u e same w leaf none ended = tt
told_spent (Some b) first s t u e same w leaf none ended =
    sym same
    ∙ (left_took b s t e w
    ∙ (ap (λ n. queued n t.header b (e ∷ queue_of t)) none
    ∙ (queued_end t.header b e (queue_of t) leaf ∙ ap (λ z. Err errors.BudgetSpent ∷ z) (sym (ap (λ x. cond x [] (queued u.budget u.header b (queue_of u))) ended)))))

yields_refused : (items rest : List Item) (f : PmtError) (wanted : Result (List Entry) PmtError) → Gives wanted (Err f) → rest ≡ [] → (wanted ≡ Err f → items ≡ Err f ∷ []) → Yields items (Some (Err f)) rest
yields_refused items rest errors.OutOfMemory wanted g empty is = empty
yields_refused items rest (errors.Reading causes.Fault) wanted g empty is = empty
yields_refused items rest (errors.UnexpectedNumberOfBytesReturned asked got) wanted g empty is = g
yields_refused items rest f wanted g empty is = is g ∙ ap (λ z. Err f ∷ z) (sym empty)

left_refused : (b : List ℕ) (s t : WalkState) (e : Entry) (n : ℕ) (f : PmtError) → Took s t e → nat_eq e.run_length 0 ≡ true → t.budget ≡ suc n → leaf_of t.header b e ≡ Err f → left_of b s ≡ Err f ∷ []
left_refused b s t e n f w leaf some is =
    left_took b s t e w ∙ (ap (λ k. queued k t.header b (e ∷ queue_of t)) some ∙ queued_leaf t.header b n e (queue_of t) (Err f) leaf is)

-- a budget that isn't spent
one_less : (n : ℕ) → 0 < n → (m : ℕ) × (n ≡ suc m)
one_less zero some = absurd (omega arith)
one_less (suc m) some = (m, refl)

pub told_refused : (told again : Option (List ℕ)) (first s t u : WalkState) (e : Entry) (f : PmtError) → again ≡ told → IfSome told (λ b. left_of b s ≡ left_of b first) → Took s t e → nat_eq e.run_length 0 ≡ true → 0 < t.budget → u.ended ≡ true
    → IfSome again (λ b. IsRefused t.header b e f) → IfSome told (λ b. Yields (left_of b first) (Some (Err f)) (left_of b u))
told_refused None again first s t u e f still same w leaf some ended refused = tt
told_refused (Some b) again first s t u e f still same w leaf some ended refused =
    let P : Option (List ℕ) → Type 0 = λ o. IfSome o (λ c. IsRefused t.header c e f) in
    let m = one_less t.budget some in
    yields_refused (left_of b first) (left_of b u) f (leaf_of t.header b e) (subst P still refused) (ap (λ x. cond x [] (queued u.budget u.header b (queue_of u))) ended)
    (λ is. sym same ∙ left_refused b s t e m.0 f w leaf m.1 is)

pub told_none : (told : Option (List ℕ)) (first s t : WalkState) → IfSome told (λ b. left_of b s ≡ left_of b first) → queue_of s ≡ queue_of t → queue_of t ≡ [] → s.ended ≡ false → t.ended ≡ s.ended
    → IfSome told (λ b. Yields (left_of b first) None (left_of b t))
told_none None first s t same queue none goes ended = tt
told_none (Some b) first s t same queue none goes ended = (
  sym same ∙ (left_is b s goes ∙ (ap (queued s.budget s.header b) (queue ∙ none) ∙ queued_none s.header b s.budget)),
  left_is b t (ended ∙ goes) ∙ (ap (queued t.budget t.header b) none ∙ queued_none t.header b t.budget),
)

pub told_entered : (told again : Option (List ℕ)) (first s t u : WalkState) (e : Entry) → again ≡ told → IfSome told (λ b. left_of b s ≡ left_of b first) → Took s t e → nat_eq e.run_length 0 ≡ true → u.header ≡ t.header → u.budget + 1 ≡ t.budget → u.ended ≡ t.ended
    → IfSome again (λ b. Enters t.header b e (queue_of t) (queue_of u)) → IfSome told (λ b. left_of b u ≡ left_of b first)
told_entered None again first s t u e still same w leaf header budget ended enters = tt
told_entered (Some b) again first s t u e still same w leaf header budget ended enters =
    let P : Option (List ℕ) → Type 0 = λ o. IfSome o (λ c. Enters t.header c e (queue_of t) (queue_of u)) in
    let d = subst P still enters in
    let more : t.budget ≡ suc u.budget = omega (arith, budget) in
    sym (sym same
    ∙ (left_took b s t e w
    ∙ (ap (λ k. queued k t.header b (e ∷ queue_of t)) more
    ∙ (queued_leaf t.header b u.budget e (queue_of t) (Ok d.0) leaf d.1
    ∙ (ap (queued u.budget t.header b) (sym d.2)
    ∙ (ap (λ h. queued u.budget h b (queue_of u)) (sym header)
    ∙ sym (left_is b u (ended ∙ (w.ended ∙ w.goes)))))))))
