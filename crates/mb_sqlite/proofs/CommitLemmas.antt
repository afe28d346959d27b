-- Calls in a row that commit nothing, or once.
use Rattle.mb_sqlite.proofs.Common.{arith, begun, Commits, CommitsNothing, CommitsOnce, Error, FailsToCommit, false, Ghosts, HasCleanDisk, Held, inl, inr, IsRolledBack, keeps_then, KeepsCommitted, KeepsInside}
use Rattle.mb_sqlite.proofs.Common.{refl, Shows, state, subst, Survives, sym, Trees, true, unchanged_keeps, Within, ◌≡◌}
use Rattle.sqlite.proofs.Callers.{survives_begin}
use Rattle.sqlite.proofs.StateLemmas.{survives_then, survives_weaker}

module _ {S : Type 0} (g : Ghosts S) where
  pub nothing_yet : (h : Held S) → CommitsNothing g h h
  nothing_yet h = record { clean = omega arith; shield = λ k. k; counts = omega arith; limit = refl; closes = λ _ k. inl k; crash = λ _ db k. inl k }

  pub nothing_then : (a b c : Held S) → CommitsNothing g a b → CommitsNothing g b c → CommitsNothing g a c
  nothing_then a b c one two = survives_then (state g a) (state g b) (state g c) _ _ _ (λ _ db none. none) (λ _ db none. none) one two

  -- what is seen in a transaction that is rolled back
  pub seen_within : (P : Held S → Held S → Type 0) (old begun mid end : Held S) → begun ≡ record old { in_transaction = true } → (HasCleanDisk (state g mid) → P begun mid) → CommitsNothing g mid end → HasCleanDisk (state g end) → Within old P
  seen_within P old begun mid end is seen last clean = (mid, subst (λ h. P h mid) is (seen (omega (arith, last.clean))))

  -- the same of what the call behind it is told of
  pub seen_back : (P : Held S → Held S → Type 0) (old first mid last end : Held S) → first ≡ record old { in_transaction = true } → (HasCleanDisk (state g mid) → P first mid) → CommitsNothing g mid last → last ≡ end → HasCleanDisk (state g end) → Within old P
  seen_back P old first mid last end opens seen step same clean = seen_within P old first mid last opens seen step (subst (λ h. HasCleanDisk (state g h)) (sym same) clean)

  -- a transaction that is rolled back
  pub undone_nothing : (old mid end : Held S) → CommitsNothing g (record old { in_transaction = true }) mid → CommitsNothing g mid end → CommitsNothing g old end
  undone_nothing old mid end inside last =
      survives_then (state g old) (state g mid) (state g end) _ _ _ (λ _ db none. none) (λ _ db none. none) (survives_begin g old (state g mid) _ inside) last

  pub undone_keeps : (old mid end : Held S) → KeepsInside g (begun old) mid → CommitsNothing g mid end
      → (HasCleanDisk (state g end) → IsRolledBack (state g mid) (state g end)) → KeepsCommitted g old end
  undone_keeps old mid end kept last undone clean =
      let was = kept (omega (arith, last.clean)) refl in
      keeps_then (state g old) (state g mid) (state g end) (record { was_open = was.was_open; committed = was.committed })
      (unchanged_keeps (state g mid) (state g end) (inr (undone clean)))

  -- a transaction that isn't committed
  pub failed_keeps : (old mid end : Held S) (P : Trees → Type 0) (e : Error) → KeepsInside g (begun old) mid → Survives (state g mid) (state g end) P
      → (HasCleanDisk (state g end) → FailsToCommit (state g mid) (state g end) e) → KeepsCommitted g old end
  failed_keeps old mid end P e kept last failed clean =
      let was = kept (omega (arith, last.clean)) refl in
      keeps_then (state g old) (state g mid) (state g end) (record { was_open = was.was_open; committed = was.committed })
      (unchanged_keeps (state g mid) (state g end) (elim (failed clean) [ inl fails ↦ inr fails.3 | inr late ↦ inl late.2 ]))

  -- a transaction that is committed
  pub done_once : (Ends : Held S → Type 0) (old mid last end : Held S) → CommitsNothing g (begun old) mid → (HasCleanDisk (state g mid) → Ends mid)
      → Survives (state g mid) (state g last) (λ db. db ≡ (state g mid).now.trees) → last ≡ end → CommitsOnce g Ends old end
  done_once Ends old mid last end inside ends step same = subst (CommitsOnce g Ends old) same record {
    made = (state g mid).now.trees;
    survives = survives_then (state g old) (state g mid) (state g last) _ _ _ (λ _ db none. absurd none) (λ clean db is. (is, (mid, ends (omega (arith, clean, step.clean)), is))) (survives_begin g old (state g mid) _ inside) step;
  }

  pub nothing_once : (Ends : Held S → Type 0) (old new : Held S) → CommitsNothing g old new → CommitsOnce g Ends old new
  nothing_once Ends old new none = record {
    made = (state g old).committed.trees;
    survives = survives_weaker (state g old) (state g new) _ _ (λ _ db no. absurd no) none;
  }

  -- nothing more is committed after it
  pub once_then : (Ends : Held S → Type 0) (a b c : Held S) → CommitsOnce g Ends a b → CommitsNothing g b c → CommitsOnce g Ends a c
  once_then Ends a b c one two = record {
    made = one.made;
    survives = survives_then (state g a) (state g b) (state g c) _ _ _ (λ _ db is. is) (λ _ db no. absurd no) one.survives two;
  }

  -- what a transaction made, and was committed
  pub commits_made : (Ends : Held S → Type 0) (mid end : Held S) (A B C : Type 0) (P : Trees → Type 0) → (HasCleanDisk (state g mid) → Ends mid) → Survives (state g mid) (state g end) P
      → (HasCleanDisk (state g end) → A × Shows (state g mid) (state g end) (state g mid).now (state g mid).now false × B × C) → HasCleanDisk (state g end) → Commits g Ends end
  unfolding Commits
  commits_made Ends mid end A B C P ends last ok clean = (mid, ends (omega (arith, clean, last.clean)), (ok clean).1)
