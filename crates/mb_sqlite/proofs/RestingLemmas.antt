-- What calls in a row leave of a transaction, and what it leaves when it ends.
use Rattle.mb_sqlite.proofs.Common.{arith, begun, both_ways, CommitsNothing, Error, FailsToCommit, false, Ghosts, HasCleanDisk, Held, inl, inr, IsRolledBack, keeps_then, KeepsInside}
use Rattle.mb_sqlite.proofs.Common.{refl, Rests, state, StaysInside, subst, Survives, Trees, ◌∙◌, ◌≡◌}

module _ {S : Type 0} (g : Ghosts S) where
  pub inside_yet : (h : Held S) → KeepsInside g h h
  inside_yet h clean inside = record { was_open = λ k. k; committed = λ _. refl }

  pub stays_yet : (h : Held S) → StaysInside g h h
  stays_yet h clean inside = inside

  pub inside_then : (a b c : Held S) → CommitsNothing g b c → KeepsInside g a b → StaysInside g a b → KeepsInside g b c → KeepsInside g a c
  inside_then a b c step one stays two clean inside =
      let was : HasCleanDisk (state g b) = omega (arith, clean, step.clean) in
      keeps_then (state g a) (state g b) (state g c) (one was inside) (two clean (stays was inside))

  pub stays_then : (a b c : Held S) → CommitsNothing g b c → StaysInside g a b → StaysInside g b c → StaysInside g a c
  stays_then a b c step one two clean inside = two clean (one (omega (arith, clean, step.clean)) inside)

  -- a transaction that is rolled back
  pub rests_undone : (old mid end : Held S) → KeepsInside g (begun old) mid → CommitsNothing g mid end → (HasCleanDisk (state g end) → IsRolledBack (state g mid) (state g end)) → end.in_transaction ≡ false → Rests g old end
  rests_undone old mid end kept last undone ended = record {
    ended = ended;
    was_open = λ clean is. (kept (omega (arith, clean, last.clean)) refl).was_open ((undone clean).was_open is);
    shows = λ clean is. ((undone clean).undone is).0 ∙ (kept (omega (arith, clean, last.clean)) refl).committed ((undone clean).was_open is);
    committed = λ clean is. ((undone clean).undone is).1 ∙ (kept (omega (arith, clean, last.clean)) refl).committed ((undone clean).was_open is);
    unmarked = λ clean. (undone clean).unmarked;
  }

  -- the same of what the calls before and after are told of
  pub rests_back : (old first mid last end : Held S) → first ≡ begun old → KeepsInside g first mid → CommitsNothing g mid last → (HasCleanDisk (state g last) → IsRolledBack (state g mid) (state g last)) → last.in_transaction ≡ false → last ≡ end → Rests g old end
  rests_back old first mid last end opens kept step undone ended same = subst (Rests g old) same (rests_undone old mid last (subst (λ h. KeepsInside g h mid) opens kept) step undone ended)

  -- a transaction whose commit is refused
  pub rests_failed : (old mid end : Held S) (P : Trees → Type 0) (e : Error) → KeepsInside g (begun old) mid → StaysInside g (begun old) mid → Survives (state g mid) (state g end) P
      → (HasCleanDisk (state g end) → FailsToCommit (state g mid) (state g end) e) → end.in_transaction ≡ false → Rests g old end
  rests_failed old mid end P e kept stays last failed ended = record {
    ended = ended;
    was_open = λ clean is. (kept (was clean) refl).was_open ((undone clean).was_open is);
    shows = λ clean is. ((undone clean).undone is).0 ∙ (kept (was clean) refl).committed ((undone clean).was_open is);
    committed = λ clean is. ((undone clean).undone is).1 ∙ (kept (was clean) refl).committed ((undone clean).was_open is);
    unmarked = λ clean. (undone clean).unmarked;
  }
    where
      was : HasCleanDisk (state g end) → HasCleanDisk (state g mid)
      was clean = omega (arith, clean, last.clean)

      undone : HasCleanDisk (state g end) → IsRolledBack (state g mid) (state g end)
      undone clean = elim (failed clean) [ inl fails ↦ fails.3 | inr late ↦ absurd (both_ways _ late.1 (stays (was clean) refl)) ]
