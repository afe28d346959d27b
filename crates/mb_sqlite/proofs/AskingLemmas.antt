-- A question inside a transaction leaves what was committed, and the transaction goes on.
use Rattle.mb_sqlite.proofs.Common.{ap, cond, Err, Error, FailsToQuery, FailsToShow, inl, inr, IsNotRun, IsTooLate, KeepsCommit, List, None, Ok, QueriesRow, QueriesRowInside, Shown, ShowsRows, Some}
use Rattle.mb_sqlite.proofs.Common.{State, true, unchanged_keeps, ℕ, [], ◌∙◌, ◌≡◌, ◌⊎◌}
use Rattle.sqlite.specs.Order.{Row}

module _ (sql : List ℕ) (params : Row) (old new : State) where
  shows_keeps : (c : _) (given : Row) (rows : List Row) (what : _) → old.in_transaction ≡ true → ShowsRows old new sql c given rows what → KeepsCommit old new × (new.in_transaction ≡ true)
  shows_keeps c given rows None inside h = (unchanged_keeps old new (inl h.3), h.3.0.mode ∙ inside)
  shows_keeps c given rows (Some what) inside h =
      (record { was_open = λ _. h.1.shown.was_open; committed = λ _. h.1.shown.committed_is ∙ ap (λ b. cond b old.committed new.now) inside }, h.1.shown.mode ∙ inside)

  pub shown_keeps : (rows : List Row) → old.in_transaction ≡ true → Shown sql params old new rows → KeepsCommit old new × (new.in_transaction ≡ true)
  unfolding Shown
  shown_keeps rows inside h = shows_keeps h.0 _ rows h.0.returning inside h.2

  refuses_keeps : (c : _) (given : Row) (e : Error) (what : _) → FailsToShow old new sql c given e what → KeepsCommit old new
  refuses_keeps c given e None h = unchanged_keeps old new (inl h.3)
  refuses_keeps c given e (Some what) (inl refused) = unchanged_keeps old new (inl refused.1)
  refuses_keeps c given e (Some what) (inr failed) = unchanged_keeps old new (inr failed.3)

  fails_keeps : (e : Error) → FailsToQuery sql params old new e → KeepsCommit old new
  unfolding FailsToQuery IsNotRun
  fails_keeps e (inl (inl refused)) = unchanged_keeps old new (inl refused.1)
  fails_keeps e (inl (inr failed)) = unchanged_keeps old new (inr failed.3)
  fails_keeps e (inr h) = refuses_keeps h.0 _ e h.0.returning h.2

  pub asked_keeps : (e : Error) → FailsToQuery sql params old new e ⊎ IsTooLate sql params old new e → KeepsCommit old new
  asked_keeps e (inl failed) = fails_keeps e failed
  asked_keeps e (inr late) = unchanged_keeps old new (inl late.5)

  pub row_keeps : (row : Row) → old.in_transaction ≡ true → QueriesRowInside sql params old new (Ok row) → KeepsCommit old new × (new.in_transaction ≡ true)
  unfolding QueriesRow
  row_keeps row inside (inl h) = (unchanged_keeps old new (inl h.1), h.1.0.mode ∙ inside)
  row_keeps row inside (inr h) = shown_keeps h.0 inside h.1

  pub no_row_keeps : (e : Error) → old.in_transaction ≡ true → QueriesRowInside sql params old new (Err e) → KeepsCommit old new
  unfolding QueriesRow
  no_row_keeps e inside (inl (inl failed)) = fails_keeps e failed
  no_row_keeps e inside (inl (inr none)) = (shown_keeps [] inside none.1).0
  no_row_keeps e inside (inr late) = unchanged_keeps old new (inl late.5)
