-- Tables and views that are there, or are made.
use Rattle.mb_sqlite.proofs.Common.{ArePassed, Arises, Bool, false, Ghosts, Held, inl, inr, IsRun, IsThere, List, making_text, MatchBool, MatchOption, MbtType, None, Passes, refl, slice_get, Some}
use Rattle.mb_sqlite.proofs.Common.{Stays, subst, sym, TableName, take, true, ℕ, [], ◌+◌, ◌||◌, ◌≡◌}
use Rattle.mb_sqlite.proofs.StepLemmas.{Steps-next, Steps-none}

module _ {S : Type 0} (g : Ghosts S) (layout : MbtType) (table : TableName) where
  pub stays_none : (a : Held S) → making_text layout table ≡ None → Stays g layout table a a
  unfolding Stays
  stays_none a none = subst (λ o. MatchOption o (a ≡ a) (λ text. IsThere g table true a a)) (sym none) refl

  pub stays_there : (text : List ℕ) (there : Bool) (a b : Held S) → making_text layout table ≡ Some text → there ≡ true → IsThere g table there a b → Stays g layout table a b
  unfolding Stays
  stays_there text there a b some is h = subst (λ o. MatchOption o (b ≡ a) (λ text. IsThere g table true a b)) (sym some) (subst (λ t. IsThere g table t a b) is h)

  pub arises_by : (text : List ℕ) (there : Bool) (a b c : Held S) → making_text layout table ≡ Some text → there ≡ false → IsThere g table there a b → IsRun g text [] b c → Arises g layout table a c
  unfolding Arises
  arises_by text there a b c some is h ran = (text, some, b, subst (λ t. IsThere g table t a b) is h, ran)

module _ {S : Type 0} (g : Ghosts S) (layout : MbtType) where
  pub passed_none : (a : Held S) → ArePassed g layout [] false a a
  passed_none a = record { passed = Steps-none (Passes g layout) a; there = λ _. Steps-none (Stays g layout) a }

  pub passed_next : (tables : List TableName) (n : ℕ) (table : TableName) (was is : Bool) (a b c : Held S) → slice_get tables n ≡ Some table → ArePassed g layout (take n tables) was a b
      → MatchBool is (Arises g layout table b c) (Stays g layout table b c) → ArePassed g layout (take (n + 1) tables) (was || is) a c
  passed_next tables n table was true a b c at before step = record {
    passed = Steps-next (Passes g layout) tables n table a b c at before.passed (inr step);
    there = λ none. absurd (never was none);
  }
    where
      never : (b : Bool) → (b || true) ≡ false → ⊥
      never true e = cc
      never false e = cc
  passed_next tables n table was false a b c at before step = record {
    passed = Steps-next (Passes g layout) tables n table a b c at before.passed (inl step);
    there = λ none. Steps-next (Stays g layout) tables n table a b c at (before.there (same was none)) step;
  }
    where
      same : (b : Bool) → (b || false) ≡ false → b ≡ false
      same true e = e
      same false e = e
