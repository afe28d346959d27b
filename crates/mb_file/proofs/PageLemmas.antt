-- A page that is loaded, and why it isn't, as the pager and as the trees say it.
use Rattle.std.proofs.Common.{IfSome, inl, inr, IsSome, List, None, Option, refl, Some, subst, sym, ℕ, ◌≡◌}
use Rattle.std.specs.Prelude.{⊤, ◌⊎◌}
use Rattle.sqlite_pages.specs.Outcome.{IsExcused, IsHonest}
use Rattle.sqlite_pages.specs.declared.error.Error.{Error as Told}
use Rattle.sqlite_pool.specs.Report.{reported}
use Rattle.sqlite_wal.specs.Outcome.{HasCause, OnlyIf}
use Rattle.sqlite_wal.specs.declared.error.Error.{Error}
use Rattle.sqlite_wal.specs.declared.error.Error.TheVariants as kind

pub shown : (o : Option (List ℕ)) (bytes : List ℕ) → o ≡ Some bytes → IfSome o (λ b. bytes ≡ b)
shown o bytes is = subst (λ o. IfSome o (λ b. bytes ≡ b)) (sym is) refl

pub there_is : (o : Option (List ℕ)) → IsSome o → o ≡ None → ⊥
there_is None there none = absurd (let e = there in cc)
there_is (Some x) there none = absurd (let e = none in cc)

module _ (before now : ℕ) (Closed Missing Shut : Type 0) where
  excused : (e : Error) → HasCause before now (λ e. OnlyIf kind.Closed Closed e ⊎ OnlyIf kind.NoSuchPage Missing e) e → (Closed → Shut) → (Missing → ⊥)
      → IsExcused before (record { faults = now; IsShut = Shut; IsFull = ⊤ }) (reported e)
  excused (kind.Io e) cause shut there = inl cause
  excused kind.OutOfMemory cause shut there = tt
  excused kind.Closed (inl (is, closed)) shut there = inr (shut closed)
  excused kind.Closed (inr (is, none)) shut there = absurd (let e = is in cc)
  excused kind.NoSuchPage (inl (is, closed)) shut there = absurd (let e = is in cc)
  excused kind.NoSuchPage (inr (is, none)) shut there = absurd (there none)
  excused kind.Full cause shut there = inl tt
  excused kind.Corrupt (inl (is, closed)) shut there = absurd (let e = is in cc)
  excused kind.Corrupt (inr (is, none)) shut there = absurd (let e = is in cc)
  excused kind.Exists (inl (is, closed)) shut there = absurd (let e = is in cc)
  excused kind.Exists (inr (is, none)) shut there = absurd (let e = is in cc)

  pub excused_by : (e : Error) (r : Told) → r ≡ reported e → HasCause before now (λ e. OnlyIf kind.Closed Closed e ⊎ OnlyIf kind.NoSuchPage Missing e) e → (Closed → Shut) → (Missing → ⊥)
      → IsExcused before (record { faults = now; IsShut = Shut; IsFull = ⊤ }) r
  excused_by e r is cause shut there = subst (λ r. IsExcused before (record { faults = now; IsShut = Shut; IsFull = ⊤ }) r) (sym is) (excused e cause shut there)

  honest : (e : Error) → HasCause before now (λ e. OnlyIf kind.Closed Closed e ⊎ OnlyIf kind.NoSuchPage Missing e) e → (Closed → Shut)
      → IsHonest before (record { faults = now; IsShut = Shut; IsFull = ⊤ }) ⊥ (reported e)
  honest (kind.Io e) cause shut = inl cause
  honest kind.OutOfMemory cause shut = tt
  honest kind.Closed (inl (is, closed)) shut = inr (shut closed)
  honest kind.Closed (inr (is, none)) shut = absurd (let e = is in cc)
  honest kind.NoSuchPage cause shut = tt
  honest kind.Full cause shut = inl tt
  honest kind.Corrupt cause shut = tt
  honest kind.Exists cause shut = tt

  pub honest_by : (e : Error) (r : Told) → r ≡ reported e → HasCause before now (λ e. OnlyIf kind.Closed Closed e ⊎ OnlyIf kind.NoSuchPage Missing e) e → (Closed → Shut)
      → IsHonest before (record { faults = now; IsShut = Shut; IsFull = ⊤ }) ⊥ r
  honest_by e r is cause shut = subst (λ r. IsHonest before (record { faults = now; IsShut = Shut; IsFull = ⊤ }) ⊥ r) (sym is) (honest e cause shut)
