-- What steps in a row keep of a transaction, and a call that only reads of its connection and of the store.
use Rattle.mb_sqlite.proofs.Common.{begun, both_ways, CommitsNothing, Failure, false, Ghosts, GoesOn, HasCleanDisk, Held, inr, IsErrOf, IsPrepared, IsRolledBack, Ok, OnlyReads, OnOk, ReadsStore}
use Rattle.mb_sqlite.proofs.Common.{Result, Rose, SqliteStore, state, still_anyway, still_then, StoreError, StoreFault, subst, ◌∙◌, ◌≡◌, ◌≤◌}
use Rattle.mb_sqlite.proofs.CommitLemmas.{nothing_then, nothing_yet, once_then, undone_nothing}
use Rattle.mb_sqlite.proofs.ReadyLemmas.{leaves_ready}
use Rattle.mb_sqlite.proofs.RestingLemmas.{inside_then, inside_yet, rests_back, stays_then, stays_yet}

-- what the first step of a call answers
abbrev is_ready : Result (Unit {0}) StoreError
is_ready = Ok tt

module _ {S : Type 0} (g : Ghosts S) where
  -- the transaction still goes on
  abbrev pub Goes : Held S → Held S → Type 0
  Goes old new = GoesOn {A = Unit {0}} {E = Failure} g old new (Ok tt)

  pub goes_yet : (h : Held S) → Goes h h
  goes_yet h = record { survives = nothing_yet g h; stands = inside_yet g h; inside = stays_yet g h }

  pub goes_then : {A E : Type 0} (a b c : Held S) (r : Result A E) → Goes a b → GoesOn g b c r → GoesOn g a c r
  goes_then a b c r one two = record {
    survives = nothing_then g a b c one.survives two.survives;
    stands = inside_then g a b c two.survives one.stands one.inside two.stands;
    inside = still_then r (stays_then g a b c two.survives one.inside) two.inside;
  }

  pub goes_on : {A E : Type 0} (a b c : Held S) (x : A) → Goes a b → GoesOn {E = E} g b c (Ok x) → Goes a c
  goes_on a b c x one two = goes_then a b c (Ok tt) one (record { survives = two.survives; stands = two.stands; inside = two.inside })

  -- a transaction that is let go
  pub reads_back : {A B E : Type 0} (old first mid last end : Held S) (asked : Result B E) (r : Result A Failure) → old.in_transaction ≡ false → first ≡ begun old → GoesOn g first mid asked
      → CommitsNothing g mid last → (HasCleanDisk (state g last) → IsRolledBack (state g mid) (state g last)) → last.in_transaction ≡ false → last ≡ end → OnlyReads g old end r
  reads_back old first mid last end asked r outside opens kept step undone ended same = record {
    survives = subst (CommitsNothing g old) same (undone_nothing g old mid last (subst (λ h. CommitsNothing g h mid) opens kept.survives) step);
    inside = λ inside. absurd (both_ways _ outside inside);
    rests = λ _. rests_back g old first mid last end opens kept.stands step undone ended same;
  }

  -- a call that only reads, once the tables are there
  pub reads_store : {A B : Type 0} (s m t : SqliteStore S) (answer : Result B Failure) (r : Result A StoreError) → s.connection.in_transaction ≡ false → m.connection.in_transaction ≡ false → IsPrepared g s m
      → ReadsStore g s m is_ready → OnlyReads g m.connection t.connection answer → t.layout ≡ m.layout → t.is_made ≡ m.is_made → m.faults ≤ t.faults
      → (IsErrOf r StoreFault → Rose m.faults t.faults) → OnOk r (t.faults ≡ m.faults) → ReadsStore g s t r
  reads_store s m t answer r outside ended ready first step layout made more rose still = record {
    once = once_then g _ s.connection m.connection t.connection first.once step.survives;
    survives = λ is. nothing_then g s.connection m.connection t.connection (first.survives is) step.survives;
    leaves = leaves_ready g s.layout s.is_made t.is_made s.connection m.connection t.connection outside (made ∙ first.made) ready first.once (inr (step.rests ended));
    inside = λ inside. absurd (both_ways _ outside inside);
    layout = layout ∙ first.layout;
    made = still_anyway r (made ∙ first.made);
    faults = subst (λ n. n ≤ t.faults) first.fault.still more;
    fault = record {
      rose = λ is. subst (λ n. Rose n t.faults) first.fault.still (rose is);
      still = still_then r (λ same. same ∙ first.fault.still) still;
    };
  }
