-- Questions to a database, all of one state.
use Rattle.mb_reading.proofs.Common.{Advances, arith, Command, CommitsNothing, CommitsShowing, Compiled, CompileError, Err, FailsToAdvance, FailsToQuery, FailsToShow, GivesOn, HasBegun, HasCleanDisk}
use Rattle.mb_reading.proofs.Common.{HasGiven, Held, inl, inr, is_input, IsNotRun, IsSourceOf, IsTrue, IsUnchanged, List, None, Ok, OnlyAsks, Option, reads_listing, refl, Refuses, Result, Returns}
use Rattle.mb_reading.proofs.Common.{Row, Schema, Shown, Shows, ShowsRows, Some, State, state, Stays, store_error, subst, Survives, sym, true, understood, ℕ, [], ◌++◌, ◌∙◌, ◌∷◌, ◌≡◌}
use Rattle.sqlite.specs.Effect.{Database, RefusesToRead}
use Rattle.sqlite.specs.Store.{Ghosts}
use Rattle.sqlite.specs.Clock.{timed}
use Rattle.sqlite.specs.Command.TheVariants.{Select, Rows}
use Rattle.sqlite.specs.declared.error.Error.{Error}
use Rattle.sqlite.specs.declared.error.Error.TheVariants.{SqlInputError}
use Rattle.sqlite.proofs.Callers.{unchanged_then}
use Rattle.sqlite.proofs.StateLemmas.{survives_then, survives_weaker}
use Rattle.sqlite_trees.specs.declared.error.StoreError.{StoreError}
use Rattle.sqlite_trees.specs.declared.error.StoreError.TheVariants.{OutOfMemory, Io, Corrupt, Full, Broken, Unstorable}

pub nothing_yet : {S : Type 0} (g : Ghosts S) (h : Held S) → CommitsNothing g h h
nothing_yet g h = record { clean = omega arith; shield = λ k. k; counts = omega arith; limit = refl; closes = λ _ k. inl k; crash = λ _ db k. inl k }

pub clean_before : {S : Type 0} (g : Ghosts S) (a b : Held S) → CommitsNothing g a b → HasCleanDisk (state g b) → HasCleanDisk (state g a)
clean_before g a b step clean = omega (arith, clean, step.clean)

pub commits_then : {S : Type 0} (g : Ghosts S) (a b c : Held S) → CommitsNothing g a b → CommitsNothing g b c → CommitsNothing g a c
commits_then g a b c = survives_then (state g a) (state g b) (state g c) _ _ _ (λ _ _ none. none) (λ _ _ none. none)

-- what is open and as it was
open_stays : (s : State) → IsTrue s.is_open → IsUnchanged s s
open_stays s is = (record { was_open = is; is_open = is; now_is = refl; committed_is = refl; mode = refl }, record { changes = refl; last_rowid = refl }, refl)

pub stays_here : (s : State) → Stays s s
stays_here s = record { now = refl; same = open_stays s }

pub stays_by : (a b : State) → IsUnchanged a b → Stays a b
stays_by a b same = record { now = same.0.now_is; same = λ _. same }

pub stays_then : (a b c : State) → Stays a b → Stays b c → Stays a c
stays_then a b c one two = record { now = two.now ∙ one.now; same = λ is. let late = two.same is in unchanged_then a b c (one.same late.0.was_open) late }

-- what is understood in an earlier state
pub same_meaning : (text : List ℕ) (s a : State) (r : Result Compiled CompileError) → a.now ≡ s.now → understood a.now.schema text ≡ r → understood s.now.schema text ≡ r
same_meaning text s a r = subst (λ (d : Database). understood d.schema text ≡ r)

-- no failure of a store, and no refusal of a query that runs, is one of its text
not_by_store : (cause : StoreError) (fault : CompileError) → ¬ (SqlInputError fault ≡ store_error cause)
not_by_store OutOfMemory fault h = let e = h in cc
not_by_store Io fault h = let e = h in cc
not_by_store Corrupt fault h = let e = h in cc
not_by_store Full fault h = let e = h in cc
not_by_store Broken fault h = let e = h in cc
not_by_store Unstorable fault h = let e = h in cc

not_by_reading : (limit : Option ℕ) (command : Command) (db : Database) (params : Row) (fault : CompileError) → ¬ RefusesToRead limit command db params (SqlInputError fault)
not_by_reading limit (Select q names) db params fault (inl h) = let e = h.0 in cc
not_by_reading limit (Select q names) db params fault (inr (inl h)) = let e = h.0 in cc
not_by_reading limit (Select q names) db params fault (inr (inr h)) = let e = h.0 in cc
not_by_reading limit (Rows values width names) db params fault h = let e = h.0 in cc
not_by_reading limit _ db params fault h = let e = h in cc

pub input_by : (e : Error) → is_input e ≡ true → (fault : CompileError) × (e ≡ SqlInputError fault)
input_by (SqlInputError fault) is = (fault, refl)
input_by _ is = absurd (let e = is in cc)

module _ (text : List ℕ) (asks : OnlyAsks text) where
  -- the rows are those of the state before, which stays
  pub asked : (a b : State) (rows : List Row) → Shown text [] a b rows → Shows text a rows × IsUnchanged a b
  unfolding Shown
  asked a b rows h =
      let none = asks _ h.0 h.1.is in
      let full = timed [] h.0.formats h.1.now in
      let it = subst (ShowsRows a b text h.0 full rows) none h.2 in
      ((h.0, h.1, subst (ShowsRows a a text h.0 full rows) (sym none) (it.0, it.1, it.2, open_stays a it.3.0.was_open)), it.3)

  pub shows_open : (a : State) (rows : List Row) → Shows text a rows → IsTrue a.is_open
  shows_open a rows h = (asked a a rows h).1.0.was_open

  -- what is shown was shown before
  pub shows_before : (s a : State) (rows : List Row) → IsUnchanged s a → Shows text a rows → Shows text s rows
  unfolding Shown
  shows_before s a rows same h =
      let none = asks _ h.0 h.1.is in
      let full = timed [] h.0.formats h.1.now in
      let it = subst (ShowsRows a a text h.0 full rows) none h.2 in (
        h.0,
        record { is = same_meaning text s a _ same.0.now_is h.1.is; whole = h.1.whole; given = h.1.given; now = h.1.now },
        subst (ShowsRows s s text h.0 full rows) (sym none) (it.0, subst (λ (d : Database). IsSourceOf (reads_listing d.schema text) d it.0) same.0.now_is it.1, it.2, open_stays s same.0.was_open),
      )

  pub refuses : (a b : State) (e : Error) → FailsToQuery text [] a b e → Refuses text a b e
  unfolding FailsToQuery IsNotRun
  refuses a b e (inl (inl (inl other, same))) fault is = (let same_fault : other.0 ≡ fault = (let one = sym other.2 ∙ is in cc) in subst (λ f. understood a.now.schema text ≡ Err f) same_fault other.1, same)
  refuses a b e (inl (inl (inr (c, known, inl long), same))) fault is = absurd (let one = sym long.1 ∙ is in cc)
  refuses a b e (inl (inl (inr (c, known, inr (inl count)), same))) fault is = absurd (let one = sym count.1 ∙ is in cc)
  refuses a b e (inl (inl (inr (c, known, inr (inr clock)), same))) fault is = absurd (let one = sym clock.1 ∙ is in cc)
  refuses a b e (inl (inr failed)) fault is = absurd (not_by_store failed.0 fault (sym is ∙ failed.1))
  refuses a b e (inr h) fault is =
      let none = asks _ h.0 h.1.is in
      let it = subst (FailsToShow a b text h.0 (timed [] h.0.formats h.1.now) e) none h.2 in
      absurd (not_by_reading a.step_limit h.0.command it.0 _ fault (subst (RefusesToRead a.step_limit h.0.command it.0 (timed [] h.0.formats h.1.now)) is it.2))

  pub refuses_before : (s a b : State) (e : Error) → IsUnchanged s a → Refuses text a b e → Refuses text s b e
  refuses_before s a b e same h fault is = (same_meaning text s a _ same.0.now_is (h fault is).0, unchanged_then s a b same (h fault is).1)

  never_returns : (schema : Schema) → ¬ Returns (understood schema text)
  never_returns schema = by (understood schema text) (λ c is. asks schema c is)
    where
      by : (r : Result Compiled CompileError) → ((c : Compiled) → r ≡ Ok c → c.returning ≡ None) → ¬ Returns r
      by (Ok c) none some = absurd (let it = rw (none c refl) at some in cc)
      by (Err e) none some = some

  pub commits_nothing : (a b : State) → Survives a b (CommitsShowing text [] a) → Survives a b (λ _. ⊥)
  unfolding CommitsShowing
  commits_nothing a b = survives_weaker a b _ _ (λ _ db h. let some = h.2 in absurd (let it = rw (asks _ h.0 h.1.is) at some in cc))

  module _ {S : Type 0} (g : Ghosts S) where
    pub begun : (old new : Held S) → HasBegun g text [] old new → HasGiven g text [] new [] × IsUnchanged (state g old) (state g new)
    begun old new (inl h) = h
    begun old new (inr h) = absurd (never_returns _ h.0)

    pub goes_on : (first old new : Held S) (given : List Row) (row : Option Row) (answer : Row) → HasGiven g text [] old given → IsUnchanged (state g first) (state g old) → Advances g old new row → row ≡ Some answer
        → IsUnchanged (state g old) (state g new) → HasGiven g text [] new (given ++ answer ∷ []) × IsUnchanged (state g first) (state g new)
    goes_on first old new given row answer has same on is step = (subst (GivesOn g text [] old new given) is (on text [] given has), unchanged_then _ _ _ same step)

    -- those so far are the answer of the first state
    pub ends : (first old new : Held S) (given : List Row) (row : Option Row) → HasGiven g text [] old given → IsUnchanged (state g first) (state g old) → Advances g old new row → row ≡ None
        → Shows text (state g first) given × IsUnchanged (state g first) (state g new)
    ends first old new given row has same on is =
        let shown = asked (state g old) (state g new) given (subst (GivesOn g text [] old new given) is (on text [] given has)) in
        (shows_before (state g first) (state g old) given same shown.0, unchanged_then _ _ _ same shown.1)

    pub refuses_on : (first old new : Held S) (given : List Row) (e : Error) → HasGiven g text [] old given → IsUnchanged (state g first) (state g old) → FailsToAdvance g old new e → Refuses text (state g first) (state g new) e
    refuses_on first old new given e has same on = refuses_before (state g first) (state g old) (state g new) e same (refuses (state g old) (state g new) e (on text [] given has))
