-- A store that is filled from an archive, by what its calls answer.
use Rattle.set_import.proofs.Common.{anything, ap, Archive, arith, Bool, document_edits, editable, Edited, edits_loaded, Err, false, flat_made, fresh, Held, held_edited, held_filled, IfErr, IfSome}
use Rattle.set_import.proofs.Common.{ImportCauses, ImportError, inl, inr, is_unwritten, IsAnswered, IsAnsweredAs, IsBase, IsBegun, IsErrOf, IsFilled, IsFilledSet, IsLeft, IsLoadedFrom, IsSaidBy}
use Rattle.set_import.proofs.Common.{IsSound, List, MakesChanges, MbtError, named_still, None, of_store_error, Ok, Option, OutOfMemory, PmtError, refl, Result, SaidAnswers, SaidCauses, Some, started}
use Rattle.set_import.proofs.Common.{State, state_edited, state_filled, state_of, Store, subst, sym, Tables, TileJson, tiles_put, true, true≢false, ℕ, [], ◌+◌, ◌↔◌, ◌∙◌, ◌≡◌, ◌≤◌, ◌⊎◌}
use Rattle.base_values.specs.Counts.{Rose}
use Rattle.mb_edit.proofs.PutLemmas.{put_loaded, put_named, put_state}
use Rattle.mb_load.proofs.CommittedLemmas.{is_committed}
use Rattle.mb_load.specs.Committed.{IsCommitted}
use Rattle.mb_tables.specs.Refusals as tests
use Rattle.mb_tables.specs.declared.error.MbtError.TheVariants as stores
use Rattle.pm_format.specs.declared.error.PmtError.TheVariants as errors
use Rattle.pm_format.specs.declared.error.ReadCause.TheVariants as causes
use Rattle.tile_import.specs.Refusals.{is_free}

-- an error that a store may answer in any call
pub either_free : (e : MbtError) → (e ≡ stores.StoreFault) ⊎ (e ≡ stores.OutOfMemory) → tests.is_free e ≡ true
either_free e (inl is) = ap tests.is_free is
either_free e (inr is) = ap tests.is_free is

pub each_free : (r : Result (Unit {0}) MbtError) → IfErr r (λ e. (e ≡ stores.StoreFault) ⊎ (e ≡ stores.OutOfMemory)) → IfErr r (λ e. tests.is_free e ≡ true)
each_free (Ok u) h = tt
each_free (Err e) h = either_free e h

pub free_of_store : (e : MbtError) → tests.is_free e ≡ true → is_unwritten (of_store_error e) ≡ true
free_of_store stores.StoreFault free = refl
free_of_store stores.OutOfMemory free = refl
free_of_store e free = absurd (true≢false (sym free))

unwritten_free : (e : ImportError) → is_unwritten e ≡ true → is_free e ≡ true
unwritten_free (Store stores.StoreFault) h = refl
unwritten_free OutOfMemory h = refl
unwritten_free e h = absurd (true≢false (sym h))

pub not_unwritten : {A : Type 0} (e : MbtError) → tests.is_free e ≡ true → is_unwritten (of_store_error e) ≡ false → A
not_unwritten e free owed = absurd (true≢false (sym (free_of_store e free) ∙ owed))

-- a set that was loaded from a store that was only read before
pub moved_begun : (tells now : Bool) (old new : Tables) (r : Result State MbtError) → now ≡ tells → new ≡ old → IsBegun editable now (started new) r → IsBegun editable tells (started old) r
moved_begun tells now old new r still same b = record {
  tables = b.tables;
  is_told = λ told. b.is_told (still ∙ told) ∙ ap started same;
  answers = b.answers;
}

pub moved_answer : (most : ℕ) (told : Option (List ℕ)) (tells now : Bool) (old new : Tables) (r : Result ℕ ImportError) → now ≡ tells → new ≡ old → IsAnswered most told now (started new) r → IsAnswered most told tells (started old) r
moved_answer most told tells now old new r still same a = record {
  tables = a.tables;
  is_store = λ t. a.is_store (still ∙ t) ∙ ap started same;
  found = a.found;
  is_archive = a.is_archive;
  answers = a.answers;
}

pub moved_new : (is_new : Bool) (old new : Tables) → new ≡ old → ((is_new ≡ true) ↔ (old.descriptions ≡ [])) → ((is_new ≡ true) ↔ (new.descriptions ≡ []))
moved_new is_new old new same is = subst (λ (t : Tables). (is_new ≡ true) ↔ (t.descriptions ≡ [])) (sym same) is

-- such an error stands in the place of any answer
pub free_answered : (most : ℕ) (told : Option (List ℕ)) (tells : Bool) (store : Tables) (e : MbtError) → tests.is_free e ≡ true → IsAnswered most told tells store (Err (of_store_error e))
free_answered most told tells store e free =
    let any = anything told most in
    record {
      tables = store;
      is_store = λ t. refl;
      found = any.0;
      is_archive = any.1;
      answers = λ owed. absurd (true≢false (sym (unwritten_free (of_store_error e) (free_of_store e free)) ∙ owed));
    }

-- why a call of a store is refused
store_causes : {T : Type 0} (most before now old new : ℕ) (e : MbtError) → (IsErrOf {T = T} (Err e) stores.StoreFault → Rose old new) → ImportCauses most before now old new (Err (of_store_error e))
store_causes most before now old new stores.StoreFault fault = fault refl
store_causes most before now old new stores.OutOfMemory fault = tt
store_causes most before now old new e fault = tt

-- the same where other calls of the store came before
pub later_causes : {T : Type 0} (most before now f m new : ℕ) (e : MbtError) → f ≤ m → (IsErrOf {T = T} (Err e) stores.StoreFault → Rose m new) → ImportCauses most before now f new (Err (of_store_error e))
later_causes {T} most before now f m new e le fault = store_causes {T = T} most before now f new e (λ is. let rose = fault is in omega (arith, le, rose))

pub later_answer : (most before now f m new : ℕ) (r : Result ℕ ImportError) → f ≤ m → ImportCauses most before now m new r → ImportCauses most before now f new r
later_answer most before now f m new (Err (Store stores.StoreFault)) le c = omega (arith, le, c)
later_answer most before now f m new r le c = c

-- a set with tiles and names over it is loaded from tables still, and its commit fills them
module _ (told : Option (List ℕ)) (t : TileJson) (made new : Tables) (n : ℕ) (base next : Held) (begun : IsBase made base) (filled : IsFilledSet told t base next n) where
  as_fresh : base ≡ fresh base.state
  as_fresh = ap (λ (e : Edited). record { state = base.state; edited = e }) begun.clean

  is_next : next ≡ held_filled base.state filled.put.tiles t
  is_next = filled.named ∙ ap (λ (h : Held). held_edited h (document_edits t)) (filled.put.is ∙ ap (λ (h : Held). tiles_put h filled.put.tiles) as_fresh)

  from : IsLoadedFrom made (held_filled base.state filled.put.tiles t)
  from = edits_loaded made (tiles_put (fresh base.state) filled.put.tiles) (document_edits t) (put_loaded made (fresh base.state) filled.put.tiles filled.put.may filled.put.on_board (subst (IsLoadedFrom made) as_fresh begun.loaded))

  is_state : (held_filled base.state filled.put.tiles t).state ≡ state_filled base.state filled.put.tiles t
  is_state = ap (λ (s : State). state_edited s (document_edits t)) (put_state (fresh base.state) filled.put.tiles)

  pub are_filled : state_of made ≡ Ok base.state → IsSound new → MakesChanges next made new → IsFilled told t made new n
  are_filled loaded sound done =
      let commits : MakesChanges (held_filled base.state filled.put.tiles t) made new = subst (λ (h : Held). MakesChanges h made new) is_next done in
      let rows : IsCommitted (held_filled base.state filled.put.tiles t) made new = is_committed (held_filled base.state filled.put.tiles t) made new commits.changes from commits.are commits.made sound in
      record {
        tiles = filled.put.tiles;
        are = filled.put.are;
        count = filled.put.count;
        base = base.state;
        loaded = loaded;
        rows = rows;
        commits = commits;
        again = λ free. rows.again (named_still (tiles_put (fresh base.state) filled.put.tiles).state (document_edits t) free (put_named (fresh base.state) filled.put.tiles begun.named)) ∙ ap Ok is_state;
      }

-- what a commit that is refused leaves
pub are_left : (old mid new : Tables) (e : MbtError) → mid ≡ old → tests.is_free e ≡ true → (new ≡ mid) ⊎ ((mid.descriptions ≡ []) × (new ≡ flat_made mid)) → IsLeft old new (of_store_error e)
are_left old mid new e same free (inl is) = inl (is ∙ same)
are_left old mid new e same free (inr is) = inr (ap (λ (t : Tables). t.descriptions) (sym same) ∙ is.0, is.1 ∙ ap flat_made same, free_of_store e free)

-- an archive that can't be read, or what it says of itself
unsaid_answer : (told : Option (List ℕ)) (most : ℕ) (tells : Bool) (store : Tables) (e : PmtError) → IfSome told (λ b. SaidAnswers b (Err (Archive e))) → IsAnsweredAs most told tells store (Err (Archive e))
unsaid_answer told most tells store (errors.Reading causes.Fault) h = inl refl
unsaid_answer told most tells store (errors.Reading causes.PastEnd) h = inr record { said = Err (errors.Reading causes.PastEnd); is_said = h; due = λ owed. refl }
unsaid_answer told most tells store e h = inr record { said = Err e; is_said = h; due = λ owed. refl }

pub unread : (told : Option (List ℕ)) (most : ℕ) (tells : Bool) (store : Tables) (before now : ℕ) (e : ImportError) → IfSome told (λ b. SaidAnswers b (Err e)) → SaidCauses before now e → IsAnsweredAs most told tells store (Err e)
unread told most tells store before now (Archive e) h c = unsaid_answer told most tells store e h
unread told most tells store before now OutOfMemory h c = inl refl
unread told most tells store before now e h c = absurd c

-- or else the import
pub filled_answer : (told other : Option (List ℕ)) (most : ℕ) (tells : Bool) (store : Tables) (t : TileJson) (r : Result ℕ ImportError) → other ≡ told → IfSome told (λ b. IsSaidBy b t) → IsAnswered most other tells (started store) r → IsAnsweredAs most told tells store r
filled_answer told other most tells store t r same said a = inr record { said = Ok t; is_said = said; due = subst (λ (o : Option (List ℕ)). IsAnswered most o tells (started store) r) same a }

-- reads before a call
pub reads_more : (told other : Option (List ℕ)) (f : List ℕ → ℕ) (before m now : ℕ) → other ≡ told → m ≤ before + 2 → IfSome other (λ b. now ≤ m + f b) → IfSome told (λ b. now ≤ before + (2 + f b))
reads_more told other f before m now same le h = subst (λ (o : Option (List ℕ)). IfSome o (λ b. now ≤ before + (2 + f b))) same (by other h)
  where
    by : (o : Option (List ℕ)) → IfSome o (λ b. now ≤ m + f b) → IfSome o (λ b. now ≤ before + (2 + f b))
    by None h = tt
    by (Some b) h = omega (arith, le, h)
