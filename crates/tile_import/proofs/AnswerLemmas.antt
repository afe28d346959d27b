-- What an import answers, by what loading, reading and storing do.
use Rattle.tile_import.proofs.Common.{Answers, ap, Bool, editable, editable_due, Err, false, found_due, HasTilesOf, IfSome, import_due, ImportCauses, ImportError, is_editable, is_free, IsAnswered}
use Rattle.tile_import.proofs.Common.{IsPutAnswer, IsRead, len, List, may_put, MbtError, None, of_store_error, Ok, Option, OutOfMemory, put_due, PutCauses, Reads, refl, Result, Some, State, Store}
use Rattle.tile_import.proofs.Common.{StoreCauses, subst, sym, Tables, then, TileSet, true, true≢false, unless_numbered, ℕ, ◌∙◌, ◌≡◌}
use Rattle.mb_load.specs.Begun.{IsBegun, begun}
use Rattle.mb_load.specs.StateOf.{state_of}
use Rattle.mb_tables.specs.Refusals as tests
use Rattle.mb_tables.specs.declared.error.MbtError.TheVariants as stores
use Rattle.tile_import.proofs.RefusalLemmas.{something_read}

-- what told bytes give, or anything
pub anything : (told : Option (List ℕ)) (most : ℕ) → (found : Result TileSet ImportError) × IfSome told (λ b. IsRead most b found)
anything None most = (Err OutOfMemory, tt)
anything (Some b) most = something_read most b

-- an error of a store that isn't free is refused by it
store_error : (e : MbtError) → is_free (of_store_error e) ≡ false → (tests.is_free e ≡ false) × (of_store_error e ≡ Store e)
store_error stores.OutOfMemory free = absurd (true≢false free)
store_error stores.StoreFault free = absurd (true≢false free)
store_error e free = (refl, refl)

-- a set that was loaded, or the refusal
abbrev DueOf : State → MbtError → Bool → Type 0
DueOf s e b = (x : Result TileSet ImportError) → editable_due s x b ≡ Err (Store e)

editable_refused : (s : State) (e : MbtError) (b : Bool) → unless_numbered s b ≡ Err e → DueOf s e b
editable_refused s e true is = absurd (cc)
editable_refused s e false is = λ x. cc

begun_refused : (t : Tables) (e : MbtError) (found : Result TileSet ImportError) → begun editable t ≡ Err e → import_due (state_of t) found ≡ Err (Store e)
unfolding begun
begun_refused t e found is = by (state_of t) is
  where
    by : (r : Result State MbtError) → then r editable ≡ Err e → import_due r found ≡ Err (Store e)
    by (Err x) is = cc
    by (Ok s) is = editable_refused s e (is_editable s.layout) is found

-- the state of a set that was loaded
editable_taken : (s base : State) (b : Bool) → unless_numbered s b ≡ Ok base → (s ≡ base) × (b ≡ true)
editable_taken s base true is = (cc, refl)
editable_taken s base false is = absurd (cc)

begun_taken : (t : Tables) (base : State) (found : Result TileSet ImportError) → begun editable t ≡ Ok base → import_due (state_of t) found ≡ found_due base found
unfolding begun
begun_taken t base found is = by (state_of t) is
  where
    by : (r : Result State MbtError) → then r editable ≡ Ok base → import_due r found ≡ found_due base found
    by (Err x) is = absurd (cc)
    by (Ok s) is =
        let p = editable_taken s base (is_editable s.layout) is in
        ap (editable_due s found) p.1 ∙ ap (λ z. found_due z found) p.0

pub begun_state : (t : Tables) (base : State) → begun editable t ≡ Ok base → state_of t ≡ Ok base
unfolding begun
begun_state t base is = by (state_of t) is
  where
    by : (r : Result State MbtError) → then r editable ≡ Ok base → r ≡ Ok base
    by (Err x) is = absurd (cc)
    by (Ok s) is = ap Ok (editable_taken s base (is_editable s.layout) is).0

module _ (most : ℕ) (told : Option (List ℕ)) (tells : Bool) (store : Tables) where
  -- loading refuses
  pub load_answered : (e : MbtError) → IsBegun editable tells store (Err e) → IsAnswered most told tells store (Err (of_store_error e))
  load_answered e began =
      let any = anything told most in
      record {
        tables = began.tables;
        is_store = began.is_told;
        found = any.0;
        is_archive = any.1;
        answers = λ free. let s = store_error e free in begun_refused began.tables e any.0 (began.answers s.0) ∙ ap Err (sym s.1);
      }

  -- a set was loaded, and the archive put over it or refused
  pub put_answered : (base : State) (r : Result ℕ ImportError) → IsBegun editable tells store (Ok base) → IsPutAnswer most told base r → IsAnswered most told tells store r
  put_answered base r began put = record {
    tables = began.tables;
    is_store = began.is_told;
    found = put.found;
    is_archive = put.is_archive;
    answers = subst (λ (due : Result ℕ ImportError). Answers due r) (sym (begun_taken began.tables base put.found began.answers)) put.answers;
  }

  -- the store doesn't take the set
  pub commit_answered : (base : State) (e : MbtError) → IsBegun editable tells store (Ok base) → tests.is_free e ≡ true → IsAnswered most told tells store (Err (of_store_error e))
  commit_answered base e began failed =
      let any = anything told most in
      record {
        tables = began.tables;
        is_store = began.is_told;
        found = any.0;
        is_archive = any.1;
        answers = λ free. absurd (true≢false (sym failed ∙ (store_error e free).0));
      }

module _ (most : ℕ) (told : Option (List ℕ)) (base : State) where
  -- the archive is refused
  pub read_answered : (e : ImportError) → IfSome told (λ b. Reads most b (Err e)) → IsPutAnswer most told base (Err e)
  read_answered e is = by (is_free e) refl
    where
      read : (o : Option (List ℕ)) → is_free e ≡ false → IfSome o (λ b. Reads most b (Err e)) → IfSome o (λ b. IsRead most b (Err e))
      read None free is = tt
      read (Some b) free is = is free

      by : (b : Bool) → is_free e ≡ b → IsPutAnswer most told base (Err e)
      by true at =
          let any = anything told most in
          record { found = any.0; is_archive = any.1; answers = λ free. absurd (true≢false (sym at ∙ free)) }
      by false at = record { found = Err e; is_archive = read told at is; answers = λ free. refl }

  -- the set doesn't take its tiles
  pub put_refused : (tiles : TileSet) (e : MbtError) → IfSome told (λ b. Reads most b (Ok tiles)) → (tests.is_free e ≡ false → may_put base tiles ≡ Some e) → IsPutAnswer most told base (Err (of_store_error e))
  put_refused tiles e is due = record {
    found = Ok tiles;
    is_archive = is;
    answers = λ free. let s = store_error e free in ap (put_due tiles) (due s.0) ∙ ap Err (sym s.1);
  }

  -- or it does
  pub all_put : (tiles : TileSet) (n : ℕ) → IfSome told (λ b. Reads most b (Ok tiles)) → may_put base tiles ≡ None → n ≡ len tiles → IsPutAnswer most told base (Ok n)
  all_put tiles n is fine count = record { found = Ok tiles; is_archive = is; answers = ap (put_due tiles) fine ∙ ap Ok (sym count) }

-- why a set doesn't take them, and an import neither
pub unput_causes : (most before now : ℕ) (e : MbtError) → (e ≡ stores.StoreFault → ⊥) → PutCauses most before now (Err (of_store_error e))
unput_causes most before now stores.StoreFault unfaulted = absurd (unfaulted refl)
unput_causes most before now stores.OutOfMemory unfaulted = tt
unput_causes most before now e unfaulted = refl

owed_causes : (old new : ℕ) (e : MbtError) → tests.is_free e ≡ false → StoreCauses old new e
owed_causes old new stores.StoreFault owed = absurd (true≢false owed)
owed_causes old new stores.OutOfMemory owed = absurd (true≢false owed)
owed_causes old new e owed = tt

pub put_causes : (most before now old new : ℕ) (r : Result ℕ ImportError) → PutCauses most before now r → ImportCauses most before now old new r
put_causes most before now old new (Ok n) c = c
put_causes most before now old new (Err (Store e)) c = owed_causes old new e c
put_causes most before now old new (Err e) c = c

-- the state of a store that tells its tables
pub loaded_state : (tells : Bool) (store : Tables) (base : State) → IsBegun editable tells store (Ok base) → tells ≡ true → state_of store ≡ Ok base
loaded_state tells store base began is = subst (λ (t : Tables). state_of t ≡ Ok base) (began.is_told is) (begun_state began.tables base began.answers)

pub are_tiles : (told : Option (List ℕ)) (most : ℕ) (tiles : TileSet) → IfSome told (λ b. Reads most b (Ok tiles)) → IfSome told (λ b. HasTilesOf b tiles)
are_tiles None most tiles is = tt
are_tiles (Some b) most tiles is = is.1
