-- Answers over stores that tell their tables or not.
use Rattle.mb_edit.proofs.Common.{answer_of, Answers, ap, applied, Bool, Err, false, false≢true, is_free, IsAnsweredBy, MbtError, Ok, refl, Result, State, state_of, step, subst, sym, Tables, then}
use Rattle.mb_edit.proofs.Common.{true, ◌∙◌, ◌≡◌}

-- tables that are those that are told, where they are, and of which a fact holds
pub record SomeTables (tells : Bool) (told : Tables) (P : Tables → Type 0) : Type 0 where
  pub tables : Tables
  pub is : tells ≡ true → tables ≡ told
  pub fact : P tables

pub some_tables : (tells : Bool) (told : Tables) (P : Tables → Type 0) → (tells ≡ true → P told) → ((t : Tables) × P t) → SomeTables tells told P
some_tables true told P it own = record { tables = told; is = λ _. refl; fact = it refl }
some_tables false told P it own = record { tables = own.0; is = λ e. absurd (false≢true e); fact = own.1 }

module _ (force base_tells : Bool) (base_told : Tables) (patch_tells : Bool) (patch_told : Tables) where
  -- the set is refused
  pub base_refused : (e : MbtError) → SomeTables base_tells base_told (λ t. is_free e ≡ false → state_of t ≡ Err e) → IsAnsweredBy force base_tells base_told patch_tells patch_told (Err e)
  base_refused e b = record {
    base = b.tables;
    is_base = b.is;
    patch = patch_told;
    is_patch = λ _. refl;
    answers = λ free. ap (λ (r : Result State MbtError). answer_of (then r (λ s. then (state_of patch_told) (λ q. step force s q)))) (b.fact free);
  }

  -- the patch is refused
  pub patch_refused : (e : MbtError) (s : State) → SomeTables base_tells base_told (λ t. state_of t ≡ Ok s) → SomeTables patch_tells patch_told (λ t. is_free e ≡ false → state_of t ≡ Err e) → IsAnsweredBy force base_tells base_told patch_tells patch_told (Err e)
  patch_refused e s b p = record {
    base = b.tables;
    is_base = b.is;
    patch = p.tables;
    is_patch = p.is;
    answers = λ free. ap (λ (r : Result State MbtError). answer_of (then r (λ s. then (state_of p.tables) (λ q. step force s q)))) b.fact
        ∙ ap (λ (r : Result State MbtError). answer_of (then r (λ q. step force s q))) (p.fact free);
  }

  -- both are loaded: the answer of the step
  pub step_answered : (r : Result (Unit {0}) MbtError) (s q : State) → SomeTables base_tells base_told (λ t. state_of t ≡ Ok s) → SomeTables patch_tells patch_told (λ t. state_of t ≡ Ok q) → Answers (answer_of (step force s q)) r → IsAnsweredBy force base_tells base_told patch_tells patch_told r
  step_answered r s q b p h =
      let same : applied force b.tables p.tables ≡ step force s q =
      ap (λ (r : Result State MbtError). then r (λ s. then (state_of p.tables) (λ q. step force s q))) b.fact ∙ ap (λ (r : Result State MbtError). then r (λ q. step force s q)) p.fact in
      record {
        base = b.tables;
        is_base = b.is;
        patch = p.tables;
        is_patch = p.is;
        answers = subst (λ (x : Result State MbtError). Answers (answer_of x) r) (sym same) h;
      }
