-- Which counts of faults stand where a step ends a conversion.
use Rattle.tile_bridge.proofs.Common.{ap, ConvertError, Err, IsAt, IsErrAnd, List, MbtError, MediumFault, MediumStands, MediumStandsAt, of_read_error, of_write_error, Ok, OthersStand, OutOfMemory, PmtError, refl, refusal_at, Result}
use Rattle.tile_bridge.proofs.Common.{slice_index, Store, StoreFault, StoresStand, StoresStandAt, subst, suc, sym, zero, ℕ, ◌∙◌, ◌∷◌, ◌≡◌}
use Rattle.mb_tables.specs.declared.error.MbtError.TheVariants as tables
use Rattle.pm_format.specs.Faults.{StandsAtError}
use Rattle.pm_format.specs.declared.error.PmtError.TheVariants as errors
use Rattle.pm_format.specs.declared.error.ReadCause.TheVariants as causes

-- the conversion's word for the error of a store has its place
pub is_at : (place : ℕ) (e : MbtError) (x : ConvertError) → x ≡ refusal_at place e → IsAt place x
is_at place e x is = subst (IsAt place) (sym is) (by e)
  where
    by : (e : MbtError) → IsAt place (refusal_at place e)
    by tables.StoreFault = refl
    by tables.OutOfMemory = tt
    by _ = refl

-- the medium's count, where it stands anyway
pub medium_anyway : {A : Type 0} (before now : ℕ) (r : Result A ConvertError) → now ≡ before → MediumStands before now r
medium_anyway before now (Ok x) same = same
medium_anyway before now (Err MediumFault) same = tt
medium_anyway before now (Err OutOfMemory) same = tt
medium_anyway before now (Err _) same = same

-- where an error is handed on
pub medium_handed : {A : Type 0} (before now : ℕ) (e : ConvertError) (r : Result A ConvertError) → MediumStandsAt before now e → IsErrAnd r (λ x. x ≡ e) → MediumStands before now r
medium_handed before now e (Ok x) h is = absurd is
medium_handed before now e (Err x) h is = subst (MediumStandsAt before now) (sym is) h

-- after a call behind others at whose end it was what it was
pub medium_after : {A : Type 0} (before mid now : ℕ) (r : Result A ConvertError) → mid ≡ before → MediumStands mid now r → MediumStands before now r
medium_after before mid now r same h = subst (λ n. MediumStands n now r) same h

-- where a writer or a reader ends it
pub written_stands : (before now : ℕ) (e : PmtError) (x : ConvertError) → x ≡ of_write_error e → MediumStandsAt before now x
written_stands before now e x is = subst (MediumStandsAt before now) (sym is) (by e)
  where
    by : (e : PmtError) → MediumStandsAt before now (of_write_error e)
    by errors.OutOfMemory = tt
    by _ = tt

pub read_stands : (before mid now : ℕ) (e : PmtError) (x : ConvertError) → x ≡ of_read_error e → mid ≡ before → StandsAtError mid now e → MediumStandsAt before now x
read_stands before mid now e x is same h = subst (MediumStandsAt before now) (sym is) (by e (subst (λ n. StandsAtError n now e) same h))
  where
    by : (e : PmtError) → StandsAtError before now e → MediumStandsAt before now (of_read_error e)
    by errors.OutOfMemory h = tt
    by (errors.Reading causes.Fault) h = tt
    by e h = h

-- the counts of stores, where all of them stand
pub stores_anyway : {A : Type 0} (before now : List ℕ) (r : Result A ConvertError) → now ≡ before → StoresStand before now r
stores_anyway before now (Ok x) same = same
stores_anyway before now (Err (Store place e)) same = λ k other. ap (λ counts. slice_index counts k) same
stores_anyway before now (Err (StoreFault place)) same = λ k other. ap (λ counts. slice_index counts k) same
stores_anyway before now (Err OutOfMemory) same = tt
stores_anyway before now (Err _) same = same

-- where an error is handed on
pub stores_handed : {A : Type 0} (before now : List ℕ) (e : ConvertError) (r : Result A ConvertError) → StoresStandAt before now e → IsErrAnd r (λ x. x ≡ e) → StoresStand before now r
stores_handed before now e (Ok x) h is = absurd is
stores_handed before now e (Err x) h is = subst (StoresStandAt before now) (sym is) h

-- after calls at whose end they were what they were
pub stores_after : {A : Type 0} (before mid now : List ℕ) (r : Result A ConvertError) → mid ≡ before → StoresStand mid now r → StoresStand before now r
stores_after before mid now r same h = subst (λ n. StoresStand n now r) same h

-- of one store whose error it is, among others that stand
pub one_stands : (place : ℕ) (before now : List ℕ) (e : ConvertError) → IsAt place e → OthersStand place before now → StoresStandAt before now e
one_stands place before now (Store k e) at others = subst (λ p. OthersStand p before now) (sym at) others
one_stands place before now (StoreFault k) at others = subst (λ p. OthersStand p before now) (sym at) others
one_stands place before now OutOfMemory at others = tt
one_stands place before now _ at others = absurd at

-- where the base ends a conversion
others_alone : (base now : ℕ) (patches : List ℕ) → OthersStand 0 (base ∷ patches) (now ∷ patches)
others_alone base now patches zero other = absurd (other refl)
others_alone base now patches (suc k) other = refl

pub base_alone : (base now : ℕ) (patches : List ℕ) (e : ConvertError) → IsAt 0 e → StoresStandAt (base ∷ patches) (now ∷ patches) e
base_alone base now patches e at = one_stands 0 (base ∷ patches) (now ∷ patches) e at (others_alone base now patches)

pub base_stands : {A : Type 0} (base now : ℕ) (patches : List ℕ) (e : ConvertError) (r : Result A ConvertError) → IsAt 0 e → IsErrAnd r (λ x. x ≡ e) → StoresStand (base ∷ patches) (now ∷ patches) r
base_stands base now patches e r at is = stores_handed (base ∷ patches) (now ∷ patches) e r (base_alone base now patches e at) is

-- where one of the patches does
pub patches_stand : {A : Type 0} (base now : ℕ) (before after : List ℕ) (e : ConvertError) (r : Result A ConvertError) → now ≡ base → ((first : ℕ) → StoresStandAt (first ∷ before) (first ∷ after) e) → IsErrAnd r (λ x. x ≡ e) → StoresStand (base ∷ before) (now ∷ after) r
patches_stand base now before after e r same h is = stores_handed (base ∷ before) (now ∷ after) e r (subst (λ n. StoresStandAt (base ∷ before) (n ∷ after) e) (sym same) (h base)) is

-- base and patches together, where all of them stand
pub all_stand : (base now : ℕ) (before after : List ℕ) → now ≡ base → ((first : ℕ) → first ∷ after ≡ first ∷ before) → now ∷ after ≡ base ∷ before
all_stand base now before after same h = ap (λ n. n ∷ after) same ∙ h base
