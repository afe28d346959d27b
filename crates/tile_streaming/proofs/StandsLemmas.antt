-- Which counts of faults stand where a step ends a conversion.
use Rattle.tile_streaming.proofs.Common.{ap, Err, FindCauses, List, map, MarkedSet, of_write_error, Ok, PmtError, refl, Result, StepCauses, Stored, StreamError, subst, sym, Bool, ℕ, [], ◌∷◌, ◌≡◌}
use Rattle.pm_format.specs.Faults.{StandsAtError}
use Rattle.tile_bridge.proofs.StandsLemmas as convert
use Rattle.tile_bridge.specs.ReadingBack.{of_read_error}
use Rattle.tile_bridge.specs.declared.error.ConvertError.TheVariants as refused
use Rattle.tile_streaming.specs.Hashing.{HashCauses}
use Rattle.tile_streaming.specs.Stands.{BaseStands, BaseStandsAt, MediumStands, MediumStandsAt, StoresStand, StoresStandAt}
use Rattle.tile_streaming.specs.declared.error.StreamError.TheVariants.{Convert, StoreChanged}

-- counts that stand anyway
pub medium_anyway : {A : Type 0} (before now : ℕ) (r : Result A StreamError) → now ≡ before → MediumStands before now r
medium_anyway before now (Ok x) same = same
medium_anyway before now (Err StoreChanged) same = same
medium_anyway before now (Err (Convert e)) same = convert.medium_anyway {A = ℕ} before now (Err e) same

pub base_anyway : {A : Type 0} (before now : ℕ) (r : Result A StreamError) → now ≡ before → BaseStands before now r
base_anyway before now (Ok x) same = same
base_anyway before now (Err StoreChanged) same = same
base_anyway before now (Err (Convert (refused.Store place e))) same = tt
base_anyway before now (Err (Convert (refused.StoreFault place))) same = tt
base_anyway before now (Err (Convert refused.OutOfMemory)) same = tt
base_anyway before now (Err (Convert _)) same = same

pub stores_anyway : {A : Type 0} (before now : List ℕ) (r : Result A StreamError) → now ≡ before → StoresStand before now r
stores_anyway before now (Ok x) same = same
stores_anyway before now (Err StoreChanged) same = same
stores_anyway before now (Err (Convert e)) same = convert.stores_anyway {A = ℕ} before now (Err e) same

-- after calls at whose end they were what they were
pub medium_after : {A : Type 0} (before mid now : ℕ) (r : Result A StreamError) → mid ≡ before → MediumStands mid now r → MediumStands before now r
medium_after before mid now r same h = subst (λ n. MediumStands n now r) same h

pub base_after : {A : Type 0} (before mid now : ℕ) (r : Result A StreamError) → mid ≡ before → BaseStands mid now r → BaseStands before now r
base_after before mid now r same h = subst (λ n. BaseStands n now r) same h

pub stores_after : {A : Type 0} (before mid now : List ℕ) (r : Result A StreamError) → mid ≡ before → StoresStand mid now r → StoresStand before now r
stores_after before mid now r same h = subst (λ l. StoresStand l now r) same h

-- where a writer or a reader ends it
pub written_medium : (before now : ℕ) (e : PmtError) (x : StreamError) → x ≡ Convert (of_write_error e) → MediumStandsAt before now x
written_medium before now e x is = subst (MediumStandsAt before now) (sym is) (convert.written_stands before now e (of_write_error e) refl)

pub read_medium : (before mid now : ℕ) (e : PmtError) (x : StreamError) → x ≡ Convert (of_read_error e) → mid ≡ before → StandsAtError mid now e → MediumStandsAt before now x
read_medium before mid now e x is same h = subst (MediumStandsAt before now) (sym is) (convert.read_stands before mid now e (of_read_error e) refl same h)

-- a row that isn't found
pub base_found : (A : Type 0) (before now : ℕ) (e : StreamError) → FindCauses {A = A} ⊥ before now (Err e) → BaseStandsAt before now e
base_found A before now StoreChanged c = absurd c
base_found A before now (Convert (refused.StoreFault place)) c = tt
base_found A before now (Convert refused.OutOfMemory) c = tt
base_found A before now (Convert _) c = absurd c

-- the base and its patches, where a step of the base ends it, or its hash
pub stores_step : (A : Type 0) (changed : Type 0) (before now medium medium_now : ℕ) (patches : List ℕ) (x : StreamError) → StepCauses {A = A} changed before now medium medium_now (Err x) → BaseStandsAt before now x → StoresStandAt (before ∷ patches) (now ∷ patches) x
stores_step A changed before now medium medium_now patches StoreChanged c h = ap (λ n. n ∷ patches) h
stores_step A changed before now medium medium_now patches (Convert (refused.StoreFault place)) c h = convert.base_alone before now patches (refused.StoreFault place) c.0
stores_step A changed before now medium medium_now patches (Convert refused.MediumFault) c h = ap (λ n. n ∷ patches) h
stores_step A changed before now medium medium_now patches (Convert refused.OutOfMemory) c h = tt
stores_step A changed before now medium medium_now patches (Convert _) c h = absurd c

pub stores_hash : (A : Type 0) (verify tells : Bool) (stored : Stored) (m : MarkedSet) (before now : ℕ) (patches : List ℕ) (x : StreamError) → HashCauses {A = A} verify tells stored m before now (Err x) → BaseStandsAt before now x → StoresStandAt (before ∷ patches) (now ∷ patches) x
stores_hash A verify tells stored m before now patches StoreChanged c h = ap (λ n. n ∷ patches) h
stores_hash A verify tells stored m before now patches (Convert (refused.StoreFault place)) c h = convert.base_alone before now patches (refused.StoreFault place) c.0
stores_hash A verify tells stored m before now patches (Convert (refused.Store place e)) c h = convert.base_alone before now patches (refused.Store place e) c.1
stores_hash A verify tells stored m before now patches (Convert refused.OutOfMemory) c h = tt
stores_hash A verify tells stored m before now patches (Convert _) c h = absurd c

-- without patches
pub alone : {P A : Type 0} (failed : P → ℕ) (before now : ℕ) (xs ys : List P) (r : Result A StreamError) → xs ≡ [] → ys ≡ [] → StoresStand (before ∷ map failed xs) (now ∷ map failed ys) r → StoresStand (before ∷ []) (now ∷ []) r
alone failed before now xs ys r old new h = subst (λ l. StoresStand (before ∷ []) (now ∷ map failed l) r) new (subst (λ l. StoresStand (before ∷ map failed l) (now ∷ map failed ys) r) old h)
