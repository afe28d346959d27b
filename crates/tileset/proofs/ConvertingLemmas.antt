-- Stores in memory that don't fail.
use Rattle.tileset.proofs.Common.{All, ap, arith, cond, ConvertError, ConvertOptions, ConvertReport, due, Err, faults_of, IfErr, IsErrOf, IsSteady, List, list_all, map, None, Ok, outcome, refl}
use Rattle.tileset.proofs.Common.{Result, slice_index, Some, StoreFault, subst, suc, told_of, true, zero, ℕ, [], ◌∷◌, ◌≡◌}
use Rattle.std.proofs.lemmas.List.Elements.{All-head, All-tail}
use Rattle.mb_store.specs.declared.mem_store.MemStore.{MemStore}
use Rattle.tile_bridge.specs.Stores.{HasFailed, RoseAt}
use Rattle.tileset.specs.Converting.{IsNoStoreFault}
use Rattle.tileset_script.specs.Section.{NeverFails}

-- all of them tell
all_tell : (patches : List MemStore) → list_all (λ _. true) patches ≡ true
all_tell [] = refl
all_tell (p ∷ patches) = all_tell patches

pub due_told : (base : MemStore) (patches : List MemStore) (o : ConvertOptions) → due (λ _. true) told_of (λ _. true) told_of base patches o ≡ Some (outcome (told_of base) (map told_of patches) o.force o.verify)
due_told base patches o = ap (λ b. cond b (Some (outcome (told_of base) (map told_of patches) o.force o.verify)) None) (all_tell patches)

all_steady : (patches : List MemStore) → All NeverFails patches → All IsSteady patches
all_steady patches h = λ k d l. (h k d l).steady

-- none of them failed
none_failed : (patches : List MemStore) → All NeverFails patches → (k : ℕ) → slice_index (map faults_of patches) k ≡ 0
none_failed [] h k = refl
none_failed (p ∷ patches) h zero = (All-head NeverFails p patches h).unfailed
none_failed (p ∷ patches) h (suc k) = none_failed patches (All-tail NeverFails p patches h) k

unfailed : (patches : List MemStore) → All NeverFails patches → (k : ℕ) → slice_index (0 ∷ map faults_of patches) k ≡ 0
unfailed patches h zero = refl
unfailed patches h (suc k) = none_failed patches h k

not_risen : (k : ℕ) (before now : List ℕ) → slice_index before k ≡ 0 → now ≡ before → RoseAt k before now → ⊥
not_risen k before now none same rose =
    let still : RoseAt k before before = subst (λ n. RoseAt k before n) same rose in
    omega arith

pub no_store_fault : (r : Result ConvertReport ConvertError) (patches : List MemStore) → All NeverFails patches → ((place : ℕ) → IsErrOf r (StoreFault place) → HasFailed (λ _. true) told_of faults_of IsSteady patches place) → IfErr r IsNoStoreFault
no_store_fault (Ok report) patches h fault = tt
no_store_fault (Err (StoreFault place)) patches h fault =
    let one = fault place refl in
    not_risen place (0 ∷ map faults_of patches) (0 ∷ map faults_of one.now) (unfailed patches h place) (ap (λ (counts : List ℕ). 0 ∷ counts) (one.read.steady (all_steady patches h)).1) one.rose
no_store_fault (Err _) patches h fault = tt
