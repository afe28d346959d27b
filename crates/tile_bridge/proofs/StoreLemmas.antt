-- What is due of a store.
use Rattle.tile_bridge.proofs.Common.{ap, at_place, Bool, ConvertError, due_at, due_patch, Err, false, false≢true, HoldsState, is_free, IsDue, IsRefused, MbtError, Ok, refl, refusal_at, Refuses}
use Rattle.tile_bridge.proofs.Common.{State, state_of, step, Store, subst, sym, Tables, then, true, ℕ, ◌∙◌, ◌≡◌}
use Rattle.mb_tables.specs.declared.error.MbtError.TheVariants.{OutOfMemory, StoreFault}

-- the refusal of a store that can't be loaded
pub load_refused : (place : ℕ) (tells : Bool) (t : Tables) (e : MbtError) (x : ConvertError) → x ≡ refusal_at place e → (tells ≡ true → is_free e ≡ false → state_of t ≡ Err e) → Refuses (due_at place tells t) x
load_refused place tells t e x is answer = subst (Refuses (due_at place tells t)) (sym is) (by_case e answer)
  where
    stands : (e : MbtError) → (tells ≡ true → state_of t ≡ Err e) → IsRefused (due_at place tells t) (Store place e)
    stands e h = by tells h
      where
        by : (b : Bool) → (b ≡ true → state_of t ≡ Err e) → IsRefused (due_at place b t) (Store place e)
        by true h = ap (at_place place) (h refl)
        by false h = tt

    by_case : (e : MbtError) → (tells ≡ true → is_free e ≡ false → state_of t ≡ Err e) → Refuses (due_at place tells t) (refusal_at place e)
    by_case StoreFault h = tt
    by_case OutOfMemory h = tt
    by_case e h = (stands e (λ b. h b refl), refl)

-- the refusal of a patch
pub patch_refused : (force : Bool) (place : ℕ) (s q : State) (tells : Bool) (t : Tables) (e : MbtError) (x : ConvertError) → x ≡ refusal_at place e → (tells ≡ true → state_of t ≡ Ok q) → (is_free e ≡ false → step force s q ≡ Err e) → Refuses (due_patch force place s tells t) x
patch_refused force place s q tells t e x is loads answer = subst (Refuses (due_patch force place s tells t)) (sym is) (by_case e answer)
  where
    stands : (e : MbtError) → step force s q ≡ Err e → IsRefused (due_patch force place s tells t) (Store place e)
    stands e h = by tells loads
      where
        by : (b : Bool) → (b ≡ true → state_of t ≡ Ok q) → IsRefused (due_patch force place s b t) (Store place e)
        by true l = ap (λ r. then (at_place place r) (λ q. at_place place (step force s q))) (l refl) ∙ ap (at_place place) h
        by false l = tt

    by_case : (e : MbtError) → (is_free e ≡ false → step force s q ≡ Err e) → Refuses (due_patch force place s tells t) (refusal_at place e)
    by_case StoreFault h = tt
    by_case OutOfMemory h = tt
    by_case e h = (stands e (h refl), refl)

-- the state after a patch
pub patch_due : (force : Bool) (place : ℕ) (s q next : State) (tells : Bool) (t : Tables) → (tells ≡ true → state_of t ≡ Ok q) → step force s q ≡ Ok next → IsDue (due_patch force place s tells t) next
patch_due force place s q next tells t loads answer = by tells loads
  where
    by : (b : Bool) → (b ≡ true → state_of t ≡ Ok q) → IsDue (due_patch force place s b t) next
    by true l = ap (λ r. then (at_place place r) (λ q. at_place place (step force s q))) (l refl) ∙ ap (at_place place) answer
    by false l = tt

-- the tables of a state that was loaded
pub holds_state : (tells : Bool) (told : Tables) (s : State) → (tells ≡ true → state_of told ≡ Ok s) → (t : Tables) × (state_of t ≡ Ok s) → HoldsState tells told s
holds_state true told s is own = record { tables = told; are_told = λ _. refl; state = is refl }
holds_state false told s is own = record { tables = own.0; are_told = λ e. absurd (false≢true e); state = own.1 }
