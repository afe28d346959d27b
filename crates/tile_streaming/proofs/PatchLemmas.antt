-- Patches one after another of a base of which marks are held.
use Rattle.tile_streaming.proofs.Common.{ap, arith, Bool, ConvertError, cond, Err, false, fresh, get_or, IfErr, IsDue, IsRefused, length, List, map, MbtError, None, Ok, Option, ReadsOnly, refl, Result, inl, inr, Rose, RoseAt, Some, State, state_of, subst, suc, sym, Tables, true, ℕ, ◌+◌, ◌<◌, ◌∙◌, ◌∷◌, ◌≡◌}
use Rattle.mb_edit.proofs.ApplyLemmas.{next_loaded, next_named}
use Rattle.mb_edit.proofs.StateLemmas.{patched_state}
use Rattle.mb_edit.proofs.StepLemmas.{step_made}
use Rattle.mb_edit.specs.HeldPatched.{held_patched}
use Rattle.mb_edit.specs.Step.{step}
use Rattle.mb_loaded.specs.Held.{Held}
use Rattle.std.proofs.Common.{IfSome, IsErrAnd, set}
use Rattle.std.proofs.Math.Seq.{map-set_same}
use Rattle.tile_bridge.proofs.FoldLemmas.{Folded, folded_more, refused_after, refuses_on, rose_after, stands_after}
use Rattle.tile_bridge.proofs.StandsLemmas.{base_stands, stores_handed}
use Rattle.tile_bridge.proofs.StoreLemmas.{patch_due}
use Rattle.tile_bridge.specs.Outcome.{at_place, then}
use Rattle.tile_bridge.specs.Patching.{IsPatchedBy}
use Rattle.tile_bridge.specs.Stands.{StoresStand}
use Rattle.tile_bridge.specs.Stores.{due_at, due_patch, due_patches, Refuses}
use Rattle.tile_bridge.specs.declared.error.ConvertError.TheVariants.{OutOfMemory, Store, StoreFault}
use Rattle.tile_streaming.specs.Overlaid.{StandsFor}
use Rattle.tile_streaming.specs.Patching.{due_step, if_told, IsNext, PatchEnds}
use Rattle.tile_streaming.specs.declared.overlaid.Overlaid.{Overlaid}

-- what holds of an error that is handed on
pub error_as : {A E : Type 0} (P : E → Type 0) (e : E) (r : Result A E) → P e → IsErrAnd r (λ z. z ≡ e) → IfErr r P
error_as P e (Ok x) h is = tt
error_as P e (Err x) h is = subst P (sym is) h

-- a refusal that is due, where the base tells
pub told_on : (tells : Bool) (due on : Option (Result State ConvertError)) (e : ConvertError) → ((x : ConvertError) → IsRefused due x → IsRefused on x) → Refuses (if_told tells due) e → Refuses (if_told tells on) e
told_on true due on e f h = refuses_on due on e f h
told_on false due on e f h = h

any_told : (tells : Bool) (due : Option (Result State ConvertError)) (e : ConvertError) → Refuses due e → Refuses (if_told tells due) e
any_told tells due e h = refuses_on due (if_told tells due) e (by tells) h
  where
    by : (b : Bool) (x : ConvertError) → IsRefused due x → IsRefused (if_told b due) x
    by true x refused = refused
    by false x refused = tt

-- the refusal of a patch that can't be loaded
pub load_refuses : (force : Bool) (place : ℕ) (s : State) (base tells : Bool) (t : Tables) (e : ConvertError) → Refuses (due_at place tells t) e → Refuses (if_told base (due_patch force place s tells t)) e
load_refuses force place s base tells t e h = any_told base (due_patch force place s tells t) e (refuses_on (due_at place tells t) (due_patch force place s tells t) e (λ x refused. by tells x refused) h)
  where
    by : (b : Bool) (x : ConvertError) → IsRefused (due_at place b t) x → IsRefused (due_patch force place s b t) x
    by true x refused = ap (λ r. then r (λ q. at_place place (step force s q))) refused
    by false x refused = tt

-- and of one that is loaded
pub step_refuses : (force : Bool) (place : ℕ) (s q : State) (base tells : Bool) (t : Tables) (e : ConvertError) → (tells ≡ true → state_of t ≡ Ok q) → Refuses (if_told base (due_step force place s q)) e → Refuses (if_told base (due_patch force place s tells t)) e
step_refuses force place s q base tells t e loaded h = told_on base (due_step force place s q) (due_patch force place s tells t) e (λ x refused. by tells loaded x refused) h
  where
    by : (b : Bool) → (b ≡ true → state_of t ≡ Ok q) → (x : ConvertError) → IsRefused (due_step force place s q) x → IsRefused (due_patch force place s b t) x
    by true is x refused = ap (λ r. then (at_place place r) (λ q. at_place place (step force s q))) (is refl) ∙ refused
    by false is x refused = tt

-- what is said over a base that was only read
pub stands_again : (tells now : Bool) (told next : Tables) (x : Overlaid) (s : State) → now ≡ tells → next ≡ told → StandsFor tells told x s → StandsFor now next x s
stands_again tells now told next x s same read h = subst (λ b. StandsFor b next x s) (sym same) (subst (λ u. StandsFor tells u x s) (sym read) h)

pub next_again : (force patch_tells : Bool) (patch_told : Tables) (tells now : Bool) (told next : Tables) (s : State) (x : Overlaid) → now ≡ tells → next ≡ told → IsNext force patch_tells patch_told now next s x → IsNext force patch_tells patch_told tells told s x
next_again force patch_tells patch_told tells now told next s x same read h = subst (λ b. IsNext force patch_tells patch_told b told s x) same (subst (λ u. IsNext force patch_tells patch_told now u s x) read h)

-- after so many patches
pub record HasFolded {P : Type 0} (tell : P → Bool) (tables : P → Tables) (failed : P → ℕ) (calm : P → Type 0) (force tells : Bool) (told : Tables) (s : State) (old now : List P) (n : ℕ) (x : Overlaid) : Type 0 where
  pub held : Held
  pub folded : Folded tell tables failed calm force (fresh s) old now n held
  pub stands : StandsFor tells told x held.state

-- one more patch
module _ {P : Type 0} (tell : P → Bool) (tables : P → Tables) (failed : P → ℕ) (calm : P → Type 0) (force tells : Bool) (told : Tables) (s : State) (old now : List P) (n : ℕ) (x : Overlaid) (so : HasFolded tell tables failed calm force tells told s old now n x)
    (a b : P) (low : n < length now) (is : a ≡ get_or now n a) (kept : ReadsOnly tables tell failed calm a b) (y : Overlaid) (one : IsNext force (tell a) (tables a) tells told so.held.state y) where
  abbrev next : Held
  next = held_patched so.held one.patch

  made : step force so.held.state one.patch ≡ Ok next.state
  made = step_made force so.held one.patch next one.may refl

  due_next : IsDue (due_patch force (n + 1) so.held.state (tell a) (tables a)) next.state
  due_next = patch_due force (n + 1) so.held.state one.patch next.state (tell a) (tables a) (λ u. ap state_of (sym (one.of.are_told u)) ∙ one.of.state) made

  by_one : IsPatchedBy force (tell a) (tables a) so.held next
  by_one = record { state = one.patch; of = one.of; made = made; held = refl }

  pub has_next : failed b ≡ failed a → HasFolded tell tables failed calm force tells told s old (set now n b) (n + 1) y
  has_next still = record {
    held = next;
    folded = folded_more tell tables failed calm force (fresh s) old now n so.held so.folded a b low is kept next due_next by_one
        (λ t from named. (next_loaded force so.held one.patch next one.may refl one.whole t from, next_named force so.held one.patch next one.may refl one.whole named one.named)) still;
    stands = subst (StandsFor tells told y) (sym (patched_state so.held one.patch)) one.stands;
  }

-- where the next patch ends it
module _ {P : Type 0} (tell : P → Bool) (tables : P → Tables) (failed : P → ℕ) (calm : P → Type 0) (force : Bool) (base : Held) (old now : List P) (n : ℕ) (h : Held) (so : Folded tell tables failed calm force base old now n h)
    (a b : P) (low : n < length now) (is : a ≡ get_or now n a) (kept : ReadsOnly tables tell failed calm a b) (before mid after : ℕ) (same : mid ≡ before) where
  next_at : (p : ℕ) → p ≡ n + 1 → p ≡ suc n
  next_at p at = omega (arith, at)

  rose_now : (p : ℕ) → PatchEnds (n + 1) mid after (failed a) (failed b) (StoreFault p) → RoseAt p (before ∷ map failed old) (after ∷ map failed (set now n b))
  rose_now p (inl own) = subst (λ k. RoseAt k (before ∷ map failed old) (after ∷ map failed (set now n b))) (sym (next_at p own.0)) (rose_after tell tables failed calm force base old now n h so a b low is kept own.2)
  rose_now p (inr first) = subst (λ k. RoseAt k (before ∷ map failed old) (after ∷ map failed (set now n b))) (sym first.0) (subst (λ m. Rose m after) same first.2)

  pub next_fault : {A : Type 0} (e : ConvertError) (r : Result A ConvertError) → PatchEnds (n + 1) mid after (failed a) (failed b) e → IsErrAnd r (λ z. z ≡ e) → (p : ℕ) → r ≡ Err (StoreFault p) → RoseAt p (before ∷ map failed old) (after ∷ map failed (set now n b))
  next_fault e (Ok z) ends handed p at = absurd handed
  next_fault e (Err z) ends handed p at = let fault : z ≡ StoreFault p = cc in rose_now p (subst (PatchEnds (n + 1) mid after (failed a) (failed b)) (sym handed ∙ fault) ends)

  as_before : after ≡ mid → {A : Type 0} (r : Result A ConvertError) → ((first : ℕ) → StoresStand (first ∷ map failed old) (first ∷ map failed (set now n b)) r) → StoresStand (before ∷ map failed old) (after ∷ map failed (set now n b)) r
  as_before stands r h = subst (λ m. StoresStand (before ∷ map failed old) (m ∷ map failed (set now n b)) r) (sym (stands ∙ same)) (h before)

  patches_as : failed b ≡ failed a → map failed (set now n b) ≡ map failed old
  patches_as stands = map-set_same failed now n b a (stands ∙ ap failed is) ∙ so.still

  stand_now : {A : Type 0} (e : ConvertError) (r : Result A ConvertError) → PatchEnds (n + 1) mid after (failed a) (failed b) e → IsErrAnd r (λ z. z ≡ e) → StoresStand (before ∷ map failed old) (after ∷ map failed (set now n b)) r
  stand_now (Store k x) r ends handed = as_before ends.1 r (stands_after tell tables failed calm force base old now n h so a b low is kept (Store k x) r ends.0 handed)
  stand_now (StoreFault k) r (inl own) handed = as_before own.1 r (stands_after tell tables failed calm force base old now n h so a b low is kept (StoreFault k) r own.0 handed)
  stand_now (StoreFault k) r (inr first) handed =
      subst (λ l. StoresStand (before ∷ map failed old) (after ∷ l) r) (sym (patches_as first.1))
      (base_stands before after (map failed old) (StoreFault k) r first.0 handed)
  stand_now OutOfMemory r ends handed = stores_handed (before ∷ map failed old) (after ∷ map failed (set now n b)) OutOfMemory r tt handed
  stand_now _ r ends handed = absurd ends

  pub next_stands : {A : Type 0} (e : ConvertError) (r : Result A ConvertError) → PatchEnds (n + 1) mid after (failed a) (failed b) e → IsErrAnd r (λ z. z ≡ e) → StoresStand (before ∷ map failed old) (after ∷ map failed (set now n b)) r
  next_stands e r ends handed = stand_now e r ends handed

  -- a refusal, where the base tells
  pub next_refuses : (tells : Bool) {A : Type 0} (e : ConvertError) (r : Result A ConvertError) → Refuses (if_told tells (due_patch force (n + 1) h.state (tell a) (tables a))) e → IsErrAnd r (λ z. z ≡ e) → IfErr r (Refuses (if_told tells (due_patches force 1 base.state (map tell old) (map tables old))))
  next_refuses true e r refuses handed = refused_after tell tables failed calm force base old now n h so a b low is kept e r refuses handed
  next_refuses false e r refuses handed = error_as (Refuses None) e r refuses handed
