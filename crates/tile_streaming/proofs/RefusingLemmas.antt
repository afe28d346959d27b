-- Refusals of a patch, in the words of a conversion.
use Rattle.tile_streaming.proofs.Common.{ap, Bool, ConvertError, due_by, Err, false, HashAlgorithm, IfErr, IfOk, is_free, IsRefused, List, MbtError, None, Ok, OnOk, Option, refl, Result, Rose, Some, State, subst, sym, Tables, true, ℕ, inl, inr, ◌∙◌, ◌≡◌, ◌≢◌, refusal_at}
use Rattle.mb_edit.specs.PatchingOrder.{bytes_put, may_patch}
use Rattle.mb_edit.specs.Step.{state_patched, step}
use Rattle.mb_load.specs.LoadedFrom.{IsLoadable, NamesAlgorithm}
use Rattle.mb_store.specs.declared.store.StoreError.{StoreError}
use Rattle.mb_store.specs.declared.store.StoreError.TheVariants as stores
use Rattle.mb_tables.specs.declared.error.MbtError.TheVariants as refusals
use Rattle.tile_bridge.specs.Outcome.{at_place}
use Rattle.tile_bridge.specs.Patching.{HoldsState}
use Rattle.tile_bridge.specs.Stands.{IsAt}
use Rattle.tile_bridge.specs.Stores.{Refuses}
use Rattle.tile_bridge.specs.declared.error.ConvertError.TheVariants.{OutOfMemory, Store, StoreFault}
use Rattle.tile_streaming.proofs.CollisionLemmas.{next_collides, next_known, next_refused, over_refused}
use Rattle.tile_streaming.proofs.RefusalOrderLemmas.{is_collision}
use Rattle.tile_streaming.specs.Overlaid.{StandsFor}
use Rattle.tile_streaming.specs.Patching.{BaseEnds, due_step, if_told, IsNext, NamesAnother, NamesFirst, of_base, PatchEnds}
use Rattle.tile_streaming.specs.declared.overlaid.Overlaid.{Overlaid}
use Rattle.tile_streaming.specs.declared.rest.Rest.{Rest}

-- the error of a look-up in the base
pub names_base : (place : ℕ) (tells : Bool) (t : Tables) (rest : Rest) (a : HashAlgorithm) (known : Option (List ℕ)) (put : List (List ℕ)) (e : StoreError) (x : ConvertError) → x ≡ of_base e → NamesFirst place tells t rest a known put x
names_base place tells t rest a known put e x is = subst (NamesFirst place tells t rest a known put) (sym is) (by e)
  where
    by : (e : StoreError) → NamesFirst place tells t rest a known put (of_base e)
    by stores.Fault = tt
    by stores.OutOfMemory = tt

pub ends_base : (place before now : ℕ) (e : StoreError) (x : ConvertError) → x ≡ of_base e → (e ≡ stores.Fault → Rose before now) → BaseEnds place before now x
ends_base place before now e x is rose = subst (BaseEnds place before now) (sym is) (by e rose)
  where
    by : (e : StoreError) → (e ≡ stores.Fault → Rose before now) → BaseEnds place before now (of_base e)
    by stores.Fault h = (refl, h refl)
    by stores.OutOfMemory h = tt

-- a refusal of what lies over it that isn't of contents that collide
pub names_plain : (place : ℕ) (tells : Bool) (t : Tables) (rest : Rest) (a : HashAlgorithm) (put : List (List ℕ)) (e : MbtError) (x : ConvertError) → ((id : List ℕ) → e ≢ refusals.IdCollision id) → x ≡ refusal_at place e → NamesAnother place tells t rest a put e x
names_plain place tells t rest a put (refusals.IdCollision id) x other is = absurd (other id refl)
names_plain place tells t rest a put _ x other is = is

pub ends_plain : (place before now : ℕ) (e : MbtError) (x : ConvertError) → e ≢ refusals.StoreFault → now ≡ before → x ≡ refusal_at place e → BaseEnds place before now x
ends_plain place before now e x unfaulted same is = subst (BaseEnds place before now) (sym is) (by e unfaulted)
  where
    by : (e : MbtError) → e ≢ refusals.StoreFault → BaseEnds place before now (refusal_at place e)
    by refusals.StoreFault h = absurd (h refl)
    by refusals.OutOfMemory h = tt
    by _ h = (refl, same)

-- a refusal of a patch that is due
module _ (tells : Bool) (t : Tables) (set : Overlaid) (s : State) (stands : StandsFor tells t set s) (force : Bool) (place : ℕ) (q : State) where
  refused_by : (e : MbtError) (k : ℕ) → k ≡ place → (tells ≡ true → step force s q ≡ Err e) → (b : Bool) → tells ≡ b → IsRefused (if_told b (due_step force place s q)) (Store k e)
  refused_by e k at made true u = ap (at_place place) (made u) ∙ ap (λ p. Err (Store p e)) (sym at)
  refused_by e k at made false u = tt

  made_as : (e : MbtError) → may_patch force s q ≡ Some e → step force s q ≡ Err e
  made_as e h = ap (due_by (state_patched s q)) h

  -- contents that collide with the base
  pub first_refuses : (a : HashAlgorithm) → a ≡ set.over.state.algorithm → may_patch force set.over.state q ≡ None → (e : ConvertError) → NamesFirst place tells t set.rest a None (bytes_put q.tiles) e → Refuses (if_told tells (due_step force place s q)) e
  first_refuses a same may (Store k (refusals.IdCollision id)) named =
      let there = subst (λ c. NamesFirst place tells t set.rest c None (bytes_put q.tiles) (Store k (refusals.IdCollision id))) same named in
      (refused_by (refusals.IdCollision id) k there.0 (λ u. made_as (refusals.IdCollision id) (next_collides tells t set s stands force q id u may (there.1 u))) tells refl, refl)
  first_refuses a same may (StoreFault k) named = tt
  first_refuses a same may OutOfMemory named = tt
  first_refuses a same may _ named = absurd named

  known_refuses : (a : HashAlgorithm) → a ≡ set.over.state.algorithm → (id : List ℕ) → step force set.over.state q ≡ Err (refusals.IdCollision id) → (e : ConvertError) → NamesFirst place tells t set.rest a (Some id) (bytes_put q.tiles) e → Refuses (if_told tells (due_step force place s q)) e
  known_refuses a same id refused (Store k (refusals.IdCollision d)) named =
      let there = subst (λ c. NamesFirst place tells t set.rest c (Some id) (bytes_put q.tiles) (Store k (refusals.IdCollision d))) same named in
      (refused_by (refusals.IdCollision d) k there.0 (λ u. made_as (refusals.IdCollision d) (next_known tells t set s stands force q id d u (over_refused tells t set s stands force q (refusals.IdCollision id) refused) (there.1 u))) tells refl, refl)
  known_refuses a same id refused (StoreFault k) named = tt
  known_refuses a same id refused OutOfMemory named = tt
  known_refuses a same id refused _ named = absurd named

  plain_refuses : (e : MbtError) → is_free e ≡ false → is_collision e ≡ false → step force set.over.state q ≡ Err e → Refuses (if_told tells (due_step force place s q)) (Store place e)
  plain_refuses e free other refused = (refused_by e place refl (λ u. made_as e (next_refused tells t set s stands force q e other (over_refused tells t set s stands force q e refused))) tells refl, free)

  -- and any refusal of what lies over it
  pub another_refuses : (a : HashAlgorithm) → a ≡ set.over.state.algorithm → (e : MbtError) (x : ConvertError) → (is_free e ≡ false → step force set.over.state q ≡ Err e) → NamesAnother place tells t set.rest a (bytes_put q.tiles) e x → Refuses (if_told tells (due_step force place s q)) x
  another_refuses a same (refusals.IdCollision id) x refused named = known_refuses a same id (refused refl) x named
  another_refuses a same refusals.StoreFault x refused named = subst (Refuses (if_told tells (due_step force place s q))) (sym named) tt
  another_refuses a same refusals.OutOfMemory x refused named = subst (Refuses (if_told tells (due_step force place s q))) (sym named) tt
  another_refuses a same e x refused named = subst (Refuses (if_told tells (due_step force place s q))) (sym named) (plain_refuses e refl refl (refused refl))

-- an answer that is handed on
pub err_then : {A : Type 0} (P Q : ConvertError → Type 0) (r : Result A ConvertError) → ((e : ConvertError) → P e → Q e) → IfErr r P → IfErr r Q
err_then P Q (Ok x) f h = tt
err_then P Q (Err e) f h = f e h

pub next_of : (force patch_tells : Bool) (patch_told : Tables) (tells : Bool) (t : Tables) (s q : State) (r : Result Overlaid ConvertError) → HoldsState patch_tells patch_told q → IsLoadable q → NamesAlgorithm q → OnOk r (may_patch force s q ≡ None) → IfOk r (λ x. StandsFor tells t x (state_patched s q)) → IfOk r (IsNext force patch_tells patch_told tells t s)
next_of force patch_tells patch_told tells t s q (Ok x) holds whole named may stands = record { patch = q; of = holds; whole = whole; named = named; may = may; stands = stands }
next_of force patch_tells patch_told tells t s q (Err e) holds whole named may stands = tt

-- where a patch can't be loaded, and where one that is loaded isn't put
pub load_ends : (place base patch now : ℕ) (e : ConvertError) → IsAt place e → ((p : ℕ) → e ≡ StoreFault p → (p ≡ place) × Rose patch now) → PatchEnds place base base patch now e
load_ends place base patch now (Store k e) at rose = (at, refl)
load_ends place base patch now (StoreFault k) at rose = let r = rose k refl in inl (at, refl, r.1)
load_ends place base patch now OutOfMemory at rose = tt
load_ends place base patch now _ at rose = absurd at

pub base_ends : (place base base_now patch now : ℕ) (e : ConvertError) → now ≡ patch → BaseEnds place base base_now e → PatchEnds place base base_now patch now e
base_ends place base base_now patch now (Store k e) same ends = ends
base_ends place base base_now patch now (StoreFault k) same ends = inr (ends.0, same, ends.1)
base_ends place base base_now patch now OutOfMemory same ends = tt
base_ends place base base_now patch now _ same ends = absurd ends
