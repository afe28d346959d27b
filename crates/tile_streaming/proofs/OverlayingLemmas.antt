-- A patch that what lies over a base lets pass, and the look-ups in the base.
use Rattle.tile_streaming.proofs.Common.{ap, Bool, ConvertError, false, filter, HashAlgorithm, IfErr, IfOk, List, Mark, None, not, Ok, Err, OnOk, Option, place_with, refl, Result, State, subst, sym, Tables, true, ℕ, ◌∙◌, ◌≡◌}
use Rattle.mb_edit.proofs.StateLemmas.{patched_state}
use Rattle.mb_edit.specs.HeldPatched.{held_patched}
use Rattle.mb_edit.specs.PatchingOrder.{bytes_put, may_patch}
use Rattle.mb_edit.specs.Step.{state_patched}
use Rattle.mb_load.specs.LoadedFrom.{AllOnBoard}
use Rattle.mb_loaded.specs.Held.{Held}
use Rattle.tile_bridge.specs.Stores.{Refuses}
use Rattle.tile_streaming.proofs.CollisionLemmas.{next_passes, none_below}
use Rattle.tile_streaming.proofs.OverlaidLemmas.{lies_patched}
use Rattle.tile_streaming.proofs.RefusingLemmas.{err_then, first_refuses}
use Rattle.std.specs.FinMap.{contains_key}
use Rattle.tile_streaming.specs.Collisions.{collided}
use Rattle.tile_streaming.specs.Overlaid.{StandsFor}
use Rattle.tile_streaming.specs.Patching.{due_step, if_told, NamesFirst}
use Rattle.tile_streaming.specs.declared.overlaid.Overlaid.{Overlaid}

module _ (tells : Bool) (t : Tables) (set : Overlaid) (s : State) (stands : StandsFor tells t set s) (force : Bool) (q : State) (over : Held) (may : may_patch force set.over.state q ≡ None) (made : over ≡ held_patched set.over q) where
  state_is : over.state ≡ state_patched set.over.state q
  state_is = ap (λ (h : Held). h.state) made ∙ patched_state set.over q

  algorithm_is : over.state.algorithm ≡ set.over.state.algorithm
  algorithm_is = ap (λ (u : State). u.algorithm) state_is

  -- what was looked up, by the algorithm of the set
  abbrev Apart : HashAlgorithm → Type 0
  Apart a = collided t set.rest a None (bytes_put q.tiles) ≡ None

  apart_from : (tells ≡ true → Apart over.state.algorithm) → tells ≡ true → Apart set.over.state.algorithm
  apart_from apart u = subst Apart algorithm_is (apart u)

  pub put_may : (r : Result Overlaid ConvertError) → (tells ≡ true → OnOk r (Apart over.state.algorithm)) → OnOk r (may_patch force s q ≡ None)
  put_may (Ok x) apart = next_passes tells t set s stands force q may (apart_from apart)
  put_may (Err e) apart = record {}

  -- what a set is after the patch
  abbrev IsPut : Overlaid → Type 0
  IsPut x = (x.over ≡ over) × (x.rest.layout ≡ set.rest.layout) × (x.rest.marks.items ≡ filter (λ (m : Mark). not (contains_key q.tiles (place_with m.id))) set.rest.marks.items) × (x.rest.is_whole ≡ false)

  pub put_stands : AllOnBoard q → (r : Result Overlaid ConvertError) → IfOk r IsPut → (tells ≡ true → OnOk r (Apart over.state.algorithm)) → IfOk r (λ x. StandsFor tells t x (state_patched s q))
  put_stands on (Ok x) put apart = lies_patched tells t set s stands q on x put.1 (put.0 ∙ made) put.2 put.3 (λ digests. none_below tells t set s stands force q digests (apart_from apart))
  put_stands on (Err e) put apart = tt

  pub put_refused : (place : ℕ) (r : Result Overlaid ConvertError) → IfErr r (NamesFirst place tells t set.rest over.state.algorithm None (bytes_put q.tiles)) → IfErr r (Refuses (if_told tells (due_step force place s q)))
  put_refused place r named = err_then (NamesFirst place tells t set.rest over.state.algorithm None (bytes_put q.tiles)) (Refuses (if_told tells (due_step force place s q))) r (first_refuses tells t set s stands force place q over.state.algorithm algorithm_is may) named
