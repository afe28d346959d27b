-- The contents of a set some of whose tiles are held whole.
use Rattle.tile_streaming.proofs.Common.{ap, Bool, bytes_in, bytes_of, bytes_told, Cell, Err, false, false≢true, FindCauses, fits, get, held_bytes, IfErr, IfOk, IfSome, is_some, IsChanged, List, Mark, None, Ok, Option, over_bytes, PatchedSet, place_with, refl, Result, Some, stored_in, StreamError, subst, sym, Tables, true, ℕ, [], ◌∙◌, ◌≡◌}
use Rattle.std.specs.Option.{option_map_or}
use Rattle.tile_bridge.specs.declared.error.ConvertError.TheVariants.{OutOfMemory, StoreFault}
use Rattle.tile_streaming.specs.declared.error.StreamError.TheVariants.{Convert, StoreChanged}

module _ (s : PatchedSet) (t : Tables) (id : ℕ) where
  abbrev held : Option (Option (List ℕ))
  held = get s.over.state.tiles (place_with id)

  -- the bytes of a tile that is held whole, and of another one
  stored_held : is_some held ≡ true → stored_in s t id ≡ Some (held_bytes s.over.state.tiles id)
  stored_held h = by held h
    where
      by : (o : Option (Option (List ℕ))) → is_some o ≡ true → over_bytes o (bytes_told s.marked.layout t id) ≡ Some (option_map_or bytes_of o [])
      by (Some c) k = refl
      by None k = absurd (false≢true k)

  pub stored_under : is_some held ≡ false → stored_in s t id ≡ bytes_told s.marked.layout t id
  stored_under h = by held h
    where
      by : (o : Option (Option (List ℕ))) → is_some o ≡ false → over_bytes o (bytes_told s.marked.layout t id) ≡ bytes_told s.marked.layout t id
      by None k = refl
      by (Some c) k = absurd (false≢true (sym k))

  pub held_answer : (r : Result (Option (List Cell)) StreamError) → is_some held ≡ true → IfOk r (λ row. row ≡ None) → IfOk r (λ row. stored_in s t id ≡ Some (bytes_in s id row))
  held_answer (Ok row) h none = stored_held h ∙ ap (λ o. Some (bytes_in s id o)) (sym none)
  held_answer (Err e) h none = tt

-- contents that are held fit a mark, or not
pub held_found : (s : PatchedSet) (m : Mark) (r : Result (Option (List Cell)) StreamError) → IfOk r (λ row. row ≡ None) → IfOk r (λ row. fits m (held_bytes s.over.state.tiles m.id) ≡ true) → IfOk r (λ row. fits m (bytes_in s m.id row) ≡ true)
held_found s m (Ok row) none fit = subst (λ o. fits m (bytes_in s m.id o) ≡ true) (sym none) fit
held_found s m (Err e) none fit = tt

pub held_changed : (s : PatchedSet) (t : Tables) (m : Mark) (tells : Bool) (store : ℕ) (r : Result (Option (List Cell)) StreamError) → is_some (get s.over.state.tiles (place_with m.id)) ≡ true → IfErr r (λ e. e ≡ StoreChanged) → IfErr r (λ e. fits m (held_bytes s.over.state.tiles m.id) ≡ false)
    → FindCauses (IsChanged tells (stored_in s t) m) store store r
held_changed s t m tells store (Ok row) h is other = tt
held_changed s t m tells store (Err e) h is other =
    subst (λ x. FindCauses {A = Option (List Cell)} (IsChanged tells (stored_in s t) m) store store (Err x)) (sym is)
    (λ u. subst (λ o. IfSome o (λ bytes. fits m bytes ≡ false)) (sym (stored_held s t m.id h)) other)

-- those that aren't held are other ones in the store
pub changed_under : (s : PatchedSet) (t : Tables) (m : Mark) (tells : Bool) (store now : ℕ) (e : StreamError) → is_some (get s.over.state.tiles (place_with m.id)) ≡ false → FindCauses {A = List Cell} (IsChanged tells (bytes_told s.marked.layout t) m) store now (Err e)
    → FindCauses {A = Option (List Cell)} (IsChanged tells (stored_in s t) m) store now (Err e)
changed_under s t m tells store now StoreChanged h c = λ u. subst (λ o. IfSome o (λ bytes. fits m bytes ≡ false)) (sym (stored_under s t m.id h)) (c u)
changed_under s t m tells store now (Convert (StoreFault place)) h c = c
changed_under s t m tells store now (Convert OutOfMemory) h c = tt
changed_under s t m tells store now (Convert _) h c = absurd c
