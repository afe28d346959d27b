-- A patched set was loaded from the tables of its base.
use Rattle.mb_edit.proofs.Common.{AllOnBoard, ap, Blob, Bool, bytes_put, collides, cond, cons_option, contents_over, digest, entries, eq_by_cmp, false, false≢true, filter_map, from_last}
use Rattle.mb_edit.proofs.Common.{from_only_referenced, from_removed_name, from_removed_tile, from_with_name, from_with_tile, get, get-entries, Held, held_patched, id_collides, is_editable, is_eq}
use Rattle.mb_edit.proofs.Common.{is_normalized, is_some, IsFree, IsLoadedFrom, IsOnBoard, landed, List, may_patch, MbtType, name_patched, names_patched, None, Normalized, null_cleared, Option, Place}
use Rattle.mb_edit.proofs.Common.{place_cmp, places_total, refl, Some, State, subst, sym, Tables, Text, tied_itself, tile_patched, tiles_patched, true, with_name, ℕ, [], ◌∙◌, ◌∷◌, ◌≡◌}
use Rattle.std.proofs.Common.{find}
use Rattle.std.specs.FinMap as fin
use Rattle.mb_edit.proofs.FreeLemmas.{put_free}
use Rattle.mb_edit.proofs.MarkLemmas.{rest_apart}
use Rattle.mb_edit.proofs.PassedLemmas.{none_collide, passed}
use Rattle.mb_edit.proofs.StateLemmas.{contents_same, tiles_state, with_tiles}

-- the places of a list of tiles are on the board
pub record AreOnBoard (es : List (Place × Option (List ℕ))) : Type 0 where
  pub within : (p : Place) → is_some (fin.find place_cmp p es) ≡ true → IsOnBoard p

pub here : {A : Type 0} (b : Bool) (x : A) (o : Option A) → b ≡ true → is_some (cond b (Some x) o) ≡ true
here true x o h = refl
here false x o h = absurd (false≢true h)

pub later : {A : Type 0} (b : Bool) (x : A) (o : Option A) → is_some o ≡ true → is_some (cond b (Some x) o) ≡ true
later true x o h = refl
later false x o h = h

-- the bytes that are put don't collide, where the set has ids
pub record AreApart (s : State) (put : List (List ℕ)) : Type 0 where
  pub none : is_normalized s.layout ≡ true → find (collides (digest s.algorithm) s.contents put) put ≡ None

apart_rest : (s : State) (bytes : List ℕ) (put : List (List ℕ)) → AreApart s (bytes ∷ put) → AreApart s put
apart_rest s bytes put a = record { none = λ n. (rest_apart (digest s.algorithm) s.contents bytes put (a.none n)).1 }

apart_tail : (s : State) (o : Option (List ℕ)) (put : List (List ℕ)) → AreApart s (cons_option o put) → AreApart s put
apart_tail s None put a = a
apart_tail s (Some bytes) put a = apart_rest s bytes put a

-- bytes that don't collide are free where those behind them were put
free_in : (s : State) (es : List (Place × Option (List ℕ))) (bytes : List ℕ) → is_normalized s.layout ≡ true → AreApart s (bytes ∷ filter_map (λ e. e.1) es) → IsFree (with_tiles s es) bytes
free_in s es bytes n a cell e =
    by s.layout n (ap (λ c. get c (Text (digest s.algorithm bytes))) (sym (contents_same s.layout s.algorithm s.contents es)) ∙ e)
    (rest_apart (digest s.algorithm) s.contents bytes (filter_map (λ e. e.1) es) (a.none n)).0
  where
    by : (layout : MbtType) → is_normalized layout ≡ true → get (contents_over layout s.algorithm (filter_map (λ e. e.1) es) s.contents) (Text (digest s.algorithm bytes)) ≡ Some cell → collides (digest s.algorithm) s.contents (filter_map (λ e. e.1) es) bytes ≡ false → cell ≡ Blob bytes
    by (Normalized view schema) n e h = put_free view schema s.algorithm s.contents (filter_map (λ e. e.1) es) bytes h cell e
    by _ n e h = absurd (false≢true n)

-- a set without ids has no contents under any
free_without : (t : Tables) (h : Held) (bytes : List ℕ) → is_normalized h.state.layout ≡ false → IsLoadedFrom t h → IsFree h.state bytes
free_without t h bytes n l cell e = absurd (false≢true (sym n ∙ (l.state.stored (Text (digest h.state.algorithm bytes)) cell e).normalised))

module _ (t : Tables) where
  free_at : (h : Held) (es : List (Place × Option (List ℕ))) (bytes : List ℕ) → AreApart h.state (bytes ∷ filter_map (λ e. e.1) es) → IsLoadedFrom t (from_last tile_patched h es) → IsFree (from_last tile_patched h es).state bytes
  free_at h es bytes a l = by (is_normalized h.state.layout) refl
    where
      same : (from_last tile_patched h es).state ≡ with_tiles h.state es
      same = tiles_state h es

      by : (b : Bool) → is_normalized h.state.layout ≡ b → IsFree (from_last tile_patched h es).state bytes
      by true n = subst (λ (s : State). IsFree s bytes) (sym same) (free_in h.state es bytes n a)
      by false n = free_without t (from_last tile_patched h es) bytes (ap (λ (s : State). is_normalized s.layout) same ∙ n) l

  pub tiles_loaded : (h : Held) (es : List (Place × Option (List ℕ))) → AreOnBoard es → is_editable h.state.layout ≡ true → AreApart h.state (filter_map (λ e. e.1) es) → IsLoadedFrom t h → IsLoadedFrom t (from_last tile_patched h es)
  tiles_loaded h [] on edit a l = l
  tiles_loaded h (e ∷ es) on edit a l =
      by e.1 a (tiles_loaded h es (record { within = λ p f. on.within p (later (eq_by_cmp place_cmp p e.0) e.1 (fin.find place_cmp p es) f) }) edit (apart_tail h.state e.1 (filter_map (λ e. e.1) es) a) l)
    where
      place : IsOnBoard e.0
      place = on.within e.0 (here (eq_by_cmp place_cmp e.0 e.0) e.1 (fin.find place_cmp e.0 es) (ap is_eq (tied_itself places_total e.0)))

      by : (o : Option (List ℕ)) → AreApart h.state (cons_option o (filter_map (λ e. e.1) es)) → IsLoadedFrom t (from_last tile_patched h es) → IsLoadedFrom t (tile_patched (from_last tile_patched h es) (e.0, o))
      by (Some bytes) a l = from_with_tile t (from_last tile_patched h es) e.0 bytes place (ap (λ (s : State). is_editable s.layout) (tiles_state h es) ∙ edit) (free_at h es bytes a l) l
      by None a l = from_removed_tile t (from_last tile_patched h es) e.0 l

  names_loaded : (h : Held) (es : List (List ℕ × Option (List ℕ))) → IsLoadedFrom t h → IsLoadedFrom t (from_last name_patched h es)
  names_loaded h [] l = l
  names_loaded h (e ∷ es) l = by (landed e) (names_loaded h es l)
    where
      by : (o : Option (List ℕ × Option (List ℕ))) → IsLoadedFrom t (from_last name_patched h es) → IsLoadedFrom t (elim o as (λ _. Held) [ Some put ↦ with_name (from_last name_patched h es) put.0 put.1 | None ↦ from_last name_patched h es ])
      by (Some put) l = from_with_name t (from_last name_patched h es) put.0 put.1 l
      by None l = l

  nulls_loaded : (h : Held) (es : List (List ℕ × Option (List ℕ))) → IsLoadedFrom t h → IsLoadedFrom t (from_last null_cleared h es)
  nulls_loaded h [] l = l
  nulls_loaded h (e ∷ es) l = by e.1 (nulls_loaded h es l)
    where
      by : (o : Option (List ℕ)) → IsLoadedFrom t (from_last null_cleared h es) → IsLoadedFrom t (null_cleared (from_last null_cleared h es) (e.0, o))
      by (Some text) l = l
      by None l = from_removed_name t (from_last null_cleared h es) e.0 l

  pub patched_loaded : (force : Bool) (h : Held) (q : State) → may_patch force h.state q ≡ None → AllOnBoard q → IsLoadedFrom t h → IsLoadedFrom t (held_patched h q)
  patched_loaded force h q may on l =
      let p = passed force h.state q may in
      let tiles : IsLoadedFrom t (tiles_patched h q) = tiles_loaded h (entries q.tiles) (record { within = λ x f. on x (ap is_some (get-entries q.tiles x) ∙ f) }) p.can_edit (record { none = λ n. apart h.state.layout n p.apart }) l in
      from_only_referenced t _ (nulls_loaded (names_patched (tiles_patched h q) q) (entries q.metadata) (names_loaded (tiles_patched h q) (entries q.metadata) tiles))
    where
      apart : (layout : MbtType) → is_normalized layout ≡ true → id_collides layout h.state.algorithm h.state.contents (bytes_put q.tiles) ≡ None → find (collides (digest h.state.algorithm) h.state.contents (bytes_put q.tiles)) (bytes_put q.tiles) ≡ None
      apart (Normalized view schema) n k = none_collide h.state q view schema k
      apart _ n k = absurd (false≢true n)
