-- The rows of the places that patches have.
use Rattle.tile_bridge.proofs.Common.{all_held, ap, AreStatesOf, Bool, Cell, contains_key, false, false≢true, get, has_place, Held, held_patched, inl, inr, is_patched_at, is_some, List, list_any}
use Rattle.tile_bridge.proofs.Common.{names_patched, None, nulls_cleared, Ok, Option, option_map, option_to_list, Place, put_row, refl, rows_put, Some, State, state_of, state_patched, stay_named}
use Rattle.tile_bridge.proofs.Common.{subst, sym, Tables, tiles_patched, true, ℕ, [], ◌++◌, ◌||◌, ◌∙◌, ◌∷◌, ◌≡◌, ◌⊎◌}
use Rattle.mb_edit.proofs.EditedLemmas.{places_edited}
use Rattle.mb_edit.proofs.PatchedLemmas.{get-patched_by}
use Rattle.mb_edit.proofs.StateLemmas.{patched_state}
use Rattle.mb_edit.specs.Patched.{patched_at}
use Rattle.mb_load.proofs.LoadsFrom.{state_whole}
use Rattle.mb_loaded.specs.Changing.{cells_for, front, tile_row}
use Rattle.mb_loaded.specs.Edits.{dates_for, id_for}
use Rattle.mb_loaded.specs.Editable.{IsOnBoard}
use Rattle.mb_lists.specs.declared.dates.Dates.{Dates}
use Rattle.mb_tables.specs.declared.kind.MbtType.{MbtType}
use Rattle.tile_hash.specs.declared.algorithm.HashAlgorithm.{HashAlgorithm}

-- whether one of the patches has a place
abbrev pub has_one : List State → Place → Bool
has_one qs p = list_any (λ q. contains_key q.tiles p) qs

pub same_places : (ts : List Tables) (qs : List State) (p : Place) → AreStatesOf ts qs → is_patched_at ts p ≡ has_one qs p
same_places [] [] p are = refl
same_places [] (q ∷ qs) p are = absurd (cc)
same_places (t ∷ ts) [] p are = absurd (cc)
same_places (t ∷ ts) (q ∷ qs) p are =
    let head : state_of t ≡ Ok q = cc in
    let tail : AreStatesOf ts qs = cc in
    λ i. has_place p (head i) || same_places ts qs p tail i

pub places_on_board : (ts : List Tables) (qs : List State) (p : Place) → AreStatesOf ts qs → has_one qs p ≡ true → IsOnBoard p
places_on_board [] [] p are has = absurd (false≢true has)
places_on_board [] (q ∷ qs) p are has = absurd (cc)
places_on_board (t ∷ ts) [] p are has = absurd (cc)
places_on_board (t ∷ ts) (q ∷ qs) p are has =
    let head : state_of t ≡ Ok q = cc in
    let tail : AreStatesOf ts qs = cc in
    by (contains_key q.tiles p) refl head (λ has. places_on_board ts qs p tail has) has
  where
    by : (b : Bool) → contains_key q.tiles p ≡ b → state_of t ≡ Ok q → (has_one qs p ≡ true → IsOnBoard p) → b || has_one qs p ≡ true → IsOnBoard p
    by true e head rest has = (state_whole t q head).0.on_board p e
    by false e head rest has = rest has

-- the places of all patches count as edited
or_none : (b : Bool) → b || false ≡ b
or_none true = refl
or_none false = refl

or_moved : (a b c : Bool) → (a || b) || c ≡ a || (b || c)
or_moved true b c = refl
or_moved false b c = refl

pub all_edited : (h : Held) (qs : List State) (p : Place) → contains_key (all_held h qs).edited.places p ≡ contains_key h.edited.places p || has_one qs p
all_edited h [] p = sym (or_none (contains_key h.edited.places p))
all_edited h (q ∷ qs) p = all_edited (held_patched h q) qs p ∙ ap (λ b. b || has_one qs p) (places_edited h q p) ∙ or_moved (contains_key h.edited.places p) (contains_key q.tiles p) (has_one qs p)

-- the row of a tile, and the one that a patch puts
abbrev row_from : MbtType → HashAlgorithm → Place → Option (Option (List ℕ)) → Option Cell → Option Dates → List (List Cell)
row_from layout a p tile id dates = option_to_list (option_map (λ contents. front p ++ cells_for layout a contents id dates) tile)

abbrev put_from : MbtType → HashAlgorithm → Place → Option (Option (List ℕ)) → List (List Cell)
put_from layout a p (Some (Some bytes)) = put_row layout a p bytes ∷ []
put_from layout a p (Some None) = []
put_from layout a p None = []

put_is : (s : State) (p : Place) → rows_put s p ≡ put_from s.layout s.algorithm p (get s.tiles p)
put_is s p = by (get s.tiles p) refl
  where
    by : (o : Option (Option (List ℕ))) → get s.tiles p ≡ o → rows_put s p ≡ put_from s.layout s.algorithm p o
    by None e = simp e
    by (Some None) e = simp e
    by (Some (Some bytes)) e = simp e

abbrev pub IsRowPut : State → Place → Type 0
IsRowPut s p = option_to_list (tile_row s p) ≡ rows_put s p

-- after one patch
module _ (s q : State) (p : Place) where
  abbrev tile_of_patch : Option (Option (List ℕ)) → Option (Option (List ℕ))
  tile_of_patch o = patched_at (λ bytes. Some (Some bytes)) o (get s.tiles p)

  abbrev row_of_patch : Option (Option (List ℕ)) → List (List Cell)
  row_of_patch o = row_from s.layout s.algorithm p (tile_of_patch o) (patched_at (id_for s.layout s.algorithm) o (get s.ids p)) (patched_at (λ bytes. dates_for s.layout) o (get s.dates p))

  row_after : option_to_list (tile_row (state_patched s q) p) ≡ row_of_patch (get q.tiles p)
  row_after = λ i. row_from s.layout s.algorithm p (get-patched_by (λ bytes. Some (Some bytes)) p q.tiles s.tiles i) (get-patched_by (id_for s.layout s.algorithm) p q.tiles s.ids i) (get-patched_by (λ bytes. dates_for s.layout) p q.tiles s.dates i)

  put_after : rows_put (state_patched s q) p ≡ put_from s.layout s.algorithm p (tile_of_patch (get q.tiles p))
  put_after = put_is (state_patched s q) p ∙ ap (put_from s.layout s.algorithm p) (get-patched_by (λ bytes. Some (Some bytes)) p q.tiles s.tiles)

  put_more : (contains_key q.tiles p ≡ false → IsRowPut s p) → IsRowPut (state_patched s q) p
  put_more before = row_after ∙ by (get q.tiles p) refl ∙ sym put_after
    where
      by : (o : Option (Option (List ℕ))) → get q.tiles p ≡ o → row_of_patch o ≡ put_from s.layout s.algorithm p (tile_of_patch o)
      by (Some (Some bytes)) e = refl
      by (Some None) e = refl
      by None e = before (ap is_some e) ∙ put_is s p

-- after all patches
pub all_put : (h : Held) (qs : List State) (p : Place) → IsRowPut h.state p ⊎ (has_one qs p ≡ true) → IsRowPut (all_held h qs).state p
all_put h [] p (inl put) = put
all_put h [] p (inr has) = absurd (false≢true has)
all_put h (q ∷ qs) p before = all_put (held_patched h q) qs p (by (contains_key q.tiles p) refl before)
  where
    moved : IsRowPut (state_patched h.state q) p → IsRowPut (held_patched h q).state p
    moved put = subst (λ (s : State). IsRowPut s p) (sym (patched_state h q)) put

    by : (b : Bool) → contains_key q.tiles p ≡ b → IsRowPut h.state p ⊎ (b || has_one qs p ≡ true) → IsRowPut (held_patched h q).state p ⊎ (has_one qs p ≡ true)
    by true e before = inl (moved (put_more h.state q p (λ none. absurd (false≢true (sym none ∙ e)))))
    by false e (inl put) = inl (moved (put_more h.state q p (λ none. put)))
    by false e (inr has) = inr has

-- contents with an id are those that a tile has
abbrev pub AreReferenced : State → Type 0
AreReferenced s = (id cell : Cell) → get s.contents id ≡ Some cell → (p : Place) × (get s.ids p ≡ Some id)

one_referenced : (h : Held) (q : State) → AreReferenced (held_patched h q).state
one_referenced h q = stay_named (nulls_cleared (names_patched (tiles_patched h q) q) q)

pub all_referenced : (h : Held) (q : State) (qs : List State) → AreReferenced (all_held h (q ∷ qs)).state
all_referenced h q [] = one_referenced h q
all_referenced h q (r ∷ qs) = all_referenced (held_patched h q) r qs
