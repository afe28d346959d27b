-- The state of a set after the edits of a patch is the patched state.
use Rattle.mb_edit.proofs.Common.{ap, below_all, Blob, Bool, bytes_put, Cell, cell_cmp-IsAntisymmetric, cells_total, cond, cons_option, content_entry, Contents, contents_over, dates_for, entries}
use Rattle.mb_edit.proofs.Common.{entries_sorted, eq_by_cmp, Equal-is, false, filter_map, find, FinMap, from_last, get, get-entries, get-from_entries, get-insert, get-remove, HashAlgorithm, Held}
use Rattle.mb_edit.proofs.Common.{held_patched, id_for, insert, is_named, is_null_at, is_sorted, IsAntisymmetric, IsTotalOrder, landed, List, MbtType, meta_patched, name_patched, Names}
use Rattle.mb_edit.proofs.Common.{names_antisymmetric, names_patched, nat_cmp, nat_list_cmp_total, None, not, null_cleared, Option, option_map, Ordering, over, patched_at, patched_by, Place}
use Rattle.mb_edit.proofs.Common.{place_cmp, places_antisymmetric, places_total, refl, remove, retain_keys, same_map, slice_cmp, Some, State, state_patched, subst, sym, T, tile_patched, tiles_patched}
use Rattle.mb_edit.proofs.Common.{TileSet, true, with_content, with_name, with_value, ℕ, [], ◌∙◌, ◌∷◌, ◌≡◌}
use Rattle.mb_edit.proofs.PatchedLemmas.{first, get-meta_patched, get-over, get-patched_by, none_below, second}

-- what each step of a patch makes of a map by place, of contents and of metadata
abbrev pub stepped : {A : Type 0} → (List ℕ → Option A) → FinMap place_cmp A → Place → Option (List ℕ) → FinMap place_cmp A
stepped given m p (Some bytes) = with_value m p (given bytes)
stepped given m p None = remove m p

abbrev pub steps : {A : Type 0} → (List ℕ → Option A) → FinMap place_cmp A → List (Place × Option (List ℕ)) → FinMap place_cmp A
steps given m [] = m
steps given m (e ∷ es) = stepped given (steps given m es) e.0 e.1

abbrev pub content_step : MbtType → HashAlgorithm → Contents → Option (List ℕ) → Contents
content_step layout a m (Some bytes) = with_content m (id_for layout a bytes) bytes
content_step layout a m None = m

abbrev pub content_steps : MbtType → HashAlgorithm → Contents → List (Place × Option (List ℕ)) → Contents
content_steps layout a m [] = m
content_steps layout a m (e ∷ es) = content_step layout a (content_steps layout a m es) e.1

abbrev name_step : Names → Option (List ℕ × Option (List ℕ)) → Names
name_step m (Some put) = insert m put.0 put.1
name_step m None = m

abbrev name_steps : Names → List (List ℕ × Option (List ℕ)) → Names
name_steps m [] = m
name_steps m (e ∷ es) = name_step (name_steps m es) (landed e)

abbrev null_step : Names → List ℕ → Option (List ℕ) → Names
null_step m name (Some text) = m
null_step m name None = remove m name

abbrev null_steps : Names → List (List ℕ × Option (List ℕ)) → Names
null_steps m [] = m
null_steps m (e ∷ es) = null_step (null_steps m es) e.0 e.1

-- the state after such steps
abbrev pub with_tiles : State → List (Place × Option (List ℕ)) → State
with_tiles s es = record s {
  tiles = steps (λ bytes. Some (Some bytes)) s.tiles es;
  ids = steps (id_for s.layout s.algorithm) s.ids es;
  contents = content_steps s.layout s.algorithm s.contents es;
  dates = steps (λ bytes. dates_for s.layout) s.dates es;
}

abbrev with_step : State → Place → Option (List ℕ) → State
with_step s p o = record s {
  tiles = stepped (λ bytes. Some (Some bytes)) s.tiles p o;
  ids = stepped (id_for s.layout s.algorithm) s.ids p o;
  contents = content_step s.layout s.algorithm s.contents o;
  dates = stepped (λ bytes. dates_for s.layout) s.dates p o;
}

tile_state : (h : Held) (p : Place) (o : Option (List ℕ)) → (tile_patched h (p, o)).state ≡ with_step h.state p o
tile_state h p (Some bytes) = refl
tile_state h p None = refl

pub tiles_state : (h : Held) (es : List (Place × Option (List ℕ))) → (from_last tile_patched h es).state ≡ with_tiles h.state es
tiles_state h [] = refl
tiles_state h (e ∷ es) = tile_state (from_last tile_patched h es) e.0 e.1 ∙ ap (λ (s : State). with_step s e.0 e.1) (tiles_state h es)

abbrev with_names : State → Names → State
with_names s names = record s { metadata = names }

name_state : (h : Held) (e : List ℕ × Option (List ℕ)) → (name_patched h e).state ≡ with_names h.state (name_step h.state.metadata (landed e))
name_state h e = by (landed e)
  where
    by : (o : Option (List ℕ × Option (List ℕ))) → (elim o as (λ _. Held) [ Some put ↦ with_name h put.0 put.1 | None ↦ h ]).state ≡ with_names h.state (name_step h.state.metadata o)
    by (Some put) = refl
    by None = refl

pub names_state : (h : Held) (es : List (List ℕ × Option (List ℕ))) → (from_last name_patched h es).state ≡ with_names h.state (name_steps h.state.metadata es)
names_state h [] = refl
names_state h (e ∷ es) = name_state (from_last name_patched h es) e ∙ ap (λ (s : State). with_names s (name_step s.metadata (landed e))) (names_state h es)

null_state : (h : Held) (name : List ℕ) (o : Option (List ℕ)) → (null_cleared h (name, o)).state ≡ with_names h.state (null_step h.state.metadata name o)
null_state h name (Some text) = refl
null_state h name None = refl

pub nulls_state : (h : Held) (es : List (List ℕ × Option (List ℕ))) → (from_last null_cleared h es).state ≡ with_names h.state (null_steps h.state.metadata es)
nulls_state h [] = refl
nulls_state h (e ∷ es) = null_state (from_last null_cleared h es) e.0 e.1 ∙ ap (λ (s : State). with_names s (null_step s.metadata e.0 e.1)) (nulls_state h es)

-- the same by definitions on maps
with_value_at : {A : Type 0} (m : FinMap place_cmp A) (p : Place) (o : Option A) (q : Place) → get (with_value m p o) q ≡ cond (eq_by_cmp place_cmp q p) o (get m q)
with_value_at m p None q = get-remove places_total m p q
with_value_at m p (Some v) q = get-insert places_total m p v q

module _ {A : Type 0} (given : List ℕ → Option A) (q : Place) where
  step_at : (m : FinMap place_cmp A) (p : Place) (o : Option (List ℕ)) → get (stepped given m p o) q ≡ cond (eq_by_cmp place_cmp q p) (patched_at given (Some o) None) (get m q)
  step_at m p None = get-remove places_total m p q
  step_at m p (Some bytes) = with_value_at m p (given bytes) q

  steps_at : (m : FinMap place_cmp A) (es : List (Place × Option (List ℕ))) → get (steps given m es) q ≡ patched_at given (find place_cmp q es) (get m q)
  steps_at m [] = refl
  steps_at m (e ∷ es) = step_at (steps given m es) e.0 e.1 ∙ by (eq_by_cmp place_cmp q e.0) e.1 (steps_at m es)
    where
      by : (b : Bool) (o : Option (List ℕ)) → get (steps given m es) q ≡ patched_at given (find place_cmp q es) (get m q) → cond b (patched_at given (Some o) None) (get (steps given m es) q) ≡ patched_at given (cond b (Some o) (find place_cmp q es)) (get m q)
      by true (Some bytes) rest = refl
      by true None rest = refl
      by false o rest = rest

pub steps_patched : {A : Type 0} (given : List ℕ → Option A) (m : FinMap place_cmp A) (p : TileSet) → steps given m (entries p) ≡ patched_by given p m
steps_patched given m p = same_map places_total places_antisymmetric _ _ (λ q. steps_at given q m (entries p) ∙ (ap (λ o. patched_at given o (get m q)) (sym (get-entries p q)) ∙ sym (get-patched_by given q p m)))

over_none : {K V : Type 0} {R : K → K → Ordering} → IsTotalOrder R → IsAntisymmetric R → (m : FinMap R V) → over [] m ≡ m
over_none total anti m = same_map total anti _ _ (λ q. get-from_entries total (entries m) q ∙ sym (get-entries m q))

-- an entry, if there is one, in front of others
abbrev with_entry : Contents → Option (Cell × Cell) → Contents
with_entry m (Some x) = insert m x.0 x.1
with_entry m None = m

pub contents_same : (layout : MbtType) (a : HashAlgorithm) (m : Contents) (es : List (Place × Option (List ℕ))) → content_steps layout a m es ≡ contents_over layout a (filter_map (λ e. e.1) es) m
contents_same layout a m [] = sym (over_none cells_total cell_cmp-IsAntisymmetric m)
contents_same layout a m (e ∷ es) = by e.1 (contents_same layout a m es)
  where
    put : (bytes : List ℕ) (o : Option Cell) (c : Contents) → with_content c o bytes ≡ with_entry c (option_map (λ id. (id, Blob bytes)) o)
    put bytes (Some id) c = refl
    put bytes None c = refl

    over_put : (o : Option (Cell × Cell)) (xs : List (Cell × Cell)) → with_entry (over xs m) o ≡ over (cons_option o xs) m
    over_put (Some x) xs = refl
    over_put None xs = refl

    by : (o : Option (List ℕ)) → content_steps layout a m es ≡ contents_over layout a (filter_map (λ e. e.1) es) m → content_step layout a (content_steps layout a m es) o ≡ contents_over layout a (cons_option o (filter_map (λ e. e.1) es)) m
    by None rest = rest
    by (Some bytes) rest =
        ap (λ c. with_content c (id_for layout a bytes) bytes) rest
        ∙ (put bytes (id_for layout a bytes) (contents_over layout a (filter_map (λ e. e.1) es) m)
        ∙ over_put (content_entry layout a bytes) (filter_map (content_entry layout a) (filter_map (λ e. e.1) es)))

names_same : (m : Names) (es : List (List ℕ × Option (List ℕ))) → name_steps m es ≡ over (filter_map landed es) m
names_same m [] = sym (over_none nat_list_cmp_total names_antisymmetric m)
names_same m (e ∷ es) = by (landed e) (names_same m es)
  where
    by : (o : Option (List ℕ × Option (List ℕ))) → name_steps m es ≡ over (filter_map landed es) m → name_step (name_steps m es) o ≡ over (cons_option o (filter_map landed es)) m
    by None rest = rest
    by (Some put) rest = ap (λ (n : Names). insert n put.0 put.1) rest

-- names that have null, each name once
nulls_at : (name : List ℕ) (m : Names) (es : List (List ℕ × Option (List ℕ))) → T (is_sorted (slice_cmp nat_cmp) es) → get (null_steps m es) name ≡ cond (not (is_null_at (find (slice_cmp nat_cmp) name es))) (get m name) None
nulls_at name m [] h = refl
nulls_at name m (e ∷ es) h = one e.1 (eq_by_cmp (slice_cmp nat_cmp) name e.0) refl (nulls_at name m es (second _ _ h))
  where
    one : (o : Option (List ℕ)) (b : Bool) → eq_by_cmp (slice_cmp nat_cmp) name e.0 ≡ b → get (null_steps m es) name ≡ cond (not (is_null_at (find (slice_cmp nat_cmp) name es))) (get m name) None → get (null_step (null_steps m es) e.0 o) name ≡ cond (not (is_null_at (cond b (Some o) (find (slice_cmp nat_cmp) name es)))) (get m name) None
    one (Some text) false same rest = rest
    one (Some text) true same rest =
        let here : name ≡ e.0 = names_antisymmetric name e.0 ((Equal-is (slice_cmp nat_cmp name e.0)).0 same) in
        let none : find (slice_cmp nat_cmp) name es ≡ None = none_below (slice_cmp nat_cmp) name es (subst (λ (x : List ℕ). T (below_all (slice_cmp nat_cmp) x es)) (sym here) (first _ _ h)) in
        rest ∙ ap (λ o. cond (not (is_null_at o)) (get m name) None) none
    one None true same rest = get-remove nat_list_cmp_total (null_steps m es) e.0 name ∙ ap (λ b. cond b None (get (null_steps m es) name)) same
    one None false same rest = get-remove nat_list_cmp_total (null_steps m es) e.0 name ∙ (ap (λ b. cond b None (get (null_steps m es) name)) same ∙ rest)

names_patched_same : (m n : Names) → null_steps (name_steps m (entries n)) (entries n) ≡ meta_patched m n
names_patched_same m n = same_map nat_list_cmp_total names_antisymmetric _ _ (λ name.
    nulls_at name (name_steps m (entries n)) (entries n) (entries_sorted n)
    ∙ (ap (λ o. cond (not (is_null_at o)) (get (name_steps m (entries n)) name) None) (sym (get-entries n name))
    ∙ (ap (λ (x : Names). cond (not (is_null_at (get n name))) (get x name) None) (names_same m (entries n))
    ∙ (ap (λ o. cond (not (is_null_at (get n name))) o None) (get-over nat_list_cmp_total (filter_map landed (entries n)) m name)
    ∙ sym (get-meta_patched m n name)))))

-- the state after a patch
abbrev made : State → State → State
made s q = record s {
  tiles = steps (λ bytes. Some (Some bytes)) s.tiles (entries q.tiles);
  ids = steps (id_for s.layout s.algorithm) s.ids (entries q.tiles);
  contents = retain_keys (content_steps s.layout s.algorithm s.contents (entries q.tiles)) (is_named (steps (id_for s.layout s.algorithm) s.ids (entries q.tiles)));
  dates = steps (λ bytes. dates_for s.layout) s.dates (entries q.tiles);
  metadata = null_steps (name_steps s.metadata (entries q.metadata)) (entries q.metadata);
}

abbrev referenced : State → State
referenced s = record s { contents = retain_keys s.contents (is_named s.ids) }

edits_made : (h : Held) (q : State) → (held_patched h q).state ≡ made h.state q
edits_made h q =
    ap referenced
    (nulls_state (names_patched (tiles_patched h q) q) (entries q.metadata)
    ∙ (ap (λ (s : State). with_names s (null_steps s.metadata (entries q.metadata))) (names_state (tiles_patched h q) (entries q.metadata))
    ∙ ap (λ (s : State). with_names s (null_steps (name_steps s.metadata (entries q.metadata)) (entries q.metadata))) (tiles_state h (entries q.tiles))))

pub patched_state : (h : Held) (q : State) → (held_patched h q).state ≡ state_patched h.state q
patched_state h q = edits_made h q ∙ same
  where
    ids_same : steps (id_for h.state.layout h.state.algorithm) h.state.ids (entries q.tiles) ≡ patched_by (id_for h.state.layout h.state.algorithm) q.tiles h.state.ids
    ids_same = steps_patched (id_for h.state.layout h.state.algorithm) h.state.ids q.tiles

    contents_are : content_steps h.state.layout h.state.algorithm h.state.contents (entries q.tiles) ≡ contents_over h.state.layout h.state.algorithm (bytes_put q.tiles) h.state.contents
    contents_are = contents_same h.state.layout h.state.algorithm h.state.contents (entries q.tiles)

    same : made h.state q ≡ state_patched h.state q
    same = λ i. record h.state {
      tiles = steps_patched (λ bytes. Some (Some bytes)) h.state.tiles q.tiles i;
      ids = ids_same i;
      contents = retain_keys (contents_are i) (is_named (ids_same i));
      dates = steps_patched (λ bytes. dates_for h.state.layout) h.state.dates q.tiles i;
      metadata = names_patched_same h.state.metadata q.metadata i;
    }
