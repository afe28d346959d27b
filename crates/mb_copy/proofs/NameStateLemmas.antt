-- The state of a set after names were put.
use Rattle.mb_copy.proofs.Common.{aggregate, all_times_put, ap, append_assoc, Bool, codes, cond, contains_key, copied, copied_metadata, copies_metadata, Dates, entries, entries_put, false, find}
use Rattle.mb_copy.proofs.Common.{find-join, FinMap, from_last, get, get-entries, get-from_entries, get-over, HashAlgorithm, Held, held_copied, held_with, held_with_names, insert, List, MbtilesCopier}
use Rattle.mb_copy.proofs.Common.{name_of, name_put, Names, names_antisymmetric, names_to_put, NamesAlgorithm, nat_cmp, nat_list_cmp_total, None, nothing_edited, nulls_put, Option, option_and_then}
use Rattle.mb_copy.proofs.Common.{option_or, over, Place, place_cmp, refl, same_map, slice_cmp, Some, State, stored_aggregate, stored_algorithm, stores_aggregate, subst, sym, text_at, text_entries}
use Rattle.mb_copy.proofs.Common.{tiles_put, tiles_to_put, TileSet, times_to_put, true, with_copies, ℕ, [], ◌++◌, ◌||◌, ◌∙◌, ◌∷◌, ◌≡◌}
use Rattle.mb_constraints.specs.Algorithm.{algorithm_by, unknown_name}
use Rattle.mb_copy.proofs.TileStateLemmas.{tiles_edited_with, tiles_with, with_tiles}
use Rattle.mb_load.proofs.AlgorithmNames.{name_back, name_known}

abbrev pub Named : Type 0
Named = List ℕ × Option (List ℕ)

-- names one after another, from the last to the first
abbrev names_in : Names → List Named → Names
names_in m [] = m
names_in m (e ∷ es) = insert (names_in m es) e.0 e.1

abbrev pub with_names : State → Names → State
with_names s names = record s { metadata = names }

names_state : (h : Held) (es : List Named) → (from_last name_put h es).state ≡ with_names h.state (names_in h.state.metadata es)
names_state h [] = refl
names_state h (e ∷ es) = ap (λ (s : State). with_names s (insert s.metadata e.0 e.1)) (names_state h es)

names_over : (m : Names) (es : List Named) → names_in m es ≡ over es m
names_over m [] = same_map nat_list_cmp_total names_antisymmetric _ _ (λ q. get-entries m q ∙ sym (get-from_entries nat_list_cmp_total (entries m) q))
names_over m (e ∷ es) = ap (λ (n : Names). insert n e.0 e.1) (names_over m es)

pub names_put_state : (h : Held) (es : List Named) → (from_last name_put h es).state ≡ with_names h.state (over es h.state.metadata)
names_put_state h es = names_state h es ∙ ap (with_names h.state) (names_over h.state.metadata es)

-- names aren't places
pub names_unplaced : (h : Held) (es : List Named) → (from_last name_put h es).edited.places ≡ h.edited.places
names_unplaced h [] = refl
names_unplaced h (e ∷ es) = names_unplaced h es

-- names in two parts
pub in_parts : (h : Held) (xs ys : List Named) → from_last name_put h (xs ++ ys) ≡ from_last name_put (from_last name_put h ys) xs
in_parts h [] ys = refl
in_parts h (x ∷ xs) ys = ap (λ (h : Held). name_put h x) (in_parts h xs ys)

-- the whole state
pub state_with : (c : MbtilesCopier) (made : Bool) (h : Held) (put : TileSet) (times : FinMap place_cmp Dates) (names : Names) → (held_with c made h put times names).state ≡ with_copies c made h.state put times names
state_with c made h put times names =
    names_put_state (all_times_put times (nulls_put (tiles_put h put) put) put) (entries_put c made (all_times_put times (nulls_put (tiles_put h put) put) put).state.algorithm (all_times_put times (nulls_put (tiles_put h put) put) put).state.tiles names)
    ∙ ap (λ (s : State). with_names s (copied_metadata c made s.algorithm s.tiles names s.metadata)) (tiles_with h put times)

-- the places that count as edited
pub edited_with : (c : MbtilesCopier) (made : Bool) (h : Held) (put : TileSet) (times : FinMap place_cmp Dates) (names : Names) → h.edited ≡ nothing_edited → (q : Place) → contains_key (held_with c made h put times names).edited.places q ≡ contains_key put q
edited_with c made h put times names clean q =
    ap (λ m. contains_key m q) (names_unplaced (all_times_put times (nulls_put (tiles_put h put) put) put) (entries_put c made (all_times_put times (nulls_put (tiles_put h put) put) put).state.algorithm (all_times_put times (nulls_put (tiles_put h put) put) put).state.tiles names))
    ∙ tiles_edited_with h put times clean q

pub copied_state : (c : MbtilesCopier) (made : Bool) (source : State) (h : Held) → (held_copied c made source h).state ≡ copied c made source h.state
copied_state c made source h = state_with c made h (tiles_to_put c source.tiles h.state) (times_to_put c source h.state) (names_to_put c source.metadata h.state.metadata)

abbrev algorithm_name : List ℕ
algorithm_name = codes "hash_algorithm"

abbrev find_name : List Named → Option (Option (List ℕ))
find_name es = find (slice_cmp nat_cmp) algorithm_name es

abbrev text_in : Option (Option (List ℕ)) → Option (List ℕ)
text_in o = option_and_then (λ value. value) o

-- the hash is no name of an algorithm
no_hash : (o : Option (List ℕ)) → find_name (text_entries (codes "agg_tiles_hash") o) ≡ None
no_hash None = refl
no_hash (Some text) = refl

module _ (c : MbtilesCopier) (made : Bool) (s : State) (tiles : TileSet) (names : Names) (none : get names algorithm_name ≡ None) where
  rest_none : find_name (stored_aggregate c s.algorithm tiles ++ entries names) ≡ None
  rest_none = find-join (slice_cmp nat_cmp) algorithm_name (stored_aggregate c s.algorithm tiles) (entries names) ∙ (ap (λ o. option_or o (find_name (entries names))) (no_hash _) ∙ (sym (get-entries names algorithm_name) ∙ none))

  name_found : (b : Bool) → find_name (text_entries algorithm_name (cond b (Some (name_of s.algorithm)) None) ++ stored_aggregate c s.algorithm tiles ++ entries names) ≡ cond b (Some (Some (name_of s.algorithm))) None
  name_found true = refl
  name_found false = rest_none

  text_is : text_at (copied_metadata c made s.algorithm tiles names s.metadata) algorithm_name ≡ text_in (option_or (cond (copies_metadata c.copy || made || stores_aggregate c) (Some (Some (name_of s.algorithm))) None) (get s.metadata algorithm_name))
  text_is = ap text_in (get-over nat_list_cmp_total (entries_put c made s.algorithm tiles names) s.metadata algorithm_name ∙ ap (λ o. option_or o (get s.metadata algorithm_name)) (name_found (copies_metadata c.copy || made || stores_aggregate c)))

  not_made : (a b d : Bool) → (a || b || d) ≡ false → b ≡ false
  not_made false false d h = refl
  not_made _ _ d h = cc

  pub named_by : (made ≡ false → NamesAlgorithm s) → (unknown_name (text_at (copied_metadata c made s.algorithm tiles names s.metadata) algorithm_name) ≡ None) × (algorithm_by (text_at (copied_metadata c made s.algorithm tiles names s.metadata) algorithm_name) ≡ s.algorithm)
  named_by had = by (copies_metadata c.copy || made || stores_aggregate c) refl
    where
      at : (b : Bool) → (copies_metadata c.copy || made || stores_aggregate c) ≡ b → text_at (copied_metadata c made s.algorithm tiles names s.metadata) algorithm_name ≡ text_in (option_or (cond b (Some (Some (name_of s.algorithm))) None) (get s.metadata algorithm_name))
      at b e = text_is ∙ ap (λ b. text_in (option_or (cond b (Some (Some (name_of s.algorithm))) None) (get s.metadata algorithm_name))) e

      by : (b : Bool) → (copies_metadata c.copy || made || stores_aggregate c) ≡ b → (unknown_name (text_at (copied_metadata c made s.algorithm tiles names s.metadata) algorithm_name) ≡ None) × (algorithm_by (text_at (copied_metadata c made s.algorithm tiles names s.metadata) algorithm_name) ≡ s.algorithm)
      by true e = (ap unknown_name (at true e) ∙ name_known s.algorithm, ap algorithm_by (at true e) ∙ name_back s.algorithm)
      by false e =
          let was : NamesAlgorithm s = had (not_made (copies_metadata c.copy) made (stores_aggregate c) e) in
          (ap unknown_name (at false e) ∙ was.known, ap algorithm_by (at false e) ∙ was.named)

pub named_with : (c : MbtilesCopier) (made : Bool) (h : Held) (put : TileSet) (times : FinMap place_cmp Dates) (names : Names) → get names (codes "hash_algorithm") ≡ None → (made ≡ false → NamesAlgorithm h.state) → NamesAlgorithm (held_with c made h put times names).state
named_with c made h put times names none had =
    let two = named_by c made h.state (with_tiles h.state put times).tiles names none had in
    subst NamesAlgorithm (sym (state_with c made h put times names)) (record { known = two.0; named = two.1 })

-- names, the hash and the algorithm, one after another
in_turn : (h a b d e : Held) (xs : List Named) (hash algorithm : Option (List ℕ)) → a ≡ h → b ≡ from_last name_put a xs → d ≡ from_last name_put b (text_entries (codes "agg_tiles_hash") hash) → e ≡ from_last name_put d (text_entries algorithm_name algorithm) → e ≡ from_last name_put h (text_entries algorithm_name algorithm ++ (text_entries (codes "agg_tiles_hash") hash ++ xs))
in_turn h a b d e xs hash algorithm opened named hashed last =
    last
    ∙ (ap (λ (x : Held). from_last name_put x (text_entries algorithm_name algorithm)) (hashed
    ∙ (ap (λ (x : Held). from_last name_put x (text_entries (codes "agg_tiles_hash") hash)) (named ∙ ap (λ (x : Held). from_last name_put x xs) opened)
    ∙ sym (in_parts h (text_entries (codes "agg_tiles_hash") hash) xs)))
    ∙ sym (in_parts h (text_entries algorithm_name algorithm) (text_entries (codes "agg_tiles_hash") hash ++ xs)))

pub names_are : (c : MbtilesCopier) (made : Bool) (h a b d e : Held) (names : Names) (hash algorithm : Option (List ℕ)) (by : HashAlgorithm) → a ≡ h → b ≡ from_last name_put a (entries names) → d ≡ from_last name_put b (text_entries (codes "agg_tiles_hash") hash) → e ≡ from_last name_put d (text_entries (codes "hash_algorithm") algorithm)
    → hash ≡ cond (stores_aggregate c) (Some (aggregate h.state.algorithm h.state.tiles)) None → algorithm ≡ cond (copies_metadata c.copy || made || stores_aggregate c) (Some (name_of by)) None → by ≡ h.state.algorithm → e ≡ held_with_names c made h names
names_are c made h a b d e names hash algorithm by opened named hashed last is_hash is_algorithm same =
    in_turn h a b d e (entries names) hash algorithm opened named hashed last
    ∙ (ap (λ (es : List Named). from_last name_put h es) (sym (append_assoc (text_entries algorithm_name algorithm) (text_entries (codes "agg_tiles_hash") hash) (entries names)))
    ∙ (ap (λ (o : Option (List ℕ)). from_last name_put h (text_entries algorithm_name o ++ text_entries (codes "agg_tiles_hash") hash ++ entries names)) (is_algorithm ∙ ap (λ (a : HashAlgorithm). cond (copies_metadata c.copy || made || stores_aggregate c) (Some (name_of a)) None) same)
    ∙ ap (λ (o : Option (List ℕ)). from_last name_put h (stored_algorithm c made h.state.algorithm ++ text_entries (codes "agg_tiles_hash") o ++ entries names)) is_hash))
