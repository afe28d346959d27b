-- The hash of all tiles that a copy stores, and the tests of what is put where nothing was described.
use Rattle.mb_copy.proofs.Common.{agg_hash, aggregate, ap, Bool, bytes_put, codes, cond, copied, copies_metadata, CopyDuplicateMode, duplicates, entries, entries_put, false, find, fresh, get}
use Rattle.mb_copy.proofs.Common.{get-empty, get-over, has_both, hash_off, Held, held_copied, id_collides, is_chosen, is_copied_name, is_some, List, list_any, made_state, may_copy, may_copy_anew}
use Rattle.mb_copy.proofs.Common.{MbtError, MbtilesCopier, mode_of, name_of, name_there, names_to_put, nat_cmp, nat_list_cmp_total, None, Option, option_and_then, option_or, or_none, Override, Place}
use Rattle.mb_copy.proofs.Common.{place_cmp, refl, slice_cmp, Some, State, stores_aggregate, sym, text_entries, tile_there, tiles_to_put, true, ℕ, [], ◌&&◌, ◌++◌, ◌||◌, ◌∙◌, ◌∷◌, ◌≡◌}
use Rattle.mb_copy.proofs.NameStateLemmas.{Named, copied_state}

-- the stored hash is the computed one
hash_found : (o : Option (List ℕ)) (hash : List ℕ) (es : List Named) → find (slice_cmp nat_cmp) (codes "agg_tiles_hash") (text_entries (codes "hash_algorithm") o ++ text_entries (codes "agg_tiles_hash") (Some hash) ++ es) ≡ Some (Some hash)
hash_found None hash es = refl
hash_found (Some name) hash es = refl

stored_at : (c : MbtilesCopier) (made : Bool) (source base : State) (b : Bool) → stores_aggregate c ≡ b → b ≡ true → find (slice_cmp nat_cmp) (codes "agg_tiles_hash") (entries_put c made base.algorithm (copied c made source base).tiles (names_to_put c source.metadata base.metadata)) ≡ Some (Some (aggregate base.algorithm (copied c made source base).tiles))
stored_at c made source base true is h =
    ap (λ (x : Bool). find (slice_cmp nat_cmp) (codes "agg_tiles_hash") (text_entries (codes "hash_algorithm") (cond (copies_metadata c.copy || made || stores_aggregate c) (Some (name_of base.algorithm)) None) ++ text_entries (codes "agg_tiles_hash") (cond x (Some (aggregate base.algorithm (copied c made source base).tiles)) None) ++ entries (names_to_put c source.metadata base.metadata))) is
    ∙ hash_found (cond (copies_metadata c.copy || made || stores_aggregate c) (Some (name_of base.algorithm)) None) (aggregate base.algorithm (copied c made source base).tiles) (entries (names_to_put c source.metadata base.metadata))
stored_at c made source base false is h = cc

pub hash_stored : (c : MbtilesCopier) (made : Bool) (source base : State) → stores_aggregate c ≡ true → agg_hash (copied c made source base).metadata ≡ Some (aggregate base.algorithm (copied c made source base).tiles)
hash_stored c made source base h =
    ap (option_and_then (λ value. value)) (get-over nat_list_cmp_total (entries_put c made base.algorithm (copied c made source base).tiles (names_to_put c source.metadata base.metadata)) base.metadata (codes "agg_tiles_hash")
    ∙ ap (λ o. option_or o (get base.metadata (codes "agg_tiles_hash"))) (stored_at c made source base (stores_aggregate c) refl h))

-- a set that was made for a source, with the source copied into it
pub hash_of_copy : (c : MbtilesCopier) (source : State) (next : Held) → next ≡ held_copied c true source (fresh (made_state c source)) → stores_aggregate c ≡ true → agg_hash next.state.metadata ≡ Some (aggregate next.state.algorithm next.state.tiles)
hash_of_copy c source next is h =
    let e : next.state ≡ copied c true source (made_state c source) = ap (λ (x : Held). x.state) is ∙ copied_state c true source (fresh (made_state c source)) in
    ap (λ (s : State). agg_hash s.metadata) e ∙ (hash_stored c true source (made_state c source) h ∙ sym (ap (λ (s : State). Some (aggregate s.algorithm s.tiles)) e))

pub hash_off_copy : (c : MbtilesCopier) (after : Option (List ℕ)) (source : State) (next : Held) → next ≡ held_copied c true source (fresh (made_state c source)) → hash_off c after next.state ≡ hash_off c after (copied c true source (made_state c source))
hash_off_copy c after source next is = ap (hash_off c after) (ap (λ (x : Held). x.state) is ∙ copied_state c true source (fresh (made_state c source)))

-- nothing is there already where nothing was described
and_none : {A : Type 0} (b : Bool) (o : Option A) → o ≡ None → (b && is_some o) ≡ false
and_none true o h = ap is_some h
and_none false o h = refl

no_tile_there : (c : MbtilesCopier) (source : State) (es : List (Place × Option (List ℕ))) → list_any (tile_there c (made_state c source)) es ≡ false
no_tile_there c source [] = refl
no_tile_there c source (e ∷ es) =
    ap (λ b. b || list_any (tile_there c (made_state c source)) es) (and_none (is_chosen c e.0) (get (made_state c source).tiles e.0) (get-empty place_cmp e.0)) ∙ no_tile_there c source es

no_name_there : (c : MbtilesCopier) (source : State) (es : List Named) → list_any (name_there c (made_state c source)) es ≡ false
no_name_there c source [] = refl
no_name_there c source (e ∷ es) =
    ap (λ b. b || list_any (name_there c (made_state c source)) es) (and_none (is_copied_name c e.0) (get (made_state c source).metadata e.0) (get-empty (slice_cmp nat_cmp) e.0)) ∙ no_name_there c source es

never : (mode : CopyDuplicateMode) → duplicates mode false ≡ None
never Override = refl
never _ = refl

none_twice : (c : MbtilesCopier) (source : State) → duplicates (mode_of c) (has_both c source.tiles source.metadata (made_state c source)) ≡ None
none_twice c source =
    ap (duplicates (mode_of c)) (ap (λ b. b || list_any (name_there c (made_state c source)) (entries source.metadata)) (no_tile_there c source (entries source.tiles)) ∙ no_name_there c source (entries source.metadata))
    ∙ never (mode_of c)

abbrev made_ids : MbtilesCopier → State → Option MbtError
made_ids c source = id_collides (made_state c source).layout (made_state c source).algorithm (made_state c source).contents (bytes_put (tiles_to_put c source.tiles (made_state c source)))

pub ids_due : (c : MbtilesCopier) (source : State) → may_copy c source (made_state c source) ≡ made_ids c source
ids_due c source = ap (λ o. option_or o (option_or (made_ids c source) None)) (none_twice c source) ∙ or_none (made_ids c source)

-- the tests with a hash that is expected, and without one
pub anew_refused : (c : MbtilesCopier) (after : Option (List ℕ)) (source : State) (e : MbtError) → may_copy c source (made_state c source) ≡ Some e → may_copy_anew c after source ≡ Some e
anew_refused c after source e h = ap (λ o. option_or o (option_or (hash_off c after (copied c true source (made_state c source))) None)) (sym (ids_due c source) ∙ h)

pub anew_passed : (c : MbtilesCopier) (after : Option (List ℕ)) (source : State) → may_copy c source (made_state c source) ≡ None → may_copy_anew c after source ≡ hash_off c after (copied c true source (made_state c source))
anew_passed c after source h =
    ap (λ o. option_or o (option_or (hash_off c after (copied c true source (made_state c source))) None)) (sym (ids_due c source) ∙ h)
    ∙ or_none (hash_off c after (copied c true source (made_state c source)))

pub ids_passed : (c : MbtilesCopier) (after : Option (List ℕ)) (source : State) → may_copy_anew c after source ≡ None → may_copy c source (made_state c source) ≡ None
ids_passed c after source h = ids_due c source ∙ first (made_ids c source) (option_or (hash_off c after (copied c true source (made_state c source))) None) h
  where
    first : (a b : Option MbtError) → option_or a b ≡ None → a ≡ None
    first None b h = refl
    first (Some e) b h = cc

pub none_expected : (c : MbtilesCopier) (source : State) → may_copy_anew c None source ≡ may_copy c source (made_state c source)
none_expected c source = ap (λ o. option_or (made_ids c source) (option_or o None)) (off (stores_aggregate c)) ∙ (or_none (made_ids c source) ∙ sym (ids_due c source))
  where
    off : (b : Bool) → cond {A = Option MbtError} b None None ≡ None
    off true = refl
    off false = refl
