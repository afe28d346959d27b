-- Descriptions that are added to others.
use Rattle.mb_store.proofs.Common.{add-one, AllPairs, AllPairs-nil, and_from, and_left, and_parts, ap, Bool, bytes_eq, cases_Bool, Cell, clash, cond, drop, drop-cons, false, false≢true, get_or, inl}
use Rattle.mb_store.proofs.Common.{inr, is_key_index, is_keyed, is_table, is_table_kind, IsSound, length, List, list_any, list_any-append, names_apart, not, refl, subst, sym, table_text, TableDesc}
use Rattle.mb_store.proofs.Common.{TableName, true, with_tables, ℕ, [], ◌&&◌, ◌++◌, ◌+◌, ◌<◌, ◌||◌, ◌∙◌, ◌∷◌, ◌≡◌, ◌⊎◌}
use Rattle.std.proofs.lemmas.Slice.Eq.{bytes_eq-Decides}
use Rattle.mb_store.proofs.HeldLemmas.{tables_as}

module _ (all added : List TableDesc) (i : ℕ) (item : TableDesc) (W : List TableDesc) (lt : i < length added) (at : item ≡ get_or added i item) (so_far : with_tables all (drop i added) ≡ W) where
  front : drop i added ≡ item ∷ drop (i + 1) added
  front = drop-cons added i item lt ∙ (λ j. sym at j ∷ drop (sym (add-one i) j) added)

  -- one more is named already
  pub next_named : list_any (λ d. bytes_eq d.name item.name) all ≡ true → with_tables all (drop (i + 1) added) ≡ W
  next_named named = sym (ap (with_tables all) front ∙ ap (λ b. with_tables (cond b all (all ++ item ∷ [])) (drop (i + 1) added)) named) ∙ so_far

  -- one more has a new name
  pub next_new : list_any (λ d. bytes_eq d.name item.name) all ≡ false → with_tables (all ++ item ∷ []) (drop (i + 1) added) ≡ W
  next_new new = sym (ap (with_tables all) front ∙ ap (λ b. with_tables (cond b all (all ++ item ∷ [])) (drop (i + 1) added)) new) ∙ so_far

or_false : (a b : Bool) → (a || b) ≡ false → (a ≡ false) × (b ≡ false)
or_false true b h = absurd (false≢true (sym h))
or_false false b h = (refl, h)

names-push : (ds : List TableDesc) (e : TableDesc) → list_any (λ d. bytes_eq d.name e.name) ds ≡ false → names_apart ds ≡ true → names_apart (ds ++ e ∷ []) ≡ true
names-push [] e new apart = refl
names-push (d ∷ ds) e new apart =
    let two = and_parts (not (list_any (λ f. bytes_eq d.name f.name) ds)) (names_apart ds) apart in
    let parts = or_false (bytes_eq d.name e.name) (list_any (λ d. bytes_eq d.name e.name) ds) new in
    and_from _ _ (ap not (list_any-append (λ f. bytes_eq d.name f.name) ds (e ∷ []) ∙ (ap (λ b. list_any (λ f. bytes_eq d.name f.name) ds || (b || false)) parts.0 ∙ last (list_any (λ f. bytes_eq d.name f.name) ds))) ∙ two.0) (names-push ds e parts.1 two.1)
  where
    last : (b : Bool) → (b || (false || false)) ≡ b
    last true = refl
    last false = refl

-- a table whose name is new isn't described, in any way
unnamed : (q : TableDesc → Bool) (ds : List TableDesc) (name text : List ℕ) → name ≡ text → list_any (λ d. bytes_eq d.name name) ds ≡ false → list_any (λ d. bytes_eq d.name text && q d) ds ≡ false
unnamed q [] name text same new = refl
unnamed q (d ∷ ds) name text same new =
    let parts = or_false (bytes_eq d.name name) (list_any (λ d. bytes_eq d.name name) ds) new in
    joined (and_left (bytes_eq d.name text) (q d) (ap (bytes_eq d.name) (sym same) ∙ parts.0)) (unnamed q ds name text same parts.1)
  where
    joined : (bytes_eq d.name text && q d) ≡ false → list_any (λ d. bytes_eq d.name text && q d) ds ≡ false → ((bytes_eq d.name text && q d) || list_any (λ d. bytes_eq d.name text && q d) ds) ≡ false
    joined a b = ap (λ x. x || list_any (λ d. bytes_eq d.name text && q d) ds) a ∙ b

first : (b : Bool) → (b || false) ≡ true → b ≡ true
first true h = refl
first false h = h

module _ (f : TableName → List (List Cell)) (ds : List TableDesc) (e : TableDesc) (new : list_any (λ d. bytes_eq d.name e.name) ds ≡ false) (sound : IsSound (tables_as ds f)) where
  -- a test of descriptions, with one more
  one_more : (q : TableDesc → Bool) → list_any q (ds ++ e ∷ []) ≡ (list_any q ds || (q e || false))
  one_more q = list_any-append q ds (e ∷ [])

  keys_added : (u : TableName) → is_keyed (ds ++ e ∷ []) u ≡ true → AllPairs (λ r s. clash u r s ≡ false) (f u)
  keys_added u keyed = by (cases_Bool (is_keyed ds u))
    where
      own : (b : Bool) → b ≡ false → (b || ((bytes_eq e.name (table_text u) && list_any (is_key_index u) e.indexes) || false)) ≡ true → bytes_eq e.name (table_text u) ≡ true
      own true h k = absurd (false≢true (sym h))
      own false h k = (and_parts (bytes_eq e.name (table_text u)) (list_any (is_key_index u) e.indexes) (first (bytes_eq e.name (table_text u) && list_any (is_key_index u) e.indexes) k)).0

      by : (is_keyed ds u ≡ true) ⊎ (is_keyed ds u ≡ false) → AllPairs (λ r s. clash u r s ≡ false) (f u)
      by (inl was) = sound.keys u was
      by (inr wasnt) =
          let named : bytes_eq e.name (table_text u) ≡ true = own (is_keyed ds u) wasnt (sym (one_more (λ d. bytes_eq d.name (table_text u) && list_any (is_key_index u) d.indexes)) ∙ keyed) in
          let none : is_table ds u ≡ false = unnamed (λ d. is_table_kind d.kind) ds e.name (table_text u) ((bytes_eq-Decides e.name (table_text u)).0 named) new in
          subst (AllPairs (λ r s. clash u r s ≡ false)) (sym (sound.described u none)) (AllPairs-nil (λ r s. clash u r s ≡ false))

  sound_added : IsSound (tables_as (ds ++ e ∷ []) f)
  sound_added = record {
    names = names-push ds e new sound.names;
    described = λ u none. sound.described u ((or_false (is_table ds u) _ (sym (one_more (λ d. bytes_eq d.name (table_text u) && is_table_kind d.kind)) ∙ none)).0);
    keys = keys_added;
    widths = sound.widths;
    counts = sound.counts;
  }

pub sound_tables : (f : TableName → List (List Cell)) (ds es : List TableDesc) → IsSound (tables_as ds f) → IsSound (tables_as (with_tables ds es) f)
sound_tables f ds [] sound = sound
sound_tables f ds (e ∷ es) sound = by (list_any (λ d. bytes_eq d.name e.name) ds) refl (λ fs h. sound_tables f fs es h)
  where
    by : (b : Bool) → list_any (λ d. bytes_eq d.name e.name) ds ≡ b → ((fs : List TableDesc) → IsSound (tables_as fs f) → IsSound (tables_as (with_tables fs es) f)) → IsSound (tables_as (with_tables (cond b ds (ds ++ e ∷ [])) es) f)
    by true h rest = rest ds sound
    by false h rest = rest (ds ++ e ∷ []) (sound_added f ds e h sound)
