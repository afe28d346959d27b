-- Rows of metadata, and the names that are kept of them.
use Rattle.mb_lists.proofs.Common.{All, All-cons, ap, are_distinct, arith, Blob, Bool, Cell, cell_at, cell_cmp, entries_by, eq_by_cmp, false, false≢true, filter, filter_map, fronts, has_name_kinds}
use Rattle.mb_lists.proofs.Common.{Int, is_name_gone, is_null, is_text, IsAntisymmetric, IsName, Kept, List, list_all, list_any, map, name_entry, name_from, name_kind_wrong, name_of, name_twice}
use Rattle.mb_lists.proofs.Common.{name_value, nat_cmp, nat_cmp-IsAntisymmetric, None, not, Null, Option, option_or, Other, refl, slice_cmp, slice_cmp-IsAntisymmetric, Some, Text, text_of, true}
use Rattle.mb_lists.proofs.Common.{unless, ℕ, [], ◌&&◌, ◌∙◌, ◌∷◌, ◌≡◌}
use Rattle.mb_tables.specs.declared.error.MbtError.TheVariants.{InvalidDataFormat}

-- the entries of the names are those of the rows
pub named_entries : (rows : List (List Cell)) → entries_by name_of name_value (filter_map name_from rows) ≡ filter_map name_entry rows
named_entries [] = refl
named_entries (r ∷ rs) = by (text_of (cell_at 0 r)) refl (named_entries rs)
  where
    by : (o : Option (List ℕ)) → text_of (cell_at 0 r) ≡ o → entries_by name_of name_value (filter_map name_from rs) ≡ filter_map name_entry rs → entries_by name_of name_value (filter_map name_from (r ∷ rs)) ≡ filter_map name_entry (r ∷ rs)
    by (Some name) e rest = rw e (ap (λ l. (name, text_of (cell_at 1 r)) ∷ l) rest)
    by None e rest = rw e rest

-- none of them is a mark
pub names_alive : (rows : List (List Cell)) → All (λ n. is_name_gone n ≡ false) (filter_map name_from rows)
names_alive [] = λ i d lt. absurd (omega arith)
names_alive (r ∷ rs) = by (text_of (cell_at 0 r)) refl (names_alive rs)
  where
    by : (o : Option (List ℕ)) → text_of (cell_at 0 r) ≡ o → All (λ n. is_name_gone n ≡ false) (filter_map name_from rs) → All (λ n. is_name_gone n ≡ false) (filter_map name_from (r ∷ rs))
    by (Some name) e rest = rw e (All-cons (λ n. is_name_gone n ≡ false) _ _ refl rest)
    by None e rest = rw e rest

-- texts are compared as their bytes are
any_texts : (n : List ℕ) (ns : List (List ℕ)) → list_any (eq_by_cmp cell_cmp (Text n)) (map Text ns) ≡ list_any (eq_by_cmp (slice_cmp nat_cmp) n) ns
any_texts n [] = refl
any_texts n (m ∷ ns) = rw (any_texts n ns) refl

distinct_texts : (ns : List (List ℕ)) → are_distinct cell_cmp (map Text ns) ≡ are_distinct (slice_cmp nat_cmp) ns
distinct_texts [] = refl
distinct_texts (n ∷ ns) = rw (any_texts n ns, distinct_texts ns) refl

-- the cells of names that aren't null are the names
texts_of : (rows : List (List Cell)) → list_all has_name_kinds rows ≡ true → filter (λ c. not (is_null c)) (fronts rows) ≡ map Text (map name_of (filter_map name_from rows))
texts_of [] h = refl
texts_of (r ∷ rs) h = by (cell_at 0 r) refl (has_name_kinds r) refl h (λ k. texts_of rs k)
  where
    by : (c : Cell) → cell_at 0 r ≡ c → (b : Bool) → has_name_kinds r ≡ b → (b && list_all has_name_kinds rs) ≡ true → (list_all has_name_kinds rs ≡ true → filter (λ c. not (is_null c)) (fronts rs) ≡ map Text (map name_of (filter_map name_from rs))) → filter (λ c. not (is_null c)) (fronts (r ∷ rs)) ≡ map Text (map name_of (filter_map name_from (r ∷ rs)))
    by c e false k h rest = absurd (false≢true h)
    by Null e true k h rest = rw e (rest h)
    by (Text name) e true k h rest = rw e (ap (λ l. Text name ∷ l) (rest h))
    by (Int n) e true k h rest = absurd (false≢true (rw e at k))
    by (Blob bytes) e true k h rest = absurd (false≢true (rw e at k))
    by Other e true k h rest = absurd (false≢true (rw e at k))

-- so names are distinct as their cells are
pub names_distinct : (rows : List (List Cell)) → list_all has_name_kinds rows ≡ true → are_distinct cell_cmp (filter (λ c. not (is_null c)) (fronts rows)) ≡ are_distinct (slice_cmp nat_cmp) (map name_of (filter_map name_from rows))
names_distinct rows h = ap (are_distinct cell_cmp) (texts_of rows h) ∙ distinct_texts (map name_of (filter_map name_from rows))

pub names_antisymmetric : IsAntisymmetric (slice_cmp nat_cmp)
names_antisymmetric = slice_cmp-IsAntisymmetric nat_cmp-IsAntisymmetric

-- what the two tests of names answer
pub names_pass : (rows : List (List Cell)) → list_all has_name_kinds rows ≡ true → are_distinct (slice_cmp nat_cmp) (map name_of (filter_map name_from rows)) ≡ true → option_or (name_kind_wrong rows) (name_twice rows) ≡ None
names_pass rows k d = ap (λ b. option_or (unless b InvalidDataFormat) (name_twice rows)) k ∙ ap (λ b. unless b InvalidDataFormat) (names_distinct rows k ∙ d)

pub names_refused : (rows : List (List Cell)) → list_all has_name_kinds rows ≡ true → are_distinct (slice_cmp nat_cmp) (map name_of (filter_map name_from rows)) ≡ false → option_or (name_kind_wrong rows) (name_twice rows) ≡ Some InvalidDataFormat
names_refused rows k d = ap (λ b. option_or (unless b InvalidDataFormat) (name_twice rows)) k ∙ ap (λ b. unless b InvalidDataFormat) (names_distinct rows k ∙ d)

-- each is as it was loaded, with a text or null
pub names_kept : (rows : List (List Cell)) → All (λ n. n.standing ≡ Kept) (filter_map name_from rows)
names_kept [] = λ i d lt. absurd (omega arith)
names_kept (r ∷ rs) = by (text_of (cell_at 0 r)) refl (names_kept rs)
  where
    by : (o : Option (List ℕ)) → text_of (cell_at 0 r) ≡ o → All (λ n. n.standing ≡ Kept) (filter_map name_from rs) → All (λ n. n.standing ≡ Kept) (filter_map name_from (r ∷ rs))
    by (Some name) e rest = rw e (All-cons (λ n. n.standing ≡ Kept) _ _ refl rest)
    by None e rest = rw e rest

both_hold : (a b : Bool) → (a && b) ≡ true → (a ≡ true) × (b ≡ true)
both_hold true b h = (refl, h)
both_hold false b h = absurd (false≢true h)

pub name_texts : (rows : List (List Cell)) → list_all has_name_kinds rows ≡ true → All IsName (filter_map name_from rows)
name_texts [] h = λ i d lt. absurd (omega arith)
name_texts (r ∷ rs) h = by (text_of (cell_at 0 r)) refl (name_texts rs (both_hold (has_name_kinds r) (list_all has_name_kinds rs) h).1)
  where
    by : (o : Option (List ℕ)) → text_of (cell_at 0 r) ≡ o → All IsName (filter_map name_from rs) → All IsName (filter_map name_from (r ∷ rs))
    by (Some name) e rest = rw e (All-cons IsName _ _ (both_hold (is_text (cell_at 0 r)) (is_text (cell_at 1 r)) (both_hold (has_name_kinds r) (list_all has_name_kinds rs) h).0).1 rest)
    by None e rest = rw e rest
