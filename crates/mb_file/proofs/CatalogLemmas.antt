-- The catalog of rows, from row to row.
use Rattle.std.proofs.Common.{ap, arith, Bool, false, get_or, List, None, Option, refl, Some, subst, subst₂, sym, true, [], map, ℕ, ◌++◌, ◌<◌, ◌||◌, ◌∙◌, ◌∷◌, ◌≡◌, ◌≢◌}
use Rattle.std.specs.Prelude.{All, AllPairs, IfSome, cond, filter_map, find, option_map, slice_get, unwrap_or}
use Rattle.std.specs.List.{AllByRecursion, cons_option, list_any}
use Rattle.std.specs.Str.{bytes_eq}
use Rattle.std.proofs.lemmas.List.{append_assoc, append-nil, map-append}
use Rattle.std.proofs.lemmas.List.Elements.{All-from_recursion, All-nil, All-push, filter_map-append}
use Rattle.std.proofs.lemmas.List.Quantifiers.{all_pairs_push}
use Rattle.std.proofs.lemmas.Option.{unwrap_or-slice_get}
use Rattle.std.proofs.lemmas.Slice.Eq.{bytes_eq-Decides}
use Rattle.sqlite_btree.specs.Chain.{Layout}
use Rattle.sqlite_btree.specs.Stored.{IsLaidIn, IsTable}
use Rattle.sqlite_pages.specs.Calls.{Continues, IsClean}
use Rattle.sqlite_pages.specs.PageMap.{PageMap}
use Rattle.sqlite_pages.specs.declared.pages.Pages.{Ghosts}
use Rattle.sqlite_record.specs.Record.{decode}
use Rattle.sqlite_value.specs.Order.{column, Row}
use Rattle.sqlite_value.specs.declared.value.Value.{Value}
use Rattle.sqlite_value.specs.declared.value.Value.TheVariants.{Null}
use Rattle.mb_reading.specs.Master.{is_there, names_it}
use Rattle.mb_tables.specs.Table.{table_text}
use Rattle.mb_tables.specs.declared.table.TableName.{TableName}
use Rattle.mb_file.specs.Catalog.{Adds, entry_in, entry_of, is_entry, is_sound, IsCatalog, master_in, master_row, records, table_in}
use Rattle.mb_file.specs.Cursor.{IsAmong, left_of, row_of, Stored, Took}
use Rattle.mb_file.specs.declared.catalog.Catalog.{Catalog}
use Rattle.mb_file.specs.declared.catalog.Listed.{Listed}
use Rattle.mb_file.specs.declared.cursor.Cursor.{Cursor}

-- what was read of the rows is their catalog, with those that a cursor has left to come
pub record IsBehind (layout : Layout) (usable : ℕ) (pages : PageMap) (count : ℕ) (rows : List Stored) (cursor : Cursor) (catalog : Catalog) : Type 0 where
  pub among : IsAmong layout usable pages rows cursor
  pub done : List Stored
  pub parts : rows ≡ done ++ left_of cursor rows
  pub lists : IsCatalog count (records done) catalog

-- a value of a row, null behind its last one
pub value_shown : (r : Row) (at : ℕ) (o : Option Value) → o ≡ slice_get r at → unwrap_or o Null ≡ column r at
value_shown r at o is = ap (λ (o : Option Value). unwrap_or o Null) is ∙ unwrap_or-slice_get r at Null

one_more : {X Y : Type 0} (h : X → Option Y) (xs : List X) (x : X) → filter_map h (xs ++ x ∷ []) ≡ filter_map h xs ++ cons_option (h x) []
one_more h xs x = filter_map-append h xs (x ∷ [])

neither : (a b : Bool) → (a || b) ≡ false → (a ≡ false) × (b ≡ false)
neither true b e = absurd (let h = e in cc)
neither false b e = (refl, e)

other_name : (u t : TableName) → bytes_eq (table_text u) (table_text t) ≡ false → u ≢ t
other_name u t differ same = absurd (let is : bytes_eq (table_text u) (table_text t) ≡ true = (bytes_eq-Decides (table_text u) (table_text t)).1 (ap table_text same) in let h = differ in cc)

-- a table that isn't there is none of those that rows list
apart : (rows : List Row) (t : TableName) → is_there (filter_map master_in rows) t ≡ false → AllByRecursion (λ u. u ≢ t) (filter_map table_in rows)
unfolding master_in
apart [] t none = tt
apart (r ∷ rows) t none = by (table_in r) (apart rows t) none
  where
    by : (o : Option TableName) → (list_any (names_it t) (filter_map master_in rows) ≡ false → AllByRecursion (λ u. u ≢ t) (filter_map table_in rows))
        → list_any (names_it t) (cons_option (option_map (master_row r) o) (filter_map master_in rows)) ≡ false
        → AllByRecursion (λ u. u ≢ t) (cons_option o (filter_map table_in rows))
    by None rest none = rest none
    by (Some u) rest none = let both = neither _ _ none in (other_name u t both.0, rest both.1)

pushed : (o : Option TableName) (ts : List TableName) → AllPairs (λ t u. t ≢ u) ts → IfSome o (λ t. AllByRecursion (λ u. u ≢ t) ts) → AllPairs (λ t u. t ≢ u) (ts ++ cons_option o [])
pushed None ts distinct new = subst (AllPairs (λ t u. t ≢ u)) (sym (append-nil ts)) distinct
pushed (Some t) ts distinct new = all_pairs_push (λ t u. t ≢ u) ts t distinct (λ k d within. All-from_recursion (λ u. u ≢ t) ts new k d within)

fresh_of : (o : Option TableName) (rows : List Row) (there : List Row) → there ≡ filter_map master_in rows → IfSome o (λ t. is_there there t ≡ false)
    → IfSome o (λ t. AllByRecursion (λ u. u ≢ t) (filter_map table_in rows))
fresh_of None rows there is none = tt
fresh_of (Some t) rows there is none = apart rows t (ap (λ (m : List Row). is_there m t) (sym is) ∙ none)

-- the first of what elements are
pub found_as : {X Y : Type 0} (f : X → Y) (p : Y → Bool) (xs : List X) → option_map f (find (λ x. p (f x)) xs) ≡ find p (map f xs)
found_as f p [] = refl
found_as f p (x ∷ xs) = by (p (f x)) (found_as f p xs)
  where
    by : (b : Bool) → option_map f (find (λ x. p (f x)) xs) ≡ find p (map f xs) → option_map f (cond b (Some x) (find (λ x. p (f x)) xs)) ≡ cond b (Some (f x)) (find p (map f xs))
    by true rest = refl
    by false rest = rest

pub entry_found : (table : TableName) (o : Option Listed) (seen all : List Listed) → seen ≡ all → o ≡ find (λ l. is_entry table (entry_of l)) seen → option_map entry_of o ≡ find (is_entry table) (map entry_of all)
entry_found table o seen all same is = ap (option_map entry_of) is ∙ ap (λ ls. option_map entry_of (find (λ l. is_entry table (entry_of l)) ls)) same ∙ found_as entry_of (is_entry table) all

-- a row more
pub catalog_more : (pages : ℕ) (rows : List Row) (r : Row) (old new : Catalog) → IsCatalog pages rows old → is_sound pages r ≡ true → Adds r old new → IsCatalog pages (rows ++ r ∷ []) new
catalog_more pages rows r old new is sound adds = record {
  sound = All-push (λ r. is_sound pages r ≡ true) rows r is.sound sound;
  once = subst (AllPairs (λ t u. t ≢ u)) (sym (one_more table_in rows r)) (pushed (table_in r) (filter_map table_in rows) is.once (fresh_of (table_in r) rows old.master.items is.master adds.fresh));
  master = adds.master ∙ ap (λ m. m ++ cons_option (master_in r) []) is.master ∙ sym (one_more master_in rows r);
  tables = adds.tables ∙ ap (λ m. m ++ cons_option (entry_in r) []) is.tables ∙ sym (one_more entry_in rows r);
}

-- of no rows there is none
pub catalog_of_none : (pages : ℕ) (catalog : Catalog) → catalog.master.items ≡ [] → catalog.tables.items ≡ [] → IsCatalog pages [] catalog
catalog_of_none pages catalog master tables = record {
  sound = All-nil (λ r. is_sound pages r ≡ true);
  once = λ i j d before within. absurd (omega (arith, within));
  master = master;
  tables = ap (map entry_of) tables;
}

module _ (layout : Layout) (usable : ℕ) (pages : PageMap) (count : ℕ) (rows : List Stored) where
  pub behind_more : (old new : Cursor) (before after : Catalog) → IsBehind layout usable pages count rows old before → Took rows old new true → IsAmong layout usable pages rows new
      → is_sound count (decode (row_of new).1) ≡ true → Adds (decode (row_of new).1) before after → IsBehind layout usable pages count rows new after
  behind_more old new before after is took among sound adds = record {
    among = among;
    done = is.done ++ row_of new ∷ [];
    parts = is.parts ∙ ap (λ ys. is.done ++ ys) took ∙ sym (append_assoc is.done (row_of new ∷ []) (left_of new rows));
    lists = subst (λ rs. IsCatalog count rs after) (sym (map-append (λ (r : Stored). decode r.1) is.done (row_of new ∷ []))) (catalog_more count (records is.done) (decode (row_of new).1) before after is.lists sound adds);
  }

  pub all_behind : (old new : Cursor) (catalog : Catalog) → IsBehind layout usable pages count rows old catalog → Took rows old new false → IsCatalog count (records rows) catalog
  all_behind old new catalog is took =
      subst (λ rs. IsCatalog count (records rs) catalog) (sym (is.parts ∙ ap (λ ys. is.done ++ ys) took.0 ∙ append-nil is.done)) is.lists

module _ {P : Type 0} (g : Ghosts P) (early mid late : P) (count : ℕ) (kept : Continues g early mid) (same : g.pages mid ≡ g.pages early) (goes : Continues g mid late) (old new : Cursor)
    (before : Catalog) where
  -- what is read of the rows once pages are there
  abbrev pub Reads : P → Cursor → Catalog → Type 0
  Reads at cursor catalog = IsClean g at → (layout : Layout) (rows : List Stored) → IsLaidIn layout (g.pages early) → IsTable (g.size early) layout 1 rows
      → IsBehind layout (g.size early) (g.pages early) count rows cursor catalog

  -- a step of the cursor
  abbrev pub Steps : Bool → Type 0
  Steps found = IsClean g late → (layout : Layout) (rows : List Stored) → IsLaidIn layout (g.pages mid) → IsTable (g.size mid) layout 1 rows → IsAmong layout (g.size mid) (g.pages mid) rows old
      → Took rows old new found × IsAmong layout (g.size mid) (g.pages mid) rows new

  stepped : (found : Bool) → Steps found → Reads mid old before → IsClean g late → (layout : Layout) (rows : List Stored) → IsLaidIn layout (g.pages early) → IsTable (g.size early) layout 1 rows
      → IsBehind layout (g.size early) (g.pages early) count rows old before × (Took rows old new found × IsAmong layout (g.size early) (g.pages early) rows new)
  stepped found steps reads clean layout rows laid stored =
      let was = reads (omega (arith, clean, goes.clean)) layout rows laid stored in (
        was,
        subst₂ (λ (u : ℕ) (p : PageMap). IsLaidIn layout p → IsTable u layout 1 rows → IsAmong layout u p rows old → Took rows old new found × IsAmong layout u p rows new)
            kept.same_size same (steps clean layout rows) laid stored was.among,
      )

  -- a row more is read
  pub reads_more : Steps true → Reads mid old before → (after : Catalog) (tested added : List ℕ) → tested ≡ (row_of new).1 → added ≡ (row_of new).1 → is_sound count (decode tested) ≡ true
      → Adds (decode added) before after
      → Reads late new after
  reads_more steps reads after tested added is_tested is_added sound adds = λ clean layout rows laid stored.
      let both = stepped true steps reads clean layout rows laid stored in
      behind_more layout (g.size early) (g.pages early) count rows old new before after both.0 both.1.0 both.1.1
      (subst (λ bs. is_sound count (decode bs) ≡ true) is_tested sound) (subst (λ bs. Adds (decode bs) before after) is_added adds)

  -- none is left
  pub reads_all : Steps false → Reads mid old before → IsClean g late → (layout : Layout) (rows : List Stored) → IsLaidIn layout (g.pages early) → IsTable (g.size early) layout 1 rows
      → IsCatalog count (records rows) before
  reads_all steps reads clean layout rows laid stored =
      let both = stepped false steps reads clean layout rows laid stored in
      all_behind layout (g.size early) (g.pages early) count rows old new before both.0 both.1.0
