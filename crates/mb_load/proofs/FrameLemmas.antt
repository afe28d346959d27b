-- Changes are of tables that are described, and what a commit of them leaves as it was beside the rows of keys.
use Rattle.mb_load.proofs.Common.{All, and_parts, and_right, ap, AreChangesOf, AreOfTables, Bool, bytes_eq, Cache, Cell, cell_at, cells_eq-Decides, Change, Commits, cond, contains_key, content_row_by}
use Rattle.mb_load.proofs.Common.{content_table, DedupId, Edited, false, false≢true, filter, filter_every, Flat, FlatWithHash, get_or, has_columns, has_key, has_table, Hash, Held, id_edited, Images}
use Rattle.mb_load.proofs.Common.{inl, inr, Int, IntId, InvalidDataFormat, is_changed, is_metadata, is_normalized, is_null, is_own_table, is_set_table, is_table, is_table_kind, IsLoadedFrom}
use Rattle.mb_load.proofs.Common.{key_cells, key_of, key_width, layout_of, List, list_any, Map, MbtType, Metadata, metadata_missing, None, Normalized, or_cases, or_right, others_stay, refl, RowKey}
use Rattle.mb_load.proofs.Common.{Some, subst, sym, table_eq, table_text, TableDesc, TableName, Tables, take, Text, TextId, Tile, tile_table, TileCache, Tiles, TilesData, TilesShallow, TilesWithHash}
use Rattle.mb_load.proofs.Common.{true, unless, [], ◌&&◌, ◌||◌, ◌∙◌, ◌∷◌, ◌≡◌}
use Rattle.std.proofs.lemmas.List.Folds.{list_any_none}
use Rattle.mb_load.proofs.LoadsFrom.{key_first}
use Rattle.mb_tables.proofs.TableLemmas.{same_table}
use Rattle.mb_tables.specs.Columns.{fits}
use Rattle.mb_tables.specs.Schema.{columns_of}

-- a weaker test passes too
any_weaker : {X : Type 0} (p q : X → Bool) (xs : List X) → ((x : X) → p x ≡ true → q x ≡ true) → list_any p xs ≡ true → list_any q xs ≡ true
any_weaker p q [] f h = h
any_weaker p q (x ∷ xs) f h = by (p x) refl h (any_weaker p q xs f)
  where
    by : (b : Bool) → p x ≡ b → (b || list_any p xs) ≡ true → (list_any p xs ≡ true → list_any q xs ≡ true) → (q x || list_any q xs) ≡ true
    by true e k rest = ap (λ b. b || list_any q xs) (f x e)
    by false e k rest = or_right (q x) (list_any q xs) (rest k)

table_from : (ds : List TableDesc) (table : TableName) → has_table ds table ≡ true → is_table ds table ≡ true
table_from ds table = any_weaker (λ d. bytes_eq d.name (table_text table) && is_table_kind d.kind && fits (columns_of table) d) (λ d. bytes_eq d.name (table_text table) && is_table_kind d.kind) ds (λ d h. (and_parts (bytes_eq d.name (table_text table) && is_table_kind d.kind) (fits (columns_of table) d) h).0)

metadata_table : (ds : List TableDesc) → metadata_missing ds ≡ None → is_table ds Metadata ≡ true
metadata_table ds h = by (list_any is_metadata ds) refl h
  where
    first : (d : TableDesc) → is_metadata d ≡ true → (bytes_eq d.name (table_text Metadata) && is_table_kind d.kind) ≡ true
    first d h = (and_parts _ _ (and_parts _ _ h).0).0

    by : (b : Bool) → list_any is_metadata ds ≡ b → unless b InvalidDataFormat ≡ None → is_table ds Metadata ≡ true
    by true e h = any_weaker is_metadata (λ d. bytes_eq d.name (table_text Metadata) && is_table_kind d.kind) ds first e
    by false e h = cc

-- the tables of a layout that was found
pub tables_found : (ds : List TableDesc) (layout : MbtType) → layout_of ds ≡ Some layout → (is_table ds (tile_table layout) ≡ true) × (is_normalized layout ≡ true → is_table ds (content_table layout) ≡ true)
tables_found ds layout h = first (has_table ds Map && has_table ds Images) refl h
  where
    Goal : MbtType → Type 0
    Goal l = (is_table ds (tile_table l) ≡ true) × (is_normalized l ≡ true → is_table ds (content_table l) ≡ true)

    is : (l : MbtType) → Some l ≡ Some layout → Goal l → (is_table ds (tile_table layout) ≡ true) × (is_normalized layout ≡ true → is_table ds (content_table layout) ≡ true)
    is l e g = let same : l ≡ layout = cc in subst (λ l. (is_table ds (tile_table l) ≡ true) × (is_normalized l ≡ true → is_table ds (content_table l) ≡ true)) same g

    fifth : (b : Bool) → has_table ds TileCache ≡ b → cond b (Some Cache) None ≡ Some layout → (is_table ds (tile_table layout) ≡ true) × (is_normalized layout ≡ true → is_table ds (content_table layout) ≡ true)
    fifth true e h = is Cache h (table_from ds TileCache e, λ n. absurd (false≢true n))
    fifth false e h = cc

    fourth : (b : Bool) → has_table ds Tiles ≡ b → cond b (Some Flat) (cond (has_table ds TileCache) (Some Cache) None) ≡ Some layout → (is_table ds (tile_table layout) ≡ true) × (is_normalized layout ≡ true → is_table ds (content_table layout) ≡ true)
    fourth true e h = is Flat h (table_from ds Tiles e, λ n. absurd (false≢true n))
    fourth false e h = fifth (has_table ds TileCache) refl h

    third : (b : Bool) → has_table ds TilesWithHash ≡ b → cond b (Some FlatWithHash) (cond (has_table ds Tiles) (Some Flat) (cond (has_table ds TileCache) (Some Cache) None)) ≡ Some layout → (is_table ds (tile_table layout) ≡ true) × (is_normalized layout ≡ true → is_table ds (content_table layout) ≡ true)
    third true e h = is FlatWithHash h (table_from ds TilesWithHash e, λ n. absurd (false≢true n))
    third false e h = fourth (has_table ds Tiles) refl h

    second : (b : Bool) → (has_table ds TilesShallow && has_table ds TilesData) ≡ b → cond b (Some (Normalized false DedupId)) (cond (has_table ds TilesWithHash) (Some FlatWithHash) (cond (has_table ds Tiles) (Some Flat) (cond (has_table ds TileCache) (Some Cache) None))) ≡ Some layout → (is_table ds (tile_table layout) ≡ true) × (is_normalized layout ≡ true → is_table ds (content_table layout) ≡ true)
    second true e h = let two = and_parts (has_table ds TilesShallow) (has_table ds TilesData) e in is (Normalized false DedupId) h (table_from ds TilesShallow two.0, λ n. table_from ds TilesData two.1)
    second false e h = third (has_table ds TilesWithHash) refl h

    first : (b : Bool) → (has_table ds Map && has_table ds Images) ≡ b → cond b (Some (Normalized (has_columns ds TilesWithHash) Hash)) (cond (has_table ds TilesShallow && has_table ds TilesData) (Some (Normalized false DedupId)) (cond (has_table ds TilesWithHash) (Some FlatWithHash) (cond (has_table ds Tiles) (Some Flat) (cond (has_table ds TileCache) (Some Cache) None)))) ≡ Some layout → (is_table ds (tile_table layout) ≡ true) × (is_normalized layout ≡ true → is_table ds (content_table layout) ≡ true)
    first true e h = let two = and_parts (has_table ds Map) (has_table ds Images) e in is (Normalized (has_columns ds TilesWithHash) Hash) h (table_from ds Map two.0, λ n. table_from ds Images two.1)
    first false e h = second (has_table ds TilesShallow && has_table ds TilesData) refl h

also_table : (t u : TableName) → table_eq t u ≡ true → (ds : List TableDesc) → is_table ds u ≡ true → is_table ds t ≡ true
also_table t u h ds k = ap (is_table ds) (same_table t u h) ∙ k

named_id : (e : Edited) (key : RowKey) → id_edited e key ≡ true → (id : Cell) × (contains_key e.ids id ≡ true)
named_id e (TextId text) h = (Text text, h)
named_id e (IntId n) h = (Int n, h)
named_id e (Tile zoom column row) h = absurd (false≢true h)

-- the changes of a set that was loaded from tables are of these tables
pub of_tables : (h : Held) (t : Tables) (changes : List Change) → IsLoadedFrom t h → AreChangesOf h changes → AreOfTables t.descriptions changes
of_tables h t changes loaded are = λ k d lt. by (get_or changes k d) (are.tables k d lt) (are.contents.only k d lt)
  where
    by : (c : Change) → is_own_table h.state.layout c.table ≡ true → (table_eq c.table (content_table h.state.layout) ≡ true → (id_edited h.edited c.key ≡ true) × (c.row ≡ content_row_by h.state c.key)) → is_table t.descriptions c.table ≡ true
    by c own only = elim (or_cases _ _ own) [
      | inl two ↦ elim (or_cases _ _ two) [
        | inl is ↦ also_table c.table (tile_table h.state.layout) is t.descriptions (tables_found t.descriptions h.state.layout loaded.layout).0
        | inr is ↦
            let id = named_id h.edited c.key (only is).0 in
            also_table c.table (content_table h.state.layout) is t.descriptions ((tables_found t.descriptions h.state.layout loaded.layout).1 (loaded.with_ids id.0 id.1))
      ]
      | inr is ↦ also_table c.table Metadata is t.descriptions (metadata_table t.descriptions loaded.described)
    ]

module _ (h : Held) (t t' : Tables) (changes : List Change) (are : AreChangesOf h changes) (made : Commits changes t t') where
  -- rows of contents with a null id stay
  pub null_ids_stay : filter (λ row. is_null (cell_at 0 row)) (t'.rows (content_table h.state.layout)) ≡ filter (λ row. is_null (cell_at 0 row)) (t.rows (content_table h.state.layout))
  null_ids_stay = others_stay changes (content_table h.state.layout) (t.rows (content_table h.state.layout)) (t'.rows (content_table h.state.layout)) (made.tables (content_table h.state.layout)) (λ row. is_null (cell_at 0 row)) (λ row null. list_any_none (λ c. table_eq c.table (content_table h.state.layout) && has_key (content_table h.state.layout) c.key row) changes (λ k d lt. and_right (table_eq (get_or changes k d).table (content_table h.state.layout)) (has_key (content_table h.state.layout) (get_or changes k d).key row) (no_key (content_table h.state.layout) (key_first h.state.layout) (get_or changes k d).key row null)))
    where
      no_cells : (key : RowKey) (row : List Cell) → is_null (cell_at 0 row) ≡ true → take 1 row ≡ key_cells key → ⊥
      no_cells (TextId text) (x ∷ row) n e = let s : x ≡ Text text = cc in false≢true (ap is_null (sym s) ∙ n)
      no_cells (IntId m) (x ∷ row) n e = let s : x ≡ Int m = cc in false≢true (ap is_null (sym s) ∙ n)
      no_cells (Tile zoom column line) [] n e = cc
      no_cells _ _ n e = cc

      no_key : (table : TableName) → key_width table ≡ 1 → (key : RowKey) (row : List Cell) → is_null (cell_at 0 row) ≡ true → has_key table key row ≡ false
      no_key table w key row n = by (has_key table key row) refl
        where
          by : (b : Bool) → has_key table key row ≡ b → has_key table key row ≡ false
          by false e = e
          by true e = absurd (no_cells key row n (ap (λ k. take k row) (sym w) ∙ (cells_eq-Decides (key_of table row) (key_cells key)).0 e))

  -- all rows of other tables stay
  pub other_tables_stay : IsLoadedFrom t h → (table : TableName) → is_set_table h.state.layout table ≡ false → t'.rows table ≡ t.rows table
  other_tables_stay loaded table other = sym (filter_every all (t'.rows table) (every (t'.rows table))) ∙ (others_stay changes table (t.rows table) (t'.rows table) (made.tables table) all (λ row _. none row) ∙ filter_every all (t.rows table) (every (t.rows table)))
    where
      all : List Cell → Bool
      all row = true

      every : (rows : List (List Cell)) → All (λ row. all row ≡ true) rows
      every rows = λ k d lt. refl

      three : (a n b c : Bool) → (a || b || c) ≡ true → (b ≡ true → n ≡ true) → (a || (n && b) || c) ≡ true
      three true n b c h k = refl
      three false n true c h k = ap (λ x. (x && true) || c) (k refl)
      three false true false c h k = h
      three false false false c h k = h

      of_set : (c : Change) → is_own_table h.state.layout c.table ≡ true → (table_eq c.table (content_table h.state.layout) ≡ true → (id_edited h.edited c.key ≡ true) × (c.row ≡ content_row_by h.state c.key)) → is_set_table h.state.layout c.table ≡ true
      of_set c own only = three (table_eq c.table (tile_table h.state.layout)) (is_normalized h.state.layout) (table_eq c.table (content_table h.state.layout)) (table_eq c.table Metadata) own (λ is. let id = named_id h.edited c.key (only is).0 in loaded.with_ids id.0 id.1)

      not_of : (c : Change) → is_set_table h.state.layout c.table ≡ true → (row : List Cell) → (table_eq c.table table && has_key table c.key row) ≡ false
      not_of c own row = by (table_eq c.table table) refl
        where
          by : (b : Bool) → table_eq c.table table ≡ b → (b && has_key table c.key row) ≡ false
          by false e = refl
          by true e = absurd (false≢true (sym other ∙ (ap (is_set_table h.state.layout) (sym (same_table c.table table e)) ∙ own)))

      none : (row : List Cell) → is_changed changes table row ≡ false
      none row = list_any_none (λ c. table_eq c.table table && has_key table c.key row) changes (λ k d lt. not_of (get_or changes k d) (of_set (get_or changes k d) (are.tables k d lt) (are.contents.only k d lt)) row)
