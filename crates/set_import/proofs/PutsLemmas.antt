-- Changes that put tiles, and what commits of them make together.
use Rattle.set_import.proofs.Common.{ap, Bool, false, get, Held, inl, inr, List, None, Option, refl, Some, subst, sym, Tables, TileSet, true, ℕ, [], ◌∙◌, ◌∷◌, ◌≡◌, ◌⊎◌}
use Rattle.std.proofs.Common.{get_or, not, ◌&&◌, ◌++◌, ◌||◌}
use Rattle.std.proofs.lemmas.Bool.{false≢true}
use Rattle.std.proofs.lemmas.List.Elements.{All-append}
use Rattle.std.proofs.lemmas.List.Folds.{list_any-append}
use Rattle.std.specs.Prelude.{All, filter, option_map, option_to_list}
use Rattle.std.specs.FinMap.{contains_key}
use Rattle.mb_lists.specs.Entries.{blob_cell}
use Rattle.mb_loaded.proofs.ChangeSteps.{front_same}
use Rattle.mb_loaded.proofs.Listed.{at_right}
use Rattle.mb_loaded.proofs.MoreContents.{at_left}
use Rattle.mb_loaded.specs.Changing.{AreChangesOf, cells_for, content_table, front, id_edited, is_own_table, name_edited, place_edited, tile_key, tile_row_by}
use Rattle.mb_store.proofs.Committed.{left_committed, others_stay}
use Rattle.mb_store.specs.Committing.{AreOfTables, Commits, is_changed}
use Rattle.mb_store.specs.declared.change.Change.{Change}
use Rattle.mb_tables.proofs.TableLemmas.{same_table}
use Rattle.mb_tables.proofs.CellLemmas.{cells_eq-Decides}
use Rattle.mb_tables.specs.Cell.{cells_eq}
use Rattle.mb_tables.specs.Key.{has_key, key_cells}
use Rattle.mb_tables.specs.Described.{is_table}
use Rattle.mb_tables.specs.Table.{table_eq}
use Rattle.mb_tables.specs.Kind.{tile_table}
use Rattle.mb_tables.specs.Tiles.{Place}
use Rattle.mb_tables.specs.declared.cell.Cell.{Cell}
use Rattle.mb_tables.specs.declared.description.TableDesc.{TableDesc}
use Rattle.mb_tables.specs.declared.key.RowKey.{RowKey}
use Rattle.mb_tables.specs.declared.key.RowKey.TheVariants.{IntId, TextId, Tile}
use Rattle.mb_tables.specs.declared.kind.MbtType.{MbtType}
use Rattle.mb_tables.specs.declared.kind.MbtType.TheVariants.{Flat}
use Rattle.mb_tables.specs.declared.table.TableName.{TableName}
use Rattle.mb_tables.specs.declared.table.TableName.TheVariants.{Images, Metadata, Tiles}
use Rattle.set_import.specs.Batches.{AreFlat, ArePuts, IsBatchOf, IsPlain, IsPut}

-- a change of one table isn't of another
pub apart_tables : {A : Type 0} (t u v : TableName) → table_eq u v ≡ false → table_eq t u ≡ true → table_eq t v ≡ true → A
apart_tables t u v other one two = absurd (false≢true (sym other ∙ (ap (λ x. table_eq x v) (sym (same_table t u one)) ∙ two)))

-- a batch of tiles, and its changes
module _ (h : Held) (tiles : TileSet) (b : IsBatchOf h tiles) where
  no_id : {A : Type 0} (key : RowKey) → id_edited h.edited key ≡ true → A
  no_id (TextId text) e = absurd (false≢true (sym (b.ids _) ∙ e))
  no_id (IntId n) e = absurd (false≢true (sym (b.ids _) ∙ e))
  no_id (Tile zoom column row) e = absurd (false≢true e)

  no_name : {A : Type 0} (key : RowKey) → name_edited h.edited key ≡ true → A
  no_name (TextId name) e = absurd (false≢true (sym (b.names name) ∙ e))
  no_name (IntId n) e = absurd (false≢true e)
  no_name (Tile zoom column row) e = absurd (false≢true e)

  place_by : (key : RowKey) → place_edited h.edited key ≡ true → (p : Place) × (key ≡ tile_key p) × (contains_key tiles p ≡ true)
  place_by (Tile zoom column row) e =
      let p : Place = record { zoom = zoom; column = column; row = row } in
      (p, refl, sym (b.places p) ∙ e)
  place_by (TextId name) e = absurd (false≢true e)
  place_by (IntId n) e = absurd (false≢true e)

  row_of : (p : Place) → tile_row_by h.state (tile_key p) ≡ option_map (λ contents. front p ++ blob_cell contents ∷ []) (get tiles p)
  row_of p =
      ap (λ (l : MbtType). option_map (λ contents. front p ++ cells_for l h.state.algorithm contents (get h.state.ids p) (get h.state.dates p)) (get h.state.tiles p)) b.flat
      ∙ ap (option_map (λ contents. front p ++ blob_cell contents ∷ [])) (b.has p)

  pub puts_of : (cs : List Change) → AreChangesOf h cs → ArePuts tiles cs
  puts_of cs are = record {
    made = λ p there.
        let m = are.tiles.made (tile_key p) (b.places p ∙ there) in
        (m.0, m.1, m.2, subst (λ (l : MbtType). table_eq m.1.table (tile_table l) ≡ true) b.flat m.3, m.4);
    only = λ k d lt. one (get_or cs k d)
        (subst (λ (l : MbtType). is_own_table l (get_or cs k d).table ≡ true) b.flat (are.tables k d lt))
        (λ same. are.tiles.only k d lt (subst (λ (l : MbtType). table_eq (get_or cs k d).table (tile_table l) ≡ true) (sym b.flat) same))
        (λ same. (are.contents.only k d lt (subst (λ (l : MbtType). table_eq (get_or cs k d).table (content_table l) ≡ true) (sym b.flat) same)).0)
        (λ same. (are.names.only k d lt same).0);
  }
    where
      put : (c : Change) → table_eq c.table Tiles ≡ true → place_edited h.edited c.key ≡ true → c.row ≡ tile_row_by h.state c.key → IsPut tiles c
      put c same edited row =
          let p = place_by c.key edited in
          record { place = p.0; there = p.2; table = same; key = p.1; row = row ∙ (ap (tile_row_by h.state) p.1 ∙ row_of p.0) }

      one : (c : Change) → is_own_table Flat c.table ≡ true
          → (table_eq c.table Tiles ≡ true → (place_edited h.edited c.key ≡ true) × (c.row ≡ tile_row_by h.state c.key))
          → (table_eq c.table Images ≡ true → id_edited h.edited c.key ≡ true)
          → (table_eq c.table Metadata ≡ true → name_edited h.edited c.key ≡ true) → IsPut tiles c
      one c own tile id name = by (table_eq c.table Tiles) refl (table_eq c.table Images) refl (table_eq c.table Metadata) refl own
        where
          by : (t : Bool) → table_eq c.table Tiles ≡ t → (i : Bool) → table_eq c.table Images ≡ i → (n : Bool) → table_eq c.table Metadata ≡ n → ((t || i) || n) ≡ true → IsPut tiles c
          by true ist i isi n isn own = let it = tile ist in put c ist it.0 it.1
          by false ist true isi n isn own = no_id c.key (id isi)
          by false ist false isi true isn own = no_name c.key (name isn)
          by false ist false isi false isn own = absurd (false≢true own)

  pub puts_back : (cs : List Change) → ArePuts tiles cs → AreChangesOf h cs
  puts_back cs puts = record {
    tiles = record {
      made = λ key edited.
          let p = place_by key edited in
          let m = puts.made p.0 p.2 in
          (m.0, m.1, m.2, subst (λ (l : MbtType). table_eq m.1.table (tile_table l) ≡ true) (sym b.flat) m.3, m.4 ∙ sym p.1);
      only = λ k d lt same.
          let it = puts.only k d lt in
          (ap (place_edited h.edited) it.key ∙ (b.places it.place ∙ it.there), it.row ∙ sym (ap (tile_row_by h.state) it.key ∙ row_of it.place));
    };
    contents = record {
      made = λ key edited. no_id key edited;
      only = λ k d lt same. apart_tables (get_or cs k d).table Tiles Images refl (puts.only k d lt).table (subst (λ (l : MbtType). table_eq (get_or cs k d).table (content_table l) ≡ true) b.flat same);
    };
    names = record {
      made = λ key edited. no_name key edited;
      only = λ k d lt same. apart_tables (get_or cs k d).table Tiles Metadata refl (puts.only k d lt).table same;
    };
    tables = λ k d lt. subst (λ (l : MbtType). is_own_table l (get_or cs k d).table ≡ true) (sym b.flat)
        (ap (λ x. (x || table_eq (get_or cs k d).table Images) || table_eq (get_or cs k d).table Metadata) (puts.only k d lt).table);
  }

-- changes of two lists, which put the tiles of both
pub puts_more : (done new all : TileSet) (cs ds : List Change)
    → ((p : Place) → contains_key all p ≡ true → (contains_key done p ≡ true) ⊎ (contains_key new p ≡ true))
    → ((p : Place) → contains_key done p ≡ true → get all p ≡ get done p)
    → ((p : Place) → contains_key new p ≡ true → get all p ≡ get new p)
    → ArePuts done cs → ArePuts new ds → ArePuts all (cs ++ ds)
puts_more done new all cs ds split first second p q = record {
  made = λ place there. elim (split place there) [
    | inl a ↦ let m = p.made place a in (m.0, m.1, at_left cs ds m.0 m.1 m.2, m.3, m.4)
    | inr b ↦ let m = q.made place b in let r = at_right cs ds m.0 m.1 m.2 in (r.0, m.1, r.1, m.3, m.4)
  ];
  only = All-append (IsPut all) cs ds (λ k d lt. wider done first (get_or cs k d) (p.only k d lt)) (λ k d lt. wider new second (get_or ds k d) (q.only k d lt));
}
  where
    wider : (part : TileSet) → ((p : Place) → contains_key part p ≡ true → get all p ≡ get part p) → (c : Change) → IsPut part c → IsPut all c
    wider part same c it = record {
      place = it.place;
      there = ap is_some_tile (same it.place it.there) ∙ it.there;
      table = it.table;
      key = it.key;
      row = it.row ∙ ap (option_map (λ contents. front it.place ++ blob_cell contents ∷ [])) (sym (same it.place it.there));
    }
      where
        is_some_tile : Option (Option (List ℕ)) → Bool
        is_some_tile (Some x) = true
        is_some_tile None = false

-- no change of the first list has the key of one of the second
abbrev pub AreApart : List Change → List Change → Type 0
AreApart cs ds = All (λ c. All (λ d. table_eq d.table c.table ≡ true → cells_eq (key_cells d.key) (key_cells c.key) ≡ false) ds) cs

-- two commits, one after the other, are one of both lists
pub commits_more : (cs ds : List Change) (old mid new : Tables) → AreApart cs ds → Commits cs old mid → Commits ds mid new → Commits (cs ++ ds) old new
commits_more cs ds old mid new apart first second = record {
  descriptions = second.descriptions ∙ first.descriptions;
  tables = λ table. record {
    changed = All-append (λ c. table_eq c.table table ≡ true → filter (has_key table c.key) (new.rows table) ≡ option_to_list c.row) cs ds
        (λ k d lt same.
        left_committed ds table (mid.rows table) (new.rows table) (second.tables table) (get_or cs k d).key
        (λ j e less here. apart k d lt j e less (ap (table_eq (get_or ds j e).table) (same_table (get_or cs k d).table table same) ∙ here))
        ∙ (first.tables table).changed k d lt same)
        (second.tables table).changed;
    others =
        let q : List Cell → Bool = λ row. not (is_changed (cs ++ ds) table row) in
        others_stay ds table (mid.rows table) (new.rows table) (second.tables table) q (λ row h. (neither (is_changed cs table row) (is_changed ds table row) (ap not (sym (parts table row)) ∙ h)).1)
        ∙ others_stay cs table (old.rows table) (mid.rows table) (first.tables table) q (λ row h. (neither (is_changed cs table row) (is_changed ds table row) (ap not (sym (parts table row)) ∙ h)).0);
  };
}
  where
    parts : (table : TableName) (row : List Cell) → is_changed (cs ++ ds) table row ≡ (is_changed cs table row || is_changed ds table row)
    parts table row = list_any-append (λ c. table_eq c.table table && has_key table c.key row) cs ds

    neither : (a b : Bool) → not (a || b) ≡ true → (a ≡ false) × (b ≡ false)
    neither true b h = absurd (false≢true h)
    neither false true h = absurd (false≢true h)
    neither false false h = (refl, refl)

-- so are changes of tiles at different places
pub puts_apart : (done new : TileSet) (cs ds : List Change) → ((p : Place) → contains_key done p ≡ true → contains_key new p ≡ true → ⊥) → ArePuts done cs → ArePuts new ds → AreApart cs ds
puts_apart done new cs ds never p q = λ k c lt j d less same. one (get_or cs k c) (get_or ds j d) (p.only k c lt) (q.only j d less)
  where
    one : (c d : Change) → IsPut done c → IsPut new d → cells_eq (key_cells d.key) (key_cells c.key) ≡ false
    one c d a b = by (cells_eq (key_cells d.key) (key_cells c.key)) refl
      where
        by : (t : Bool) → cells_eq (key_cells d.key) (key_cells c.key) ≡ t → t ≡ false
        by false is = refl
        by true is =
            let cells : key_cells d.key ≡ key_cells c.key = (cells_eq-Decides (key_cells d.key) (key_cells c.key)).0 is in
            let place : b.place ≡ a.place = front_same b.place a.place (sym (ap key_cells b.key) ∙ (cells ∙ ap key_cells a.key)) in
            absurd (never a.place a.there (subst (λ (p : Place). contains_key new p ≡ true) place b.there))

-- and changes of a set without tiles
pub names_apart : (done : TileSet) (h : Held) (cs ds : List Change) → h.state.layout ≡ Flat → ((p : Place) → contains_key h.edited.places p ≡ false) → ArePuts done cs → AreChangesOf h ds → AreApart cs ds
names_apart done h cs ds flat none p are = λ k c lt j d less same.
    let here : table_eq (get_or ds j d).table Tiles ≡ true = ap (table_eq (get_or ds j d).table) (sym (same_table (get_or cs k c).table Tiles (p.only k c lt).table)) ∙ same in
    absurd (nowhere (get_or ds j d).key (are.tiles.only j d less (subst (λ (l : MbtType). table_eq (get_or ds j d).table (tile_table l) ≡ true) (sym flat) here)).0)
  where
    nowhere : (key : RowKey) → place_edited h.edited key ≡ true → ⊥
    nowhere (Tile zoom column row) e = false≢true (sym (none (record { zoom = zoom; column = column; row = row })) ∙ e)
    nowhere (TextId name) e = false≢true e
    nowhere (IntId n) e = false≢true e

-- the changes of a flat set without ids are of the tables of one
pub of_flat_tables : (h : Held) (cs : List Change) (ds : List TableDesc) → IsPlain h → AreFlat ds → AreChangesOf h cs → AreOfTables ds cs
of_flat_tables h cs ds plain flat are = λ k d lt. one (get_or cs k d)
    (subst (λ (l : MbtType). is_own_table l (get_or cs k d).table ≡ true) plain.0 (are.tables k d lt))
    (λ same. (are.contents.only k d lt (subst (λ (l : MbtType). table_eq (get_or cs k d).table (content_table l) ≡ true) (sym plain.0) same)).0)
  where
    no_id : {A : Type 0} (key : RowKey) → id_edited h.edited key ≡ true → A
    no_id (TextId text) e = absurd (false≢true (sym (plain.1 _) ∙ e))
    no_id (IntId n) e = absurd (false≢true (sym (plain.1 _) ∙ e))
    no_id (Tile zoom column row) e = absurd (false≢true e)

    one : (c : Change) → is_own_table Flat c.table ≡ true → (table_eq c.table Images ≡ true → id_edited h.edited c.key ≡ true) → is_table ds c.table ≡ true
    one c own id = by (table_eq c.table Tiles) refl (table_eq c.table Images) refl (table_eq c.table Metadata) refl own
      where
        by : (t : Bool) → table_eq c.table Tiles ≡ t → (i : Bool) → table_eq c.table Images ≡ i → (n : Bool) → table_eq c.table Metadata ≡ n → ((t || i) || n) ≡ true → is_table ds c.table ≡ true
        by true ist i isi n isn own = ap (is_table ds) (same_table c.table Tiles ist) ∙ flat.0
        by false ist true isi n isn own = no_id c.key (id isi)
        by false ist false isi true isn own = ap (is_table ds) (same_table c.table Metadata isn) ∙ flat.1
        by false ist false isi false isn own = absurd (false≢true own)
