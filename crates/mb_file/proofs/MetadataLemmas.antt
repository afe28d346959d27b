-- The metadata that is read of a table, from row to row.
use Rattle.std.proofs.Common.{ap, arith, Bool, cond, false, List, None, OnOk, Err, Ok, Option, refl, Result, Some, subst, subst₂, sym, true, [], ℕ, ℤ, ◌++◌, ◌∙◌, ◌∷◌, ◌≡◌}
use Rattle.std.specs.Prelude.{is_some, option_map}
use Rattle.std.specs.List.{cons_option}
use Rattle.sqlite_btree.specs.Chain.{Layout}
use Rattle.sqlite_btree.specs.Check.{IsChecked}
use Rattle.sqlite_btree.specs.Cut.{Each}
use Rattle.sqlite_btree.specs.Stored.{IsLaidIn, IsTable}
use Rattle.sqlite_disk.specs.declared.Disk.{Ghosts}
use Rattle.sqlite_pages.specs.PageMap.{PageMap}
use Rattle.sqlite_record.specs.Strict as strict
use Rattle.sqlite_value.specs.Order.{column, Row}
use Rattle.sqlite_value.specs.declared.value.Value.{Value}
use Rattle.sqlite_value.specs.declared.value.Value.TheVariants.{Null, Text}
use Rattle.mb_reading.specs.Filling.{noted, Read, read_on}
use Rattle.mb_store.specs.MemStore.{told_of}
use Rattle.mb_store.specs.Store.{no_rows, placed, with_row}
use Rattle.mb_store.specs.declared.mem_store.MemStore.{MemStore}
use Rattle.mb_tables.specs.Described.{is_keyed, is_table}
use Rattle.mb_tables.specs.Schema.{set_tables}
use Rattle.mb_tables.specs.Table.{table_eq, Tables}
use Rattle.mb_tables.specs.declared.cell.Cell.{Cell}
use Rattle.mb_tables.specs.declared.kind.MbtType.TheVariants.{Flat}
use Rattle.mb_tables.specs.declared.table.TableName.{TableName}
use Rattle.mb_tables.specs.declared.table.TableName.TheVariants.{Metadata}
use Rattle.mb_file.specs.Columns.{AreColumnsBy, HasRowids}
use Rattle.mb_file.specs.Course.{IsIn, left_in, Passed, row_in}
use Rattle.mb_file.specs.Cursor.{Stored}
use Rattle.mb_file.specs.FilePages.{GoesOn, IsTrusted, pages_of}
use Rattle.mb_file.specs.Metadata.{AreNames, Fills, name_in, named_value, names_in, spelling, text_or_null, three_of}
use Rattle.mb_file.specs.Record.{value_in, values_in}
use Rattle.mb_file.specs.Standing.{HoldsNames}
use Rattle.mb_file.specs.declared.catalog.Listed.{Listed}
use Rattle.mb_file.specs.declared.columns.Columns.{Columns}
use Rattle.mb_file.specs.declared.course.Course.{Course}
use Rattle.mb_file.specs.declared.error.FileError.{FileError}
use Rattle.mb_file.specs.declared.pages.FilePages.{FilePages}

pub has_names : (t : Tables) → t ≡ no_rows (set_tables Flat) → is_table t.descriptions Metadata ≡ true
has_names t flat = subst (λ u. is_table u.descriptions Metadata ≡ true) (sym flat) refl

-- The store of a flat set has a table of metadata, and no rows of another table.
pub names_first : (store : MemStore) → told_of store ≡ no_rows (set_tables Flat) → HoldsNames store
names_first store flat = record {
  keyed = subst (λ (u : Tables). is_keyed u.descriptions Metadata ≡ true) (sym flat) refl;
  others = λ table other. ap (λ (u : Tables). u.rows table) flat;
}

pub names_same : (old new : MemStore) → told_of new ≡ told_of old → HoldsNames old → HoldsNames new
names_same old new same holds = record {
  keyed = ap (λ (u : Tables). is_keyed u.descriptions Metadata) same ∙ holds.keyed;
  others = λ table other. ap (λ (u : Tables). u.rows table) same ∙ holds.others table other;
}

pub names_with : (old new : MemStore) (row : List Cell) → told_of new ≡ with_row (told_of old) Metadata row → HoldsNames old → HoldsNames new
names_with old new row put holds = record {
  keyed = ap (λ (u : Tables). is_keyed u.descriptions Metadata) put ∙ holds.keyed;
  others = λ table other. ap (λ (u : Tables). u.rows table) put ∙ apart table other;
}
  where
    apart : (table : TableName) → table_eq table Metadata ≡ false → (with_row (told_of old) Metadata row).rows table ≡ []
    apart table other = ap (λ b. cond b (placed Metadata row ((told_of old).rows Metadata)) ((told_of old).rows table)) other ∙ holds.others table other

-- a store's tables are described as before
pub still_names : (old new : Tables) → new.descriptions ≡ old.descriptions → is_table old.descriptions Metadata ≡ true → is_table new.descriptions Metadata ≡ true
still_names old new same is = ap (λ ds. is_table ds Metadata) same ∙ is

-- the values of a row, once they are pushed
shown : (a b : Value) (o : Option (List ℕ)) → three_of (a ∷ b ∷ cons_option (option_map Text o) []) ≡ a ∷ b ∷ text_or_null o ∷ Null ∷ Null ∷ []
shown a b None = refl
shown a b (Some text) = refl

pub values_named : (columns : Columns) (rowid passed : ℤ) (bytes : List ℕ) (empty one two all : Row) (a b : Value) (rest : Row) → empty ≡ [] → one ≡ empty ++ a ∷ [] → two ≡ one ++ b ∷ []
    → all ≡ two ++ cons_option (option_map Text (spelling b)) [] → passed ≡ rowid → a ∷ b ∷ rest ≡ values_in columns passed bytes → three_of all ≡ name_in columns (rowid, bytes)
unfolding name_in
values_named columns rowid passed bytes empty one two all a b rest none first second third same are =
    let is : a ∷ b ∷ rest ≡ values_in columns rowid bytes = are ∙ ap (λ n. values_in columns n bytes) same in
    let end : Row = cons_option (option_map Text (spelling b)) [] in
    let parts : all ≡ a ∷ b ∷ end = third ∙ ap (λ (r : Row). r ++ end) (second ∙ ap (λ (r : Row). r ++ b ∷ []) (first ∙ ap (λ (r : Row). r ++ a ∷ []) none)) in
    let name : a ≡ value_in columns.first rowid bytes = ap (λ (r : Row). column r 0) is in
    let value : b ≡ value_in columns.second rowid bytes = ap (λ (r : Row). column r 1) is in
    ap three_of parts ∙ shown a b (spelling b) ∙ (λ i. named_value (name i) (value i))

pub not_there : (o : Option ℕ) → o ≡ None → is_some o ≡ false
not_there o none = ap is_some none

-- what was read, with the rows that a course has left, makes what all rows make
pub record SoFar (layout : Layout) (usable : ℕ) (pages : PageMap) (columns : Columns) (rows : List Stored) (before : Read) (course : Course) (now : Read) : Type 0 where
  pub among : IsIn layout usable pages rows course
  pub whole : read_on Metadata before (names_in columns rows) ≡ read_on Metadata now (names_in columns (left_in course rows))

module _ {D : Type 0} {g : Ghosts D} (early mid late : FilePages D g) (root : ℕ) (columns : Columns) (kept : GoesOn early mid) (same : pages_of mid ≡ pages_of early) (goes : GoesOn mid late) (before : Read)
    (old new : Course) (now : Read) where
  -- what is read once pages are there
  abbrev pub Reads : FilePages D g → Course → Read → Type 0
  Reads at course now = IsTrusted at → columns.key ≡ None → (layout : Layout) (rows : List Stored) → IsLaidIn layout (pages_of early) → IsTable early.usable layout root rows
      → SoFar layout early.usable (pages_of early) columns rows before course now

  -- a step of the course
  abbrev pub Steps : Bool → Type 0
  Steps found = IsTrusted late → (layout : Layout) (rows : List Stored) → IsLaidIn layout (pages_of mid) → IsTable mid.usable layout root rows → IsIn layout mid.usable (pages_of mid) rows old
      → Passed rows old new found × IsIn layout mid.usable (pages_of mid) rows new

  stepped : (found : Bool) → Steps found → Reads mid old now → IsTrusted late → columns.key ≡ None → (layout : Layout) (rows : List Stored) → IsLaidIn layout (pages_of early) → IsTable early.usable layout root rows
      → SoFar layout early.usable (pages_of early) columns rows before old now × (Passed rows old new found × IsIn layout early.usable (pages_of early) rows new)
  stepped found steps reads trusted rowids layout rows laid stored =
      let was = reads (omega (arith, trusted, goes.clean)) rowids layout rows laid stored in (
        was,
        subst₂ (λ (u : ℕ) (p : PageMap). IsLaidIn layout p → IsTable u layout root rows → IsIn layout u p rows old → Passed rows old new found × IsIn layout u p rows new)
            kept.same_size same (steps trusted layout rows) laid stored was.among,
      )

  -- a row more is read
  pub names_more : Steps true → Reads mid old now → (values : Row) (after : Read) (number : ℤ) (bytes : List ℕ) → number ≡ (row_in new).0 → bytes ≡ (row_in new).1 → values ≡ name_in columns (number, bytes)
      → after ≡ noted Metadata now values → Reads late new after
  names_more steps reads values after number bytes is_number is_bytes are adds = λ trusted rowids layout rows laid stored.
      let both = stepped true steps reads trusted rowids layout rows laid stored in
      let next : noted Metadata now (name_in columns (row_in new)) ≡ after = sym (adds ∙ ap (noted Metadata now) (are ∙ (λ i. name_in columns (is_number i, is_bytes i)))) in
      record {
        among = both.1.1;
        whole = both.0.whole ∙ ap (λ rs. read_on Metadata now (names_in columns rs)) both.1.0 ∙ ap (λ (x : Read). read_on Metadata x (names_in columns (left_in new rows))) next;
      }

  -- none is left
  pub names_all : Steps false → Reads mid old now → IsTrusted late → columns.key ≡ None → (layout : Layout) (rows : List Stored) → IsLaidIn layout (pages_of early) → IsTable early.usable layout root rows
      → now ≡ read_on Metadata before (names_in columns rows)
  names_all steps reads trusted rowids layout rows laid stored =
      let both = stepped false steps reads trusted rowids layout rows laid stored in
      sym (both.0.whole ∙ ap (λ rs. read_on Metadata now (names_in columns rs)) both.1.0.0)

module _ {D : Type 0} {g : Ghosts D} (early mid late : FilePages D g) (kept : GoesOn early mid) (same : pages_of mid ≡ pages_of early) (listed : Listed) (columns : Columns) where
  -- the rows of a table that was tested, once they are read
  pub names_read : (marks tested : List Bool) (first before after : Read) (result : Result (Unit {0}) FileError) → (columns.key ≡ None → AreColumnsBy Metadata listed.text.items columns)
      → (HasRowids listed.text.items → columns.key ≡ None) → (columns.key ≡ None → IsChecked (pages_of early) marks tested (λ layout. (rows : List Stored) × IsTable early.usable layout listed.root rows × Each (λ row. strict.IsRecord row.1) rows))
      → first ≡ before → Fills mid late listed.root columns first after result → IsTrusted late
      → OnOk result (AreNames early.usable (pages_of early) (Some listed) before after)
  names_read marks tested first before after (Err e) made has checked is fills trusted = tt
  names_read marks tested first before after (Ok a) made has checked is fills trusted = λ own.
      let rowids = has own in
      let there = checked rowids in (
        columns,
        record {
          made = made rowids;
          layout = there.layout;
          rows = there.fact.0;
          laid = there.laid;
          stored = there.fact.1;
          read = subst₂ (λ (u : ℕ) (p : PageMap). IsLaidIn there.layout p → IsTable u there.layout listed.root there.fact.0 → after ≡ read_on Metadata first (names_in columns there.fact.0))
              kept.same_size same (fills trusted rowids there.layout there.fact.0) there.laid there.fact.1 ∙ ap (λ (x : Read). read_on Metadata x (names_in columns there.fact.0)) is;
        },
      )
