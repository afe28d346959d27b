use Rattle.std.proofs.Common.{List, None, true, ◌≡◌}
use Rattle.sqlite_btree.specs.Chain.{Layout}
use Rattle.sqlite_btree.specs.Stored.{IsLaidIn, IsTable}
use Rattle.mb_store.specs.MemStore.{told_of}
use Rattle.mb_tables.specs.Described.{is_table}
use Rattle.mb_tables.specs.declared.table.TableName.TheVariants.{Metadata}
use Rattle.mb_file.specs.Cursor.{Stored}
use Rattle.mb_file.specs.FilePages.{GoesOn, IsTrusted, pages_of}
use Rattle.mb_file.specs.Metadata.{held_in}
use Rattle.mb_file.specs.Standing.{HoldsNames}
use Rattle.mb_file.proofs.MetadataLemmas.{SoFar}
use Rattle.mb_file.proofs.metadata.fill.Given as goal

abbrev pub invariant-rows : goal.invariant-rows
invariant-rows g l = record {
  described : is_table (told_of l.names).descriptions Metadata ≡ true;
  metadata : HoldsNames l.names;
  taken : l.source.taken ≡ l.fn.source.taken;
  kept : GoesOn l.fn.source.pages l.source.pages;
  pages : pages_of l.source.pages ≡ pages_of l.fn.source.pages;
  read : IsTrusted l.source.pages → l.columns.key ≡ None → (layout : Layout) (rows : List Stored) → IsLaidIn layout (pages_of l.fn.source.pages) → IsTable l.fn.source.pages.usable layout l.root rows
      → SoFar layout l.fn.source.pages.usable (pages_of l.fn.source.pages) l.columns rows (held_in l.fn.names l.fn.source.left_out) l.course (held_in l.names l.source.left_out);
}
