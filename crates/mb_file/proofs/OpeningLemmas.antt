-- The tables of a set from test to test.
use Rattle.std.proofs.Common.{arith, Bool, inl, inr, length, List, subst, subst₂, sym, ℕ, ◌<◌, ◌^◌, ◌∙◌, ◌≡◌}
use Rattle.std.proofs.lemmas.Bool.{cases_Bool}
use Rattle.sqlite_btree.specs.Chain.{Layout}
use Rattle.sqlite_btree.specs.Check.{IsChecked, is_marked, KeepsMarks, MarksFree}
use Rattle.sqlite_btree.specs.Cut.{Each}
use Rattle.sqlite_btree.specs.Stored.{IsTable}
use Rattle.sqlite_disk.specs.declared.Disk.{Ghosts}
use Rattle.sqlite_pages.specs.PageMap.{PageMap}
use Rattle.sqlite_record.specs.Strict as strict
use Rattle.mb_tables.specs.declared.table.TableName.{TableName}
use Rattle.mb_file.specs.Cursor.{Stored}
use Rattle.mb_file.specs.FilePages.{GoesOn, pages_of}
use Rattle.mb_file.specs.Listing.{IsListed}
use Rattle.mb_file.specs.Opening.{IsStoredIn}
use Rattle.mb_file.specs.SetTable.{set_rows}
use Rattle.mb_file.specs.declared.listing.Listing.{Listing}
use Rattle.mb_file.specs.declared.pages.FilePages.{FilePages}
use Rattle.mb_file.specs.declared.set_table.SetTable.{SetTable}

-- flags are only added, so that each page without one is still there
pub still_free : (old new : List Bool) (pages : PageMap) → KeepsMarks old new → MarksFree old pages → MarksFree new pages
still_free old new pages keeps free = λ n unset. free n (elim (cases_Bool (is_marked old n)) [ inr clear ↦ clear | inl was ↦ absurd (let t = keeps n was in let f = unset in cc) ])

-- a table whose tree was tested
pub tested : (usable : ℕ) (pages : PageMap) (old new : List Bool) (table : TableName) (of : SetTable) (listing : Listing)
    → IsChecked pages old new (λ layout. (rows : List Stored) × IsTable usable layout of.root rows × Each (λ row. strict.IsRecord row.1) rows)
    → listing.table ≡ table → listing.of ≡ of
    → ((layout : Layout) (usable secret : ℕ) (pages : PageMap) (rows : List Stored) → IsTable usable layout of.root rows → length (set_rows table of.columns rows) < 2 ^ 64 → IsListed layout usable pages secret table rows listing)
    → IsStoredIn usable pages listing
tested usable pages old new table of listing checked is_table is_of listed = record {
  layout = checked.layout;
  rows = checked.fact.0;
  laid = checked.laid;
  stored = subst (λ (o : SetTable). IsTable usable checked.layout o.root checked.fact.0) (sym is_of) checked.fact.1;
  listed = λ secret few.
      subst (λ (t : TableName). IsListed checked.layout usable pages secret t checked.fact.0 listing) (sym is_table)
      (listed checked.layout usable secret pages checked.fact.0 checked.fact.1
      (subst₂ (λ (t : TableName) (o : SetTable). length (set_rows t o.columns checked.fact.0) < 2 ^ 64) is_table is_of few));
}

-- what a call behind others makes of pages, as it is said of the pages before them
pub opened_after : {D : Type 0} {g : Ghosts D} (early mid : FilePages D g) (old new : List Bool) (F : ℕ → PageMap → Type 0) → GoesOn early mid → pages_of mid ≡ pages_of early → KeepsMarks old new
    → MarksFree old (pages_of early) → (MarksFree new (pages_of mid) → F mid.usable (pages_of mid)) → F early.usable (pages_of early)
opened_after early mid old new F kept same keeps free opens =
    subst₂ F kept.same_size same (opens (subst (MarksFree new) (sym same) (still_free old new (pages_of early) keeps free)))

pub goes_trans : {D : Type 0} {g : Ghosts D} (a b c : FilePages D g) → GoesOn a b → GoesOn b c → GoesOn a c
goes_trans a b c first second = record {
  same_size = second.same_size ∙ first.same_size;
  more_faults = omega (arith, first.more_faults, second.more_faults);
  clean = omega (arith, first.clean, second.clean);
  in_order = tt;
}
