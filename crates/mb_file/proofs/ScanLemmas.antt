-- A scan that stands in the rows of a table, from row to row.
use Rattle.std.proofs.Common.{ap, append-nil, arith, Bool, drop, Err, false, IfOk, inl, inr, is_err, is_none, length, length-drop, List, None, Ok, OnOk, Option, refl, Result, Some, subst, subst₂, sym, take, true, [], ℕ, ℤ, ◌+◌, ◌++◌, ◌<◌, ◌≤◌, ◌^◌, ◌∙◌, ◌∷◌, ◌≡◌}
use Rattle.std.proofs.lemmas.Bool.{cases_Bool}
use Rattle.std.proofs.lemmas.List.{drop-drop, drop_all, take_all, take_at}
use Rattle.std.specs.List.{cons_option, filter_map}
use Rattle.sqlite_btree.proofs.ViewLemmas.{ascends_rows}
use Rattle.sqlite_btree.specs.Chain.{Layout}
use Rattle.sqlite_btree.specs.Stored.{IsLaidIn, IsTable}
use Rattle.sqlite_disk.specs.declared.Disk.{Ghosts}
use Rattle.sqlite_pages.specs.PageMap.{PageMap}
use Rattle.mb_tables.specs.declared.cell.Cell.{Cell}
use Rattle.mb_tables.specs.declared.table.TableName.{TableName}
use Rattle.mb_file.proofs.CursorLemmas.{ids_fit}
use Rattle.mb_file.proofs.NotedLemmas.{as_noted, row_noted, still_noted}
use Rattle.mb_file.proofs.UnseenLemmas.{behind_after, first_unseen, none_from_none}
use Rattle.mb_file.specs.Course.{has_key, IsIn, left_in, Passed, row_in}
use Rattle.mb_file.specs.Cursor.{rows_from, Stored}
use Rattle.mb_file.specs.Noted.{IsNoted, IsNotedAs, KeepsNotes, Notes}
use Rattle.mb_file.specs.Scan.{behind, Goes, is_unseen, IsScan, Scans, UnseenAfter}
use Rattle.mb_file.specs.FilePages.{GoesOn, IsTrusted, pages_of}
use Rattle.mb_file.specs.SetTable.{set_row, set_rows}
use Rattle.mb_file.specs.declared.columns.Columns.{Columns}
use Rattle.mb_file.specs.declared.course.Course.{Course}
use Rattle.mb_file.specs.declared.course.Course.TheVariants.{Keys, Rows}
use Rattle.mb_file.specs.declared.pages.FilePages.{FilePages}
use Rattle.mb_file.specs.declared.scan.Scan.{Scan}

-- what is behind the first of what is left
behind_first : {X : Type 0} (n : ℕ) (xs ys : List X) (x : X) → drop n xs ≡ x ∷ ys → (drop (n + 1) xs ≡ ys) × (n < length xs)
behind_first n xs ys x e = (sym (drop-drop 1 n xs) ∙ ap (drop 1) e, omega (arith, length-drop n xs, ap length e))

-- rows that a scan stands in are those of a table with rowids
pub rowids_of : (layout : Layout) (usable : ℕ) (pages : PageMap) (rows : List Stored) (course : Course) → IsIn layout usable pages rows course → has_key course ≡ false
rowids_of layout usable pages rows (Rows cursor) among = refl
rowids_of layout usable pages rows (Keys walk) among = absurd among

-- a scan that goes before the first row again keeps what it noted
pub restarted : (old new : Scan) → new ≡ record old { course = new.course; position = 0 } → IsNotedAs old new
restarted old new same = record {
  numbers = ap (λ (s : Scan). s.numbered.items) same;
  count = ap (λ (s : Scan). s.count) same;
  size = ap (λ (s : Scan). s.size) same;
  unseen = ap (λ (s : Scan). s.unseen) same;
}

-- none is from the end on
none_unseen : (o : Option ℤ) → o ≡ None → (xs ys : List Stored) → rows_from o xs ≡ rows_from o ys
none_unseen o ended xs ys = ap (λ (o : Option ℤ). rows_from o xs) ended ∙ sym (ap (λ (o : Option ℤ). rows_from o ys) ended)

-- by whether there was a row
pub goes_none : (all : List (List Cell)) (old new : ℕ) (o : Option (List Cell)) → Goes all old new o → is_none o ≡ true → (drop old all ≡ []) × (new ≡ old)
goes_none all old new None goes none = goes
goes_none all old new (Some row) goes none = absurd (let e = none in cc)

pub goes_some : (all : List (List Cell)) (old new : ℕ) (o : Option (List Cell)) → Goes all old new o → is_none o ≡ false → new ≡ old + 1
goes_some all old new None goes some = absurd (let e = some in cc)
goes_some all old new (Some row) goes some = goes.1

-- by whether a call failed
pub of_failed : {A E : Type 0} (P : A → Type 0) (r : Result A E) → is_err r ≡ true → IfOk r P
of_failed P (Ok a) failed = absurd (let e = failed in cc)
of_failed P (Err e) failed = tt

pub of_done : {A E : Type 0} (P : Type 0) (Q : A → Type 0) (r : Result A E) → is_err r ≡ false → IfOk r (λ a. P × Q a) → P × IfOk r Q
of_done P Q (Ok a) done both = both
of_done P Q (Err e) done both = absurd (let h = done in cc)

pub of_ok : {A E : Type 0} (P : Type 0) (r : Result A E) → is_err r ≡ false → OnOk r P → P
of_ok P (Ok a) done is = is
of_ok P (Err e) done is = absurd (let h = done in cc)

-- no row is behind the last one
pub none_from : (n m : ℕ) (all : List (List Cell)) → drop n all ≡ [] → n ≤ m → drop m all ≡ []
none_from n m all none below = drop_all m all (omega (arith, length-drop n all, ap length none, below))

-- rows that were gathered up to a limit, or up to the last one
pub all_gathered : (limit : ℕ) (got rest all : List (List Cell)) → all ≡ got ++ rest → length got ≡ limit → got ≡ take limit all
all_gathered limit got rest all parts long = sym (ap (take limit) parts ∙ take_at got rest limit long)

pub ends_gathered : (limit : ℕ) (got rest all : List (List Cell)) → all ≡ got ++ rest → rest ≡ [] → length got ≤ limit → got ≡ take limit all
ends_gathered limit got rest all parts none few = sym (ap (take limit) (parts ∙ ap (λ ys. got ++ ys) none ∙ append-nil got) ∙ take_all limit got few)

module _ (table : TableName) (columns : Columns) where
  first_row : (r : Stored) (rest : List Stored) (o : Option (List Cell)) → o ≡ set_row table columns r → set_rows table columns (r ∷ rest) ≡ cons_option o (set_rows table columns rest)
  unfolding set_rows
  first_row r rest o is = ap (λ (o : Option (List Cell)). cons_option o (filter_map (set_row table columns) rest)) (sym is)

  no_rows_in : (rest : List Stored) → rest ≡ [] → set_rows table columns rest ≡ []
  unfolding set_rows
  no_rows_in rest none = ap (λ (rows : List Stored). filter_map (set_row table columns) rows) none

module _ (layout : Layout) (usable : ℕ) (pages : PageMap) (table : TableName) (columns : Columns) (rows : List Stored) where
  -- before the first row
  pub at_first : (scan : Scan) → IsIn layout usable pages rows scan.course → left_in scan.course rows ≡ rows → scan.position ≡ 0 → length (set_rows table columns rows) < 2 ^ 64
      → IsScan layout usable pages table columns rows scan
  at_first scan among all first few = record {
    among = among;
    few = few;
    within = omega (arith, first);
    left = ap (set_rows table columns) all ∙ ap (λ n. drop n (set_rows table columns rows)) (sym first);
    behind = ap (rows_from scan.unseen) all;
  }

  module _ (old new : Scan) (course : Course) (scan : IsScan layout usable pages table columns rows old) (among : IsIn layout usable pages rows course) (same : new.course ≡ course)
      (seen : rows_from new.unseen (left_in course rows) ≡ rows_from new.unseen rows) where
    seen_by : rows_from new.unseen (left_in new.course rows) ≡ rows_from new.unseen rows
    seen_by = ap (λ (c : Course). rows_from new.unseen (left_in c rows)) same ∙ seen

    -- a row of the table is taken that isn't one of the set
    pub left_out : Passed rows old.course course true → None ≡ set_row table columns (row_in course) → new.position ≡ old.position → IsScan layout usable pages table columns rows new
    left_out passed is moved = record {
      among = subst (IsIn layout usable pages rows) (sym same) among;
      few = scan.few;
      within = omega (arith, scan.within, moved);
      left = ap (λ (c : Course). set_rows table columns (left_in c rows)) same ∙ sym (first_row table columns (row_in course) (left_in course rows) None is) ∙ ap (set_rows table columns) (sym passed) ∙ scan.left
          ∙ ap (λ n. drop n (set_rows table columns rows)) (sym moved);
      behind = seen_by;
    }

    -- a row of the table is taken that is one of the set
    pub row_taken : (row : List Cell) → Passed rows old.course course true → Some row ≡ set_row table columns (row_in course) → new.position ≡ behind old.position (Some row)
        → IsScan layout usable pages table columns rows new × Goes (set_rows table columns rows) old.position new.position (Some row)
    row_taken row passed is moved =
        let all : List (List Cell) = set_rows table columns rows in
        let rest : List (List Cell) = set_rows table columns (left_in course rows) in
        let front : drop old.position all ≡ row ∷ rest = sym scan.left ∙ ap (set_rows table columns) passed ∙ first_row table columns (row_in course) (left_in course rows) (Some row) is in
        let next = behind_first old.position all rest row front in
        let place : new.position ≡ old.position + 1 = omega (arith, moved, next.1, scan.few) in
        let left : rest ≡ drop new.position all = sym next.0 ∙ ap (λ n. drop n all) (sym place) in (
          record {
            among = subst (IsIn layout usable pages rows) (sym same) among;
            few = scan.few;
            within = omega (arith, next.1, place);
            left = ap (λ (c : Course). set_rows table columns (left_in c rows)) same ∙ left;
            behind = seen_by;
          },
          (front ∙ ap (λ ys. row ∷ ys) left, place),
        )

    -- no row of the table is left
    pub none_left : Passed rows old.course course false → new.position ≡ old.position
        → IsScan layout usable pages table columns rows new × Goes (set_rows table columns rows) old.position new.position None
    none_left passed moved =
        let none : drop old.position (set_rows table columns rows) ≡ [] = sym scan.left ∙ no_rows_in table columns _ passed.0 in (
          record {
            among = subst (IsIn layout usable pages rows) (sym same) among;
            few = scan.few;
            within = omega (arith, scan.within, moved);
            left = ap (λ (c : Course). set_rows table columns (left_in c rows)) same ∙ no_rows_in table columns _ passed.1 ∙ sym none ∙ ap (λ n. drop n (set_rows table columns rows)) (sym moved);
            behind = seen_by;
          },
          (none, moved),
        )

module _ {D : Type 0} {g : Ghosts D} (early mid late : FilePages D g) (root : ℕ) (table : TableName) (columns : Columns) (kept : GoesOn early mid) (same : pages_of mid ≡ pages_of early) where
  -- what a call does, as it is said of the pages before an earlier one
  pub scans_after : (old : Scan) (Does : (Scan → Type 0) → List (List Cell) → Type 0) → Scans mid late root table columns old Does → Scans early late root table columns old Does
  scans_after old Does scans = λ trusted layout rows laid stored scan.
      subst₂ (λ (u : ℕ) (p : PageMap). IsLaidIn layout p → IsTable u layout root rows → IsScan layout u p table columns rows old → Does (IsScan layout u p table columns rows) (set_rows table columns rows))
      kept.same_size same (scans trusted layout rows) laid stored scan

  -- what a call does behind an earlier one
  pub scans_then : (first old : Scan) (F : List (List Cell) → Type 0) (After Both : (Scan → Type 0) → List (List Cell) → Type 0) → GoesOn mid late
      → Scans early mid root table columns first (λ Stands all. Stands old × F all) → Scans mid late root table columns old After
      → ((Stands : Scan → Type 0) (all : List (List Cell)) → F all → After Stands all → Both Stands all) → Scans early late root table columns first Both
  scans_then first old F After Both goes stood scans both = λ trusted layout rows laid stored scan.
      let stand = stood (omega (arith, trusted, goes.clean)) layout rows laid stored scan in
      both (IsScan layout early.usable (pages_of early) table columns rows) (set_rows table columns rows) stand.1 (scans_after old After scans trusted layout rows laid stored stand.0)

  module _ (first old new : Scan) (course : Course) (goes : GoesOn mid late) (stood : Scans early mid root table columns first (λ Stands all. Stands old × (old.position ≡ first.position))) where
    -- a step of the course, as it is said of the pages before
    abbrev pub Steps : Bool → Type 0
    Steps found = IsTrusted late → (layout : Layout) (rows : List Stored) → IsLaidIn layout (pages_of mid) → IsTable mid.usable layout root rows → IsIn layout mid.usable (pages_of mid) rows old.course
        → Passed rows old.course course found × IsIn layout mid.usable (pages_of mid) rows course

    stepped : (found : Bool) → Steps found → IsTrusted late → (layout : Layout) (rows : List Stored) → IsLaidIn layout (pages_of early) → IsTable early.usable layout root rows
        → IsIn layout early.usable (pages_of early) rows old.course → Passed rows old.course course found × IsIn layout early.usable (pages_of early) rows course
    stepped found steps trusted layout rows laid stored among =
        subst₂ (λ (u : ℕ) (p : PageMap). IsLaidIn layout p → IsTable u layout root rows → IsIn layout u p rows old.course → Passed rows old.course course found × IsIn layout u p rows course)
        kept.same_size same (steps trusted layout rows) laid stored among

    stood_then : IsTrusted late → (layout : Layout) (rows : List Stored) → IsLaidIn layout (pages_of early) → IsTable early.usable layout root rows → IsScan layout early.usable (pages_of early) table columns rows first
        → IsScan layout early.usable (pages_of early) table columns rows old × (old.position ≡ first.position)
    stood_then trusted layout rows laid stored scan = stood (omega (arith, trusted, goes.clean)) layout rows laid stored scan

    behind_of : (layout : Layout) (rows : List Stored) → IsScan layout early.usable (pages_of early) table columns rows old → Passed rows old.course course true
        → rows_from old.unseen (row_in course ∷ left_in course rows) ≡ rows_from old.unseen rows
    behind_of layout rows stand passed = ap (rows_from old.unseen) (sym passed) ∙ stand.behind

    seen_after : (layout : Layout) (rows : List Stored) → IsTable early.usable layout root rows → IsScan layout early.usable (pages_of early) table columns rows old → Passed rows old.course course true
        → UnseenAfter (is_unseen old.unseen (row_in course).0) old.unseen (row_in course).0 new.unseen → rows_from new.unseen (left_in course rows) ≡ rows_from new.unseen rows
    seen_after layout rows stored stand passed after =
        behind_after rows (left_in course rows) (row_in course) (ascends_rows stored) (ids_fit stored) old.unseen new.unseen (behind_of layout rows stand passed) after

    pub ends_scan : Steps false → new.course ≡ course → new.position ≡ old.position → new.unseen ≡ None
        → Scans early late root table columns first (λ Stands all. Stands new × Goes all first.position new.position None)
    ends_scan steps is moved ended = λ trusted layout rows laid stored scan.
        let stand = stood_then trusted layout rows laid stored scan in
        let step = stepped false steps trusted layout rows laid stored stand.0.among in
        let last = none_left layout early.usable (pages_of early) table columns rows old new course stand.0 step.1 is (none_unseen new.unseen ended _ _) step.0 moved in
        (last.0, subst (λ n. Goes (set_rows table columns rows) n new.position None) stand.1 last.1)

    pub takes_row : Steps true → new.course ≡ course → UnseenAfter (is_unseen old.unseen (row_in course).0) old.unseen (row_in course).0 new.unseen → (row : List Cell) → Some row ≡ set_row table columns (row_in course) → new.position ≡ behind old.position (Some row)
        → Scans early late root table columns first (λ Stands all. Stands new × Goes all first.position new.position (Some row))
    takes_row steps is after row given moved = λ trusted layout rows laid stored scan.
        let stand = stood_then trusted layout rows laid stored scan in
        let step = stepped true steps trusted layout rows laid stored stand.0.among in
        let next = row_taken layout early.usable (pages_of early) table columns rows old new course stand.0 step.1 is (seen_after layout rows stored stand.0 step.0 after) row step.0 given moved in
        (next.0, subst (λ n. Goes (set_rows table columns rows) n new.position (Some row)) stand.1 next.1)

    pub leaves_row : Steps true → new.course ≡ course → UnseenAfter (is_unseen old.unseen (row_in course).0) old.unseen (row_in course).0 new.unseen → None ≡ set_row table columns (row_in course) → new.position ≡ old.position
        → Scans early late root table columns first (λ Stands all. Stands new × (new.position ≡ first.position))
    leaves_row steps is after given moved = λ trusted layout rows laid stored scan.
        let stand = stood_then trusted layout rows laid stored scan in
        let step = stepped true steps trusted layout rows laid stored stand.0.among in
        (left_out layout early.usable (pages_of early) table columns rows old new course stand.0 step.1 is (seen_after layout rows stored stand.0 step.0 after) step.0 given moved, moved ∙ stand.1)

    module _ (secret : ℕ) (noted : KeepsNotes early mid root secret table columns first old) where
      noted_then : IsTrusted late → (layout : Layout) (rows : List Stored) → IsLaidIn layout (pages_of early) → IsTable early.usable layout root rows → IsScan layout early.usable (pages_of early) table columns rows first
          → IsNoted secret table columns rows first → IsNoted secret table columns rows old
      noted_then trusted layout rows laid stored scan notes = noted (omega (arith, trusted, goes.clean)) layout rows laid stored scan notes

      -- nothing more is noted
      pub notes_same : IsNotedAs old new → KeepsNotes early late root secret table columns first new
      notes_same same = λ trusted layout rows laid stored scan notes. as_noted secret table columns rows old new same (noted_then trusted layout rows laid stored scan notes)

      -- all rows were read
      pub notes_all : Steps false → new.unseen ≡ None → new.numbered.items ≡ old.numbered.items → new.count ≡ old.count → new.size ≡ old.size → KeepsNotes early late root secret table columns first new
      notes_all steps ended numbers count size = λ trusted layout rows laid stored scan notes.
          let stand = stood_then trusted layout rows laid stored scan in
          let step = stepped false steps trusted layout rows laid stored stand.0.among in
          let none : rows_from old.unseen rows ≡ [] = sym stand.0.behind ∙ ap (rows_from old.unseen) step.0.0 ∙ none_from_none old.unseen in
          let last : rows_from new.unseen rows ≡ [] = ap (λ (o : Option ℤ). rows_from o rows) ended in
          still_noted secret table columns rows old new (last ∙ sym none) numbers count size (noted_then trusted layout rows laid stored scan notes)

      -- the row that was taken is noted, where it wasn't read yet
      pub notes_row : Steps true → UnseenAfter (is_unseen old.unseen (row_in course).0) old.unseen (row_in course).0 new.unseen
          → (is_unseen old.unseen (row_in course).0 ≡ true → has_key course ≡ false → Notes secret (row_in course).0 (set_row table columns (row_in course)) old new)
          → (is_unseen old.unseen (row_in course).0 ≡ false → IsNotedAs old new) → KeepsNotes early late root secret table columns first new
      notes_row steps after one same = λ trusted layout rows laid stored scan notes.
          let stand = stood_then trusted layout rows laid stored scan in
          let step = stepped true steps trusted layout rows laid stored stand.0.among in
          let before = noted_then trusted layout rows laid stored scan notes in
          elim (cases_Bool (is_unseen old.unseen (row_in course).0)) [
            | inl unseen ↦
                let next = first_unseen rows (left_in course rows) (row_in course) (ascends_rows stored) (ids_fit stored) old.unseen new.unseen (behind_of layout rows stand.0 step.0) unseen
                (subst (λ (b : Bool). UnseenAfter b old.unseen (row_in course).0 new.unseen) unseen after) in
                row_noted secret table columns rows old new (row_in course) (left_in course rows) next.0 next.1 stand.0.few (one unseen (rowids_of layout _ _ rows course step.1)) before
            | inr seen ↦ as_noted secret table columns rows old new (same seen) before
          ]

  -- what a call keeps behind an earlier one
  pub notes_then : (secret given : ℕ) → given ≡ secret → (first old new : Scan) (F : List (List Cell) → Type 0) → GoesOn mid late → Scans early mid root table columns first (λ Stands all. Stands old × F all)
      → KeepsNotes early mid root secret table columns first old → KeepsNotes mid late root given table columns old new → KeepsNotes early late root secret table columns first new
  notes_then secret given as_given first old new F goes stood noted notes = λ trusted layout rows laid stored scan before.
      let clean : IsTrusted mid = omega (arith, trusted, goes.clean) in
      let stand = stood clean layout rows laid stored scan in
      subst₂ (λ (u : ℕ) (p : PageMap). IsLaidIn layout p → IsTable u layout root rows → IsScan layout u p table columns rows old → IsNoted secret table columns rows old → IsNoted secret table columns rows new)
      kept.same_size same (subst (λ (s : ℕ). KeepsNotes mid late root s table columns old new) as_given notes trusted layout rows) laid stored stand.0 (noted clean layout rows laid stored scan before)
