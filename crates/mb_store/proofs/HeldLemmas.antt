-- What stays of a store's tables and of the rows that are gathered.
use Rattle.mb_store.proofs.Common.{All, All-nil, AllPairs, AllPairs-nil, and_from, ap, AreAllStored, AreFirst, AreGathered, arith, Bool, Cell, Change, clash, Commits, CommitsTable, DuplicateRow, Err}
use Rattle.mb_store.proofs.Common.{false, false≢true, Gathered, is_keyed, is_table, IsHeld, IsKept, IsSound, length, List, list_any, MbtError, MemTables, names_apart, Ok, OnErr, OnOk, place_for}
use Rattle.mb_store.proofs.Common.{placed, prefix_len-le-length, refl, RefusesTwice, Result, rows_at, Stored, subst, sym, TableDesc, TableName, Tables, tables_of, told_at, told_tables, true, width}
use Rattle.mb_store.proofs.Common.{with_rows, [], ◌&&◌, ◌<◌, ◌^◌, ◌∙◌, ◌≡◌, ◌≤◌}
use Rattle.mb_store.proofs.GatheredLemmas.{tables_none, tables_settled, told_settled}
use Rattle.mb_store.proofs.Kept.{apart-insert}
use Rattle.mb_store.proofs.Ordered.{All-insert}
use Rattle.mb_store.proofs.WithRows.{with_rows-holds, with_rows-own}

-- tables as they are described, with these rows
abbrev pub tables_as : List TableDesc → (TableName → List (List Cell)) → Tables
tables_as ds f = record { descriptions = ds; rows = f }

-- new rows of one table
sound_with : (ds : List TableDesc) (f g : TableName → List (List Cell)) (table : TableName) (new : List (List Cell)) → g ≡ with_rows f table new → (is_table ds table ≡ false → new ≡ []) → (is_keyed ds table ≡ true → AllPairs (λ r s. clash table r s ≡ false) new) → All (λ row. length row ≡ width table) new → length new < 2 ^ 64 → IsSound (tables_as ds f) → IsSound (tables_as ds g)
sound_with ds f g table new same described keys widths count sound = record {
  names = sound.names;
  described = λ u. there (λ t rows. is_table ds t ≡ false → rows ≡ []) described sound.described u;
  keys = λ u. there (λ t rows. is_keyed ds t ≡ true → AllPairs (λ r s. clash t r s ≡ false) rows) keys sound.keys u;
  widths = λ u. there (λ t rows. All (λ row. length row ≡ width t) rows) widths sound.widths u;
  counts = λ u. there (λ t rows. length rows < 2 ^ 64) count sound.counts u;
}
  where
    there : (P : TableName → List (List Cell) → Type 0) → P table new → ((u : TableName) → P u (f u)) → (u : TableName) → P u (g u)
    there P here all u = subst (λ (h : TableName → List (List Cell)). P u (h u)) (sym same) (with_rows-holds P f table new here all u)

-- what a push leaves
sound_pushed : {T : Type 0} (r : Result T MbtError) (ds : List TableDesc) (f g : TableName → List (List Cell)) (table : TableName) (keyed : Bool) (row : List Cell) → keyed ≡ is_keyed ds table → RefusesTwice table (keyed && list_any (clash table row) (f table)) r → OnOk r (g ≡ with_rows f table (placed table row (f table))) → OnErr r (g ≡ f) → OnOk r (length (g table) < 2 ^ 64) → is_table ds table ≡ true → length row ≡ width table → IsSound (tables_as ds f) → IsSound (tables_as ds g)
sound_pushed (Err e) ds f g table keyed row same duplicate ok err count described wide sound = subst (λ (h : TableName → List (List Cell)). IsSound (tables_as ds h)) (sym err) sound
sound_pushed (Ok x) ds f g table keyed row same duplicate ok err count described wide sound =
    let within : place_for table row (f table) ≤ length (f table) = prefix_len-le-length _ (f table) in
    sound_with ds f g table (placed table row (f table)) ok (λ none. absurd (false≢true (sym none ∙ described)))
    (λ k. apart-insert table (f table) (place_for table row (f table)) row within (λ h. not_both (duplicate.1 (and_from keyed (list_any (clash table row) (f table)) (same ∙ k) h))) (sound.keys table k))
    (All-insert (f table) (place_for table row (f table)) row within (λ r. length r ≡ width table) (sound.widths table) wide)
    (subst (λ (rows : List (List Cell)). length rows < 2 ^ 64) (ap (λ (h : TableName → List (List Cell)). h table) ok ∙ with_rows-own f table (placed table row (f table))) count) sound
  where
    not_both : Ok x ≡ Err (DuplicateRow table) → ⊥
    not_both h = cc

module _ (ds : List TableDesc) (m n : MemTables) (g h : Gathered) (held : IsHeld ds m g) (stored : AreAllStored n) (gathered : AreGathered n h) where
  pub held_same : told_at n h ≡ told_at m g → IsHeld ds n h
  held_same same = record { sound = subst (λ (f : TableName → List (List Cell)). IsSound (tables_as ds f)) (sym same) held.sound; stored = stored; gathered = gathered }

  pub held_pushed : {T : Type 0} (r : Result T MbtError) (table : TableName) (keyed : Bool) (row : List Cell) → keyed ≡ is_keyed ds table → RefusesTwice table (keyed && list_any (clash table row) (told_at m g table)) r → OnOk r (told_at n h ≡ with_rows (told_at m g) table (placed table row (told_at m g table))) → OnErr r (told_at n h ≡ told_at m g) → OnOk r (length (told_at n h table) < 2 ^ 64) → is_table ds table ≡ true → length row ≡ width table → IsHeld ds n h
  held_pushed r table keyed row same duplicate ok err count described wide = record { sound = sound_pushed r ds (told_at m g) (told_at n h) table keyed row same duplicate ok err count described wide held.sound; stored = stored; gathered = gathered }

  pub held_taken : (table : TableName) → told_at n h ≡ with_rows (told_at m g) table [] → IsHeld ds n h
  held_taken table same = record { sound = sound_with ds (told_at m g) (told_at n h) table [] same (λ none. refl) (λ keyed. AllPairs-nil (λ r s. clash table r s ≡ false)) (All-nil (λ (row : List Cell). length row ≡ width table)) (omega arith) held.sound; stored = stored; gathered = gathered }

-- where nothing is gathered, the ordered rows alone are kept
pub kept_settled : (ds : List TableDesc) (m : MemTables) (g : Gathered) → g.rows.items ≡ [] → IsHeld ds m g → IsKept ds m
kept_settled ds m g none held = record { sound = subst (λ (f : TableName → List (List Cell)). IsSound (tables_as ds f)) (λ i u. told_settled m g none u i) held.sound; stored = held.stored }

none_gathered : (m n : MemTables) (g : Gathered) → g.rows.items ≡ [] → g.is_open ≡ false → AreGathered m g → AreGathered n g
none_gathered m n g none closed gathered = record { rows = gathered.rows; alone = λ is. absurd (false≢true (sym closed ∙ is)); seen = gathered.seen }

pub held_kept : (ds : List TableDesc) (m n : MemTables) (g : Gathered) → g.rows.items ≡ [] → g.is_open ≡ false → AreGathered m g → IsKept ds n → IsHeld ds n g
held_kept ds m n g none closed gathered kept = record { sound = subst (λ (f : TableName → List (List Cell)). IsSound (tables_as ds f)) (sym (λ i u. told_settled n g none u i)) kept.sound; stored = kept.stored; gathered = none_gathered m n g none closed gathered }

-- an empty list of gathered rows
pub empty_gathered : (m : MemTables) (g : Gathered) → g.rows.items ≡ [] → g.is_open ≡ false → AreGathered m g
empty_gathered m g none closed = record {
  rows = subst (λ (xs : List Stored). AreFirst g.table xs) (sym none) (record { wide = All-nil (λ (s : Stored). length s.0 ≡ width g.table); first = All-nil (λ (s : Stored). s.1 ≡ 0) });
  alone = λ is. absurd (false≢true (sym closed ∙ is));
  seen = λ is. absurd (false≢true (sym closed ∙ is));
}

-- a store without rows
pub held_none : (ds : List TableDesc) (m : MemTables) (g : Gathered) → names_apart ds ≡ true → ((u : TableName) → rows_at m u ≡ []) → AreAllStored m → g.rows.items ≡ [] → g.is_open ≡ false → IsHeld ds m g
held_none ds m g names empty stored none closed = record {
  sound = subst IsSound (sym (tables_none ds m g none empty)) (record {
    names = names;
    described = λ u not. refl;
    keys = λ u keyed. AllPairs-nil (λ r s. clash u r s ≡ false);
    widths = λ u. All-nil (λ (row : List Cell). length row ≡ width u);
    counts = λ u. omega arith;
  });
  stored = stored;
  gathered = empty_gathered m g none closed;
}

-- other descriptions
pub held_described : (ds es : List TableDesc) (m : MemTables) (g : Gathered) → IsSound (tables_as es (told_at m g)) → IsHeld ds m g → IsHeld es m g
held_described ds es m g sound held = record { sound = sound; stored = held.stored; gathered = held.gathered }

-- where a call has put all at its place, the ordered rows are told
pub plain_settled : {A E : Type 0} (r : Result A E) (ds : List TableDesc) (m : MemTables) (g : Gathered) → OnOk r (g.rows.items ≡ []) → OnOk r (told_tables ds m g ≡ tables_of ds m)
plain_settled (Ok x) ds m g none = tables_settled ds m g none
plain_settled (Err e) ds m g none = tt

pub on_err : {A E : Type 0} (r : Result A E) (P : Type 0) → P → OnErr r P
on_err (Ok x) P h = tt
on_err (Err e) P h = h

-- what a commit of the ordered rows makes of all that is told
pub commits_told : (changes given : List Change) (t u : Tables) (ds : List TableDesc) (m n : MemTables) → given ≡ changes → t ≡ tables_of ds m → u ≡ tables_of ds n → ((table : TableName) → CommitsTable given table (rows_at m table) (rows_at n table)) → Commits changes t u
commits_told changes given t u ds m n same e f ok = subst (λ (cs : List Change). Commits cs t u) same (subst (λ t. Commits given t u) (sym e) (subst (λ u. Commits given (tables_of ds m) u) (sym f) (record { descriptions = refl; tables = ok })))
