-- What stays of the tables in memory after a commit.
use Rattle.mb_store.proofs.Common.{All, All-weaker, AllPairs, AllPairs-filter, AllPairs-head, AllPairs-tail, and_parts, Any, Any-from_list_any, ap, AreAllStored, AreOfTables, arith, at, Bool, Cell}
use Rattle.mb_store.proofs.Common.{cells_eq, cells_eq-Decides, Change, clash, CommitsTable, cond, Err, false, false≢true, filter, filter_every, get_or, has_key, is_changed, is_null, is_table, IsKept}
use Rattle.mb_store.proofs.Common.{key_cells, key_of, length, List, list_any, list_any_none, MemTables, None, not, Ok, OnErr, OnOk, Option, option_to_list, refl, Result, rows_at, same_table, Some}
use Rattle.mb_store.proofs.Common.{subst, suc, sym, table_eq, TableDesc, TableName, true, zero, ℕ, [], ◌&&◌, ◌<◌, ◌∙◌, ◌∷◌, ◌≡◌}
use Rattle.mb_store.proofs.EditLemmas.{of_passed}
use Rattle.mb_store.proofs.Kept.{kept_same}
use Rattle.mb_store.proofs.StoredLemmas.{stored_count, stored_widths}

no_other : (b : Bool) → (b ≡ true → ⊥) → b ≡ false
no_other true h = absurd (h refl)
no_other false h = refl

module _ {X : Type 0} (R : X → X → Type 0) (p : X → Bool) where
  passed_tail : (x : X) (xs : List X) → AllPairs R (filter p (x ∷ xs)) → AllPairs R (filter p xs)
  passed_tail x xs pairs = by (p x) pairs
    where
      by : (b : Bool) → AllPairs R (cond b (x ∷ filter p xs) (filter p xs)) → AllPairs R (filter p xs)
      by true pairs = AllPairs-tail R x (filter p xs) pairs
      by false pairs = pairs

  passed_head : (x : X) (xs : List X) → p x ≡ true → AllPairs R (filter p (x ∷ xs)) → All (R x) (filter p xs)
  passed_head x xs h pairs = AllPairs-head R x (filter p xs) (subst (λ b. AllPairs R (cond b (x ∷ filter p xs) (filter p xs))) h pairs)

  -- two elements that pass a test stand in order among those that pass it
  pair_passed : (xs : List X) → AllPairs R (filter p xs) → (i j : ℕ) (d : X) → i < j → j < length xs → p (get_or xs i d) ≡ true → p (get_or xs j d) ≡ true → R (get_or xs i d) (get_or xs j d)
  pair_passed [] pairs i j d less far h k = absurd (omega arith)
  pair_passed (x ∷ xs) pairs zero zero d less far h k = absurd (omega arith)
  pair_passed (x ∷ xs) pairs zero (suc j) d less far h k = of_passed p (R x) xs (passed_head x xs h pairs) j d (omega arith) k
  pair_passed (x ∷ xs) pairs (suc i) zero d less far h k = absurd (omega arith)
  pair_passed (x ∷ xs) pairs (suc i) (suc j) d less far h k = pair_passed xs (passed_tail x xs pairs) i j d (omega arith) (omega arith) h k

one_alone : {X : Type 0} (o : Option X) → AllPairs (λ (x y : X). ⊥) (option_to_list o)
one_alone None i j d less far = omega arith
one_alone (Some x) i j d less far = omega arith

module _ (ds : List TableDesc) (changes : List Change) (of_tables : AreOfTables ds changes) where
  -- no change is of an undescribed table, or of a view
  unchanged : (table : TableName) → is_table ds table ≡ false → (row : List Cell) → is_changed changes table row ≡ false
  unchanged table none row = list_any_none (λ c. table_eq c.table table && has_key table c.key row) changes
      (All-weaker (λ (c : Change). is_table ds c.table ≡ true) (λ c. (table_eq c.table table && has_key table c.key row) ≡ false)
      (λ c h. ap (λ b. b && has_key table c.key row) (no_other (table_eq c.table table) (λ here. false≢true (sym none ∙ (ap (is_table ds) (sym (same_table c.table table here)) ∙ h))))) changes of_tables)

  module _ (table : TableName) (old new : List (List Cell)) (commit : CommitsTable changes table old new) where
    left_empty : is_table ds table ≡ false → old ≡ [] → new ≡ []
    left_empty none empty =
        sym (filter_every (λ row. not (is_changed changes table row)) new (λ k d far. ap not (unchanged table none (get_or new k d))))
        ∙ (commit.others ∙ ap (filter (λ row. not (is_changed changes table row))) empty)

    -- rows that don't clash still don't
    apart_still : AllPairs (λ r s. clash table r s ≡ false) old → AllPairs (λ r s. clash table r s ≡ false) new
    apart_still apart i j d less far = no_other (clash table (get_or new i d) (get_or new j d)) (λ h. by h (is_changed changes table (get_or new i d)) refl)
      where
        key : List Cell → List Cell
        key row = key_of table row

        one_key : clash table (get_or new i d) (get_or new j d) ≡ true → key_of table (get_or new i d) ≡ key_of table (get_or new j d)
        one_key h = (cells_eq-Decides (key_of table (get_or new i d)) (key_of table (get_or new j d))).0 (and_parts (cells_eq (key_of table (get_or new i d)) (key_of table (get_or new j d))) (not (list_any is_null (key_of table (get_or new i d)))) h).0

        alike : clash table (get_or new i d) (get_or new j d) ≡ true → is_changed changes table (get_or new i d) ≡ is_changed changes table (get_or new j d)
        alike h = ap (λ (key : List Cell). list_any (λ c. table_eq c.table table && cells_eq key (key_cells c.key)) changes) (one_key h)

        twice : clash table (get_or new i d) (get_or new j d) ≡ true → Any (λ c. (table_eq c.table table && has_key table c.key (get_or new i d)) ≡ true) changes → ⊥
        twice h (k, c, lt, is, holds) =
            let both = and_parts (table_eq c.table table) (has_key table c.key (get_or new i d)) holds in
            let alone : filter (has_key table c.key) new ≡ option_to_list c.row = subst (λ (e : Change). table_eq e.table table ≡ true → filter (has_key table e.key) new ≡ option_to_list e.row) is (commit.changed k c lt) both.0 in
            pair_passed (λ (x y : List Cell). ⊥) (has_key table c.key) new (subst (AllPairs (λ (x y : List Cell). ⊥)) (sym alone) (one_alone c.row)) i j d less far both.1
            (subst (λ (key : List Cell). cells_eq key (key_cells c.key) ≡ true) (one_key h) both.1)

        by : clash table (get_or new i d) (get_or new j d) ≡ true → (b : Bool) → is_changed changes table (get_or new i d) ≡ b → ⊥
        by h true e = twice h (Any-from_list_any (λ c. table_eq c.table table && has_key table c.key (get_or new i d)) changes e)
        by h false e = false≢true (sym (pair_passed (λ r s. clash table r s ≡ false) (λ row. not (is_changed changes table row)) new
            (subst (AllPairs (λ r s. clash table r s ≡ false)) (sym commit.others) (AllPairs-filter (λ r s. clash table r s ≡ false) (λ row. not (is_changed changes table row)) old apart))
            i j d less far (ap not e) (ap not (sym (alike h) ∙ e))) ∙ h)

  pub kept_committed : (m n : MemTables) → ((table : TableName) → CommitsTable changes table (rows_at m table) (rows_at n table)) → AreAllStored n → IsKept ds m → IsKept ds n
  kept_committed m n commit stored kept = record {
    sound = record {
      names = kept.sound.names;
      described = λ u none. left_empty u (rows_at m u) (rows_at n u) (commit u) none (kept.sound.described u none);
      keys = λ u keyed. apart_still u (rows_at m u) (rows_at n u) (commit u) (kept.sound.keys u keyed);
      widths = λ u. stored_widths u (at n u) (stored u);
      counts = λ u. stored_count u (at n u) (stored u);
    };
    stored = stored;
  }

  -- after a commit, or one that is refused
  pub kept_after : {A E : Type 0} (r : Result A E) (m n : MemTables) → OnOk r ((table : TableName) → CommitsTable changes table (rows_at m table) (rows_at n table)) → OnErr r ((table : TableName) → rows_at n table ≡ rows_at m table) → AreAllStored n → IsKept ds m → IsKept ds n
  kept_after (Ok x) m n ok err stored kept = kept_committed m n ok stored kept
  kept_after (Err e) m n ok err stored kept = kept_same ds m n err stored kept
