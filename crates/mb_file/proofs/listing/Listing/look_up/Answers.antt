use Rattle.std.proofs.Common.{ap, arith, false, inl, inr, length, List, ltb, pos, rules, SFits, slice_index_or, subst, sym, true, w64, ℕ, ℤ, ◌<◌, ◌≤◌, ◌∙◌, ◌≡◌, ◌≢◌, ◌⊎◌}
use Rattle.std.specs.List.Sorted.{IsNonDecreasingBy, IsPartitionPoint}
use Rattle.std.proofs.lemmas.Bool.{cases_lt}
use Rattle.std.proofs.lemmas.Int.{to_z-of_z}
use Rattle.std.proofs.lemmas.List.Sorted.{IsPartitionedBy-ltb, IsPartitionPoint-from_clause}
use Rattle.sqlite_btree.proofs.ViewLemmas.{ascends_rows}
use Rattle.sqlite_btree.specs.Stored.{IsLaidIn, IsTable}
use Rattle.mb_tables.specs.Key.{has_key}
use Rattle.mb_file.proofs.SearchLemmas.{greater_after, never_found, none_has, one_has, passed_at, PassedAt, same_at}
use Rattle.mb_file.proofs.OrderLemmas.{all_numbers}
use Rattle.mb_file.specs.RowAt.{IsRowAt}
use Rattle.mb_file.specs.declared.numbers.Numbered.{Numbered}
use Rattle.mb_file.proofs.listing.Listing.look_up.Goals as goal

pub returns-in_default-clause-finds : goal.returns-in_default-clause-finds
returns-in_default-clause-finds g c = λ trusted layout rows laid stored listed sorted apart.
    let none = c.in_default.is in
    sym (never_found c.args.source.now.secret c.args.table c.args.self.now.of.columns c.args.key.now rows (let n = c.in_default.ensures.number in cc))

pub returns-then-item-number-clause-finds : goal.returns-then-item-number-clause-finds
returns-then-item-number-clause-finds g c = λ trusted layout rows laid stored listed sorted apart.
    let order = listed.sorted sorted in
    let moved = all_numbers c.args.source.now.secret c.args.table c.args.self.now.of.columns rows c.args.self.now.scan listed.notes order.ended in
    let value : c.as_slice-numbered.result.now ≡ c.args.self.now.scan.numbered.items = c.as_slice-numbered.ensures.value in
    let rises = subst (λ (xs : List Numbered). IsNonDecreasingBy (λ (y : Numbered). y.number) xs) (sym value) order.rises in
    let point : IsPartitionPoint (λ (y : Numbered). ltb y.number c.in-Some.number ≡ true) (λ (y : Numbered). ltb y.number c.in-Some.number ≡ false) c.as_slice-numbered.result.now c.partition_point-first.result =
    IsPartitionPoint-from_clause (λ (y : Numbered). ltb y.number c.in-Some.number) c.as_slice-numbered.result.now c.partition_point-first.result c.partition_point-first.ensures.partitioned
    (IsPartitionedBy-ltb (λ (y : Numbered). y.number) c.as_slice-numbered.result.now c.in-Some.number rises) (λ a r q k. search rules) in
    let at_items = subst (λ (xs : List Numbered). IsPartitionPoint (λ (y : Numbered). ltb y.number c.in-Some.number ≡ true) (λ (y : Numbered). ltb y.number c.in-Some.number ≡ false) xs c.partition_point-first.result) value point in
    let long : length c.as_slice-numbered.result.now ≡ length c.args.self.now.scan.numbered.items = ap length value in
    let other : ¬ ((slice_index_or c.args.self.now.scan.numbered.items c.loop-at.at (record { number = 0; place = pos 0 })).number ≡ c.in-Some.number) =
    subst (λ (xs : List Numbered). ¬ ((slice_index_or xs c.loop-at.at (record { number = 0; place = pos 0 })).number ≡ c.in-Some.number)) value c.if-item-number.true in
    let each : (k : ℕ) → c.partition_point-first.result ≤ k → k < length c.args.self.now.scan.numbered.items → PassedAt c.args.table c.args.self.now.of.columns c.args.key.now rows c.args.self.now.scan.numbered.items k ⊎ ((d : Numbered) → (slice_index_or c.args.self.now.scan.numbered.items k d).number ≢ c.in-Some.number) =
    λ k after lt. elim (cases_lt k c.loop-at.at) [
      | inl before ↦ inl (c.loop-at.invariant.passed trusted layout rows laid stored listed k after before)
      | inr behind ↦ inr (greater_after c.args.self.now.scan.numbered.items c.in-Some.number c.partition_point-first.result c.loop-at.at (record { number = 0; place = pos 0 }) order.rises at_items.1 c.loop-at.auto.at (omega (arith, c.loop-at-test.true, long)) other k behind lt)
    ] in
    sym (none_has c.args.table c.args.self.now.of.columns c.args.key.now rows (ascends_rows stored) c.args.self.now.scan.numbered.items c.args.source.now.secret c.in-Some.number (sym c.in-Some.ensures.number) moved c.partition_point-first.result at_items.0 each)

pub returns-then-is_of-clause-finds : goal.returns-then-is_of-clause-finds
returns-then-is_of-clause-finds g c = λ trusted layout rows laid stored listed sorted apart.
    let order = listed.sorted sorted in
    let moved = all_numbers c.args.source.now.secret c.args.table c.args.self.now.of.columns rows c.args.self.now.scan listed.notes order.ended in
    let fits : SFits w64 (slice_index_or c.as_slice-numbered.result.now c.loop-at.at (record { number = 0; place = pos 0 })).place = search rules in
    let value : c.as_slice-numbered.result.now ≡ c.args.self.now.scan.numbered.items = c.as_slice-numbered.ensures.value in
    let lt : c.loop-at.at < length c.args.self.now.scan.numbered.items = omega (arith, c.loop-at-test.true, ap length value) in
    let read : IsRowAt c.args.table c.args.self.now.of.columns rows (slice_index_or c.as_slice-numbered.result.now c.loop-at.at (record { number = 0; place = pos 0 })).place c.in_ok-row.row =
    subst (λ (p : ℤ). IsRowAt c.args.table c.args.self.now.of.columns rows p c.in_ok-row.row) (to_z-of_z w64 (slice_index_or c.as_slice-numbered.result.now c.loop-at.at (record { number = 0; place = pos 0 })).place fits)
    (c.in_ok-row.ensures.row listed.rowids trusted layout rows (subst (IsLaidIn layout) (sym c.loop-at.invariant.pages) laid)
    (subst (λ (u : ℕ). IsTable u layout c.args.self.now.of.root rows) (sym c.loop-at.invariant.kept.same_size) stored)) in
    let placed : (d : Numbered) → (slice_index_or c.args.self.now.scan.numbered.items c.loop-at.at d).place ≡ (slice_index_or c.as_slice-numbered.result.now c.loop-at.at (record { number = 0; place = pos 0 })).place =
    λ d. ap (λ (y : Numbered). y.place) (same_at c.args.self.now.scan.numbered.items c.loop-at.at d (record { number = 0; place = pos 0 }) lt ∙ ap (λ (xs : List Numbered). slice_index_or xs c.loop-at.at (record { number = 0; place = pos 0 })) (sym value)) in
    let has : has_key c.args.table c.args.key.now c.in_ok-row.row ≡ true = ap (has_key c.args.table c.args.key.now) (sym c.cells.ensures) ∙ sym c.is_of.ensures ∙ c.if-is_of.true in
    sym (one_has c.args.table c.args.self.now.of.columns c.args.key.now rows (ascends_rows stored) c.args.self.now.scan.numbered.items c.args.source.now.secret moved apart c.loop-at.at lt (slice_index_or c.as_slice-numbered.result.now c.loop-at.at (record { number = 0; place = pos 0 })).place c.in_ok-row.row placed read has)

pub loop-at-preserved : goal.loop-at-preserved
loop-at-preserved g c = record {
  secret = search rules;
  pages = search rules;
  kept = search rules;
  passed = λ trusted layout rows laid stored listed k after before.
      let fits : SFits w64 (slice_index_or c.as_slice-numbered.result.now c.loop-at.at (record { number = 0; place = pos 0 })).place = search rules in
      let value : c.as_slice-numbered.result.now ≡ c.args.self.now.scan.numbered.items = c.as_slice-numbered.ensures.value in
      let lt : c.loop-at.at < length c.args.self.now.scan.numbered.items = omega (arith, c.loop-at-test.true, ap length value) in
      let read : IsRowAt c.args.table c.args.self.now.of.columns rows (slice_index_or c.as_slice-numbered.result.now c.loop-at.at (record { number = 0; place = pos 0 })).place c.in_ok-row.row =
      subst (λ (p : ℤ). IsRowAt c.args.table c.args.self.now.of.columns rows p c.in_ok-row.row) (to_z-of_z w64 (slice_index_or c.as_slice-numbered.result.now c.loop-at.at (record { number = 0; place = pos 0 })).place fits)
      (c.in_ok-row.ensures.row listed.rowids trusted layout rows (subst (IsLaidIn layout) (sym c.loop-at.invariant.pages) laid)
      (subst (λ (u : ℕ). IsTable u layout c.args.self.now.of.root rows) (sym c.loop-at.invariant.kept.same_size) stored)) in
      let placed : (d : Numbered) → (slice_index_or c.args.self.now.scan.numbered.items c.loop-at.at d).place ≡ (slice_index_or c.as_slice-numbered.result.now c.loop-at.at (record { number = 0; place = pos 0 })).place =
      λ d. ap (λ (y : Numbered). y.place) (same_at c.args.self.now.scan.numbered.items c.loop-at.at d (record { number = 0; place = pos 0 }) lt ∙ ap (λ (xs : List Numbered). slice_index_or xs c.loop-at.at (record { number = 0; place = pos 0 })) (sym value)) in
      let not : has_key c.args.table c.args.key.now c.in_ok-row.row ≡ false = ap (has_key c.args.table c.args.key.now) (sym c.cells.ensures) ∙ sym c.is_of.ensures ∙ c.if-is_of.false in
      elim (cases_lt k c.loop-at.at) [
        | inl lower ↦ c.loop-at.invariant.passed (omega (arith, trusted, c.row_at.ensures.kept.clean)) layout rows laid stored listed k after lower
        | inr higher ↦
            let here : c.loop-at.at ≡ k = omega (arith, before, higher) in
            subst (PassedAt c.args.table c.args.self.now.of.columns c.args.key.now rows c.args.self.now.scan.numbered.items) here (passed_at c.args.table c.args.self.now.of.columns c.args.key.now rows (ascends_rows stored) c.args.self.now.scan.numbered.items c.loop-at.at (slice_index_or c.as_slice-numbered.result.now c.loop-at.at (record { number = 0; place = pos 0 })).place c.in_ok-row.row placed read not)
      ];
}

pub returns-clause-finds : goal.returns-clause-finds
returns-clause-finds g c = λ trusted layout rows laid stored listed sorted apart.
    let order = listed.sorted sorted in
    let moved = all_numbers c.args.source.now.secret c.args.table c.args.self.now.of.columns rows c.args.self.now.scan listed.notes order.ended in
    let value : c.as_slice-numbered.result.now ≡ c.args.self.now.scan.numbered.items = c.as_slice-numbered.ensures.value in
    let rises = subst (λ (xs : List Numbered). IsNonDecreasingBy (λ (y : Numbered). y.number) xs) (sym value) order.rises in
    let point : IsPartitionPoint (λ (y : Numbered). ltb y.number c.in-Some.number ≡ true) (λ (y : Numbered). ltb y.number c.in-Some.number ≡ false) c.as_slice-numbered.result.now c.partition_point-first.result =
    IsPartitionPoint-from_clause (λ (y : Numbered). ltb y.number c.in-Some.number) c.as_slice-numbered.result.now c.partition_point-first.result c.partition_point-first.ensures.partitioned
    (IsPartitionedBy-ltb (λ (y : Numbered). y.number) c.as_slice-numbered.result.now c.in-Some.number rises) (λ a r q k. search rules) in
    let at_items = subst (λ (xs : List Numbered). IsPartitionPoint (λ (y : Numbered). ltb y.number c.in-Some.number ≡ true) (λ (y : Numbered). ltb y.number c.in-Some.number ≡ false) xs c.partition_point-first.result) value point in
    let long : length c.as_slice-numbered.result.now ≡ length c.args.self.now.scan.numbered.items = ap length value in
    sym (none_has c.args.table c.args.self.now.of.columns c.args.key.now rows (ascends_rows stored) c.args.self.now.scan.numbered.items c.args.source.now.secret c.in-Some.number (sym c.in-Some.ensures.number) moved c.partition_point-first.result at_items.0
    (λ k after lt. inl (c.loop-at.invariant.passed trusted layout rows laid stored listed k after (omega (arith, lt, long, c.loop-at-test.false)))))
