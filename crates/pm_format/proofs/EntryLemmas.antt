-- One turn of the loop over the last column.
use Rattle.pm_format.proofs.Common.{ap, append-nil, append_assoc, arith, column, drop, drop_all, entries_at, entries_of, Entry, entry, false, get_or, if◌then◌else◌, length, List, nat_eq, nat_lt}
use Rattle.pm_format.proofs.Common.{nat_tests, None, number_at, offset_of, offsets_from, Option, option_map, refl, Some, SomeIff, suc, sym, ℕ, [], ◌++◌, ◌+◌, ◌-◌, ◌<◌, ◌>>=◌, ◌^◌, ◌∙◌, ◌∷◌, ◌≡◌, ◌≤◌}
use Rattle.pm_format.proofs.ColumnLemmas.{put, column_next, column_none, one_less}
use Rattle.pm_format.proofs.VarintReadingLemmas.{at_place}

abbrev placed_by : Option ℕ → List ℕ → List ℕ → List ℕ → List ℕ × List ℕ → Option (List Entry)
placed_by end ids runs lengths d = option_map (entries_of ids runs lengths) (offsets_from end lengths d.0)

entry_next : (end : Option ℕ) (n m o id r l : ℕ) (ids runs lengths bs rest : List ℕ) → number_at 10 (2 ^ 64) bs ≡ Some (m, rest) → offset_of end m ≡ Some o
    → entries_at end (suc n) (id ∷ ids) (r ∷ runs) (l ∷ lengths) bs ≡ option_map (λ es. entry id o l r ∷ es) (entries_at (Some (o + l)) n ids runs lengths rest)
entry_next end n m o id r l ids runs lengths bs rest e f = ap (λ x. x >>= placed_by end (id ∷ ids) (r ∷ runs) (l ∷ lengths)) (column_next 10 (2 ^ 64) n bs rest m e) ∙ go (column 10 (2 ^ 64) n rest)
  where
    swapped : (x : Option (List ℕ)) → option_map (entries_of (id ∷ ids) (r ∷ runs) (l ∷ lengths)) (option_map (λ os. o ∷ os) x) ≡ option_map (λ es. entry id o l r ∷ es) (option_map (entries_of ids runs lengths) x)
    swapped None = refl
    swapped (Some os) = refl

    go : (x : Option (List ℕ × List ℕ)) → (option_map (put m) x >>= placed_by end (id ∷ ids) (r ∷ runs) (l ∷ lengths)) ≡ option_map (λ es. entry id o l r ∷ es) (x >>= placed_by (Some (o + l)) ids runs lengths)
    go None = refl
    go (Some d) = ap (λ x. option_map (entries_of (id ∷ ids) (r ∷ runs) (l ∷ lengths)) (x >>= λ o. option_map (λ os. o ∷ os) (offsets_from (Some (o + l)) lengths d.0))) f ∙ swapped (offsets_from (Some (o + l)) lengths d.0)

entry_unplaced : (end : Option ℕ) (n m id r l : ℕ) (ids runs lengths bs rest : List ℕ) → number_at 10 (2 ^ 64) bs ≡ Some (m, rest) → offset_of end m ≡ None
    → entries_at end (suc n) (id ∷ ids) (r ∷ runs) (l ∷ lengths) bs ≡ None
entry_unplaced end n m id r l ids runs lengths bs rest e f = ap (λ x. x >>= placed_by end (id ∷ ids) (r ∷ runs) (l ∷ lengths)) (column_next 10 (2 ^ 64) n bs rest m e) ∙ go (column 10 (2 ^ 64) n rest)
  where
    go : (x : Option (List ℕ × List ℕ)) → (option_map (put m) x >>= placed_by end (id ∷ ids) (r ∷ runs) (l ∷ lengths)) ≡ None
    go None = refl
    go (Some d) = ap (λ x. option_map (entries_of (id ∷ ids) (r ∷ runs) (l ∷ lengths)) (x >>= λ o. option_map (λ os. o ∷ os) (offsets_from (Some (o + l)) lengths d.0))) f

-- an end above u64 is as none
offset_past : (end n : ℕ) → 2 ^ 64 ≤ end → offset_of (Some end) n ≡ offset_of None n
offset_past end n h = ap (λ b. if nat_eq n 0 then (if b then Some end else None) else Some (n - 1)) passes
  where
    passes : nat_lt end (2 ^ 64) ≡ false
    passes = grind (arith, nat_tests)

offsets_past : (end : ℕ) (lengths ns : List ℕ) → 2 ^ 64 ≤ end → offsets_from (Some end) lengths ns ≡ offsets_from None lengths ns
offsets_past end [] ns h = refl
offsets_past end (l ∷ ls) [] h = refl
offsets_past end (l ∷ ls) (n ∷ ns) h = ap (λ x. x >>= λ o. option_map (λ os. o ∷ os) (offsets_from (Some (o + l)) ls ns)) (offset_past end n h)

capped : (sum : ℕ) (end : Option ℕ) (n : ℕ) (ids runs lengths bs : List ℕ) → SomeIff end (sum < 2 ^ 64) sum → entries_at (Some sum) n ids runs lengths bs ≡ entries_at end n ids runs lengths bs
capped sum (Some x) n ids runs lengths bs h = ap (λ y. entries_at (Some y) n ids runs lengths bs) (sym h.1)
capped sum None n ids runs lengths bs h = go (column 10 (2 ^ 64) n bs)
  where
    past : 2 ^ 64 ≤ sum
    past = omega (arith, h)

    go : (x : Option (List ℕ × List ℕ)) → (x >>= placed_by (Some sum) ids runs lengths) ≡ (x >>= placed_by None ids runs lengths)
    go None = refl
    go (Some d) = ap (option_map (entries_of ids runs lengths)) (offsets_past sum lengths d.0 past)

abbrev after : List Entry → List Entry → List Entry
after front es = front ++ es

after_one : (front : List Entry) (e : Entry) (x : Option (List Entry)) → option_map (after front) (option_map (λ es. e ∷ es) x) ≡ option_map (after (front ++ e ∷ [])) x
after_one front e None = refl
after_one front e (Some es) = ap Some (sym (append_assoc front (e ∷ []) es))

-- i entries are read, and what is left of the lists is to come
pub record EntriesReading (bytes ids runs lengths : List ℕ) (start i at : ℕ) (end : Option ℕ) (entries : List Entry) : Type 0 where
  pub within : at ≤ length bytes
  pub same : entries_at None (length ids) ids runs lengths (drop start bytes) ≡ option_map (after entries) (entries_at end (length ids - i) (drop i ids) (drop i runs) (drop i lengths) (drop at bytes))

-- the heads of the three lists stand at i
opened : (end : Option ℕ) (ids runs lengths bs : List ℕ) (i : ℕ) → i < length ids → length runs ≡ length ids → length lengths ≡ length ids
    → entries_at end (length ids - i) (drop i ids) (drop i runs) (drop i lengths) bs
    ≡ entries_at end (suc (length ids - (i + 1))) (get_or ids i 0 ∷ drop (i + 1) ids) (get_or runs i 0 ∷ drop (i + 1) runs) (get_or lengths i 0 ∷ drop (i + 1) lengths) bs
opened end ids runs lengths bs i h r l =
    ap (λ k. entries_at end k (drop i ids) (drop i runs) (drop i lengths) bs) (one_less (length ids) i h)
    ∙ (ap (λ x. entries_at end (suc (length ids - (i + 1))) x (drop i runs) (drop i lengths) bs) (at_place ids i h)
    ∙ (ap (λ x. entries_at end (suc (length ids - (i + 1))) (get_or ids i 0 ∷ drop (i + 1) ids) x (drop i lengths) bs) (at_place runs i (omega (arith, h, r)))
    ∙ ap (λ x. entries_at end (suc (length ids - (i + 1))) (get_or ids i 0 ∷ drop (i + 1) ids) (get_or runs i 0 ∷ drop (i + 1) runs) x bs) (at_place lengths i (omega (arith, h, l)))))

pub entries_step : (bytes ids runs lengths : List ℕ) (start i at m next o : ℕ) (end following : Option ℕ) (entries : List Entry) → i < length ids → length runs ≡ length ids → length lengths ≡ length ids
    → next ≤ length bytes → number_at 10 (2 ^ 64) (drop at bytes) ≡ Some (m, drop next bytes) → offset_of end m ≡ Some o → SomeIff following (o + get_or lengths i 0 < 2 ^ 64) (o + get_or lengths i 0)
    → EntriesReading bytes ids runs lengths start i at end entries
    → EntriesReading bytes ids runs lengths start (i + 1) next following (entries ++ entry (get_or ids i 0) o (get_or lengths i 0) (get_or runs i 0) ∷ [])
entries_step bytes ids runs lengths start i at m next o end following entries h r l w found placed limit c = record {
  within = w;
  same =
      c.same ∙ (ap (option_map (after entries)) (opened end ids runs lengths (drop at bytes) i h r l)
      ∙ (ap (option_map (after entries)) (entry_next end (length ids - (i + 1)) m o (get_or ids i 0) (get_or runs i 0) (get_or lengths i 0) (drop (i + 1) ids) (drop (i + 1) runs) (drop (i + 1) lengths) (drop at bytes) (drop next bytes) found placed)
      ∙ (after_one entries (entry (get_or ids i 0) o (get_or lengths i 0) (get_or runs i 0)) (entries_at (Some (o + get_or lengths i 0)) (length ids - (i + 1)) (drop (i + 1) ids) (drop (i + 1) runs) (drop (i + 1) lengths) (drop next bytes))
      ∙ ap (option_map (after (entries ++ entry (get_or ids i 0) o (get_or lengths i 0) (get_or runs i 0) ∷ []))) (capped (o + get_or lengths i 0) following (length ids - (i + 1)) (drop (i + 1) ids) (drop (i + 1) runs) (drop (i + 1) lengths) (drop next bytes) limit))));
}

pub entries_stop : (bytes ids runs lengths : List ℕ) (start i at : ℕ) (end : Option ℕ) (entries : List Entry) → i < length ids → length runs ≡ length ids → length lengths ≡ length ids
    → number_at 10 (2 ^ 64) (drop at bytes) ≡ None → EntriesReading bytes ids runs lengths start i at end entries → entries_at None (length ids) ids runs lengths (drop start bytes) ≡ None
entries_stop bytes ids runs lengths start i at end entries h r l none c =
    c.same ∙ (ap (option_map (after entries)) (opened end ids runs lengths (drop at bytes) i h r l)
    ∙ ap (option_map (after entries)) (ap (λ x. x >>= placed_by end (get_or ids i 0 ∷ drop (i + 1) ids) (get_or runs i 0 ∷ drop (i + 1) runs) (get_or lengths i 0 ∷ drop (i + 1) lengths)) (column_none 10 (2 ^ 64) (length ids - (i + 1)) (drop at bytes) none)))

pub entries_unplaced : (bytes ids runs lengths : List ℕ) (start i at m next : ℕ) (end : Option ℕ) (entries : List Entry) → i < length ids → length runs ≡ length ids → length lengths ≡ length ids
    → number_at 10 (2 ^ 64) (drop at bytes) ≡ Some (m, drop next bytes) → offset_of end m ≡ None → EntriesReading bytes ids runs lengths start i at end entries → entries_at None (length ids) ids runs lengths (drop start bytes) ≡ None
entries_unplaced bytes ids runs lengths start i at m next end entries h r l found placed c =
    c.same ∙ (ap (option_map (after entries)) (opened end ids runs lengths (drop at bytes) i h r l)
    ∙ ap (option_map (after entries)) (entry_unplaced end (length ids - (i + 1)) m (get_or ids i 0) (get_or runs i 0) (get_or lengths i 0) (drop (i + 1) ids) (drop (i + 1) runs) (drop (i + 1) lengths) (drop at bytes) (drop next bytes) found placed))

pub entries_done : (bytes ids runs lengths : List ℕ) (start i at : ℕ) (end : Option ℕ) (entries : List Entry) → length ids ≤ i → length runs ≡ length ids → length lengths ≡ length ids
    → EntriesReading bytes ids runs lengths start i at end entries → entries_at None (length ids) ids runs lengths (drop start bytes) ≡ Some entries
entries_done bytes ids runs lengths start i at end entries h r l c =
    let e : length ids - i ≡ 0 = omega arith in
    c.same ∙ (ap (λ k. option_map (after entries) (entries_at end k (drop i ids) (drop i runs) (drop i lengths) (drop at bytes))) e
    ∙ (ap (λ xs. option_map (after entries) (entries_at end 0 (drop i ids) (drop i runs) xs (drop at bytes))) (drop_all i lengths (omega (arith, h, l)))
    ∙ (ap (λ xs. option_map (after entries) (entries_at end 0 xs (drop i runs) [] (drop at bytes))) (drop_all i ids h) ∙ ap Some (append-nil entries))))
