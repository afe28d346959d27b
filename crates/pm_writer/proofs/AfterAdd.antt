-- The state after a run of adds.
use Rattle.pm_writer.proofs.Common.{Adds, AddsFilled, AllLow, AllSized, ap, arith, Bool, bytes_eq, Contents, contents_from, Entry, false, flat_map, found_in, found_is, Global, HasEntries, Holds}
use Rattle.pm_writer.proofs.Common.{ids_of, is_above, last_of, length, List, list_any, longest_run, MAX_TILE_ID, Means, nat_lt, nat_tests, place_in, place_new, put_new, put_run, refl, rising, Some, subst, sym, true}
use Rattle.pm_writer.proofs.Common.{suc, unsorted, Vec, with_run, xxh3_64, zero, ℕ, [], ◌&&◌, ◌++◌, ◌+◌, ◌<◌, ◌^◌, ◌∙◌, ◌∷◌, ◌≡◌, ◌≤◌}
use Rattle.pm_writer.proofs.ContentLemmas.{contents_run, placed, run_known, run_new}

filled_more : (adds : List (ℕ × List ℕ)) (a : ℕ × List ℕ) → AddsFilled adds → 0 < length a.1 → AddsFilled (adds ++ a ∷ [])
filled_more [] a f h = (h, tt)
filled_more (b ∷ adds) a f h = (f.0, filled_more adds a f.1 h)

low_more : (adds : List (ℕ × List ℕ)) (a : ℕ × List ℕ) → AllLow adds → a.0 ≤ MAX_TILE_ID → AllLow (adds ++ a ∷ [])
low_more [] a f h = (h, tt)
low_more (b ∷ adds) a f h = (f.0, low_more adds a f.1 h)

sized_more : (adds : List (ℕ × List ℕ)) (a : ℕ × List ℕ) → AllSized adds → length a.1 < 2 ^ 32 → AllSized (adds ++ a ∷ [])
sized_more [] a f h = (h, tt)
sized_more (b ∷ adds) a f h = (f.0, sized_more adds a f.1 h)

pub last_push : (adds : List (ℕ × List ℕ)) (a : ℕ × List ℕ) → last_of (adds ++ a ∷ []) ≡ Some a.0
last_push [] a = refl
last_push (b ∷ []) a = refl
last_push (b ∷ c ∷ adds) a = last_push (c ∷ adds) a

and_assoc : (x y z : Bool) → (x && (y && z)) ≡ ((x && y) && z)
and_assoc true y z = refl
and_assoc false y z = refl

and_true : (x : Bool) → (x && true) ≡ x
and_true true = refl
and_true false = refl

pub rising_push : (adds : List (ℕ × List ℕ)) (a : ℕ × List ℕ) → rising (ids_of (adds ++ a ∷ [])) ≡ (rising (ids_of adds) && is_above (last_of adds) a.0)
rising_push [] a = refl
rising_push (b ∷ []) a = and_true (nat_lt b.0 a.0)
rising_push (b ∷ c ∷ adds) a = ap (λ z. nat_lt b.0 c.0 && z) (rising_push (c ∷ adds) a) ∙ and_assoc (nat_lt b.0 c.0) (rising (ids_of (c ∷ adds))) (is_above (last_of (c ∷ adds)) a.0)

-- the same of a run
filled_run : (adds : List (ℕ × List ℕ)) (id n : ℕ) (bytes : List ℕ) → AddsFilled adds → 0 < length bytes → AddsFilled (with_run adds id n bytes)
filled_run adds id zero bytes f h = f
filled_run adds id (suc n) bytes f h = filled_run (adds ++ (id, bytes) ∷ []) (id + 1) n bytes (filled_more adds (id, bytes) f h) h

low_run : (adds : List (ℕ × List ℕ)) (id n : ℕ) (bytes : List ℕ) → AllLow adds → id + n ≤ MAX_TILE_ID + 1 → AllLow (with_run adds id n bytes)
low_run adds id zero bytes f h = f
low_run adds id (suc n) bytes f h = low_run (adds ++ (id, bytes) ∷ []) (id + 1) n bytes (low_more adds (id, bytes) f (omega (arith, h))) (omega (arith, h))

sized_run : (adds : List (ℕ × List ℕ)) (id n : ℕ) (bytes : List ℕ) → AllSized adds → length bytes < 2 ^ 32 → AllSized (with_run adds id n bytes)
sized_run adds id zero bytes f h = f
sized_run adds id (suc n) bytes f h = sized_run (adds ++ (id, bytes) ∷ []) (id + 1) n bytes (sized_more adds (id, bytes) f h) h

last_run : (adds : List (ℕ × List ℕ)) (id n last : ℕ) (bytes : List ℕ) → 0 < n → last + 1 ≡ id + n → last_of (with_run adds id n bytes) ≡ Some last
last_run adds id zero last bytes some e = absurd (omega (arith, some))
last_run adds id (suc zero) last bytes some e = let same : id ≡ last = omega (arith, e) in last_push adds (id, bytes) ∙ ap Some same
last_run adds id (suc (suc n)) last bytes some e = last_run (adds ++ (id, bytes) ∷ []) (id + 1) (suc n) last bytes (omega arith) (omega (arith, e))

rising_run : (adds : List (ℕ × List ℕ)) (id n : ℕ) (bytes : List ℕ) → 0 < n → rising (ids_of (with_run adds id n bytes)) ≡ (rising (ids_of adds) && is_above (last_of adds) id)
rising_run adds id zero bytes some = absurd (omega (arith, some))
rising_run adds id (suc zero) bytes some = rising_push adds (id, bytes)
rising_run adds id (suc (suc n)) bytes some =
    let more = adds ++ (id, bytes) ∷ [] in
    let above : nat_lt id (id + 1) ≡ true = grind (arith, nat_tests) in
    rising_run more (id + 1) (suc n) bytes (omega arith)
    ∙ (ap (λ z. rising (ids_of more) && is_above z (id + 1)) (last_push adds (id, bytes))
    ∙ (ap (λ z. rising (ids_of more) && z) above ∙ (and_true (rising (ids_of more)) ∙ rising_push adds (id, bytes))))

rest_after : (adds : List (ℕ × List ℕ)) (s t : Adds) (id n last : ℕ) (bytes : List ℕ) → HasEntries s adds → t.entries.items ≡ unsorted (place_in (contents_from [] (with_run adds id n bytes))) (with_run adds id n bytes)
    → t.last ≡ Some last → last + 1 ≡ id + n → t.rises ≡ (s.rises && is_above s.last id) → 0 < n → 0 < length bytes → id + n ≤ MAX_TILE_ID + 1 → length bytes < 2 ^ 32 → HasEntries t (with_run adds id n bytes)
rest_after adds s t id n last bytes h e l end r count some low sized = record {
  entries = e;
  last = l ∙ sym (last_run adds id n last bytes count end);
  rises = r ∙ (ap (λ z. z && is_above s.last id) h.rises ∙ (ap (λ z. rising (ids_of adds) && is_above z id) h.last ∙ sym (rising_run adds id n bytes count)));
  filled = filled_run adds id n bytes h.filled some;
  low = low_run adds id n bytes h.low low;
  sized = sized_run adds id n bytes h.sized sized;
}

-- the adds with a run more, whose content is among the others or behind them
pub run_after : (adds : List (ℕ × List ℕ)) (s : Adds) (more : Contents) (es : Vec Entry Global) (rises : Bool) (id n last place size : ℕ) (bytes : List ℕ) → Means s adds
    → Holds xxh3_64 more (put_new (contents_from [] adds) bytes) → found_in (put_new (contents_from [] adds) bytes) bytes ≡ Some place
    → 0 < length bytes → size ≡ length bytes → size < 2 ^ 32 → 0 < n → n ≤ longest_run → id + n ≤ MAX_TILE_ID + 1 → es.items ≡ put_run longest_run id place size n s.entries.items → last + 1 ≡ id + n → rises ≡ (s.rises && is_above s.last id)
    → Means (record { contents = more; entries = es; last = Some last; rises = rises }) (with_run adds id n bytes)
run_after adds s more es rises id n last place size bytes m h f some z fits count most low e end r = go (list_any (bytes_eq bytes) (contents_from [] adds)) refl
  where
    cs : List (List ℕ)
    cs = contents_from [] adds

    after : Adds
    after = record { contents = more; entries = es; last = Some last; rises = rises }

    with_entries : {at : ℕ} → place ≡ at → placed (with_run adds id n bytes) ≡ put_run longest_run id at (length bytes) n (placed adds) → Means after (with_run adds id n bytes)
    with_entries there k = record {
      contents = subst (Holds xxh3_64 more) (sym (contents_run [] adds id n bytes count)) h;
      rest = rest_after adds s after id n last bytes m.rest (e ∙ (rw (there, z, m.rest.entries) (sym k))) refl end r count some low (omega (arith, z, fits));
    }

    go : (b : Bool) → list_any (bytes_eq bytes) cs ≡ b → Means after (with_run adds id n bytes)
    go true q =
        let at = (found_is bytes (put_new cs bytes) place f).1 in
        let there : place ≡ place_in cs bytes = at ∙ ap (λ ds. place_in ds bytes) (rw q refl) in
        with_entries there (run_known adds id n bytes m.rest.filled count most q)
    go false q =
        let at = (found_is bytes (put_new cs bytes) place f).1 in
        let there : place ≡ length (flat_map (λ c. c) cs) = at ∙ (ap (λ ds. place_in ds bytes) (rw q refl) ∙ place_new bytes cs q) in
        with_entries there (run_new adds id n bytes m.rest.filled count most some q)
