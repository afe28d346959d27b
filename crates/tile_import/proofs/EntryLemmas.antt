-- What a set has after the tiles of entries were put into it.
use Rattle.tile_import.proofs.Common.{address, AllShallow, and_parts, ap, AreOnBoard, AreOrdered, arith, Bool, cond, contents_of, covering, covers_here, covers_later, empty, Entry, Err, false, get}
use Rattle.tile_import.proofs.Common.{has_id, Header, ids_of, in_run, InRange, IsMadeOf, len, length, length-append, List, nat_le, nat_lt, nat_tests, None, none_below, Ok, OnOk, Option, Place, refl}
use Rattle.tile_import.proofs.Common.{Result, Some, sym, tile_count, TileSet, true, with_contents, with_entries, with_ids, ℕ, [], ◌++◌, ◌+◌, ◌<◌, ◌∙◌, ◌∷◌, ◌≡◌, ◌≤◌}
use Rattle.tile_import.proofs.PlacingLemmas.{At, get_run, run_few, run_on_board}

-- the contents of an entry that was found, or what was there
abbrev pub found_at : Header → List ℕ → Option Entry → At → At
found_at h b None y = y
found_at h b (Some e) y = Some (Some (contents_of h b e))

-- the entry that has an id counts, where entries are in order
pub get_entries : (h : Header) (b : List ℕ) (tiles : TileSet) (p : Place) (low : ℕ) (es : List Entry) (end : Option ℕ) → InRange p → AreOrdered low es end → get (with_entries h b tiles es) p ≡ found_at h b (covering (address p) es) (get tiles p)
get_entries h b tiles p low [] end range o = refl
get_entries h b tiles p low (e ∷ es) end range o =
    get_entries h b (with_ids tiles (contents_of h b e) (ids_of e)) p (e.tile_id + e.run_length) es end range o.3
    ∙ (ap (λ y. found_at h b (covering (address p) es) y) (get_run tiles (contents_of h b e) p e.tile_id e.run_length range o.2)
    ∙ by_test (has_id (address p) e) refl)
  where
    by_test : (x : Bool) → has_id (address p) e ≡ x → found_at h b (covering (address p) es) (cond (in_run (address p) e.tile_id e.run_length) (Some (Some (contents_of h b e))) (get tiles p)) ≡ found_at h b (covering (address p) (e ∷ es)) (get tiles p)
    by_test true has =
        let ids = and_parts (nat_le e.tile_id (address p)) (nat_lt (address p) (e.tile_id + e.run_length)) has in
        let less : address p < e.tile_id + e.run_length = grind (arith, nat_tests) in
        ap (λ x. found_at h b (covering (address p) es) (cond x (Some (Some (contents_of h b e))) (get tiles p))) has
        ∙ (ap (λ o. found_at h b o (Some (Some (contents_of h b e)))) (none_below (address p) (e.tile_id + e.run_length) es end o.3 less)
        ∙ sym (ap (λ o. found_at h b o (get tiles p)) (covers_here (address p) e es has)))
    by_test false has =
        ap (λ x. found_at h b (covering (address p) es) (cond x (Some (Some (contents_of h b e))) (get tiles p))) has
        ∙ sym (ap (λ o. found_at h b o (get tiles p)) (covers_later (address p) e es has))

-- none of them is of zoom 31, and how many they are
pub contents_on_board : (tiles : TileSet) (es : List Entry) (cs : List (List ℕ)) → AllShallow es → AreOnBoard tiles → AreOnBoard (with_contents tiles es cs)
contents_on_board tiles [] cs shallow on = on
contents_on_board tiles (e ∷ es) [] shallow on = on
contents_on_board tiles (e ∷ es) (c ∷ cs) shallow on = contents_on_board (with_ids tiles c (ids_of e)) es cs shallow.1 (run_on_board tiles c e.tile_id e.run_length shallow.0 on)

pub contents_few : (tiles : TileSet) (es : List Entry) (cs : List (List ℕ)) → len (with_contents tiles es cs) ≤ len tiles + tile_count es
contents_few tiles [] cs = omega arith
contents_few tiles (e ∷ es) [] = omega arith
contents_few tiles (e ∷ es) (c ∷ cs) =
    let rest = contents_few (with_ids tiles c (ids_of e)) es cs in
    let run = run_few tiles c e.tile_id e.run_length in
    omega (arith, rest, run)

-- one more entry behind others
contents_push : (tiles : TileSet) (es : List Entry) (cs : List (List ℕ)) (e : Entry) (c : List ℕ) → length cs ≡ length es → with_contents tiles (es ++ e ∷ []) (cs ++ c ∷ []) ≡ with_ids (with_contents tiles es cs) c (ids_of e)
contents_push tiles [] [] e c same = refl
contents_push tiles [] (x ∷ cs) e c same = absurd (omega (arith, same))
contents_push tiles (d ∷ es) [] e c same = absurd (omega (arith, same))
contents_push tiles (d ∷ es) (x ∷ cs) e c same = contents_push (with_ids tiles x (ids_of d)) es cs e c (omega (arith, same))

pub made_more : {E : Type 0} (r : Result Unit E) (old new : TileSet) (es : List Entry) (cs : List (List ℕ)) (e : Entry) (c : List ℕ) → OnOk r (new ≡ with_ids old c (ids_of e)) → IsMadeOf old es cs → OnOk r (IsMadeOf new (es ++ e ∷ []) (cs ++ c ∷ []))
made_more (Err x) old new es cs e c put made = tt
made_more (Ok x) old new es cs e c put made = (
  length-append cs (c ∷ []) ∙ ap (λ n. n + 1) made.0 ∙ sym (length-append es (e ∷ [])),
  put ∙ ap (λ m. with_ids m c (ids_of e)) made.1 ∙ sym (contents_push empty es cs e c made.0),
)
