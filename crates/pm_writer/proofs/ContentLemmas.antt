-- Contents, once each, and their places.
use Rattle.pm_writer.proofs.Common.{AddsFilled, ap, arith, Block, blocks, Bool, bytes_eq, contents_from, entries_at, Entry, false, flat_map, Has, has_append, has_front, has_last, inl, inr, length, List}
use Rattle.pm_writer.proofs.Common.{list_any, longest_run, nat_eq, onto, place_here, place_in, place_later, place_new, place_stays, put_new, put_new_had, put_run, put_new_keeps, refl, same_or, Separates}
use Rattle.pm_writer.proofs.Common.{subst, suc, sym, true, unsorted, with_run, zero, ℕ, [], ◌&&◌, ◌++◌, ◌+◌, ◌<◌, ◌∙◌, ◌∷◌, ◌≡◌, ◌≤◌}
use Rattle.pm_writer.proofs.Blocks.{one_more, AllBlocks}
use Rattle.pm_writer.proofs.Putting.{put_each, run_each}

-- one more add
pub contents_push : (seen : List (List ℕ)) (adds : List (ℕ × List ℕ)) (a : ℕ × List ℕ) → contents_from seen (adds ++ a ∷ []) ≡ put_new (contents_from seen adds) a.1
contents_push seen [] a = refl
contents_push seen (x ∷ adds) a = contents_push (put_new seen x.1) adds a

-- contents that aren't empty have places of their own
abbrev pub Filled : List (List ℕ) → Type 0
Filled [] = Unit {0}
Filled (c ∷ cs) = (0 < length c) × Filled cs

pub place_apart : (x y : List ℕ) (cs : List (List ℕ)) → Filled cs → Has cs x → Has cs y → place_in cs x ≡ place_in cs y → x ≡ y
place_apart x y [] f h g e = absurd (cc)
place_apart x y (c ∷ cs) f h g e = elim (same_or c x) [
  | inl s ↦ elim (same_or c y) [
    | inl t ↦ sym s.1 ∙ t.1
    | inr t ↦ absurd (omega (arith, f.0, place_here c x cs s.1, place_later c y cs t.1, e))
  ]
  | inr s ↦ elim (same_or c y) [
    | inl t ↦ absurd (omega (arith, f.0, place_here c y cs t.1, place_later c x cs s.1, e))
    | inr t ↦ elim (has_front c x cs h) [
      | inl u ↦ absurd (s.1 (sym u))
      | inr u ↦ elim (has_front c y cs g) [
        | inl v ↦ absurd (t.1 (sym v))
        | inr v ↦ place_apart x y cs f.1 u v (omega (arith, place_later c x cs s.1, place_later c y cs t.1, e))
      ]
    ]
  ]
]

-- the bytes of all adds are among the contents
abbrev pub AllHad : List (List ℕ) → List (ℕ × List ℕ) → Type 0
AllHad cs [] = Unit {0}
AllHad cs (a ∷ adds) = Has cs a.1 × AllHad cs adds

contents_keep : (seen : List (List ℕ)) (adds : List (ℕ × List ℕ)) (y : List ℕ) → Has seen y → Has (contents_from seen adds) y
contents_keep seen [] y h = h
contents_keep seen (a ∷ adds) y h = contents_keep (put_new seen a.1) adds y (put_new_keeps seen a.1 y h)

pub all_had : (seen : List (List ℕ)) (adds : List (ℕ × List ℕ)) → AllHad (contents_from seen adds) adds
all_had seen [] = tt
all_had seen (a ∷ adds) = (contents_keep (put_new seen a.1) adds a.1 (put_new_had seen a.1), all_had (put_new seen a.1) adds)

-- no add is empty, so no content is
filled_push : (cs : List (List ℕ)) (x : List ℕ) → Filled cs → 0 < length x → Filled (cs ++ x ∷ [])
filled_push [] x f h = (h, tt)
filled_push (c ∷ cs) x f h = (f.0, filled_push cs x f.1 h)

filled_put : (cs : List (List ℕ)) (x : List ℕ) → Filled cs → 0 < length x → Filled (put_new cs x)
filled_put cs x f h = go (list_any (bytes_eq x) cs) refl
  where
    go : (b : Bool) → list_any (bytes_eq x) cs ≡ b → Filled (put_new cs x)
    go true e = rw e f
    go false e = rw e (filled_push cs x f h)

pub contents_filled : (seen : List (List ℕ)) (adds : List (ℕ × List ℕ)) → Filled seen → AddsFilled adds → Filled (contents_from seen adds)
contents_filled seen [] f g = f
contents_filled seen (a ∷ adds) f g = contents_filled (put_new seen a.1) adds (filled_put seen a.1 f g.0) g.1

-- entries depend on the places of the adds' bytes alone
abbrev AllSame : (List ℕ → ℕ) → (List ℕ → ℕ) → List (ℕ × List ℕ) → Type 0
AllSame p q [] = Unit {0}
AllSame p q (a ∷ adds) = (p a.1 ≡ q a.1) × AllSame p q adds

same_onto : (p q : List ℕ → ℕ) (a : ℕ × List ℕ) (bs : List Block) → p a.1 ≡ q a.1 → AllBlocks (λ b. p b.bytes ≡ q b.bytes) bs → AllBlocks (λ b. p b.bytes ≡ q b.bytes) (onto a bs)
same_onto p q a [] e h = (e, tt)
same_onto p q a (b ∷ bs) e h = go (nat_eq (a.0 + 1) b.first && bytes_eq a.1 b.bytes) refl
  where
    go : (t : Bool) → (nat_eq (a.0 + 1) b.first && bytes_eq a.1 b.bytes) ≡ t → AllBlocks (λ b. p b.bytes ≡ q b.bytes) (onto a (b ∷ bs))
    go true g = rw g h
    go false g = rw g (e, h)

same_blocks : (p q : List ℕ → ℕ) (adds : List (ℕ × List ℕ)) → AllSame p q adds → AllBlocks (λ b. p b.bytes ≡ q b.bytes) (blocks adds)
same_blocks p q [] h = tt
same_blocks p q (a ∷ adds) h = same_onto p q a (blocks adds) h.0 (same_blocks p q adds h.1)

same_entries : (p q : List ℕ → ℕ) (bs : List Block) → AllBlocks (λ b. p b.bytes ≡ q b.bytes) bs → flat_map (entries_at p) bs ≡ flat_map (entries_at q) bs
same_entries p q [] h = refl
same_entries p q (b ∷ bs) h = rw (h.0, same_entries p q bs h.1) refl

pub same_unsorted : (p q : List ℕ → ℕ) (adds : List (ℕ × List ℕ)) → AllSame p q adds → unsorted p adds ≡ unsorted q adds
same_unsorted p q adds h = same_entries p q (blocks adds) (same_blocks p q adds h)

-- the entries so far, with the places among the contents so far
abbrev pub placed : List (ℕ × List ℕ) → List Entry
placed adds = unsorted (place_in (contents_from [] adds)) adds

separates : (cs : List (List ℕ)) (adds : List (ℕ × List ℕ)) (a : ℕ × List ℕ) → Filled cs → Has cs a.1 → AllHad cs adds → Separates (place_in cs) adds a
separates cs [] a f h g = tt
separates cs (b ∷ adds) a f h g = (λ e. place_apart b.1 a.1 cs f g.0 h e, separates cs adds a f h g.1)

same_places : (cs ds : List (List ℕ)) (adds : List (ℕ × List ℕ)) → AllHad cs adds → AllSame (place_in (cs ++ ds)) (place_in cs) adds
same_places cs ds [] h = tt
same_places cs ds (a ∷ adds) h = (place_stays a.1 cs ds h.0, same_places cs ds adds h.1)

pub had_append : (cs ds : List (List ℕ)) (adds : List (ℕ × List ℕ)) → AllHad cs adds → AllHad (cs ++ ds) adds
had_append cs ds [] h = tt
had_append cs ds (a ∷ adds) h = (has_append a.1 cs ds h.0, had_append cs ds adds h.1)

-- a run of adds of the same bytes
contents_again : (seen : List (List ℕ)) (adds : List (ℕ × List ℕ)) (id n : ℕ) (bytes : List ℕ) → Has (contents_from seen adds) bytes → contents_from seen (with_run adds id n bytes) ≡ contents_from seen adds
contents_again seen adds id zero bytes h = refl
contents_again seen adds id (suc n) bytes h =
    let same : contents_from seen (adds ++ (id, bytes) ∷ []) ≡ contents_from seen adds = contents_push seen adds (id, bytes) ∙ rw h refl in
    contents_again seen (adds ++ (id, bytes) ∷ []) (id + 1) n bytes (subst (λ cs. Has cs bytes) (sym same) h) ∙ same

pub contents_run : (seen : List (List ℕ)) (adds : List (ℕ × List ℕ)) (id n : ℕ) (bytes : List ℕ) → 0 < n → contents_from seen (with_run adds id n bytes) ≡ put_new (contents_from seen adds) bytes
contents_run seen adds id zero bytes some = absurd (omega (arith, some))
contents_run seen adds id (suc n) bytes some =
    let had = subst (λ cs. Has cs bytes) (sym (contents_push seen adds (id, bytes))) (put_new_had (contents_from seen adds) bytes) in
    contents_again seen (adds ++ (id, bytes) ∷ []) (id + 1) n bytes had ∙ contents_push seen adds (id, bytes)

-- which puts its ids one after another
separates_push : (place : List ℕ → ℕ) (adds : List (ℕ × List ℕ)) (id next : ℕ) (bytes : List ℕ) → Separates place adds (id, bytes) → Separates place (adds ++ (id, bytes) ∷ []) (next, bytes)
separates_push place [] id next bytes s = (λ e. refl, tt)
separates_push place (b ∷ adds) id next bytes s = (s.0, separates_push place adds id next bytes s.1)

each_more : (place : List ℕ → ℕ) (adds : List (ℕ × List ℕ)) (id n : ℕ) (bytes : List ℕ) → Separates place adds (id, bytes) → unsorted place (with_run adds id n bytes) ≡ put_each longest_run id (place bytes) (length bytes) n (unsorted place adds)
each_more place adds id zero bytes s = refl
each_more place adds id (suc n) bytes s =
    each_more place (adds ++ (id, bytes) ∷ []) (id + 1) n bytes (separates_push place adds id (id + 1) bytes s)
    ∙ ap (put_each longest_run (id + 1) (place bytes) (length bytes) n) (one_more place adds (id, bytes) s)

pub run_more : (place : List ℕ → ℕ) (adds : List (ℕ × List ℕ)) (id n : ℕ) (bytes : List ℕ) → Separates place adds (id, bytes) → 0 < n → n ≤ longest_run → unsorted place (with_run adds id n bytes) ≡ put_run longest_run id (place bytes) (length bytes) n (unsorted place adds)
run_more place adds id zero bytes s some fits = absurd (omega (arith, some))
run_more place adds id (suc n) bytes s some fits = each_more place adds id (suc n) bytes s ∙ sym (run_each longest_run id (place bytes) (length bytes) n (unsorted place adds) fits)

-- a run of known bytes, and of new ones
pub run_known : (adds : List (ℕ × List ℕ)) (id n : ℕ) (bytes : List ℕ) → AddsFilled adds → 0 < n → n ≤ longest_run → Has (contents_from [] adds) bytes
    → placed (with_run adds id n bytes) ≡ put_run longest_run id (place_in (contents_from [] adds) bytes) (length bytes) n (placed adds)
run_known adds id n bytes f some fits h =
    let cs = contents_from [] adds in
    let same : contents_from [] (with_run adds id n bytes) ≡ cs = contents_again [] adds id n bytes h in
    rw same (run_more (place_in cs) adds id n bytes (separates cs adds (id, bytes) (contents_filled [] adds tt f) h (all_had [] adds)) some fits)

pub run_new : (adds : List (ℕ × List ℕ)) (id n : ℕ) (bytes : List ℕ) → AddsFilled adds → 0 < n → n ≤ longest_run → 0 < length bytes → list_any (bytes_eq bytes) (contents_from [] adds) ≡ false
    → placed (with_run adds id n bytes) ≡ put_run longest_run id (length (flat_map (λ c. c) (contents_from [] adds))) (length bytes) n (placed adds)
run_new adds id n bytes f some fits s h =
    let cs = contents_from [] adds in
    let ds = cs ++ bytes ∷ [] in
    let same : contents_from [] (with_run adds id n bytes) ≡ ds = contents_run [] adds id n bytes some ∙ rw h refl in
    let more = run_more (place_in ds) adds id n bytes (separates ds adds (id, bytes) (filled_push cs bytes (contents_filled [] adds tt f) s) (has_last bytes cs) (had_append cs (bytes ∷ []) adds (all_had [] adds))) some fits in
    let stays = same_unsorted (place_in ds) (place_in cs) adds (same_places cs (bytes ∷ []) adds (all_had [] adds)) in
    rw same (more ∙ rw (place_new bytes cs h, stays) refl)
