-- What the tiles of marks say of an archive is what the tiles say.
use Rattle.set_options.proofs.FactLemmas.{filled_swap, filled_twice}
use Rattle.set_options.specs.Facts.{with_tile}
use Rattle.tile_streaming.proofs.Common.{address, address_within, ap, arith, Bool, cond, coord_of, entries, facts_of, facts_of_marks, false, fold, has_back, has_permuted, inl, InRange, inr, is_empty, is_gzip, IsMarkedAs, length, List, map, Mark, mark_of, MarkedSet, nat_eq, nat_le, nat_tests, no_facts, None, not, Option, Place, refl, Some, State, suc, TileFacts, true, with_filled, with_mark, ℕ, [], ◌%◌, ◌&&◌, ◌^◌, ◌∙◌, ◌∷◌, ◌≡◌}
use Rattle.tile_streaming.proofs.ElementLemmas.{same_elements}
use Rattle.tile_streaming.proofs.KeyLemmas.{place_again}
use Rattle.tile_streaming.proofs.MarkLemmas.{AllRanged, Pairs, ranged_all}
use Rattle.tile_streaming.proofs.SizeLemmas.{small_is}

abbrev zoom : Mark → ℕ
zoom m = (coord_of m.id).z

abbrev more : TileFacts → Mark → TileFacts
more f m = with_filled f (zoom m) m.gzip

marks_swap : (f : TileFacts) (m n : Mark) → with_mark (with_mark f m) n ≡ with_mark (with_mark f n) m
marks_swap f m n = by (is_empty m) (is_empty n)
  where
    by : (a b : Bool) → cond b (cond a f (more f m)) (more (cond a f (more f m)) n) ≡ cond a (cond b f (more f n)) (more (cond b f (more f n)) m)
    by true true = refl
    by true false = refl
    by false true = refl
    by false false = filled_swap f (zoom m) (zoom n) m.gzip n.gzip

marks_twice : (f : TileFacts) (m : Mark) → with_mark (with_mark f m) m ≡ with_mark f m
marks_twice f m = by (is_empty m)
  where
    by : (a : Bool) → cond a (cond a f (more f m)) (more (cond a f (more f m)) m) ≡ cond a f (more f m)
    by true = refl
    by false = filled_twice f (zoom m) m.gzip

some : (n : ℕ) → nat_eq (suc n) 0 ≡ false
some n = grind (arith, nat_tests)

-- the mark of at least one byte isn't empty, also where its length is a multiple of 2^32
filled_is : (n : ℕ) → (nat_eq (suc n % 2 ^ 32) 0 && not (nat_le (2 ^ 32) (suc n))) ≡ false
filled_is n = by (nat_le (2 ^ 32) (suc n)) refl
  where
    either : (a : Bool) → (a && false) ≡ false
    either true = refl
    either false = refl

    by : (b : Bool) → nat_le (2 ^ 32) (suc n) ≡ b → (nat_eq (suc n % 2 ^ 32) 0 && not b) ≡ false
    by true h = either (nat_eq (suc n % 2 ^ 32) 0)
    by false h = ap (λ m. nat_eq m 0 && true) (small_is (suc n) h) ∙ ap (λ b. b && true) (some n)

-- the mark of a tile says what the tile says
mark_says : (f : TileFacts) (p : Place) (c : Option (List ℕ)) → InRange p → with_mark f (mark_of (p, c)) ≡ with_tile f (p, c)
mark_says f p None at = refl
mark_says f p (Some []) at = refl
mark_says f p (Some (b ∷ bytes)) at =
    ap (λ none. cond none f (with_filled f (coord_of (address p)).z (is_gzip (b ∷ bytes)))) (filled_is (length bytes))
    ∙ ap (λ (q : Place). with_tile f (q, Some (b ∷ bytes))) (place_again p at (address_within p at))

marks_say : (es : Pairs) → AllRanged es → (f : TileFacts) → fold with_mark f (map mark_of es) ≡ fold with_tile f es
marks_say [] at f = refl
marks_say (e ∷ es) at f = ap (λ g. fold with_mark g (map mark_of es)) (mark_says f e.0 e.1 (at e (inl refl))) ∙ marks_say es (λ d there. at d (inr there)) (with_tile f e)

pub same_facts : (m : MarkedSet) (s : State) → IsMarkedAs s m → facts_of_marks m.marks.items ≡ facts_of s.tiles
same_facts m s is =
    let es : Pairs = entries s.tiles in
    let marks : List Mark = m.marks.items in
    same_elements with_mark marks_swap marks_twice no_facts marks (map mark_of es) (λ x h. has_back x (map mark_of es) marks is.marks.same h) (λ x h. has_permuted x (map mark_of es) marks is.marks.same h)
    ∙ marks_say es (ranged_all es is.ranged) no_facts
