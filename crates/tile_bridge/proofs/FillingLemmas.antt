-- The tiles of a set, one after another.
use Rattle.tile_bridge.proofs.Common.{Add, add_of, address, All-append, All-cons, All-nil, ap, append-nil, AreFilled, AreWithin, arith, bytes_at, bytes_of, Cell, cell_bytes, cons_option, Coord}
use Rattle.tile_bridge.proofs.Common.{coord_address, coord_placed, entries, false, filter_map-append, get_or_from_slice_get, id_of, IfSome, InRange, IsCoord, len, len-entries, length, List}
use Rattle.tile_bridge.proofs.Common.{map-append, nat_eq, nat_tests, None, Option, option_map, Place, Ranged, refl, shown, slice_get, Some, subst, suc, sym, take, take_all, take_more, TileSet, true}
use Rattle.tile_bridge.proofs.Common.{unwrap_or, zero, ℕ, [], ◌++◌, ◌+◌, ◌<◌, ◌∙◌, ◌∷◌, ◌≡◌, ◌≢◌, ◌≤◌}
use Rattle.mb_lists.specs.Entries.{blob_cell, place_at}
use Rattle.tile_bridge.proofs.AddLemmas.{Pairs, added}

-- what a tile's cell has
cell_has : (c : Option (List ℕ)) (cell : Cell) → blob_cell c ≡ cell → cell_bytes cell ≡ bytes_of c
cell_has None cell is = sym (ap cell_bytes is)
cell_has (Some bytes) cell is = sym (ap cell_bytes is)

-- what is read at an index
abbrev pub IsRead : TileSet → ℕ → Coord → Cell → Type 0
IsRead tiles index c cell = IfSome (slice_get (entries tiles) index) (λ e. (e.0 ≡ place_at c) × (blob_cell e.1 ≡ cell))

-- the entry that is read
pub record Entry (tiles : TileSet) (index : ℕ) (c : Coord) (held : Cell) : Type 0 where
  pub entry : Place × Option (List ℕ)
  pub there : slice_get (entries tiles) index ≡ Some entry
  pub place : entry.0 ≡ place_at c
  pub cell : blob_cell entry.1 ≡ held

pub below_len : (tiles : TileSet) (n : ℕ) → n < len tiles → n < length (entries tiles)
below_len tiles n low = omega (arith, low, len-entries tiles)

pub there_is : {X : Type 0} (xs : List X) (i : ℕ) → i < length xs → (x : X) × (slice_get xs i ≡ Some x)
there_is [] i low = absurd (omega (arith, low))
there_is (x ∷ xs) zero low = (x, refl)
there_is (x ∷ xs) (suc i) low = there_is xs i (omega (arith, low))

pub entry_read : (tiles : TileSet) (index : ℕ) (c : Coord) (cell : Cell) → index < len tiles → IsRead tiles index c cell → Entry tiles index c cell
entry_read tiles index c cell low h =
    let e = there_is (entries tiles) index (below_len tiles index low) in
    let read = subst (λ o. IfSome o (λ e. (e.0 ≡ place_at c) × (blob_cell e.1 ≡ cell))) e.1 h in
    record { entry = e.0; there = e.1; place = read.0; cell = read.1 }

pub bytes_read : (tiles : TileSet) (index : ℕ) (c : Coord) (cell : Cell) → index < len tiles → IsRead tiles index c cell → cell_bytes cell ≡ bytes_at tiles index
bytes_read tiles index c cell low h =
    let e = entry_read tiles index c cell low h in
    cell_has e.entry.1 cell e.cell ∙ sym (ap (λ o. unwrap_or (option_map (λ e. bytes_of e.1) o) []) e.there)

ranged_more : (es : Pairs) (e : Place × Option (List ℕ)) → Ranged es → InRange e.0 → Ranged (es ++ e ∷ [])
ranged_more [] e h at = (at, tt)
ranged_more (f ∷ es) e h at = (h.0, ranged_more es e h.1 at)

module _ (tiles : TileSet) (adds : List Add) (index : ℕ) (c : Coord) (cell : Cell) (low : index < len tiles) (read : IsRead tiles index c cell) (coord : IsCoord c) (so : AreFilled tiles adds index) where
  one : Entry tiles index c cell
  one = entry_read tiles index c cell low read

  front : take (index + 1) (entries tiles) ≡ take index (entries tiles) ++ one.entry ∷ []
  front = take_more (entries tiles) index one.entry (below_len tiles index low) ∙ ap (λ e. take index (entries tiles) ++ e ∷ []) (get_or_from_slice_get (entries tiles) index one.entry one.entry one.there)

  placed : InRange one.entry.0
  placed = subst InRange (sym one.place) (coord_placed c coord)

  ranged : Ranged (take (index + 1) (entries tiles))
  ranged = subst Ranged (sym front) (ranged_more (take index (entries tiles)) one.entry so.ranged placed)

  grown : added (take (index + 1) (entries tiles)) ≡ added (take index (entries tiles)) ++ cons_option (add_of one.entry) []
  grown = ap added front ∙ filter_map-append add_of (take index (entries tiles)) (one.entry ∷ [])

  -- a tile without a byte
  empty_add : (e : Place × Option (List ℕ)) → bytes_of e.1 ≡ [] → add_of e ≡ None
  empty_add (p, None) is = refl
  empty_add (p, Some []) is = refl
  empty_add (p, Some (b ∷ bs)) is = absurd (cc)

  pub empty_passed : cell_bytes cell ≡ [] → AreFilled tiles adds (index + 1)
  empty_passed is = record {
    shown = so.shown ∙ sym (grown ∙ ap (λ o. added (take index (entries tiles)) ++ cons_option o []) (empty_add one.entry (sym (cell_has one.entry.1 cell one.cell) ∙ is)) ∙ append-nil (added (take index (entries tiles))));
    within = so.within;
    ranged = ranged;
  }

  -- a tile of a byte at least
  full_add : (e : Place × Option (List ℕ)) → bytes_of e.1 ≢ [] → add_of e ≡ Some (address e.0, bytes_of e.1)
  full_add (p, None) some = absurd (some refl)
  full_add (p, Some []) some = absurd (some refl)
  full_add (p, Some (b ∷ bs)) some = refl

  pub filled_more : (more : List Add) → more ≡ adds ++ record { id = id_of c; index = index } ∷ [] → cell_bytes cell ≢ [] → AreFilled tiles more (index + 1)
  filled_more more push some =
      let has : cell_bytes cell ≡ bytes_of one.entry.1 = cell_has one.entry.1 cell one.cell in
      let here : (id_of c, bytes_at tiles index) ≡ (address one.entry.0, bytes_of one.entry.1) = λ i. ((sym (ap address one.place ∙ coord_address c coord)) i, (sym (bytes_read tiles index c cell low read) ∙ has) i) in
      record {
        shown =
            ap (shown tiles) push ∙ map-append (λ (a : Add). (a.id, bytes_at tiles a.index)) adds (record { id = id_of c; index = index } ∷ []) ∙ ap (λ xs. xs ++ (id_of c, bytes_at tiles index) ∷ []) so.shown
            ∙ ap (λ x. added (take index (entries tiles)) ++ x ∷ []) here
            ∙ sym (grown ∙ ap (λ o. added (take index (entries tiles)) ++ cons_option o []) (full_add one.entry (λ is. some (has ∙ is))));
        within = subst (AreWithin tiles) (sym push) (All-append (λ a. a.index < len tiles) adds (record { id = id_of c; index = index } ∷ []) so.within (All-cons (λ a. a.index < len tiles) (record { id = id_of c; index = index }) [] low (All-nil (λ a. a.index < len tiles))));
        ranged = ranged;
      }

-- all of them
pub all_filled : (tiles : TileSet) (adds : List Add) (n : ℕ) → len tiles ≤ n → AreFilled tiles adds n → (shown tiles adds ≡ added (entries tiles)) × Ranged (entries tiles)
all_filled tiles adds n far so = let whole = take_all n (entries tiles) (omega (arith, far, len-entries tiles)) in (so.shown ∙ ap added whole, subst Ranged whole so.ranged)

-- whether there is a byte, by the number of them
pub nil_of : (bytes : List ℕ) → nat_eq (length bytes) 0 ≡ true → bytes ≡ []
nil_of [] h = refl
nil_of (b ∷ bs) h = absurd (zero_length (length bs) h)
  where
    zero_length : (n : ℕ) → nat_eq (suc n) 0 ≡ true → ⊥
    zero_length n h = grind (arith, nat_tests)

pub not_nil_of : (bytes shown : List ℕ) → shown ≡ bytes → nat_eq (length shown) 0 ≡ false → bytes ≢ []
not_nil_of bytes shown is h none = absurd (some (length shown) (ap length (is ∙ none)) h)
  where
    some : (n : ℕ) → n ≡ 0 → nat_eq n 0 ≡ false → ⊥
    some n z h = grind (arith, nat_tests)
