-- What a directory of tile entries gives at the ids of an entry.
use Rattle.pm_writer.proofs.Common.{ap, arith, blocks, contents_from, Covers, covers, entries_of_adds, Entry, false, given, Gives, inl, inr, IsIn, last_below, List, longest_run, nat_eq, nat_lt}
use Rattle.pm_writer.proofs.Common.{nat_tests, None, Option, place_in, range_of, refl, RisingAdds, scan, Some, subst, sym, tile_in, Tiles, true, ℕ, [], ◌-◌, ◌<◌, ◌>>=◌, ◌∙◌, ◌∷◌, ◌≡◌, ◌≤◌, ◌⊎◌}
use Rattle.pm_writer.proofs.Cuts.{Needed, SameFrom, one_beginning}
use Rattle.pm_writer.proofs.Parted.{parted, needed_entries, begins, sorted_already, tile_some}
use Rattle.pm_writer.proofs.Walking.{last_no, last_yes}

pub tiles_rest : (e : Entry) (es : List Entry) → Tiles (e ∷ es) → Tiles es
tiles_rest e [] w = tt
tiles_rest e (f ∷ es) w = w.3

behind : (t : ℕ) (found : Option Entry) (e : Entry) (es : List Entry) → Tiles (e ∷ es) → t < e.tile_id → last_below t found (e ∷ es) ≡ found
behind t found e [] w h = last_no t found e [] h
behind t found e (f ∷ es) w h = last_no t found e (f ∷ es) h ∙ behind t found f es w.3 (omega (arith, h, w.2))

after : (t : ℕ) (e f : Entry) (es : List Entry) → Tiles (e ∷ es) → IsIn f es → e.tile_id < f.tile_id
after t e f [] w i = absurd i
after t e f (g ∷ es) w (inl s) = let same = ap (λ z. z.tile_id) s in omega (arith, w.0, w.2, same)
after t e f (g ∷ es) w (inr i) = omega (arith, w.0, w.2, after t g f es w.3 i)

found_at : (t : ℕ) (found : Option Entry) (f : Entry) (es : List Entry) → Tiles es → IsIn f es → Covers f t → last_below t found es ≡ Some f
found_at t found f [] w i c = absurd i
found_at t found f (e ∷ []) w (inl s) c = let same = ap (λ z. z.tile_id) s in last_yes t found e [] (omega (arith, c.0, same)) ∙ ap Some (sym s)
found_at t found f (e ∷ []) w (inr i) c = absurd i
found_at t found f (e ∷ g ∷ es) w (inl s) c =
    let same = ap (λ z. z.tile_id) s in
    let run = ap (λ z. z.run_length) s in
    last_yes t found e (g ∷ es) (omega (arith, c.0, same)) ∙ (behind t (Some e) g es w.3 (omega (arith, c.1, w.2, same, run)) ∙ ap Some (sym s))
found_at t found f (e ∷ g ∷ es) w (inr i) c =
    last_yes t found e (g ∷ es) (omega (arith, c.0, after t e f (g ∷ es) w i)) ∙ found_at t (Some e) f (g ∷ es) w.3 i c

covered : (t : ℕ) (f : Entry) → Covers f t → covers t f ≡ Some f
covered t f c =
    let some : nat_eq f.run_length 0 ≡ false = let h = c.1 in let g = c.0 in grind (arith, nat_tests) in
    let low : nat_lt (t - f.tile_id) f.run_length ≡ true = let h = c.1 in let g = c.0 in grind (arith, nat_tests) in
    rw (some, low) refl

-- an entry gives one range at all ids that it covers
pub gives_range : (t : ℕ) (f : Entry) (fs : List Entry) (bytes : List ℕ) → Tiles fs → IsIn f fs → Covers f t → given fs bytes t ≡ range_of bytes f.offset f.length
unfolding scan
gives_range t f fs bytes w i c = ap (λ o. (o >>= covers t) >>= λ e. range_of bytes e.offset e.length) (found_at t None f fs w i c) ∙ ap (λ o. o >>= λ e. range_of bytes e.offset e.length) (covered t f c)

run_fits : (f : Entry) (fs : List Entry) → Tiles fs → IsIn f fs → f.run_length ≤ longest_run
run_fits f [] w i = absurd i
run_fits f (e ∷ []) w (inl s) = subst (λ z. z.run_length ≤ longest_run) (sym s) w.1
run_fits f (e ∷ []) w (inr i) = absurd i
run_fits f (e ∷ g ∷ es) w (inl s) = subst (λ z. z.run_length ≤ longest_run) (sym s) w.1
run_fits f (e ∷ g ∷ es) w (inr i) = run_fits f (g ∷ es) w.3 i

-- the archive's entries of rising adds: needed, and each begins at a tile
pub archive_needed : (adds : List (ℕ × List ℕ)) → RisingAdds adds → Needed (tile_in adds) (entries_of_adds adds)
archive_needed adds r =
    let n = needed_entries (tile_in adds) (place_in (contents_from [] adds)) (blocks adds) (parted adds r) in
    subst (Needed (tile_in adds)) (sym (sorted_already (tile_in adds) _ n)) n

pub archive_begins : (adds : List (ℕ × List ℕ)) (e : Entry) → RisingAdds adds → IsIn e (entries_of_adds adds) → (x : List ℕ) × (tile_in adds e.tile_id ≡ Some x)
archive_begins adds e r i =
    let n = needed_entries (tile_in adds) (place_in (contents_from [] adds)) (blocks adds) (parted adds r) in
    begins (tile_in adds) (place_in (contents_from [] adds)) (blocks adds) e (parted adds r) (subst (IsIn e) (sorted_already (tile_in adds) _ n) i)

one_of_two : (adds : List (ℕ × List ℕ)) (fs : List Entry) (bytes : List ℕ) → RisingAdds adds → Tiles fs → Gives fs bytes (tile_in adds)
    → (f d e : Entry) → IsIn f fs → IsIn d (entries_of_adds adds) → IsIn e (entries_of_adds adds) → Covers f d.tile_id → Covers f e.tile_id → d.tile_id < e.tile_id → ⊥
one_of_two adds fs bytes r w g f d e i j k c b h =
    let x = archive_begins adds e r k in
    let s = tile_some adds e.tile_id x.0 r x.1 in
    let whole : range_of bytes f.offset f.length ≡ Some x.0 = sym (gives_range e.tile_id f fs bytes w i b) ∙ (g e.tile_id x.0 s.1 s.0).0 x.1 in
    let same : SameFrom (tile_in adds) d.tile_id e.tile_id = λ t p q. (g t x.0 (omega (arith, q, s.1)) s.0).1 (gives_range t f fs bytes w i (omega (arith, c.0, p), omega (arith, q, b.1)) ∙ whole) ∙ sym x.1 in
    one_beginning (tile_in adds) (entries_of_adds adds) d e (archive_needed adds r) j k h same (omega (arith, c.0, b.1, run_fits f fs w i))

pub one_each : (adds : List (ℕ × List ℕ)) (fs : List Entry) (bytes : List ℕ) → RisingAdds adds → Tiles fs → Gives fs bytes (tile_in adds)
    → (f d e : Entry) → IsIn f fs → IsIn d (entries_of_adds adds) → IsIn e (entries_of_adds adds) → Covers f d.tile_id → Covers f e.tile_id → d.tile_id ≡ e.tile_id
one_each adds fs bytes r w g f d e i j k c b =
    elim (three d.tile_id e.tile_id) [
      | inl h ↦ absurd (one_of_two adds fs bytes r w g f d e i j k c b h)
      | inr (inl h) ↦ absurd (one_of_two adds fs bytes r w g f e d i k j b c h)
      | inr (inr h) ↦ h
    ]
  where
    three : (m n : ℕ) → (m < n) ⊎ ((n < m) ⊎ (m ≡ n))
    three m n = grind arith
