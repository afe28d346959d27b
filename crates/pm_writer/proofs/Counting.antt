-- As many entries at least.
use Rattle.pm_writer.proofs.Common.{ap, arith, Bool, Covers, covers, entries_of_adds, Entry, false, given, Gives, inl, inr, IsIn, last_below, length, List, nat_eq, nat_lt, nat_tests, None, Option}
use Rattle.pm_writer.proofs.Common.{range_of, refl, RisingAdds, scan, Some, subst, sym, tile_in, Tiles, true, ℕ, [], ◌+◌, ◌-◌, ◌<◌, ◌>>=◌, ◌∙◌, ◌∷◌, ◌≡◌, ◌≤◌}
use Rattle.pm_writer.proofs.Cuts.{Needed, needed_rest, needed_first}
use Rattle.pm_writer.proofs.Parted.{tile_some}
use Rattle.pm_writer.proofs.Giving.{archive_needed, archive_begins, one_each, tiles_rest}
use Rattle.pm_writer.proofs.Found.{last_in}

past : (f g : Entry) (fs : List Entry) → Tiles (f ∷ fs) → IsIn g fs → f.tile_id + f.run_length ≤ g.tile_id
past f g [] w i = absurd i
past f g (h ∷ fs) w (inl s) = let same = ap (λ z. z.tile_id) s in omega (arith, w.2, same)
past f g (h ∷ fs) w (inr i) = omega (arith, w.2, past h g fs w.3 i)

pub count : (map : ℕ → Option (List ℕ)) (fs es : List Entry) → Needed map es → Tiles fs → ((e : Entry) → IsIn e es → (f : Entry) × IsIn f fs × Covers f e.tile_id)
    → ((f d e : Entry) → IsIn f fs → IsIn d es → IsIn e es → Covers f d.tile_id → Covers f e.tile_id → d.tile_id ≡ e.tile_id) → length es ≤ length fs
count map fs [] n w all one = omega arith
count map [] (e ∷ es) n w all one = absurd ((all e (inl refl)).1)
count map (f ∷ fs) (e ∷ es) n w all one =
    let again = count map fs es (needed_rest map e es n) (tiles_rest f fs w) left (λ g d k i j l. one g d k (inr i) (inr j) (inr l)) in
    omega (arith, again)
  where
    other : (d g : Entry) → IsIn d es → Covers f d.tile_id → IsIn g (f ∷ fs) → Covers g e.tile_id → ⊥
    other d g j c (inl s) b =
        let same = one f d e (inl refl) (inr j) (inl refl) c (subst (λ z. Covers z e.tile_id) s b) in
        omega (arith, same, needed_first map e d es n j)
    other d g j c (inr i) b = omega (arith, past f g fs w i, c.1, b.0, needed_first map e d es n j)

    choose : (d g : Entry) → IsIn d es → IsIn g (f ∷ fs) → Covers g d.tile_id → (k : Entry) × IsIn k fs × Covers k d.tile_id
    choose d g j (inr i) c = (g, i, c)
    choose d g j (inl s) c = let a = all e (inl refl) in absurd (other d a.0 j (subst (λ z. Covers z d.tile_id) s c) a.1 a.2)

    left : (d : Entry) → IsIn d es → (k : Entry) × IsIn k fs × Covers k d.tile_id
    left d j = let a = all d (inr j) in choose d a.0 j a.1 a.2

-- what a look-up finds is an entry that covers the id
tile_runs : (f : Entry) (fs : List Entry) → Tiles fs → IsIn f fs → 1 ≤ f.run_length
tile_runs f [] w i = absurd i
tile_runs f (e ∷ []) w (inl s) = subst (λ z. 1 ≤ z.run_length) (sym s) w.0
tile_runs f (e ∷ []) w (inr i) = absurd i
tile_runs f (e ∷ g ∷ es) w (inl s) = subst (λ z. 1 ≤ z.run_length) (sym s) w.0
tile_runs f (e ∷ g ∷ es) w (inr i) = tile_runs f (g ∷ es) w.3 i

covers_only : (t : ℕ) (f g : Entry) → 1 ≤ f.run_length → f.tile_id ≤ t → covers t f ≡ Some g → t < f.tile_id + f.run_length
covers_only t f g pos le h = go (nat_lt (t - f.tile_id) f.run_length) refl
  where
    go : (b : Bool) → nat_lt (t - f.tile_id) f.run_length ≡ b → t < f.tile_id + f.run_length
    go true e = let l : t - f.tile_id < f.run_length = grind (arith, nat_tests) in omega (arith, l, le)
    go false e =
        let some : nat_eq f.run_length 0 ≡ false = grind (arith, nat_tests) in
        let q : covers t f ≡ None = rw (some, e) refl in
        absurd (cc)

found_covers : (fs : List Entry) (bytes : List ℕ) (t : ℕ) (x : List ℕ) → Tiles fs → given fs bytes t ≡ Some x → (f : Entry) × IsIn f fs × Covers f t
unfolding scan
found_covers fs bytes t x w h = go (last_below t None fs) refl
  where
    go : (o : Option Entry) → last_below t None fs ≡ o → (f : Entry) × IsIn f fs × Covers f t
    go None e = let q : given fs bytes t ≡ None = ap (λ o. (o >>= covers t) >>= λ e. range_of bytes e.offset e.length) e in absurd (cc)
    go (Some f) e = elim (last_in t None fs f e) [
      | inl s ↦ absurd (cc)
      | inr r ↦ here f r.0 r.1 (covers t f) refl (sym (ap (λ o. (o >>= covers t) >>= λ e. range_of bytes e.offset e.length) e) ∙ h)
    ]
      where
        here : (f : Entry) → IsIn f fs → f.tile_id ≤ t → (o : Option Entry) → covers t f ≡ o → (covers t f >>= λ e. range_of bytes e.offset e.length) ≡ Some x → (f : Entry) × IsIn f fs × Covers f t
        here f i le None e g = let q : (covers t f >>= λ e. range_of bytes e.offset e.length) ≡ None = ap (λ o. o >>= λ e. range_of bytes e.offset e.length) e in absurd (cc)
        here f i le (Some k) e g = (f, i, (le, covers_only t f k (tile_runs f fs w i) le e))

pub no_less : (adds : List (ℕ × List ℕ)) (fs : List Entry) (bytes : List ℕ) → RisingAdds adds → Tiles fs → Gives fs bytes (tile_in adds) → length (entries_of_adds adds) ≤ length fs
no_less adds fs bytes r w g =
    count (tile_in adds) fs (entries_of_adds adds) (archive_needed adds r) w
    (λ e i. let x = archive_begins adds e r i in let s = tile_some adds e.tile_id x.0 r x.1 in found_covers fs bytes e.tile_id x.0 w ((g e.tile_id x.0 s.1 s.0).0 x.1))
    (λ f d e i j k b c. one_each adds fs bytes r w g f d e i j k b c)
