-- What look-ups end at, by a walk that isn't refused.
use Rattle.pm_walk.proofs.Common.{and_parts, ap, append-nil, Archive, arith, below, Bool, cases_lt, Entry, entry_from, entry_walk, Err, Extent, false, fits_depth, Header, if◌then◌else◌, in_intervals}
use Rattle.pm_walk.proofs.Common.{inl, inr, is_below, is_met, is_zero, leaf_of, leaf_walk, lies_in, List, meets, meets_any, meets_one, nat_eq, nat_le, nat_lt, nat_tests, None, none-some, not, Ok}
use Rattle.pm_walk.proofs.Common.{Option, PmtError, refl, Result, Some, suc, sym, true, walk_each, Walked, walked, Whole, Within, zero, ℕ, [], ◌&&◌, ◌-◌, ◌<◌, ◌>>=◌, ◌||◌, ◌∙◌, ◌∷◌, ◌≡◌, ◌≤◌, ◌⊎◌}
use Rattle.pm_format.specs.Scan.{covers, last_below, scan}
use Rattle.pm_format.proofs.LookUpLemmas.{reached_leaf, reached_none, reached_tile}
use Rattle.pm_walk.proofs.OrderLemmas.{IsOrderly, first_ordered, orderly, unrefused}
use Rattle.pm_walk.proofs.CoveringLemmas.{covering, covering_before, covering_behind, covers_here, covers_later, has_id, none_above, none_below}
use Rattle.pm_walk.proofs.TestingLemmas.{tile_stands}
use Rattle.pm_walk.proofs.WalkingLemmas.{met_goes, tile_goes, walked_is}

-- entries behind one that begins behind an id begin behind it too
stays_last : (t left : ℕ) (f : Entry → Option ℕ → Walked) (d : Entry) (low : ℕ) (limit : Option ℕ) (es : List Entry) (found : Option Entry) → t < d.tile_id → (walk_each left f (Some d) low limit es).refusal ≡ None → last_below t found es ≡ found
stays_last t left f d low limit [] found less fine = refl
stays_last t left f d low limit (e ∷ es) found less fine =
    let u = unrefused left f (Some d) low limit e es fine in
    let more : t < e.tile_id = let r = u.stood.rises in grind (arith, nat_tests) in
    let no : nat_le e.tile_id t ≡ false = grind (arith, nat_tests) in
    ap (λ b. last_below t (if b then Some e else found) es) no ∙ stays_last t left f e low limit es found more u.rest

-- what a directory's look-up finds: nothing before its first entry, that one before the next, or what the rest finds
scan_before : (t left : ℕ) (f : Entry → Option ℕ → Walked) (before : Option Entry) (low : ℕ) (limit : Option ℕ) (e : Entry) (es : List Entry) → t < e.tile_id → (walk_each left f before low limit (e ∷ es)).refusal ≡ None → scan (e ∷ es) t ≡ None
unfolding scan
scan_before t left f before low limit e es less fine =
    let u = unrefused left f before low limit e es fine in
    let no : nat_le e.tile_id t ≡ false = grind (arith, nat_tests) in
    ap (λ b. last_below t (if b then Some e else None) es >>= covers t) no ∙ ap (λ o. o >>= covers t) (stays_last t left f e low limit es None less u.rest)

scan_only : (t : ℕ) (e : Entry) → e.tile_id ≤ t → scan (e ∷ []) t ≡ covers t e
unfolding scan
scan_only t e le =
    let yes : nat_le e.tile_id t ≡ true = grind (arith, nat_tests) in
    ap (λ b. last_below t (if b then Some e else None) [] >>= covers t) yes

scan_first : (t left : ℕ) (f : Entry → Option ℕ → Walked) (before : Option Entry) (low : ℕ) (limit : Option ℕ) (e d : Entry) (es : List Entry) → e.tile_id ≤ t → t < d.tile_id → (walk_each left f before low limit (d ∷ es)).refusal ≡ None → scan (e ∷ d ∷ es) t ≡ covers t e
unfolding scan
scan_first t left f before low limit e d es le less fine =
    let u = unrefused left f before low limit d es fine in
    let yes : nat_le e.tile_id t ≡ true = grind (arith, nat_tests) in
    let no : nat_le d.tile_id t ≡ false = grind (arith, nat_tests) in
    ap (λ b. last_below t (if b then Some e else None) (d ∷ es) >>= covers t) yes
    ∙ ap (λ b. last_below t (if b then Some d else Some e) es >>= covers t) no
    ∙ ap (λ o. o >>= covers t) (stays_last t left f d low limit es (Some e) less u.rest)

scan_later : (t : ℕ) (e d : Entry) (es : List Entry) → d.tile_id ≤ t → scan (e ∷ d ∷ es) t ≡ scan (d ∷ es) t
unfolding scan
scan_later t e d es le =
    let yes : nat_le d.tile_id t ≡ true = grind (arith, nat_tests) in
    ap (λ b. last_below t (if b then Some d else (if nat_le e.tile_id t then Some e else None)) es >>= covers t) yes
    ∙ sym (ap (λ b. last_below t (if b then Some d else None) es >>= covers t) yes)

-- a look-up that comes to an entry ends at what its walk has for the id
abbrev pub Looks : ℕ → Header → List ℕ → ℕ → (Entry → Option ℕ → Walked) → Type 0
Looks n h b t f = (e : Entry) (end : Option ℕ) → fits_depth n e ≡ true → (f e end).refusal ≡ None → e.tile_id ≤ t → is_below end t ≡ true → entry_from n h b t (covers t e) ≡ Ok (covering t (f e end).entries)

nothing_scanned : (t : ℕ) → scan [] t ≡ None
unfolding scan
nothing_scanned t = refl

found_none : (n : ℕ) (h : Header) (b : List ℕ) (t : ℕ) → entry_from n h b t None ≡ Ok None
found_none n h b t = ap (λ r. r.entry) (reached_none n h b t)

pub each_looked : (n : ℕ) (h : Header) (b : List ℕ) (t : ℕ) (f : Entry → Option ℕ → Walked) → IsOrderly f → Looks n h b t f → (before : Option Entry) (low : ℕ) (limit : Option ℕ) (es : List Entry)
    → (walk_each n f before low limit es).refusal ≡ None → is_below limit t ≡ true → entry_from n h b t (scan es t) ≡ Ok (covering t (walk_each n f before low limit es).entries)
each_looked n h b t f good looks before low limit [] fine within = ap (entry_from n h b t) (nothing_scanned t) ∙ found_none n h b t
each_looked n h b t f good looks before low limit (e ∷ []) fine within =
    let u = unrefused n f before low limit e [] fine in
    elim (cases_lt t e.tile_id) [
      | inl less ↦ ap (entry_from n h b t) (scan_before t n f before low limit e [] less fine) ∙ found_none n h b t
          ∙ ap (λ o. Ok o) (sym (none_below t e.tile_id (walk_each n f before low limit (e ∷ [])).entries limit (first_ordered n f good before low limit e [] fine) less))
      | inr le ↦ ap (entry_from n h b t) (scan_only t e le) ∙ looks e limit u.stood.depth u.first le within ∙ ap (λ l. Ok (covering t l)) (sym (append-nil (f e limit).entries) ∙ sym u.entries)
    ]
each_looked n h b t f good looks before low limit (e ∷ d ∷ es) fine within =
    let u = unrefused n f before low limit e (d ∷ es) fine in
    let next : List Entry = (walk_each n f (Some e) low limit (d ∷ es)).entries in
    elim (cases_lt t e.tile_id) [
      | inl less ↦ ap (entry_from n h b t) (scan_before t n f before low limit e (d ∷ es) less fine) ∙ found_none n h b t
          ∙ ap (λ o. Ok o) (sym (none_below t e.tile_id (walk_each n f before low limit (e ∷ d ∷ es)).entries limit (first_ordered n f good before low limit e (d ∷ es) fine) less))
      | inr le ↦ elim (cases_lt t d.tile_id) [
        | inl less ↦
            let below_next : is_below (Some d.tile_id) t ≡ true = grind (arith, nat_tests) in
            ap (entry_from n h b t) (scan_first t n f (Some e) low limit e d es le less u.rest) ∙ looks e (Some d.tile_id) u.stood.depth u.first le below_next
            ∙ ap (λ o. Ok o) (sym (covering_before t (f e (Some d.tile_id)).entries next (none_below t d.tile_id next limit (first_ordered n f good (Some e) low limit d es u.rest) less)) ∙ ap (covering t) (sym u.entries))
        | inr more ↦ ap (entry_from n h b t) (scan_later t e d es more) ∙ each_looked n h b t f good looks (Some e) low limit (d ∷ es) u.rest within
            ∙ ap (λ o. Ok o) (sym (covering_behind t (f e (Some d.tile_id)).entries next (none_above t e.tile_id d.tile_id (f e (Some d.tile_id)).entries (good e (Some d.tile_id) u.stood.ends u.first) more)) ∙ ap (covering t) (sym u.entries))
      ]
    ]

or_true : (x : Bool) → (x || true) ≡ true
or_true true = refl
or_true false = refl

-- an interval that has an id meets the range of an entry that has it
met_any : (first : ℕ) (end : Option ℕ) (is : List (ℕ × ℕ)) (t : ℕ) → in_intervals t is ≡ true → first ≤ t → is_below end t ≡ true → meets_any first end is ≡ true
met_any first end [] t lies le within = lies
met_any first end (i ∷ is) t lies le within = by_test (lies_in t i) refl (λ n. met_any first end is t n le within) lies
  where
    below_end : (end : Option ℕ) → i.0 ≤ t → is_below end t ≡ true → is_below end i.0 ≡ true
    below_end None at w = refl
    below_end (Some m) at w = grind (arith, nat_tests)

    by_test : (b : Bool) → lies_in t i ≡ b → (in_intervals t is ≡ true → meets_any first end is ≡ true) → (b || in_intervals t is) ≡ true → (meets_one first end i || meets_any first end is) ≡ true
    by_test true at rest lies =
        let bounds = and_parts (nat_le i.0 t) (nat_le t i.1) at in
        let a : nat_le first i.1 ≡ true = grind (arith, nat_tests) in
        let low : i.0 ≤ t = grind (arith, nat_tests) in
        let c : is_below end i.0 ≡ true = below_end end low within in
        ap (λ x. (x && is_below end i.0) || meets_any first end is) a ∙ ap (λ x. x || meets_any first end is) c
    by_test false at rest lies = ap (λ x. meets_one first end i || x) (rest lies) ∙ or_true (meets_one first end i)

-- an id that the walk of an extent is to come to
abbrev pub IsSought : Extent → List (ℕ × ℕ) → ℕ → Type 0
IsSought Within is t = in_intervals t is ≡ true
IsSought Whole is t = Unit {0}

met_by : (first : ℕ) (end : Option ℕ) (is : List (ℕ × ℕ)) (t : ℕ) → in_intervals t is ≡ true → first ≤ t → is_below end t ≡ true → is_met is first end ≡ true
met_by first end is t lies le within =
    let a : is_below end first ≡ true = starts end le within in
    ap (λ x. x && meets_any first end is) a ∙ met_any first end is t lies le within
  where
    starts : (end : Option ℕ) → first ≤ t → is_below end t ≡ true → is_below end first ≡ true
    starts None at w = refl
    starts (Some m) at w = grind (arith, nat_tests)

met_where : (ext : Extent) (first : ℕ) (end : Option ℕ) (is : List (ℕ × ℕ)) (t : ℕ) → IsSought ext is t → first ≤ t → is_below end t ≡ true → meets ext is first end ≡ true
met_where Within first end is t lies le within = met_by first end is t lies le within
met_where Whole first end is t lies le within = refl

-- a tile entry, looked up
tile_looked : (n : ℕ) (h : Header) (b : List ℕ) (t : ℕ) (e : Entry) → nat_eq e.run_length 0 ≡ false → e.tile_id ≤ t → entry_from n h b t (covers t e) ≡ Ok (covering t (e ∷ []))
tile_looked n h b t e tile le = by_test (nat_lt (t - e.tile_id) e.run_length) refl
  where
    found : (b : Bool) → nat_lt (t - e.tile_id) e.run_length ≡ b → covers t e ≡ (if b then Some e else None)
    found b is = ap (λ x. if x then Some e else (if nat_lt (t - e.tile_id) e.run_length then Some e else None)) tile ∙ ap (λ x. if x then Some e else None) is

    by_test : (x : Bool) → nat_lt (t - e.tile_id) e.run_length ≡ x → entry_from n h b t (covers t e) ≡ Ok (covering t (e ∷ []))
    by_test true is =
        let here : has_id t e ≡ true = grind (arith, nat_tests) in
        ap (entry_from n h b t) (found true is) ∙ ap (λ r. r.entry) (reached_tile n h b t e tile) ∙ ap (λ o. Ok o) (sym (covers_here t e [] here))
    by_test false is =
        let not_here : has_id t e ≡ false = grind (arith, nat_tests) in
        ap (entry_from n h b t) (found false is) ∙ found_none n h b t ∙ ap (λ o. Ok o) (sym (covers_later t e [] not_here))

leaf_found : (t : ℕ) (e : Entry) → nat_eq e.run_length 0 ≡ true → covers t e ≡ Some e
leaf_found t e leaf = ap (λ x. if x then Some e else (if nat_lt (t - e.tile_id) e.run_length then Some e else None)) leaf

tile_at : (ext : Extent) (n : ℕ) (h : Header) (b : List ℕ) (is : List (ℕ × ℕ)) (t : ℕ) (e : Entry) (end : Option ℕ) → nat_eq e.run_length 0 ≡ false → e.tile_id ≤ t → (entry_walk ext (below ext n h b is) h b is e end).refusal ≡ None
    → entry_from n h b t (covers t e) ≡ Ok (covering t (entry_walk ext (below ext n h b is) h b is e end).entries)
tile_at ext n h b is t e end run le fine =
    let goes = tile_goes ext h b is n e end run in
    let s = tile_stands ext h b e (sym (ap (λ w. w.refusal) goes) ∙ fine) in
    tile_looked n h b t e run le ∙ ap (λ l. Ok (covering t l)) (sym s.1) ∙ ap (λ w. Ok (covering t w.entries)) (sym goes)

-- the last level, and one with others below it
last_looks : (ext : Extent) (h : Header) (b : List ℕ) (is : List (ℕ × ℕ)) (t : ℕ) → Looks zero h b t (entry_walk ext None h b is)
last_looks ext h b is t e end depth fine le within = by_run (nat_eq e.run_length 0) refl
  where
    by_run : (x : Bool) → nat_eq e.run_length 0 ≡ x → entry_from zero h b t (covers t e) ≡ Ok (covering t (entry_walk ext None h b is e end).entries)
    by_run false run = tile_at ext zero h b is t e end run le fine
    by_run true run =
        let no : false ≡ true = sym (ap (λ x. if x then not (nat_eq zero 0) else true) run) ∙ depth in
        absurd (cc)

more_looks : (ext : Extent) (n : ℕ) (h : Header) (b : List ℕ) (is : List (ℕ × ℕ)) (t : ℕ) → IsSought ext is t
    → ((low : ℕ) (limit : Option ℕ) (es : List Entry) → (walked ext n h b is low limit es).refusal ≡ None → is_below limit t ≡ true → entry_from n h b t (scan es t) ≡ Ok (covering t (walked ext n h b is low limit es).entries))
    → Looks (suc n) h b t (entry_walk ext (Some (walked ext n h b is)) h b is)
more_looks ext n h b is t lies deeper e end depth fine le within = by_run (nat_eq e.run_length 0) refl
  where
    by_leaf : (l : Result (List Entry) PmtError) → leaf_of h b e ≡ l → nat_eq e.run_length 0 ≡ true → (leaf_walk (walked ext n h b is e.tile_id end) l).refusal ≡ None → entry_from (suc n) h b t (Some e) ≡ Ok (covering t (leaf_walk (walked ext n h b is e.tile_id end) l).entries)
    by_leaf (Err x) at run fine = absurd (none-some (Archive x) (sym fine))
    by_leaf (Ok leaf) at run fine = ap (λ r. r.entry) (reached_leaf n h b t e (Ok leaf) run at) ∙ deeper e.tile_id end leaf fine within

    by_run : (x : Bool) → nat_eq e.run_length 0 ≡ x → entry_from (suc n) h b t (covers t e) ≡ Ok (covering t (entry_walk ext (Some (walked ext n h b is)) h b is e end).entries)
    by_run false run = tile_at ext (suc n) h b is t e end run le fine
    by_run true run =
        let whole = met_goes ext h b is n e end (is_zero e.run_length run) (met_where ext e.tile_id end is t lies le within) in
        ap (entry_from (suc n) h b t) (leaf_found t e run)
        ∙ by_leaf (leaf_of h b e) refl run (sym (ap (λ w. w.refusal) whole) ∙ fine)
        ∙ ap (λ w. Ok (covering t w.entries)) (sym whole)

-- a look-up of an id in the intervals ends at the tile entry of the walk that has it
pub walked_looked : (ext : Extent) (n : ℕ) (h : Header) (b : List ℕ) (is : List (ℕ × ℕ)) (t : ℕ) → IsSought ext is t → (low : ℕ) (limit : Option ℕ) (es : List Entry)
    → (walked ext n h b is low limit es).refusal ≡ None → is_below limit t ≡ true → entry_from n h b t (scan es t) ≡ Ok (covering t (walked ext n h b is low limit es).entries)
walked_looked ext zero h b is t lies low limit es fine within =
    let same = walked_is ext zero h b is low limit es in
    each_looked zero h b t (entry_walk ext None h b is) (orderly ext zero h b is) (last_looks ext h b is t) None low limit es (sym (ap (λ w. w.refusal) same) ∙ fine) within ∙ ap (λ w. Ok (covering t w.entries)) (sym same)
walked_looked ext (suc n) h b is t lies low limit es fine within =
    let same = walked_is ext (suc n) h b is low limit es in
    each_looked (suc n) h b t (entry_walk ext (Some (walked ext n h b is)) h b is) (orderly ext (suc n) h b is) (more_looks ext n h b is t lies (walked_looked ext n h b is t lies)) None low limit es (sym (ap (λ w. w.refusal) same) ∙ fine) within
    ∙ ap (λ w. Ok (covering t w.entries)) (sym same)
