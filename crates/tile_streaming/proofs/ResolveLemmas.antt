-- The marks of a set that is converted, and what is due of a base and its patches.
use Rattle.tile_streaming.proofs.Common.{address, ap, append-nil, append_assoc, arith, Bool, bytes_of, bytes_over, bytes_told, Cell, cell_bytes, ConvertError, cond, Coord, coord_address, entries, Err, false, false≢true, HasBytes, id_of, IfErr, IfSome, is_some, IsCoord, IsDue, IsHeld, IsHeldOf, IsPermutation, IsPermutation-refl, IsRefused, length, List, map, Mark, MarkedSet, mark_of, MbtType, nat_eq, nat_tests, None, not, Ok, Option}
use Rattle.tile_streaming.proofs.Common.{Place, PatchedSet, place_at, refl, Result, Rose, RoseAt, Some, State, state_of, Stored, stored_in, subst, suc, sym, Tables, take, TileSet, true, zero, ℕ, [], ◌&&◌, ◌++◌, ◌+◌, ◌<◌, ◌∙◌, ◌∷◌, ◌≡◌, ◌≤◌}
use Rattle.mb_lists.specs.Entries.{blob_cell}
use Rattle.set_options.proofs.SetNameLemmas.{mapped_more}
use Rattle.std.proofs.Common.{IsErrAnd}
use Rattle.std.proofs.lemmas.List.Folds.{list_all-map}
use Rattle.std.specs.List.{list_all}
use Rattle.std.specs.Prelude.{slice_get}
use Rattle.tile_bridge.proofs.FoldLemmas.{refuses_on}
use Rattle.tile_bridge.specs.Outcome.{all_patched, at_place, then}
use Rattle.tile_bridge.specs.Stores.{due_at, due_patches, Refuses}
use Rattle.tile_streaming.proofs.PatchLemmas.{error_as}
use Rattle.tile_streaming.specs.Contents.{content_mark}
use Rattle.tile_streaming.specs.Marks.{mark_with}
use Rattle.tile_streaming.specs.Patching.{if_told}
use Rattle.tile_streaming.specs.Streaming.{begun_due}
use Rattle.tile_streaming.specs.declared.mark.ContentMark.{ContentMark}

-- the bytes of a tile that is held
held_cell : (c : Option (List ℕ)) → cell_bytes (blob_cell c) ≡ bytes_of c
held_cell None = refl
held_cell (Some bytes) = refl

-- the mark of a tile that is held
pub held_mark_is : (o : Option (Place × Option (List ℕ))) (coord : Coord) (cell : Cell) (bytes : List ℕ) (k : ContentMark) (m : Mark) → IfSome o (λ e. (e.0 ≡ place_at coord) × (blob_cell e.1 ≡ cell)) → IsCoord coord → bytes ≡ cell_bytes cell → k ≡ content_mark bytes
    → m ≡ record { id = id_of coord; digest = k.digest; length = k.length; is_long = k.is_long; gzip = k.gzip } → IfSome o (λ e. m ≡ mark_of e)
held_mark_is None coord cell bytes k m at is read marked made = tt
held_mark_is (Some e) coord cell bytes k m at is read marked made =
    let own : bytes ≡ bytes_of e.1 = read ∙ (ap cell_bytes (sym at.1) ∙ held_cell e.1) in
    let id : id_of coord ≡ address e.0 = sym (coord_address coord is) ∙ ap address (sym at.0) in
    made
    ∙ ap (λ (k : ContentMark). record { id = id_of coord; digest = k.digest; length = k.length; is_long = k.is_long; gzip = k.gzip }) marked
    ∙ (λ i. mark_with (id i) (own i))

-- one mark more
pub held_more : {A B : Type 0} (f : A → B) (pre : List B) (es : List A) (i : ℕ) (d : A) (old : List B) (x : B) → i < length es → IfSome (slice_get es i) (λ e. x ≡ f e) → old ≡ pre ++ map f (take i es) → old ++ x ∷ [] ≡ pre ++ map f (take (i + 1) es)
held_more f pre es i d old x far here before =
    ap (λ l. l ++ x ∷ []) before ∙ append_assoc pre (map f (take i es)) (x ∷ []) ∙ ap (λ l. pre ++ l) (mapped_more f es i d (map f (take i es)) x far here refl)

-- none more
pub none_more : (xs : List Mark) (es : List (Place × Option (List ℕ))) → length es ≡ 0 → IsPermutation (xs ++ map mark_of es) xs
none_more xs [] none = subst (λ l. IsPermutation l xs) (sym (append-nil xs)) (IsPermutation-refl xs)
none_more xs (e ∷ es) none = absurd (omega (arith, none))

-- the bytes of a set once all marks are together
pub has_settled : (p : PatchedSet) (over : TileSet) (layout : MbtType) (told : Tables) (tiles : TileSet) → p.over.state.tiles ≡ over → p.marked.layout ≡ layout → HasBytes (bytes_over over (bytes_told layout told)) tiles → HasBytes (stored_in p told) tiles
has_settled p over layout told tiles same alike has = subst (λ (m : TileSet). HasBytes (bytes_over m (bytes_told p.marked.layout told)) tiles) (sym same) (subst (λ (l : MbtType). HasBytes (bytes_over over (bytes_told l told)) tiles) (sym alike) has)

-- the marks are those of some state
pub any_held : (begun : Option (Result State ConvertError)) (tells : Bool) (t : Stored) (m : MarkedSet) → IsHeldOf begun tells t m → IsHeld tells t m
any_held begun tells t m from = record { state = from.state; is_due = tt; told = λ h. absurd (false≢true h); held = from.held; has = from.has }

module _ {S P : Type 0} (tells : S → Bool) (told : S → Tables) (patch_tells : P → Bool) (patch_told : P → Tables) (base : S) (patches : List P) (force : Bool) where
  abbrev begun : Option (Result State ConvertError)
  begun = begun_due tells told patch_tells patch_told base patches force

  -- where something is due the base tells
  pub begun_told : is_some begun ≡ true → tells base ≡ true
  begun_told h = by (tells base) (list_all patch_tells patches) h
    where
      by : (a b : Bool) → is_some (cond (a && b) (Some (then (at_place 0 (state_of (told base))) (λ s. all_patched force 1 s (map patch_told patches)))) None) ≡ true → a ≡ true
      by true b k = refl
      by false b k = absurd (false≢true k)

  -- a base that is refused
  pub base_refused : {A : Type 0} (e : ConvertError) (r : Result A ConvertError) → Refuses (due_at 0 (tells base) (told base)) e → IsErrAnd r (λ x. x ≡ e) → IfErr r (Refuses begun)
  base_refused e r h is = error_as (Refuses begun) e r (refuses_on (due_at 0 (tells base) (told base)) begun e (λ x refused. by (tells base) (list_all patch_tells patches) x refused) h) is
    where
      by : (a b : Bool) (x : ConvertError) → IsRefused (cond a (Some (at_place 0 (state_of (told base)))) None) x → IsRefused (cond (a && b) (Some (then (at_place 0 (state_of (told base))) (λ s. all_patched force 1 s (map patch_told patches)))) None) x
      by true true x refused = ap (λ r. then r (λ s. all_patched force 1 s (map patch_told patches))) refused
      by true false x refused = tt
      by false b x refused = tt

  module _ (s : State) (is : tells base ≡ true → state_of (told base) ≡ Ok s) where
    abbrev patches_due : Option (Result State ConvertError)
    patches_due = due_patches force 1 s (map patch_tells patches) (map patch_told patches)

    -- what is due of the patches is due of all
    from_patches : (Q : Result State ConvertError → Type 0) → IfSome patches_due Q → IfSome begun Q
    from_patches Q h = by (tells base) (list_all patch_tells patches) refl refl
      where
        by : (a b : Bool) → tells base ≡ a → list_all patch_tells patches ≡ b → IfSome (cond (a && b) (Some (then (at_place 0 (state_of (told base))) (λ s. all_patched force 1 s (map patch_told patches)))) None) Q
        by false b e f = tt
        by true false e f = tt
        by true true e f =
            let all : list_all (λ t. t) (map patch_tells patches) ≡ true = list_all-map (λ t. t) patch_tells patches ∙ f in
            let there : Q (all_patched force 1 s (map patch_told patches)) = subst (λ b. IfSome (cond b (Some (all_patched force 1 s (map patch_told patches))) None) Q) all h in
            subst Q (sym (ap (λ r. then (at_place 0 r) (λ s. all_patched force 1 s (map patch_told patches))) (is e))) there

    pub begun_is : (next : State) → IsDue patches_due next → IsDue begun next
    begun_is next due = from_patches (λ d. d ≡ Ok next) due

    -- where the base tells nothing, nothing is due of all
    from_told : (b : Bool) → tells base ≡ b → (x : ConvertError) → IsRefused (if_told b patches_due) x → IsRefused begun x
    from_told true e x refused = from_patches (λ d. d ≡ Err x) refused
    from_told false e x refused = subst (λ b. IfSome (cond (b && list_all patch_tells patches) (Some (then (at_place 0 (state_of (told base))) (λ s. all_patched force 1 s (map patch_told patches)))) None) (λ d. d ≡ Err x)) (sym e) tt

    pub patches_refused : {A : Type 0} (e : ConvertError) (r : Result A ConvertError) → Refuses (if_told (tells base) patches_due) e → IsErrAnd r (λ x. x ≡ e) → IfErr r (Refuses begun)
    patches_refused e r h is = error_as (Refuses begun) e r (refuses_on (if_told (tells base) patches_due) begun e (from_told (tells base) refl) h) is

-- a count of the base that rose later
pub rose_behind : (place a b c : ℕ) (xs ys : List ℕ) → a ≤ b → RoseAt place (b ∷ []) (c ∷ []) → RoseAt place (a ∷ xs) (c ∷ ys)
rose_behind zero a b c xs ys order rose = omega (arith, order, rose)
rose_behind (suc place) a b c xs ys order rose = absurd (omega (arith, rose))

-- without patches none rose but that of the base
pub rose_alone : {P : Type 0} (failed : P → ℕ) (place a b : ℕ) (xs ys : List P) → xs ≡ [] → ys ≡ [] → RoseAt place (a ∷ map failed xs) (b ∷ map failed ys) → RoseAt place (a ∷ []) (b ∷ [])
rose_alone failed place a b xs ys old now rose = subst (λ l. RoseAt place (a ∷ []) (b ∷ map failed l)) now (subst (λ l. RoseAt place (a ∷ map failed l) (b ∷ map failed ys)) old rose)

pub none_left : {P : Type 0} (xs : List P) → length xs ≡ 0 → xs ≡ []
none_left [] h = refl
none_left (x ∷ xs) h = absurd (omega (arith, h))
