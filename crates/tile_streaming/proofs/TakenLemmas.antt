-- Which contents of a patch are taken, by the digests of those that may collide and of those that no tile names.
use Rattle.tile_streaming.proofs.Common.{ap, append-nil, arith, Bool, Cell, cond, cons_option, entries, eq_by_cmp, eq_by_cmp_equiv, false, filter, find, get_or, Has, HashAlgorithm, IfSome, inl, inr, length, List, list_any, map, MbtType, None, none-some, not, Ok, Option, option_map, Place, ReadsOnly, refl, same_Some, Some, subst, suc, sym, Tables, take, TileSet, is_normalized, true, zero, ℕ, [], ◌+◌, ◌++◌, ◌&&◌, ◌<◌, ◌||◌, ◌∙◌, ◌∷◌, ◌≡◌}
use Rattle.mb_edit.proofs.EntryLemmas.{id_read}
use Rattle.mb_edit.specs.Collision.{is_other}
use Rattle.mb_edit.specs.Common.{digest, ids_given, Text}
use Rattle.mb_lists.specs.Entries.{blob_cell}
use Rattle.std.proofs.Math.Bool.{or-false, or-true}
use Rattle.std.proofs.lemmas.Bool.{eqb-true}
use Rattle.std.proofs.lemmas.List.{nil_from_length}
use Rattle.std.specs.Cmp.Lexicographic.{nat_list_cmp_total}
use Rattle.std.specs.Prelude.{option_and_then, slice_get, ◌==◌}
use Rattle.tile_streaming.proofs.FirstLemmas.{any_there}
use Rattle.tile_streaming.proofs.PutContentLemmas.{Entry, put_of}
use Rattle.tile_streaming.specs.Collisions.{content_told, first_taken, is_known, is_taken, stands_under}
use Rattle.tile_streaming.specs.Suspects.{by_bytes, is_among, is_suspect, suspect_of, suspects}
use Rattle.tile_streaming.specs.declared.rest.Rest.{Rest}

-- whether some element passes, with one more
pub any_more : {A : Type 0} (p : A → Bool) (xs : List A) (i : ℕ) (x : A) → i < length xs → x ≡ get_or xs i x → list_any p (take (suc i) xs) ≡ (list_any p (take i xs) || p x)
any_more p [] i x low is = absurd (omega (arith, low))
any_more p (y ∷ xs) zero x low is = or-false (p y) ∙ ap p (sym is)
any_more p (y ∷ xs) (suc i) x low is = ap (λ b. p y || b) (any_more p xs i x (omega (arith, low)) is) ∙ apart (p y) (list_any p (take i xs)) (p x)
  where
    apart : (a b c : Bool) → (a || (b || c)) ≡ ((a || b) || c)
    apart true b c = refl
    apart false b c = refl

-- the first element that passes, at an index before which none does
pub find_at : {A : Type 0} (p : A → Bool) (xs : List A) (i : ℕ) (x : A) → i < length xs → x ≡ get_or xs i x → find p (take i xs) ≡ None → p x ≡ true → find p xs ≡ Some x
find_at p [] i x low is none h = absurd (omega (arith, low))
find_at p (y ∷ xs) zero x low is none h = ap (λ b. cond b (Some y) (find p xs)) (ap p (sym is) ∙ h) ∙ ap Some (sym is)
find_at p (y ∷ xs) (suc i) x low is none h = by (p y) none (λ k. find_at p xs i x (omega (arith, low)) is k h)
  where
    by : (b : Bool) → cond b (Some y) (find p (take i xs)) ≡ None → (find p (take i xs) ≡ None → find p xs ≡ Some x) → cond b (Some y) (find p xs) ≡ Some x
    by true k later = absurd (none-some y (sym k))
    by false k later = later k

pub find_none : {A : Type 0} (p : A → Bool) (xs : List A) (i : ℕ) (x : A) → i < length xs → x ≡ get_or xs i x → find p (take i xs) ≡ None → p x ≡ false → find p (take (suc i) xs) ≡ None
find_none p [] i x low is none h = absurd (omega (arith, low))
find_none p (y ∷ xs) zero x low is none h = ap (λ b. cond b (Some y) None) (ap p (sym is) ∙ h)
find_none p (y ∷ xs) (suc i) x low is none h = by (p y) none (λ k. find_none p xs i x (omega (arith, low)) is k h)
  where
    by : (b : Bool) → cond b (Some y) (find p (take i xs)) ≡ None → (find p (take i xs) ≡ None → find p (take (suc i) xs) ≡ None) → cond b (Some y) (find p (take (suc i) xs)) ≡ None
    by true k later = absurd (none-some y (sym k))
    by false k later = later k

pub nothing_in : {A : Type 0} (xs : List A) (b : Bool) → b ≡ (length xs == 0) → b ≡ true → xs ≡ []
nothing_in xs b is h = nil_from_length xs (eqb-true (length xs) 0 (sym is ∙ h))

-- what a set has after one more test of what is taken out
pub out_of : (has test : Bool) → cond test false has ≡ (has && not test)
out_of true true = refl
out_of true false = refl
out_of false true = refl
out_of false false = refl

pub out_twice : (has a b : Bool) → ((has && not a) && not b) ≡ (has && not (a || b))
out_twice true true b = refl
out_twice true false b = refl
out_twice false a b = refl

pub put_in : (has test : Bool) → cond test true has ≡ (has || test)
put_in true true = refl
put_in true false = refl
put_in false true = refl
put_in false false = refl

-- an entry at an index
pub entry_at : {A : Type 0} (es : List A) (i : ℕ) → i < length es → (e : A) × (slice_get es i ≡ Some e)
entry_at [] i low = absurd (omega (arith, low))
entry_at (e ∷ es) zero low = (e, refl)
entry_at (e ∷ es) (suc i) low = entry_at es i (omega (arith, low))

-- the bytes of one entry more that pass a test, by name
module _ (name : List ℕ → List ℕ) (test : List ℕ → Bool) where
  abbrev pub passed_of : Option (List ℕ) → Option (List ℕ)
  passed_of o = option_and_then (λ b. cond (test b) (Some (name b)) None) o

  abbrev pub passed : List Entry → List (List ℕ)
  passed es = map name (filter test (put_of es))

  pub passed_more : (es : List Entry) (i : ℕ) (e : Entry) → slice_get es i ≡ Some e → passed (take (suc i) es) ≡ passed (take i es) ++ cons_option (passed_of e.1) []
  passed_more [] i e at = absurd (none-some e at)
  passed_more ((p, None) ∷ es) zero e at = ap (λ (o : Option (List ℕ)). cons_option (passed_of o) []) (ap (λ (y : Entry). y.1) (same_Some (p, None) e at))
  passed_more ((p, Some c) ∷ es) zero e at = by (test c) refl ∙ ap (λ (o : Option (List ℕ)). cons_option (passed_of o) []) (ap (λ (y : Entry). y.1) (same_Some (p, Some c) e at))
    where
      by : (b : Bool) → test c ≡ b → map name (cond b (c ∷ []) []) ≡ cons_option (cond b (Some (name c)) None) []
      by true is = refl
      by false is = refl
  passed_more ((p, None) ∷ es) (suc i) e at = passed_more es i e at
  passed_more ((p, Some c) ∷ es) (suc i) e at = by (test c) (passed_more es i e at)
    where
      by : (b : Bool) → passed (take (suc i) es) ≡ passed (take i es) ++ cons_option (passed_of e.1) []
          → map name (cond b (c ∷ filter test (put_of (take (suc i) es))) (filter test (put_of (take (suc i) es)))) ≡ map name (cond b (c ∷ filter test (put_of (take i es))) (filter test (put_of (take i es)))) ++ cons_option (passed_of e.1) []
      by true later = ap (λ ds. name c ∷ ds) later
      by false later = later

-- one tile of a patch more
module _ (a : HashAlgorithm) (t : Tables) (known : Option (List ℕ)) (q : TileSet) (i : ℕ) (digests : List (List ℕ)) (before : digests ≡ suspects t a known (put_of (take i (entries q))))
    (l : MbtType) (normal : is_normalized l ≡ true) (low : i < length (entries q)) (p : Place) (cell id : Cell) (found : Option (List ℕ))
    (read : IfSome (slice_get (entries q) i) (λ e. (e.0 ≡ p) × (blob_cell e.1 ≡ cell))) (given : slice_get (ids_given l a q) i ≡ Some id)
    (answer : (bytes : Option (List ℕ)) → blob_cell bytes ≡ cell → IfSome bytes (λ b. id ≡ Text (digest a b)) → found ≡ suspect_of t a known bytes) where
  at : (e : Entry) × (slice_get (entries q) i ≡ Some e)
  at = entry_at (entries q) i low

  own : blob_cell at.0.1 ≡ cell
  own = (subst (λ (o : Option Entry). IfSome o (λ e. (e.0 ≡ p) × (blob_cell e.1 ≡ cell))) at.1 read).1

  id_is : IfSome at.0.1 (λ b. id ≡ Text (digest a b))
  id_is = subst (λ (o : Option Entry). IfSome (option_and_then (λ (e : Entry). e.1) o) (λ b. id ≡ Text (digest a b))) at.1 (id_read l a (entries q) i id normal given)

  pub suspects_more : digests ++ cons_option found [] ≡ suspects t a known (put_of (take (suc i) (entries q)))
  suspects_more =
      ap (λ ds. ds ++ cons_option found []) before
      ∙ (ap (λ o. suspects t a known (put_of (take i (entries q))) ++ cons_option o []) (answer at.0.1 own id_is)
      ∙ sym (passed_more (digest a) (is_suspect t a known) (entries q) i at.0 at.1))

-- the first of the bytes that are taken, by the digests of those that may collide
module _ (a : HashAlgorithm) (t : Tables) (rest : Rest) (known : Option (List ℕ)) where
  abbrev stands : List ℕ → Bool
  stands d = is_known known d || stands_under t rest (Text d)

  pub taken_by : (put : List (List ℕ)) → find stands (suspects t a known put) ≡ first_taken t rest a known put
  taken_by [] = refl
  taken_by (b ∷ put) = by (is_known known (digest a b)) (is_other b (content_told t (Text (digest a b)))) (stands_under t rest (Text (digest a b))) refl refl (taken_by put)
    where
      by : (k o s : Bool) → is_known known (digest a b) ≡ k → stands_under t rest (Text (digest a b)) ≡ s → find stands (suspects t a known put) ≡ first_taken t rest a known put
          → find stands (map (digest a) (cond (k || o) (b ∷ filter (is_suspect t a known) put) (filter (is_suspect t a known) put))) ≡ option_map (digest a) (cond (k || (o && s)) (Some b) (find (is_taken t rest a known) put))
      by true o s is there later = ap (λ c. cond (c || stands_under t rest (Text (digest a b))) (Some (digest a b)) (find stands (suspects t a known put))) is
      by false false s is there later = later
      by false true true is there later = ap (λ c. cond c (Some (digest a b)) (find stands (suspects t a known put))) ((λ i. is i || there i))
      by false true false is there later = ap (λ c. cond c (Some (digest a b)) (find stands (suspects t a known put))) ((λ i. is i || there i)) ∙ later

  pub none_taken : (put : List (List ℕ)) → suspects t a known put ≡ [] → None ≡ first_taken t rest a known put
  none_taken put none = sym (ap (find stands) none) ∙ taken_by put

  -- where a set has those of them that don't stand
  pub taken_in : (put : List (List ℕ)) (digests : List (List ℕ)) (unnamed : List ℕ → Bool) → digests ≡ suspects t a known put → ((d : List ℕ) → is_among digests d ≡ true → unnamed d ≡ not (stands_under t rest (Text d)))
      → find (λ d. is_known known d || not (unnamed d)) digests ≡ first_taken t rest a known put
  taken_in put digests unnamed are is = find_each digests (λ d there. ap (λ b. is_known known d || not b) (is d (among d digests there)) ∙ ap (λ b. is_known known d || b) (twice (stands_under t rest (Text d)))) ∙ (ap (find stands) are ∙ taken_by put)
    where
      twice : (b : Bool) → not (not b) ≡ b
      twice true = refl
      twice false = refl

      among : (d : List ℕ) (ds : List (List ℕ)) → Has d ds → is_among ds d ≡ true
      among d ds there = any_there (λ other. eq_by_cmp by_bytes other d) d ds there ((eq_by_cmp_equiv nat_list_cmp_total).refl d)

      find_each : (ds : List (List ℕ)) → ((d : List ℕ) → Has d ds → (is_known known d || not (unnamed d)) ≡ stands d) → find (λ d. is_known known d || not (unnamed d)) ds ≡ find stands ds
      find_each [] each = refl
      find_each (d ∷ ds) each = ap (λ b. cond b (Some d) (find (λ x. is_known known x || not (unnamed x)) ds)) (each d (inl refl)) ∙ ap (cond (stands d) (Some d)) (find_each ds (λ x there. each x (inr there)))

-- one reading behind another
module _ {S T : Type 0} (holds : S → T) (shows : S → Bool) (failed : S → ℕ) (unfailing : S → Type 0) where
  pub only_read : (x : S) → ReadsOnly holds shows failed unfailing x x
  only_read x = record { told = refl; tells = refl; faults = omega arith; steady = λ s. s; calm = λ s. refl }

  pub read_then : (x y z : S) → ReadsOnly holds shows failed unfailing x y → ReadsOnly holds shows failed unfailing y z → ReadsOnly holds shows failed unfailing x z
  read_then x y z a b = record {
    told = b.told ∙ a.told;
    tells = b.tells ∙ a.tells;
    faults = omega (arith, a.faults, b.faults);
    steady = λ s. b.steady (a.steady s);
    calm = λ s. b.calm (a.steady s) ∙ a.calm s;
  }
