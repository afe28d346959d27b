-- Patches one after another.
use Rattle.tile_bridge.proofs.Common.{All-get_or, All-set, all_held, all_patched, and_parts, ap, AreOnlyRead, AreToldBy, arith, at_place, Bool, cond, ConvertError, drop, drop_all, drop_more}
use Rattle.tile_bridge.proofs.Common.{due_patch, due_patches, Err, false, get_or, get_or-map, get_or-set_other, get_or-set_same, HasFailed, Held, held_patched, IfErr, IfSome, IndexEntryOverflow, IsAt, IsDue, IsErrAnd}
use Rattle.tile_bridge.proofs.Common.{IsLoadedFrom, IsPatchedBy, IsPatchedByAll, IsRefused, length, length-map, length-set, List, list_all, map, map-append, map-set, NamesAlgorithm, None, NoneFell}
use Rattle.tile_bridge.proofs.Common.{Ok, one_patched, Option, OthersStand, OutOfMemory, refl, Refuses, Result, Rose, RoseAt, set, slice_index, Some, State, state_of, step, Store, StoreFault, StoresStand, subst, suc, sym}
use Rattle.tile_bridge.proofs.Common.{Tables, take, take_all, take_more, then, true, zero, ℕ, [], ◌++◌, ◌+◌, ◌<◌, ◌∙◌, ◌∷◌, ◌≡◌, ◌≤◌}
use Rattle.std.proofs.Math.Seq.{map-set_same}
use Rattle.mb_store.specs.Kept.{ReadsOnly}
use Rattle.tile_bridge.proofs.StandsLemmas.{one_stands, stores_handed}

-- all of these tell
abbrev pub AllTell : List Bool → Type 0
AllTell tells = list_all (λ t. t) tells ≡ true

-- after so many patches
pub record Folded {P : Type 0} (tell : P → Bool) (tables : P → Tables) (failed : P → ℕ) (calm : P → Type 0) (force : Bool) (base : Held) (old now : List P) (n : ℕ) (set : Held) : Type 0 where
  pub read : AreOnlyRead tell tables failed calm old now
  pub rest : AllTell (map tell old) → all_patched force 1 base.state (map tables old) ≡ all_patched force (n + 1) set.state (drop n (map tables old))
  pub some : IsPatchedByAll force (take n (map tell old)) (take n (map tables old)) base set
  pub loaded : (t : Tables) → IsLoadedFrom t base → NamesAlgorithm base.state → IsLoadedFrom t set × NamesAlgorithm set.state
  pub still : map failed now ≡ map failed old

-- before the first
pub folded_none : {P : Type 0} (tell : P → Bool) (tables : P → Tables) (failed : P → ℕ) (calm : P → Type 0) (force : Bool) (base : Held) (old : List P) → Folded tell tables failed calm force base old old 0 base
folded_none tell tables failed calm force base old = record {
  read = record { told = refl; tells = refl; faults = λ place. omega arith; steady = λ all. (all, refl) };
  rest = λ all. refl;
  some = record { tables = []; are_told = tt; states = []; read = refl; made = refl; held = refl };
  loaded = λ t from named. (from, named);
  still = refl;
}

-- one more patch whose tables have a state, wherever it stands
one_made : (force : Bool) (place : ℕ) (s q next : State) (t : Tables) → state_of t ≡ Ok q → step force s q ≡ Ok next → one_patched force place s t ≡ Ok next
one_made force place s q next t read made = ap (λ r. then (at_place place r) (λ q. at_place place (step force s q))) read ∙ ap (at_place place) made

one_more : (force : Bool) (place : ℕ) (s : State) (ts : List Tables) (u q next : State) (t : Tables) → all_patched force place s ts ≡ Ok u → state_of t ≡ Ok q → step force u q ≡ Ok next → all_patched force place s (ts ++ t ∷ []) ≡ Ok next
one_more force place s [] u q next t is read made =
    let same : s ≡ u = cc in
    ap (λ r. then r (λ n. all_patched force (suc place) n [])) (one_made force place s q next t read (ap (λ x. step force x q) same ∙ made))
one_more force place s (p ∷ ts) u q next t is read made = by (one_patched force place s p) (λ n is. one_more force (suc place) n ts u q next t is read made) is
  where
    by : (r : Result State ConvertError) → ((n : State) → all_patched force (suc place) n ts ≡ Ok u → all_patched force (suc place) n (ts ++ t ∷ []) ≡ Ok next)
        → then r (λ n. all_patched force (suc place) n ts) ≡ Ok u → then r (λ n. all_patched force (suc place) n (ts ++ t ∷ [])) ≡ Ok next
    by (Ok n) rest is = rest n is
    by (Err e) rest is = absurd (cc)

told_more : (tells : List Bool) (told ts : List Tables) (b : Bool) (t u : Tables) → AreToldBy tells told ts → (b ≡ true → u ≡ t) → AreToldBy (tells ++ b ∷ []) (told ++ t ∷ []) (ts ++ u ∷ [])
told_more [] [] [] b t u are is = (is, tt)
told_more [] [] (v ∷ vs) b t u are is = absurd are
told_more [] (w ∷ ws) vs b t u are is = absurd are
told_more (c ∷ cs) [] vs b t u are is = absurd are
told_more (c ∷ cs) (w ∷ ws) [] b t u are is = absurd are
told_more (c ∷ cs) (w ∷ ws) (v ∷ vs) b t u are is = (are.0, told_more cs ws vs b t u are.1 is)

all_held_more : (h : Held) (qs : List State) (q : State) → all_held h (qs ++ q ∷ []) ≡ held_patched (all_held h qs) q
all_held_more h [] q = refl
all_held_more h (p ∷ qs) q = all_held_more (held_patched h p) qs q

-- what follows for a refusal, where what is due of it follows
pub refuses_on : (due on : Option (Result State ConvertError)) (e : ConvertError) → ((x : ConvertError) → IsRefused due x → IsRefused on x) → Refuses due e → Refuses on e
refuses_on due on (Store place e) f h = (f (Store place e) h.0, h.1)
refuses_on due on IndexEntryOverflow f h = f IndexEntryOverflow h
refuses_on due on (StoreFault place) f h = tt
refuses_on due on OutOfMemory f h = tt
refuses_on due on _ f h = absurd h

one_on : (n : ℕ) → suc n ≡ n + 1
one_on n = omega arith

-- an element among those that are mapped
mapped_at : {P : Type 0} (f : P → ℕ) (xs : List P) (n : ℕ) (x : P) → n < length xs → x ≡ get_or xs n x → slice_index (map f xs) n ≡ f x
mapped_at f xs n x low is = get_or-map f xs n x 0 low ∙ ap f (sym is)

one_tells : (tells : List Bool) (n : ℕ) (d : Bool) → n < length tells → AllTell tells → get_or tells n d ≡ true
one_tells [] n d low all = absurd (omega (arith, low))
one_tells (t ∷ ts) zero d low all = (and_parts t (list_all (λ t. t) ts) all).0
one_tells (t ∷ ts) (suc n) d low all = one_tells ts n d (omega (arith, low)) (and_parts t (list_all (λ t. t) ts) all).1

none_fell : (counts : List ℕ) (n count : ℕ) → slice_index counts n ≤ count → NoneFell counts (set counts n count)
none_fell [] n count up place = omega arith
none_fell (c ∷ cs) zero count up zero = up
none_fell (c ∷ cs) zero count up (suc place) = omega arith
none_fell (c ∷ cs) (suc n) count up zero = omega arith
none_fell (c ∷ cs) (suc n) count up (suc place) = none_fell cs n count up place

-- as many stores as before
pub as_long : {P : Type 0} (tables : P → Tables) (old now : List P) → map tables now ≡ map tables old → length now ≡ length old
as_long tables old now same = omega (arith, ap length same, length-map now tables, length-map old tables)

-- one more patch
module _ {P : Type 0} (tell : P → Bool) (tables : P → Tables) (failed : P → ℕ) (calm : P → Type 0) (force : Bool) (base : Held) (old now : List P) (n : ℕ) (h : Held) (so : Folded tell tables failed calm force base old now n h)
    (x y : P) (low : n < length now) (is : x ≡ get_or now n x) (kept : ReadsOnly tables tell failed calm x y) where
  abbrev pub after : List P
  after = set now n y

  failed_after : map failed after ≡ set (map failed now) n (failed y)
  failed_after = map-set failed now n y

  failed_at : slice_index (map failed now) n ≡ failed x
  failed_at = mapped_at failed now n x low is

  pub read_after : AreOnlyRead tell tables failed calm old after
  read_after = record {
    told = map-set_same tables now n y x (kept.told ∙ ap tables is) ∙ so.read.told;
    tells = map-set_same tell now n y x (kept.tells ∙ ap tell is) ∙ so.read.tells;
    faults = λ place.
        let up : slice_index (map failed now) n ≤ failed y = omega (arith, failed_at, kept.faults) in
        omega (arith, so.read.faults place, none_fell (map failed now) n (failed y) up place, ap (λ xs. slice_index xs place) failed_after);
    steady = λ all.
        let before = so.read.steady all in
        let one : calm x = subst calm (sym is) (All-get_or calm now n x low before.0) in
        (All-set calm now n y (kept.steady one) before.0, map-set_same failed now n y x (kept.calm one ∙ ap failed is) ∙ before.1);
  }

  pub rose_after : Rose (failed x) (failed y) → RoseAt n (map failed old) (map failed after)
  rose_after rose =
      let there : slice_index (map failed after) n ≡ failed y = mapped_at failed after n y (omega (arith, low, length-set now n y)) (sym (get_or-set_same now n y y low)) in
      omega (arith, so.read.faults n, failed_at, there, rose)

  -- what is due of it
  as_many : length (map tables old) ≡ length now
  as_many = ap length (sym so.read.told) ∙ length-map now tables

  tells_one : AllTell (map tell old) → tell x ≡ true
  tells_one all =
      let far : n < length (map tell now) = omega (arith, low, length-map now tell) in
      ap tell is ∙ sym (get_or-map tell now n x true low) ∙ one_tells (map tell now) n true far (ap (list_all (λ t. t)) so.read.tells ∙ all)

  at : get_or (map tables old) n (tables x) ≡ tables x
  at = ap (λ ts. get_or ts n (tables x)) (sym so.read.told) ∙ get_or-map tables now n x (tables x) low ∙ ap tables (sym is)

  left : drop n (map tables old) ≡ tables x ∷ drop (n + 1) (map tables old)
  left = drop_more (map tables old) n (tables x) (omega (arith, low, as_many)) ∙ ap (λ t. t ∷ drop (n + 1) (map tables old)) at

  front : take (n + 1) (map tables old) ≡ take n (map tables old) ++ tables x ∷ []
  front = take_more (map tables old) n (tables x) (omega (arith, low, as_many)) ∙ ap (λ t. take n (map tables old) ++ t ∷ []) at

  abbrev on_from : Result State ConvertError → Result State ConvertError
  on_from r = then r (λ s. all_patched force (suc (n + 1)) s (drop (n + 1) (map tables old)))

  due_now : AllTell (map tell old) → all_patched force 1 base.state (map tables old) ≡ on_from (one_patched force (n + 1) h.state (tables x))
  due_now all = so.rest all ∙ ap (all_patched force (n + 1) h.state) left

  abbrev one_due : Bool → Result State ConvertError → Type 0
  one_due b r = IfSome (cond b (Some (one_patched force (n + 1) h.state (tables x))) None) (λ d. d ≡ r)

  refused_on : (e : ConvertError) → IsRefused (due_patch force (n + 1) h.state (tell x) (tables x)) e → IsRefused (due_patches force 1 base.state (map tell old) (map tables old)) e
  refused_on e r = by (list_all (λ t. t) (map tell old)) refl
    where
      by : (b : Bool) → list_all (λ t. t) (map tell old) ≡ b → IfSome (cond b (Some (all_patched force 1 base.state (map tables old))) None) (λ d. d ≡ Err e)
      by false all = tt
      by true all = due_now all ∙ ap on_from (subst (λ b. one_due b (Err e)) (tells_one all) r)

  pub refused_after : {A : Type 0} (e : ConvertError) (r : Result A ConvertError) → Refuses (due_patch force (n + 1) h.state (tell x) (tables x)) e → IsErrAnd r (λ z. z ≡ e) → IfErr r (Refuses (due_patches force 1 base.state (map tell old) (map tables old)))
  refused_after e (Ok z) refuses is = tt
  refused_after e (Err z) refuses is = subst (Refuses (due_patches force 1 base.state (map tell old) (map tables old))) (sym is) (refuses_on _ _ e refused_on refuses)

  pub fault_after : {A : Type 0} (e : ConvertError) (r : Result A ConvertError) → ((p : ℕ) → e ≡ StoreFault p → (p ≡ n + 1) × Rose (failed x) (failed y)) → IsErrAnd r (λ z. z ≡ e) → (p : ℕ) → r ≡ Err (StoreFault p) → (k : ℕ) × (p ≡ suc k) × RoseAt k (map failed old) (map failed after)
  fault_after e (Ok z) fault is p at = absurd is
  fault_after e (Err z) fault is p at = let same : z ≡ StoreFault p = cc in let rose = fault p (sym is ∙ same) in (n, rose.0 ∙ sym (one_on n), rose_after rose.1)

  -- the others' counts, where it is refused or fails
  others_after : (first : ℕ) → OthersStand (n + 1) (first ∷ map failed old) (first ∷ map failed after)
  others_after first zero other = refl
  others_after first (suc k) other =
      ap (λ counts. slice_index counts k) failed_after ∙ get_or-set_other (map failed now) n k (failed y) 0 (λ is. other (ap suc is ∙ one_on n)) ∙ ap (λ counts. slice_index counts k) so.still

  pub stands_after : {A : Type 0} (e : ConvertError) (r : Result A ConvertError) → IsAt (n + 1) e → IsErrAnd r (λ z. z ≡ e) → (first : ℕ) → StoresStand (first ∷ map failed old) (first ∷ map failed after) r
  stands_after e r at is first = stores_handed (first ∷ map failed old) (first ∷ map failed after) e r (one_stands (n + 1) (first ∷ map failed old) (first ∷ map failed after) e at (others_after first)) is

  at_tell : get_or (map tell old) n (tell x) ≡ tell x
  at_tell = ap (λ bs. get_or bs n (tell x)) (sym so.read.tells) ∙ get_or-map tell now n x (tell x) low ∙ ap tell (sym is)

  front_tells : take (n + 1) (map tell old) ≡ take n (map tell old) ++ tell x ∷ []
  front_tells = take_more (map tell old) n (tell x) (omega (arith, low, length-map now tell, ap length so.read.tells)) ∙ ap (λ b. take n (map tell old) ++ b ∷ []) at_tell

  some_more : (next : Held) → IsPatchedBy force (tell x) (tables x) h next → IsPatchedByAll force (take (n + 1) (map tell old)) (take (n + 1) (map tables old)) base next
  some_more next one = record {
    tables = so.some.tables ++ one.of.tables ∷ [];
    are_told =
        subst (λ bs. AreToldBy bs (take (n + 1) (map tables old)) (so.some.tables ++ one.of.tables ∷ [])) (sym front_tells)
        (subst (λ ts. AreToldBy (take n (map tell old) ++ tell x ∷ []) ts (so.some.tables ++ one.of.tables ∷ [])) (sym front)
        (told_more (take n (map tell old)) (take n (map tables old)) so.some.tables (tell x) (tables x) one.of.tables so.some.are_told one.of.are_told));
    states = so.some.states ++ one.state ∷ [];
    read = map-append state_of so.some.tables (one.of.tables ∷ []) ∙ (λ i. so.some.read i ++ one.of.state i ∷ []) ∙ sym (map-append Ok so.some.states (one.state ∷ []));
    made = one_more force 1 base.state so.some.tables h.state one.state next.state one.of.tables so.some.made one.of.state one.made;
    held = one.held ∙ ap (λ h. held_patched h one.state) so.some.held ∙ sym (all_held_more base so.some.states one.state);
  }

  pub folded_more : (next : Held) → IsDue (due_patch force (n + 1) h.state (tell x) (tables x)) next.state → IsPatchedBy force (tell x) (tables x) h next
      → ((t : Tables) → IsLoadedFrom t h → NamesAlgorithm h.state → IsLoadedFrom t next × NamesAlgorithm next.state) → failed y ≡ failed x
      → Folded tell tables failed calm force base old after (n + 1) next
  folded_more next due one loads stands = record {
    read = read_after;
    rest = λ all. due_now all ∙ ap on_from (subst (λ b. one_due b (Ok next.state)) (tells_one all) due) ∙ ap (λ k. all_patched force k next.state (drop (n + 1) (map tables old))) (one_on (n + 1));
    some = some_more next one;
    loaded = λ t from named. let before = so.loaded t from named in loads t before.0 before.1;
    still = map-set_same failed now n y x (stands ∙ ap failed is) ∙ so.still;
  }

-- all of them
module _ {P : Type 0} (tell : P → Bool) (tables : P → Tables) (failed : P → ℕ) (calm : P → Type 0) (force : Bool) (base : Held) (old now : List P) (n : ℕ) (h : Held) (so : Folded tell tables failed calm force base old now n h) (far : length now ≤ n) where
  as_far : length (map tables old) ≤ n
  as_far = omega (arith, far, ap length so.read.told, length-map now tables)

  pub due_all : IsDue (due_patches force 1 base.state (map tell old) (map tables old)) h.state
  due_all = by (list_all (λ t. t) (map tell old)) refl
    where
      by : (b : Bool) → list_all (λ t. t) (map tell old) ≡ b → IfSome (cond b (Some (all_patched force 1 base.state (map tables old))) None) (λ d. d ≡ Ok h.state)
      by false all = tt
      by true all = so.rest all ∙ ap (all_patched force (n + 1) h.state) (drop_all n (map tables old) as_far)

  pub some_all : IsPatchedByAll force (map tell old) (map tables old) base h
  some_all =
      let bound : length (map tell old) ≤ n = omega (arith, far, ap length so.read.tells, length-map now tell) in
      subst (λ bs. IsPatchedByAll force bs (map tables old) base h) (take_all n (map tell old) bound)
      (subst (λ ts. IsPatchedByAll force (take n (map tell old)) ts base h) (take_all n (map tables old) as_far) so.some)

-- a fault of patches that are let go
pub has_failed : {P A : Type 0} (tell : P → Bool) (tables : P → Tables) (failed : P → ℕ) (calm : P → Type 0) (old now : List P) → AreOnlyRead tell tables failed calm old now → (e : ConvertError) (r : Result A ConvertError)
    → ((p : ℕ) → e ≡ StoreFault p → RoseAt p (0 ∷ map failed old) (0 ∷ map failed now)) → IsErrAnd r (λ x. x ≡ e) → (p : ℕ) → r ≡ Err (StoreFault p) → HasFailed tell tables failed calm old p
has_failed tell tables failed calm old now read e (Ok x) fault same p is = absurd same
has_failed tell tables failed calm old now read e (Err x) fault same p is = let at : e ≡ StoreFault p = cc in record { now = now; read = read; rose = fault p at }
