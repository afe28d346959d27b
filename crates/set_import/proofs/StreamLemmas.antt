-- Tiles that are put into batches in order of their ids.
use Rattle.set_import.proofs.Common.{ap, arith, Bool, empty, Err, false, get, Held, inl, inr, List, None, Ok, OnOk, Option, refl, Result, Some, subst, sym, Tables, TileSet, true, ℕ, [], ◌+◌, ◌∙◌, ◌≡◌, ◌≤◌, ◌⊎◌, ◌<◌}
use Rattle.std.proofs.Common.{cond, is_some, nat_lt, suc, zero, ◌++◌, ◌-◌, ◌||◌}
use Rattle.std.proofs.lemmas.Bool.{false≢true}
use Rattle.std.proofs.lemmas.Bool.Decides.{nat_tests}
use Rattle.std.proofs.lemmas.List.Elements.{All-nil}
use Rattle.std.specs.FinMap.{contains_key, get-empty, get-insert, insert}
use Rattle.std.specs.Prelude.{OnErr}
use Rattle.std.specs.List.{range_with_len}
use Rattle.std.specs.Ordering.{eq_by_cmp}
use Rattle.mb_lists.proofs.Places.{same_place}
use Rattle.mb_lists.specs.Places.{address}
use Rattle.mb_load.specs.Committing.{MakesChanges}
use Rattle.mb_loaded.specs.Edits.{id_for, with_key, with_tile}
use Rattle.mb_store.specs.Kept.{Keeps}
use Rattle.mb_tables.proofs.TileLemmas.{places_total}
use Rattle.mb_tables.specs.Tiles.{Place, place_cmp}
use Rattle.mb_tables.specs.declared.kind.MbtType.{MbtType}
use Rattle.pm_walk.specs.declared.extent.TheConstants.{FIRST_TOO_DEEP}
use Rattle.set_import.proofs.PutsLemmas.{commits_more, puts_apart, puts_more, puts_of}
use Rattle.set_import.specs.Batches.{ArePutInto, ArePuts, IsPart, IsPlain, IsPut, IsStream, Streams}
use Rattle.set_import.specs.Streaming.{empty_flat}
use Rattle.tile_ids.specs.declared.id.TheConstants.{MAX_TILE_ID}
use Rattle.tile_import.proofs.PlacingLemmas.{insert_on_board, place_address, place_on_board}
use Rattle.tile_import.specs.Putting.{place_of_id, with_ids}

-- what a set has at a place
abbrev At : Type 0
At = Option (Option (List ℕ))

below : (n m : ℕ) → n < m → nat_lt n m ≡ true
below n m less = grind (arith, nat_tests)

not_below : (n m : ℕ) → m ≤ n → nat_lt n m ≡ false
not_below n m le = grind (arith, nat_tests)

abbrev no_tiles : TileSet
no_tiles = empty

none_in : (p : Place) → contains_key no_tiles p ≡ true → ⊥
none_in p there = false≢true (sym (ap is_some (get-empty {X = Option (List ℕ)} place_cmp p)) ∙ there)

-- nothing was put yet
pub nothing_put : (made : Tables) → ArePutInto made made empty
nothing_put made = record {
  changes = [];
  puts = record { made = λ p there. absurd (none_in p there); only = All-nil (IsPut empty) };
  commits = record { descriptions = refl; tables = λ table. record { changed = λ k d lt. absurd (omega (arith, lt)); others = refl } };
}

empty_parted : (p : Place) (n : ℕ) (o : At) → n ≡ 0 → get no_tiles p ≡ cond (nat_lt (address p) n) o None
empty_parted p n o zero_is = get-empty place_cmp p ∙ sym (ap (λ b. cond b o None) (not_below (address p) n (omega (arith, zero_is))))

pub started_stream : (tells : Bool) (made : Tables) → IsStream tells made made empty_flat empty 0
started_stream tells made = record {
  part = record {
    done = empty;
    from = 0;
    low = omega arith;
    parted = λ p. empty_parted p 0 (get no_tiles p) refl;
    into = λ t. nothing_put made;
  };
  rest = λ p. sym (ap (λ b. cond b None (get no_tiles p)) (not_below (address p) 0 (omega arith)));
  waits = record {
    flat = refl;
    has = λ p. refl;
    places = λ p. ap is_some (get-empty {X = Unit {0}} place_cmp p) ∙ sym (ap is_some (get-empty {X = Option (List ℕ)} place_cmp p));
    ids = λ id. ap is_some (get-empty {X = Unit {0}} _ id);
    names = λ name. ap is_some (get-empty {X = Unit {0}} _ name);
  };
  board = λ p there. absurd (none_in p there);
  below = λ p there. absurd (none_in p there);
}

-- one more tile behind the others
module _ (tells : Bool) (made now : Tables) (all : TileSet) (id : ℕ) (v : Option (List ℕ)) (le : id ≤ MAX_TILE_ID) where
  abbrev more : TileSet
  more = insert all (place_of_id id) v

  get_more : (q : Place) → get more q ≡ cond (eq_by_cmp place_cmp q (place_of_id id)) (Some v) (get all q)
  get_more q = get-insert places_total all (place_of_id id) v q

  at_id : (q : Place) → eq_by_cmp place_cmp q (place_of_id id) ≡ true → address q ≡ id
  at_id q is = ap address (same_place q (place_of_id id) is) ∙ place_address id le

  pub part_put : IsPart tells made now all id → IsPart tells made now more (id + 1)
  part_put part = record {
    done = part.done;
    from = part.from;
    low = omega (arith, part.low);
    parted = λ q. by q (eq_by_cmp place_cmp q (place_of_id id)) refl;
    into = part.into;
  }
    where
      by : (q : Place) (b : Bool) → eq_by_cmp place_cmp q (place_of_id id) ≡ b → get part.done q ≡ cond (nat_lt (address q) part.from) (get more q) None
      by q true is =
          let far : nat_lt (address q) part.from ≡ false = not_below (address q) part.from (omega (arith, part.low, at_id q is)) in
          part.parted q ∙ (ap (λ b. cond b (get all q) None) far ∙ sym (ap (λ b. cond b (get more q) None) far))
      by q false is = part.parted q ∙ ap (λ o. cond (nat_lt (address q) part.from) o None) (sym (get_more q ∙ ap (λ b. cond b (Some v) (get all q)) is))

pub later_part : (tells : Bool) (made now : Tables) (all : TileSet) (next m : ℕ) → next ≤ m → IsPart tells made now all next → IsPart tells made now all m
later_part tells made now all next m le part = record { done = part.done; from = part.from; low = omega (arith, le, part.low); parted = part.parted; into = part.into }

pub later_stream : (tells : Bool) (made now : Tables) (h : Held) (all : TileSet) (next m : ℕ) → next ≤ m → IsStream tells made now h all next → IsStream tells made now h all m
later_stream tells made now h all next m le s = record {
  part = record { done = s.part.done; from = s.part.from; low = omega (arith, le, s.part.low); parted = s.part.parted; into = s.part.into };
  rest = s.rest;
  waits = s.waits;
  board = s.board;
  below = λ p there. let less = s.below p there in omega (arith, le, less);
}

-- a run more
pub part_run : (tells : Bool) (made now : Tables) (all : TileSet) (bytes : List ℕ) (id n : ℕ) → id + n ≤ MAX_TILE_ID + 1 → IsPart tells made now all id → IsPart tells made now (with_ids all bytes (range_with_len id n)) (id + n)
part_run tells made now all bytes id zero le part = later_part tells made now all id (id + 0) (omega arith) part
part_run tells made now all bytes id (suc n) le part =
    subst (IsPart tells made now (with_ids all bytes (range_with_len id (suc n)))) (omega arith)
    (part_run tells made now (insert all (place_of_id id) (Some bytes)) bytes (id + 1) n (omega (arith, le)) (part_put tells made now all id (Some bytes) (omega (arith, le)) part))

-- a tile is put into the batch
module _ (tells : Bool) (made now : Tables) (h : Held) (all : TileSet) (id : ℕ) (bytes : List ℕ) (less : id < FIRST_TOO_DEEP) where
  max : id ≤ MAX_TILE_ID
  max = omega (arith, less)

  abbrev place : Place
  place = place_of_id id

  abbrev held : Held
  held = with_tile h place bytes

  abbrev wider : TileSet
  wider = insert all place (Some bytes)

  in_either : (b : Bool) (x : Option (List ℕ)) (o : At) → is_some (cond b (Some x) o) ≡ (b || is_some o)
  in_either true x o = refl
  in_either false x o = refl

  unit_either : (b : Bool) (o : Option (Unit {0})) → is_some (cond b (Some tt) o) ≡ (b || is_some o)
  unit_either true o = refl
  unit_either false o = refl

  pub stream_put : IsStream tells made now h all id → IsStream tells made now held wider (id + 1)
  unfolding part_put
  stream_put s = record {
    part = part_put tells made now all id (Some bytes) max s.part;
    rest = λ q. rest_by q (eq_by_cmp place_cmp q place) refl;
    waits = record {
      flat = s.waits.flat;
      has = λ q. refl;
      places = λ q.
          ap is_some (get-insert places_total h.edited.places place tt q)
          ∙ (unit_either (eq_by_cmp place_cmp q place) (get h.edited.places q)
          ∙ (ap (λ b. eq_by_cmp place_cmp q place || b) (s.waits.places q)
          ∙ sym (ap is_some (get-insert places_total h.state.tiles place (Some bytes) q) ∙ in_either (eq_by_cmp place_cmp q place) (Some bytes) (get h.state.tiles q))));
      ids = λ x. ap (λ (l : MbtType). contains_key (with_key h.edited.ids (id_for l h.state.algorithm bytes)) x) s.waits.flat ∙ s.waits.ids x;
      names = s.waits.names;
    };
    board = insert_on_board all place (Some bytes) (place_on_board id less) s.board;
    below = λ q there. below_by q (eq_by_cmp place_cmp q place) refl there;
  }
    where
      got : (m : TileSet) (q : Place) (b : Bool) → eq_by_cmp place_cmp q place ≡ b → get (insert m place (Some bytes)) q ≡ cond b (Some (Some bytes)) (get m q)
      got m q b is = get-insert places_total m place (Some bytes) q ∙ ap (λ b. cond b (Some (Some bytes)) (get m q)) is

      at_id : (q : Place) → eq_by_cmp place_cmp q place ≡ true → address q ≡ id
      at_id q is = ap address (same_place q place is) ∙ place_address id max

      rest_by : (q : Place) (b : Bool) → eq_by_cmp place_cmp q place ≡ b → get held.state.tiles q ≡ cond (nat_lt (address q) s.part.from) None (get wider q)
      rest_by q true is =
          let far : nat_lt (address q) s.part.from ≡ false = not_below (address q) s.part.from (omega (arith, s.part.low, at_id q is)) in
          got h.state.tiles q true is ∙ sym (ap (λ b. cond b None (get wider q)) far ∙ got all q true is)
      rest_by q false is =
          got h.state.tiles q false is ∙ (s.rest q ∙ ap (λ o. cond (nat_lt (address q) s.part.from) None o) (sym (got all q false is)))

      below_by : (q : Place) (b : Bool) → eq_by_cmp place_cmp q place ≡ b → contains_key wider q ≡ true → address q < id + 1
      below_by q true is there = let at = at_id q is in omega (arith, at)
      below_by q false is there = let less = s.below q (sym (ap is_some (got all q false is)) ∙ there) in omega (arith, less)

-- all of some tiles
pub whole_parted : (all : TileSet) (next : ℕ) → ((p : Place) → contains_key all p ≡ true → address p < next) → (p : Place) → get all p ≡ cond (nat_lt (address p) next) (get all p) None
whole_parted all next under p = by (nat_lt (address p) next) refl (get all p) refl
  where
    by : (b : Bool) → nat_lt (address p) next ≡ b → (o : At) → get all p ≡ o → get all p ≡ cond (nat_lt (address p) next) (get all p) None
    by true is o at = sym (ap (λ b. cond b (get all p) None) is)
    by false is None at = at ∙ sym (ap (λ b. cond b (get all p) None) is)
    by false is (Some v) at = absurd (false≢true (sym is ∙ below (address p) next (under p (ap is_some at))))

-- the batch is committed
module _ (tells : Bool) (made now : Tables) (h : Held) (all : TileSet) (next : ℕ) (s : IsStream tells made now h all next) where
  in_done : (p : Place) → contains_key s.part.done p ≡ true → nat_lt (address p) s.part.from ≡ true
  in_done p there = by (nat_lt (address p) s.part.from) refl
    where
      by : (b : Bool) → nat_lt (address p) s.part.from ≡ b → b ≡ true
      by true is = refl
      by false is = absurd (false≢true (sym (ap is_some (s.part.parted p ∙ ap (λ b. cond b (get all p) None) is)) ∙ there))

  in_batch : (p : Place) → contains_key h.state.tiles p ≡ true → nat_lt (address p) s.part.from ≡ false
  in_batch p there = by (nat_lt (address p) s.part.from) refl
    where
      by : (b : Bool) → nat_lt (address p) s.part.from ≡ b → b ≡ false
      by true is = absurd (false≢true (sym (ap is_some (s.rest p ∙ ap (λ b. cond b None (get all p)) is)) ∙ there))
      by false is = refl

  of_done : (p : Place) → contains_key s.part.done p ≡ true → get all p ≡ get s.part.done p
  of_done p there = sym (s.part.parted p ∙ ap (λ b. cond b (get all p) None) (in_done p there))

  of_batch : (p : Place) → contains_key h.state.tiles p ≡ true → get all p ≡ get h.state.tiles p
  of_batch p there = sym (s.rest p ∙ ap (λ b. cond b None (get all p)) (in_batch p there))

  either : (p : Place) → contains_key all p ≡ true → (contains_key s.part.done p ≡ true) ⊎ (contains_key h.state.tiles p ≡ true)
  either p there = by (nat_lt (address p) s.part.from) refl
    where
      by : (b : Bool) → nat_lt (address p) s.part.from ≡ b → (contains_key s.part.done p ≡ true) ⊎ (contains_key h.state.tiles p ≡ true)
      by true is = inl (ap is_some (s.part.parted p ∙ ap (λ b. cond b (get all p) None) is) ∙ there)
      by false is = inr (ap is_some (s.rest p ∙ ap (λ b. cond b None (get all p)) is) ∙ there)

  pub all_put_into : (new : Tables) → tells ≡ true → MakesChanges h now new → ArePutInto made new all
  all_put_into new told done =
      let into = s.part.into told in
      let puts : ArePuts h.state.tiles done.changes = puts_of h h.state.tiles s.waits done.changes done.are in
      record {
        changes = into.changes ++ done.changes;
        puts = puts_more s.part.done h.state.tiles all into.changes done.changes either of_done of_batch into.puts puts;
        commits = commits_more into.changes done.changes made now new
            (puts_apart s.part.done h.state.tiles into.changes done.changes (λ p a b. false≢true (sym (in_batch p b) ∙ in_done p a)) into.puts puts)
            into.commits done.made;
      }

  pub all_part : (new : Tables) → (tells ≡ true → MakesChanges h now new) → IsPart tells made new all next
  all_part new done = record {
    done = all;
    from = next;
    low = omega arith;
    parted = whole_parted all next s.below;
    into = λ told. all_put_into new told (done told);
  }

  pub stream_committed : (new : Tables) → (tells ≡ true → MakesChanges h now new) → IsStream tells made new empty_flat all next
  unfolding all_part
  stream_committed new done = record {
    part = all_part new done;
    rest = λ p. get-empty place_cmp p ∙ by p (nat_lt (address p) next) refl (get all p) refl;
    waits = (started_stream tells made).waits;
    board = s.board;
    below = s.below;
  }
    where
      by : (p : Place) (b : Bool) → nat_lt (address p) next ≡ b → (o : At) → get all p ≡ o → None ≡ cond (nat_lt (address p) next) None (get all p)
      by p true is o at = sym (ap (λ b. cond b None (get all p)) is)
      by p false is None at = sym (ap (λ b. cond b None (get all p)) is ∙ at)
      by p false is (Some v) at = absurd (false≢true (sym is ∙ below (address p) next (s.below p (ap is_some at))))

-- what making room leaves, and an empty batch
pub made_room : {E : Type 0} (tells : Bool) (made now new : Tables) (h : Held) (all : TileSet) (next : ℕ) (r : Result (Unit {0}) E) → IsStream tells made now h all next → (tells ≡ true → OnOk r (MakesChanges h now new)) → OnErr r (new ≡ now) → Streams tells made new empty_flat all next r
made_room tells made now new h all next (Ok x) s done kept = stream_committed tells made now h all next s new done
made_room tells made now new h all next (Err e) s done kept = subst (λ (t : Tables). IsPart tells made t all next) (sym kept) s.part

pub plain_empty : IsPlain empty_flat
plain_empty = (refl, λ id. ap is_some (get-empty {X = Unit {0}} _ id))

pub described_by : {E : Type 0} (tells : Bool) (old new : Tables) (h : Held) (r : Result (Unit {0}) E) → (tells ≡ true → OnOk r (MakesChanges h old new)) → OnErr r (new ≡ old) → tells ≡ true → new.descriptions ≡ old.descriptions
described_by tells old new h (Ok x) done kept told = (done told).made.descriptions
described_by tells old new h (Err e) done kept told = ap (λ (t : Tables). t.descriptions) kept

-- a run that is put: the tiles so far, and that with those of the ids that are left they are all of the run
pub record RunSoFar (tells : Bool) (made now : Tables) (h : Held) (all : TileSet) (bytes : List ℕ) (first run id left : ℕ) : Type 0 where
  pub so_far : TileSet
  pub stream : IsStream tells made now h so_far id
  pub rest : with_ids so_far bytes (range_with_len id left) ≡ with_ids all bytes (range_with_len first run)

-- a run that stops behind one of its tiles
pub run_stopped : (tells : Bool) (made now : Tables) (all so_far : TileSet) (bytes : List ℕ) (first run id left : ℕ) → 0 < left → id + left ≡ first + run → id + left ≤ MAX_TILE_ID + 1
    → with_ids so_far bytes (range_with_len id left) ≡ with_ids all bytes (range_with_len first run)
    → IsPart tells made now (insert so_far (place_of_id id) (Some bytes)) (id + 1) → IsPart tells made now (with_ids all bytes (range_with_len first run)) (first + run)
run_stopped tells made now all so_far bytes first run id zero some end le rest part = absurd (omega (arith, some))
run_stopped tells made now all so_far bytes first run id (suc n) some end le rest part =
    subst (λ m. IsPart tells made now m (first + run)) rest
    (subst (IsPart tells made now (with_ids so_far bytes (range_with_len id (suc n)))) (omega (arith, end))
    (part_run tells made now (insert so_far (place_of_id id) (Some bytes)) bytes (id + 1) n (omega (arith, le)) part))

-- or goes on
pub run_more : (tells : Bool) (made now : Tables) (h : Held) (all so_far : TileSet) (bytes : List ℕ) (first run id left : ℕ) → 0 < left
    → with_ids so_far bytes (range_with_len id left) ≡ with_ids all bytes (range_with_len first run)
    → IsStream tells made now h (insert so_far (place_of_id id) (Some bytes)) (id + 1) → RunSoFar tells made now h all bytes first run (id + 1) (left - 1)
run_more tells made now h all so_far bytes first run id zero some rest s = absurd (omega (arith, some))
run_more tells made now h all so_far bytes first run id (suc n) some rest s = record { so_far = insert so_far (place_of_id id) (Some bytes); stream = s; rest = subst (λ m. with_ids (insert so_far (place_of_id id) (Some bytes)) bytes (range_with_len (id + 1) m) ≡ with_ids all bytes (range_with_len first run)) one rest }
  where
    one : n ≡ suc n - 1
    one = omega arith

-- or is at its end
pub run_done : (tells : Bool) (made now : Tables) (h : Held) (all : TileSet) (bytes : List ℕ) (first run id left : ℕ) → left ≡ 0 → id + left ≡ first + run → RunSoFar tells made now h all bytes first run id left
    → IsStream tells made now h (with_ids all bytes (range_with_len first run)) (first + run)
run_done tells made now h all bytes first run id zero none end r =
    subst (λ m. IsStream tells made now h m (first + run)) r.rest (subst (IsStream tells made now h r.so_far) (omega (arith, end)) r.stream)
run_done tells made now h all bytes first run id (suc n) none end r = absurd (omega (arith, none))

-- or begins
pub run_begun : (tells : Bool) (made now : Tables) (h : Held) (all : TileSet) (bytes : List ℕ) (first run id left : ℕ) → id ≡ first → left ≡ run → IsStream tells made now h all first → RunSoFar tells made now h all bytes first run id left
run_begun tells made now h all bytes first run id left a b s = record {
  so_far = all;
  stream = subst (IsStream tells made now h all) (sym a) s;
  rest = ap (λ n. with_ids all bytes (range_with_len n left)) a ∙ ap (λ n. with_ids all bytes (range_with_len first n)) b;
}

-- what is kept of a store by calls one after another
pub keeps_then : {S : Type 0} (tells : S → Bool) (faults : S → ℕ) (steady : S → Type 0) (a b c : S) → Keeps tells faults steady a b → Keeps tells faults steady b c → Keeps tells faults steady a c
keeps_then tells faults steady a b c f s = record {
  tells = s.tells ∙ f.tells;
  faults = let one = f.faults in let two = s.faults in omega (arith, one, two);
  steady = λ x. s.steady (f.steady x);
  calm = λ x. s.calm (f.steady x) ∙ f.calm x;
}
