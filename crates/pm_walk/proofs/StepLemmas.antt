-- What a walk along the entries of a directory makes of what was collected.
use Rattle.pm_walk.proofs.Common.{Archive, AreApart, AreOrdered, below, Bool, Collected, Entry, entry_walk, Err, Extent, false, Header, Holds, IfSome, KeepsContents, Kept, length, List, MeetReads}
use Rattle.pm_walk.proofs.Common.{MeetsEntry, None, Ok, OnOk, Option, refl, Result, Some, subst, true, WalkError, WalksAll, ℕ, ◌-◌, ◌≡◌}
use Rattle.pm_format.specs.declared.error.PmtError.TheVariants as errors
use Rattle.pm_walk.proofs.TakingLemmas.{same_kept}
use Rattle.pm_walk.proofs.WalkToldLemmas.{AtFront, Below, Goes, order_end, order_leaf, order_step, told_all_gone, told_fallen, told_past, told_past_leaf, told_stopped, told_stopped_below}
use Rattle.pm_walk.proofs.WalkingLemmas.{SoFar, begun_at, reach}
use Rattle.pm_walk.proofs.ToldLemmas.{any_told}

-- One step behind another.
pub kept_then : {A B : Type 0} (k : Extent) (told again : Option (List ℕ)) (h : Header) (is : List (ℕ × ℕ)) (a m n : Collected) (x : A) (r : Result B WalkError) → again ≡ told → Kept {A = A} k told h is a m (Ok x) → Kept k again h is m n r → Kept k told h is a n r
kept_then k told again h is a m n x r same p q = record {
  keeps = λ most kept. q.keeps most (p.keeps most kept);
  contents = λ kept. subst (λ t. KeepsContents k t h m → OnOk r (KeepsContents k t h n)) same q.contents (p.contents kept);
  room = λ has. q.room (p.room has);
  stop = λ has. q.stop (p.room has);
}

-- the same of another answer that isn't refused
pub kept_as : {A B : Type 0} (k : Extent) (told : Option (List ℕ)) (h : Header) (is : List (ℕ × ℕ)) (a m : Collected) (x : A) (y : B) → Kept {A = A} k told h is a m (Ok x) → Kept {A = B} k told h is a m (Ok y)
kept_as k told h is a m x y p = record { keeps = p.keeps; contents = p.contents; room = p.room; stop = λ has. tt }

pub kept_err : {A B : Type 0} (k : Extent) (told : Option (List ℕ)) (h : Header) (is : List (ℕ × ℕ)) (a m : Collected) (x : WalkError) → Kept {A = A} k told h is a m (Err x) → Kept {A = B} k told h is a m (Err x)
kept_err k told h is a m x p = record { keeps = λ most kept. tt; contents = λ kept. tt; room = λ has. tt; stop = p.stop }

-- what was collected of a directory's entries, some being left
pub record OnTheWay {T : Type 0} (holds : T → List Entry → List (List ℕ) → Type 0) (k : Extent) (told : Option (List ℕ)) (h : Header) (is : List (ℕ × ℕ)) (left low : ℕ) (limit : Option ℕ) (es : List Entry) (before : Option Entry) (rest : List Entry) (old : Collected) (taker : T)
    (room : Option ℕ) (first reads : ℕ) : Type 0 where
  pub now : Collected
  pub held : Holds holds taker room now
  pub goes : Goes k told h is left low limit es before rest old now first reads
  pub ordered : AreApart 0 is → AreOrdered 0 old.parts (Some low) → AreOrdered 0 now.parts (reach before low limit rest)
  pub kept : Kept {A = Unit {0}} k told h is old now (Ok tt)

pub begins : {T : Type 0} (holds : T → List Entry → List (List ℕ) → Type 0) (k : Extent) (told : Option (List ℕ)) (h : Header) (is : List (ℕ × ℕ)) (left low : ℕ) (limit : Option ℕ) (es rest : List Entry) (c : Collected) (taker : T) (room : Option ℕ) (first : ℕ)
    → rest ≡ es → Holds holds taker room c → OnTheWay holds k told h is left low limit es None rest c taker room first first
begins holds k told h is left low limit es rest c taker room first same held = record {
  now = c;
  held = held;
  goes = any_told (λ b. SoFar k h b is left low limit es None rest c c first first) told (λ b. begun_at k h b is left low limit es rest c first same);
  ordered = λ apart before. before;
  kept = same_kept k told h is c (Ok tt) (λ has. tt);
}

-- an entry that doesn't stand
pub falls : {T : Type 0} (holds : T → List Entry → List (List ℕ) → Type 0) (k : Extent) (told : Option (List ℕ)) (h : Header) (is : List (ℕ × ℕ)) (left low : ℕ) (limit : Option ℕ) (es : List Entry) (before : Option Entry) (rest : List Entry) (e : Entry) (others : List Entry) (end : Option ℕ)
    (test : Bool) (c : Collected) (taker : T) (room : Option ℕ) (first reads : ℕ)
    → AtFront left low limit before rest e others end test false → OnTheWay holds k told h is left low limit es before rest c taker room first reads → WalksAll holds k told h is left low limit es c taker room first reads (Err (Archive errors.InvalidEntry))
falls holds k told h is left low limit es before rest e others end test c taker room first reads a w =
    let both = told_fallen told k h is left low limit es before rest e others end test c w.now first reads a w.goes in
    record {
      new = w.now;
      leaves = (w.held.1, tt);
      answer = both.0;
      ordered = λ apart first within. tt;
      kept = kept_then k told told h is c w.now w.now tt (Err (Archive errors.InvalidEntry)) refl w.kept (same_kept k told h is w.now (Err (Archive errors.InvalidEntry)) (λ has. has));
      reads = both.1;
    }

-- all entries are behind it
pub ends : {T : Type 0} (holds : T → List Entry → List (List ℕ) → Type 0) (k : Extent) (told : Option (List ℕ)) (h : Header) (is : List (ℕ × ℕ)) (left low : ℕ) (limit : Option ℕ) (es : List Entry) (before : Option Entry) (rest : List Entry) (c : Collected) (taker : T) (room : Option ℕ)
    (first reads : ℕ) → length rest ≡ 0 → OnTheWay holds k told h is left low limit es before rest c taker room first reads → WalksAll holds k told h is left low limit es c taker room first reads (Ok tt)
ends holds k told h is left low limit es before rest c taker room first reads none w =
    let both = told_all_gone told k h is left low limit es before rest c w.now first reads none w.goes in
    record {
      new = w.now;
      leaves = (w.held.1, w.held.0);
      answer = both.0;
      ordered = λ apart first within. order_end low limit before rest w.now none within (w.ordered apart first);
      kept = w.kept;
      reads = both.1;
    }

-- an entry that is refused
pub stops : {T : Type 0} (holds : T → List Entry → List (List ℕ) → Type 0) (k : Extent) (told again : Option (List ℕ)) (h : Header) (is : List (ℕ × ℕ)) (left low : ℕ) (limit : Option ℕ) (es : List Entry) (before : Option Entry) (rest : List Entry) (e : Entry) (others : List Entry)
    (end : Option ℕ) (test : Bool) (c : Collected) (taker next : T) (room more : Option ℕ) (first between reads : ℕ) (r : Result (Option (List Entry)) WalkError) (x : WalkError)
    → again ≡ told → AtFront left low limit before rest e others end test true → r ≡ Err x → OnTheWay holds k told h is left low limit es before rest c taker room first between
    → ((m : Collected) → Holds holds taker room m → MeetsEntry holds k again h is left e end m next more r) → IfSome again (λ b. MeetReads (entry_walk k (below k left h b is) h b is e end) between reads r)
    → WalksAll holds k told h is left low limit es c next more first reads (Err x)
stops holds k told again h is left low limit es before rest e others end test c taker next room more first between reads r x same a err w meets one =
    let m : MeetsEntry holds k again h is left e end w.now next more (Err x) = subst (λ y. MeetsEntry holds k again h is left e end w.now next more y) err (meets w.now w.held) in
    let both = told_stopped told again k h is left low limit es before rest e others end test c w.now m.new first between reads (Err x) x same a refl w.goes m.answer
    (subst (λ y. IfSome again (λ b. MeetReads (entry_walk k (below k left h b is) h b is e end) between reads y)) err one) in
    record {
      new = m.new;
      leaves = m.leaves;
      answer = both.0;
      ordered = λ apart first within. tt;
      kept = kept_then k told again h is c w.now m.new tt (Err x) same w.kept (kept_err k again h is w.now m.new x m.kept);
      reads = both.1;
    }

-- behind a tile, or a leaf that isn't met
pub passes : {T : Type 0} (holds : T → List Entry → List (List ℕ) → Type 0) (k : Extent) (told again : Option (List ℕ)) (h : Header) (is : List (ℕ × ℕ)) (left low : ℕ) (limit : Option ℕ) (es : List Entry) (before : Option Entry) (rest : List Entry) (e : Entry) (others : List Entry)
    (end : Option ℕ) (test : Bool) (c : Collected) (taker next : T) (room more : Option ℕ) (first between reads : ℕ) (r : Result (Option (List Entry)) WalkError)
    → again ≡ told → AtFront left low limit before rest e others end test true → r ≡ Ok None → OnTheWay holds k told h is left low limit es before rest c taker room first between
    → ((m : Collected) → Holds holds taker room m → MeetsEntry holds k again h is left e end m next more r) → IfSome again (λ b. MeetReads (entry_walk k (below k left h b is) h b is e end) between reads r)
    → OnTheWay holds k told h is left low limit es (Some e) others c next more first reads
passes holds k told again h is left low limit es before rest e others end test c taker next room more first between reads r same a ok w meets one =
    let m : MeetsEntry holds k again h is left e end w.now next more (Ok None) = subst (λ y. MeetsEntry holds k again h is left e end w.now next more y) ok (meets w.now w.held) in
    record {
      now = m.new;
      held = (m.leaves.1, m.leaves.0);
      goes = told_past told again k h is left low limit es before rest e others end test c w.now m.new first between reads (Ok None) same a refl w.goes m.answer
          (subst (λ y. IfSome again (λ b. MeetReads (entry_walk k (below k left h b is) h b is e end) between reads y)) ok one);
      ordered = λ apart first. order_step left low limit before rest e others end test w.now m.new a (w.ordered apart first) (λ ordered within. m.ordered apart ordered within);
      kept = kept_then k told again h is c w.now m.new tt (Ok tt) same w.kept (kept_as k again h is w.now m.new None tt m.kept);
    }

-- a leaf that was read, with its walk
pub record Under {T : Type 0} (holds : T → List Entry → List (List ℕ) → Type 0) (k : Extent) (told again last : Option (List ℕ)) (h : Header) (is : List (ℕ × ℕ)) (left low : ℕ) (limit : Option ℕ) (es : List Entry) (before : Option Entry) (rest : List Entry) (e : Entry) (others leaf : List Entry)
    (end : Option ℕ) (test : Bool) (c : Collected) (taker mid next : T) (room between more : Option ℕ) (first at after_leaf reads id fewer : ℕ) (r : Result (Option (List Entry)) WalkError) (w : Result Unit WalkError) : Type 0 where
  pub same : again ≡ told
  pub kept : last ≡ told
  pub front : AtFront left low limit before rest e others end test true
  pub read_is : r ≡ Ok (Some leaf)
  pub fewer_is : fewer ≡ left - 1
  pub id_is : id ≡ e.tile_id
  pub way : OnTheWay holds k told h is left low limit es before rest c taker room first at
  pub meets : (m : Collected) → Holds holds taker room m → MeetsEntry holds k again h is left e end m mid between r
  pub one : IfSome again (λ b. MeetReads (entry_walk k (below k left h b is) h b is e end) at after_leaf r)
  pub walks : (m : Collected) → Holds holds mid between m → WalksAll holds k last h is fewer id end leaf m next more after_leaf reads w

-- the same in the words of a walk over told bytes
below_it : {T : Type 0} (holds : T → List Entry → List (List ℕ) → Type 0) (k : Extent) (told again last : Option (List ℕ)) (h : Header) (is : List (ℕ × ℕ)) (left low : ℕ) (limit : Option ℕ) (es : List Entry) (before : Option Entry) (rest : List Entry) (e : Entry) (others leaf : List Entry)
    (end : Option ℕ) (test : Bool) (c : Collected) (taker mid next : T) (room between more : Option ℕ) (first at after_leaf reads id fewer : ℕ) (r : Result (Option (List Entry)) WalkError) (w : Result Unit WalkError)
    (u : Under holds k told again last h is left low limit es before rest e others leaf end test c taker mid next room between more first at after_leaf reads id fewer r w)
    (m : MeetsEntry holds k again h is left e end u.way.now mid between (Ok (Some leaf))) (v : WalksAll holds k last h is fewer id end leaf m.new next more after_leaf reads w)
    → Below told again last k h is left low limit es before rest e others leaf end test c u.way.now m.new v.new first at after_leaf reads id fewer (Ok (Some leaf)) w
below_it holds k told again last h is left low limit es before rest e others leaf end test c taker mid next room between more first at after_leaf reads id fewer r w u m v = record {
  same = u.same;
  kept = u.kept;
  front = u.front;
  read_is = refl;
  met_leaf = m.below;
  fewer_is = u.fewer_is;
  id_is = u.id_is;
  goes = u.way.goes;
  meets = m.answer;
  one = subst (λ y. IfSome again (λ b. MeetReads (entry_walk k (below k left h b is) h b is e end) at after_leaf y)) u.read_is u.one;
  walks = v.answer;
  more = v.reads;
}

-- behind it
pub passes_leaf : {T : Type 0} (holds : T → List Entry → List (List ℕ) → Type 0) (k : Extent) (told again last : Option (List ℕ)) (h : Header) (is : List (ℕ × ℕ)) (left low : ℕ) (limit : Option ℕ) (es : List Entry) (before : Option Entry) (rest : List Entry) (e : Entry) (others leaf : List Entry)
    (end : Option ℕ) (test : Bool) (c : Collected) (taker mid next : T) (room between more : Option ℕ) (first at after_leaf reads id fewer : ℕ) (r : Result (Option (List Entry)) WalkError)
    → Under holds k told again last h is left low limit es before rest e others leaf end test c taker mid next room between more first at after_leaf reads id fewer r (Ok tt) → OnTheWay holds k told h is left low limit es (Some e) others c next more first reads
passes_leaf holds k told again last h is left low limit es before rest e others leaf end test c taker mid next room between more first at after_leaf reads id fewer r u =
    let m : MeetsEntry holds k again h is left e end u.way.now mid between (Ok (Some leaf)) = subst (λ y. MeetsEntry holds k again h is left e end u.way.now mid between y) u.read_is (u.meets u.way.now u.way.held) in
    let v = u.walks m.new (m.leaves.1, m.leaves.0) in
    record {
      now = v.new;
      held = (v.leaves.1, v.leaves.0);
      goes = told_past_leaf told again last k h is left low limit es before rest e others leaf end test c u.way.now m.new v.new first at after_leaf reads id fewer (Ok (Some leaf))
          (below_it holds k told again last h is left low limit es before rest e others leaf end test c taker mid next room between more first at after_leaf reads id fewer r (Ok tt) u m v);
      ordered = λ apart first. order_leaf left low limit before rest e others end test u.way.now m.new v.new id u.front (u.way.ordered apart first) m.below.kept u.id_is (λ ordered within. v.ordered apart ordered within);
      kept = kept_then {A = Unit {0}} k told last h is c m.new v.new tt (Ok tt) u.kept (kept_then {A = Unit {0}} {B = Unit {0}} k told again h is c u.way.now m.new tt (Ok tt) u.same u.way.kept (kept_as k again h is u.way.now m.new (Some leaf) (tt {0}) m.kept)) v.kept;
    }

-- and where it is refused
pub stops_under : {T : Type 0} (holds : T → List Entry → List (List ℕ) → Type 0) (k : Extent) (told again last : Option (List ℕ)) (h : Header) (is : List (ℕ × ℕ)) (left low : ℕ) (limit : Option ℕ) (es : List Entry) (before : Option Entry) (rest : List Entry) (e : Entry) (others leaf : List Entry)
    (end : Option ℕ) (test : Bool) (c : Collected) (taker mid next : T) (room between more : Option ℕ) (first at after_leaf reads id fewer : ℕ) (r : Result (Option (List Entry)) WalkError) (x : WalkError)
    → Under holds k told again last h is left low limit es before rest e others leaf end test c taker mid next room between more first at after_leaf reads id fewer r (Err x) → WalksAll holds k told h is left low limit es c next more first reads (Err x)
stops_under holds k told again last h is left low limit es before rest e others leaf end test c taker mid next room between more first at after_leaf reads id fewer r x u =
    let m : MeetsEntry holds k again h is left e end u.way.now mid between (Ok (Some leaf)) = subst (λ y. MeetsEntry holds k again h is left e end u.way.now mid between y) u.read_is (u.meets u.way.now u.way.held) in
    let v = u.walks m.new (m.leaves.1, m.leaves.0) in
    let both = told_stopped_below told again last k h is left low limit es before rest e others leaf end test c u.way.now m.new v.new first at after_leaf reads id fewer (Ok (Some leaf)) x
    (below_it holds k told again last h is left low limit es before rest e others leaf end test c taker mid next room between more first at after_leaf reads id fewer r (Err x) u m v) in
    record {
      new = v.new;
      leaves = v.leaves;
      answer = both.0;
      ordered = λ apart first within. tt;
      kept = kept_then {A = Unit {0}} k told last h is c m.new v.new tt (Err x) u.kept (kept_then {A = Unit {0}} {B = Unit {0}} k told again h is c u.way.now m.new tt (Ok tt) u.same u.way.kept (kept_as k again h is u.way.now m.new (Some leaf) (tt {0}) m.kept)) v.kept;
      reads = both.1;
    }
