-- A walk over bytes that may be told.
use Rattle.pm_walk.proofs.Common.{ap, Archive, AreOrdered, arith, below, Bool, Collected, end_before, Entry, entry_walk, Err, Extent, false, Header, IfSome, IsMetLeaf, leaf_of, length, List}
use Rattle.pm_walk.proofs.Common.{MeetReads, Meets, meets, nat_tests, None, Ok, Option, refl, Result, Some, stands, stays_within, subst, suc, sym, true, walked, WalkError, Walks, zero, ℕ, ◌+◌, ◌-◌}
use Rattle.pm_walk.proofs.Common.{◌∙◌, ◌∷◌, ◌≡◌, ◌≤◌}
use Rattle.pm_format.specs.declared.error.PmtError.TheVariants as errors
use Rattle.pm_walk.proofs.ClippingLemmas.{no_items}
use Rattle.pm_walk.proofs.CollectingLemmas.{ordered_end, ordered_later, starts_within}
use Rattle.pm_walk.proofs.ToldLemmas.{both_told}
use Rattle.pm_walk.proofs.WalkingLemmas.{SoFar, all_gone, fallen, past_leaf, reach, stood_by, stopped, stopped_below, went_on}

-- the walk of a directory so far
abbrev pub Goes : Extent → Option (List ℕ) → Header → List (ℕ × ℕ) → ℕ → ℕ → Option ℕ → List Entry → Option Entry → List Entry → Collected → Collected → ℕ → ℕ → Type 0
Goes ext told h is left low limit es before rest old now first reads = IfSome told (λ b. SoFar ext h b is left low limit es before rest old now first reads)

-- what a walk answers, and how often it reads
abbrev pub Ends : Extent → Option (List ℕ) → Header → List (ℕ × ℕ) → ℕ → ℕ → Option ℕ → List Entry → Collected → Collected → ℕ → ℕ → Result Unit WalkError → Type 0
Ends ext told h is left low limit es old new first reads r =
    IfSome told (λ b. Walks ext (walked ext left h b is low limit es) is old new r) × IfSome told (λ b. reads ≤ first + (walked ext left h b is low limit es).reads)

-- both of them, where one fact on told bytes gives them
ends_by : (P : List ℕ → Type 0) (told : Option (List ℕ)) (ext : Extent) (h : Header) (is : List (ℕ × ℕ)) (left low : ℕ) (limit : Option ℕ) (es : List Entry) (old new : Collected) (first reads : ℕ) (r : Result Unit WalkError)
    → ((b : List ℕ) → P b → Walks ext (walked ext left h b is low limit es) is old new r × (reads ≤ first + (walked ext left h b is low limit es).reads)) → IfSome told P → Ends ext told h is left low limit es old new first reads r
ends_by P None ext h is left low limit es old new first reads r f p = (tt, tt)
ends_by P (Some b) ext h is left low limit es old new first reads r f p = f b p

-- an entry at the front of what is left, and its tests
pub record AtFront (left low : ℕ) (limit : Option ℕ) (before : Option Entry) (rest : List Entry) (e : Entry) (others : List Entry) (end : Option ℕ) (test stand : Bool) : Type 0 where
  pub first : rest ≡ e ∷ others
  pub end_is : end ≡ end_before others limit
  pub tested : test ≡ stands left before low limit end e
  pub is : test ≡ stand

stand_is : (left low : ℕ) (limit : Option ℕ) (before : Option Entry) (rest : List Entry) (e : Entry) (others : List Entry) (end : Option ℕ) (test stand : Bool) → AtFront left low limit before rest e others end test stand
    → stands left before low limit (end_before others limit) e ≡ stand
stand_is left low limit before rest e others end test stand a = ap (λ x. stands left before low limit x e) (sym a.end_is) ∙ sym a.tested ∙ a.is

pub told_fallen : (told : Option (List ℕ)) (ext : Extent) (h : Header) (is : List (ℕ × ℕ)) (left low : ℕ) (limit : Option ℕ) (es : List Entry) (before : Option Entry) (rest : List Entry) (e : Entry) (others : List Entry) (end : Option ℕ) (test : Bool) (old now : Collected) (first reads : ℕ)
    → AtFront left low limit before rest e others end test false → Goes ext told h is left low limit es before rest old now first reads → Ends ext told h is left low limit es old now first reads (Err (Archive errors.InvalidEntry))
told_fallen told ext h is left low limit es before rest e others end test old now first reads a s =
    ends_by (λ b. SoFar ext h b is left low limit es before rest old now first reads) told ext h is left low limit es old now first reads (Err (Archive errors.InvalidEntry))
    (λ b t. fallen ext h b is left low limit es before e others old now first reads (stand_is left low limit before rest e others end test false a) (subst (λ l. SoFar ext h b is left low limit es before l old now first reads) a.first t)) s

pub told_all_gone : (told : Option (List ℕ)) (ext : Extent) (h : Header) (is : List (ℕ × ℕ)) (left low : ℕ) (limit : Option ℕ) (es : List Entry) (before : Option Entry) (rest : List Entry) (old now : Collected) (first reads : ℕ)
    → length rest ≡ 0 → Goes ext told h is left low limit es before rest old now first reads → Ends ext told h is left low limit es old now first reads (Ok tt)
told_all_gone told ext h is left low limit es before rest old now first reads none s =
    ends_by (λ b. SoFar ext h b is left low limit es before rest old now first reads) told ext h is left low limit es old now first reads (Ok tt)
    (λ b t. all_gone ext h b is left low limit es before old now first reads (subst (λ l. SoFar ext h b is left low limit es before l old now first reads) (no_items rest none) t)) s

-- an entry that is met, over told bytes
abbrev MetAt : Extent → Header → List ℕ → List (ℕ × ℕ) → ℕ → Entry → Option ℕ → Collected → Collected → ℕ → ℕ → Result (Option (List Entry)) WalkError → Type 0
MetAt ext h b is left e end mid now between reads r = Meets ext h b is left e end mid now r × MeetReads (entry_walk ext (below ext left h b is) h b is e end) between reads r

met_told : (again : Option (List ℕ)) (ext : Extent) (h : Header) (is : List (ℕ × ℕ)) (left : ℕ) (e : Entry) (end : Option ℕ) (mid now : Collected) (between reads : ℕ) (r : Result (Option (List Entry)) WalkError)
    → IfSome again (λ b. Meets ext h b is left e end mid now r) → IfSome again (λ b. MeetReads (entry_walk ext (below ext left h b is) h b is e end) between reads r) → IfSome again (λ b. MetAt ext h b is left e end mid now between reads r)
met_told None ext h is left e end mid now between reads r m n = tt
met_told (Some b) ext h is left e end mid now between reads r m n = (m, n)

pub told_past : (told again : Option (List ℕ)) (ext : Extent) (h : Header) (is : List (ℕ × ℕ)) (left low : ℕ) (limit : Option ℕ) (es : List Entry) (before : Option Entry) (rest : List Entry) (e : Entry) (others : List Entry) (end : Option ℕ) (test : Bool) (old mid now : Collected) (first between reads : ℕ) (r : Result (Option (List Entry)) WalkError)
    → again ≡ told → AtFront left low limit before rest e others end test true → r ≡ Ok None → Goes ext told h is left low limit es before rest old mid first between
    → IfSome again (λ b. Meets ext h b is left e end mid now r) → IfSome again (λ b. MeetReads (entry_walk ext (below ext left h b is) h b is e end) between reads r)
    → Goes ext told h is left low limit es (Some e) others old now first reads
told_past told again ext h is left low limit es before rest e others end test old mid now first between reads r same a ok s m n =
    both_told (λ b. SoFar ext h b is left low limit es before rest old mid first between) (λ b. MetAt ext h b is left e end mid now between reads r) (λ b. SoFar ext h b is left low limit es (Some e) others old now first reads) told again same
    (λ b t k.
    let met : MetAt ext h b is left e (end_before others limit) mid now between reads (Ok None) = subst (λ x. MetAt ext h b is left e x mid now between reads (Ok None)) a.end_is (subst (λ x. MetAt ext h b is left e end mid now between reads x) ok k) in
    went_on ext h b is left low limit es before e others old mid now first between reads (entry_walk ext (below ext left h b is) h b is e (end_before others limit)) (stand_is left low limit before rest e others end test true a)
    (subst (λ l. SoFar ext h b is left low limit es before l old mid first between) a.first t) refl met.0.0 met.0.1 met.1)
    s (met_told again ext h is left e end mid now between reads r m n)

pub told_stopped : (told again : Option (List ℕ)) (ext : Extent) (h : Header) (is : List (ℕ × ℕ)) (left low : ℕ) (limit : Option ℕ) (es : List Entry) (before : Option Entry) (rest : List Entry) (e : Entry) (others : List Entry) (end : Option ℕ) (test : Bool) (old mid now : Collected) (first between reads : ℕ) (r : Result (Option (List Entry)) WalkError) (x : WalkError)
    → again ≡ told → AtFront left low limit before rest e others end test true → r ≡ Err x → Goes ext told h is left low limit es before rest old mid first between
    → IfSome again (λ b. Meets ext h b is left e end mid now r) → IfSome again (λ b. MeetReads (entry_walk ext (below ext left h b is) h b is e end) between reads r)
    → Ends ext told h is left low limit es old now first reads (Err x)
told_stopped told again ext h is left low limit es before rest e others end test old mid now first between reads r x same a err s m n =
    ends_by (λ b. SoFar ext h b is left low limit es before rest old mid first between × MetAt ext h b is left e end mid now between reads r) told ext h is left low limit es old now first reads (Err x)
    (λ b t.
    let met : MetAt ext h b is left e (end_before others limit) mid now between reads (Err x) = subst (λ y. MetAt ext h b is left e y mid now between reads (Err x)) a.end_is (subst (λ y. MetAt ext h b is left e end mid now between reads y) err t.1) in
    stopped ext h b is left low limit es before e others old mid now first between reads (entry_walk ext (below ext left h b is) h b is e (end_before others limit)) x (stand_is left low limit before rest e others end test true a)
    (subst (λ l. SoFar ext h b is left low limit es before l old mid first between) a.first t.0) refl met.0 met.1)
    (both_told (λ b. SoFar ext h b is left low limit es before rest old mid first between) (λ b. MetAt ext h b is left e end mid now between reads r) (λ b. SoFar ext h b is left low limit es before rest old mid first between × MetAt ext h b is left e end mid now between reads r) told again same
    (λ b t k. (t, k)) s (met_told again ext h is left e end mid now between reads r m n))

-- a leaf that was read, and its walk
pub record Below (told again last : Option (List ℕ)) (ext : Extent) (h : Header) (is : List (ℕ × ℕ)) (left low : ℕ) (limit : Option ℕ) (es : List Entry) (before : Option Entry) (rest : List Entry) (e : Entry) (others leaf : List Entry) (end : Option ℕ) (test : Bool) (old mid read now : Collected) (first between after_leaf reads : ℕ)
    (id fewer : ℕ) (r : Result (Option (List Entry)) WalkError) (w : Result Unit WalkError) : Type 0 where
  pub same : again ≡ told
  pub kept : last ≡ told
  pub front : AtFront left low limit before rest e others end test true
  pub read_is : r ≡ Ok (Some leaf)
  pub met_leaf : IsMetLeaf ext is left e end mid read
  pub fewer_is : fewer ≡ left - 1
  pub id_is : id ≡ e.tile_id
  pub goes : Goes ext told h is left low limit es before rest old mid first between
  pub meets : IfSome again (λ b. Meets ext h b is left e end mid read r)
  pub one : IfSome again (λ b. MeetReads (entry_walk ext (below ext left h b is) h b is e end) between after_leaf r)
  pub walks : IfSome last (λ b. Walks ext (walked ext fewer h b is id end leaf) is read now w)
  pub more : IfSome last (λ b. reads ≤ after_leaf + (walked ext fewer h b is id end leaf).reads)

-- the same over told bytes, with each name in its place
record Placed (b : List ℕ) (ext : Extent) (h : Header) (is : List (ℕ × ℕ)) (n low : ℕ) (limit : Option ℕ) (es : List Entry) (before : Option Entry) (e : Entry) (others leaf : List Entry) (old mid now : Collected) (first between after_leaf reads : ℕ) (w : Result Unit WalkError) : Type 0 where
  pub stand : stands (suc n) before low limit (end_before others limit) e ≡ true
  pub goes : SoFar ext h b is (suc n) low limit es before (e ∷ others) old mid first between
  pub run : e.run_length ≡ 0
  pub met : meets ext is e.tile_id (end_before others limit) ≡ true
  pub found : leaf_of h b e ≡ Ok leaf
  pub one : after_leaf ≤ between + 1
  pub walks : Walks ext (walked ext n h b is e.tile_id (end_before others limit) leaf) is mid now w
  pub more : reads ≤ after_leaf + (walked ext n h b is e.tile_id (end_before others limit) leaf).reads

placed : (b : List ℕ) (again last : Option (List ℕ)) (ext : Extent) (h : Header) (is : List (ℕ × ℕ)) (n low : ℕ) (limit : Option ℕ) (es : List Entry) (before : Option Entry) (rest : List Entry) (e : Entry) (others leaf : List Entry) (end : Option ℕ) (test : Bool) (old mid read now : Collected) (first between after_leaf reads : ℕ)
    (id fewer : ℕ) (r : Result (Option (List Entry)) WalkError) (w : Result Unit WalkError)
    → Below (Some b) again last ext h is (suc n) low limit es before rest e others leaf end test old mid read now first between after_leaf reads id fewer r w
    → Placed b ext h is n low limit es before e others leaf old mid now first between after_leaf reads w
placed b again last ext h is n low limit es before rest e others leaf end test old mid read now first between after_leaf reads id fewer r w s =
    let less : suc n - 1 ≡ n = omega arith in
    let fewer_is : fewer ≡ n = s.fewer_is ∙ less in
    let met : Meets ext h b is (suc n) e end mid read (Ok (Some leaf)) = subst (λ x. Meets ext h b is (suc n) e end mid read x) s.read_is (subst (λ a. IfSome a (λ c. Meets ext h c is (suc n) e end mid read r)) s.same s.meets) in
    let walks : Walks ext (walked ext n h b is e.tile_id end leaf) is read now w =
    subst (λ k. Walks ext (walked ext k h b is e.tile_id end leaf) is read now w) fewer_is (subst (λ i. Walks ext (walked ext fewer h b is i end leaf) is read now w) s.id_is (subst (λ a. IfSome a (λ c. Walks ext (walked ext fewer h c is id end leaf) is read now w)) s.kept s.walks)) in
    let more : reads ≤ after_leaf + (walked ext n h b is e.tile_id end leaf).reads =
    subst (λ k. reads ≤ after_leaf + (walked ext k h b is e.tile_id end leaf).reads) fewer_is (subst (λ i. reads ≤ after_leaf + (walked ext fewer h b is i end leaf).reads) s.id_is (subst (λ a. IfSome a (λ c. reads ≤ after_leaf + (walked ext fewer h c is id end leaf).reads)) s.kept s.more)) in
    record {
      stand = stand_is (suc n) low limit before rest e others end test true s.front;
      goes = subst (λ l. SoFar ext h b is (suc n) low limit es before l old mid first between) s.front.first s.goes;
      run = met.0;
      met = subst (λ x. meets ext is e.tile_id x ≡ true) s.front.end_is met.1;
      found = met.2;
      one = subst (λ x. MeetReads (entry_walk ext (below ext (suc n) h b is) h b is e end) between after_leaf x) s.read_is (subst (λ a. IfSome a (λ c. MeetReads (entry_walk ext (below ext (suc n) h c is) h c is e end) between after_leaf r)) s.same s.one);
      walks = subst (λ x. Walks ext (walked ext n h b is e.tile_id x leaf) is mid now w) s.front.end_is (subst (λ x. Walks ext (walked ext n h b is e.tile_id end leaf) is x now w) met.3 walks);
      more = subst (λ x. reads ≤ after_leaf + (walked ext n h b is e.tile_id x leaf).reads) s.front.end_is more;
    }

pub told_past_leaf : (told again last : Option (List ℕ)) (ext : Extent) (h : Header) (is : List (ℕ × ℕ)) (left low : ℕ) (limit : Option ℕ) (es : List Entry) (before : Option Entry) (rest : List Entry) (e : Entry) (others leaf : List Entry) (end : Option ℕ) (test : Bool) (old mid read now : Collected) (first between after_leaf reads : ℕ)
    (id fewer : ℕ) (r : Result (Option (List Entry)) WalkError)
    → Below told again last ext h is left low limit es before rest e others leaf end test old mid read now first between after_leaf reads id fewer r (Ok tt)
    → Goes ext told h is left low limit es (Some e) others old now first reads
told_past_leaf None again last ext h is left low limit es before rest e others leaf end test old mid read now first between after_leaf reads id fewer r s = tt
told_past_leaf (Some b) again last ext h is zero low limit es before rest e others leaf end test old mid read now first between after_leaf reads id fewer r s = absurd (s.met_leaf.deep refl)
told_past_leaf (Some b) again last ext h is (suc n) low limit es before rest e others leaf end test old mid read now first between after_leaf reads id fewer r s =
    let p = placed b again last ext h is n low limit es before rest e others leaf end test old mid read now first between after_leaf reads id fewer r (Ok tt) s in
    past_leaf ext h b is n low limit es before e others leaf old mid now first between after_leaf reads p.stand p.goes p.run p.met p.found p.one p.walks p.more

pub told_stopped_below : (told again last : Option (List ℕ)) (ext : Extent) (h : Header) (is : List (ℕ × ℕ)) (left low : ℕ) (limit : Option ℕ) (es : List Entry) (before : Option Entry) (rest : List Entry) (e : Entry) (others leaf : List Entry) (end : Option ℕ) (test : Bool) (old mid read now : Collected) (first between after_leaf reads : ℕ)
    (id fewer : ℕ) (r : Result (Option (List Entry)) WalkError) (x : WalkError)
    → Below told again last ext h is left low limit es before rest e others leaf end test old mid read now first between after_leaf reads id fewer r (Err x)
    → Ends ext told h is left low limit es old now first reads (Err x)
told_stopped_below None again last ext h is left low limit es before rest e others leaf end test old mid read now first between after_leaf reads id fewer r x s = (tt, tt)
told_stopped_below (Some b) again last ext h is zero low limit es before rest e others leaf end test old mid read now first between after_leaf reads id fewer r x s = absurd (s.met_leaf.deep refl)
told_stopped_below (Some b) again last ext h is (suc n) low limit es before rest e others leaf end test old mid read now first between after_leaf reads id fewer r x s =
    let p = placed b again last ext h is n low limit es before rest e others leaf end test old mid read now first between after_leaf reads id fewer r (Err x) s in
    stopped_below ext h b is n low limit es before e others leaf old mid now first between after_leaf reads x p.stand p.goes p.run p.met p.found p.one p.walks p.more

-- The order of the parts: where those before an entry end, and those with it.
front_ordered : (left low : ℕ) (limit : Option ℕ) (before : Option Entry) (rest : List Entry) (e : Entry) (others : List Entry) (end : Option ℕ) (test : Bool) (mid : Collected) → AtFront left low limit before rest e others end test true
    → AreOrdered 0 mid.parts (reach before low limit rest) → AreOrdered 0 mid.parts (Some e.tile_id)
front_ordered left low limit None rest e others end test mid a o =
    let s = stood_by left None low limit (end_before others limit) e (stand_is left low limit None rest e others end test true a) in
    ordered_later 0 mid.parts low e.tile_id (let t = s.least in let le : low ≤ e.tile_id = grind (arith, nat_tests) in le) o
front_ordered left low limit (Some d) rest e others end test mid a o = subst (λ l. AreOrdered 0 mid.parts (end_before l limit)) a.first o

end_within : (left low : ℕ) (limit : Option ℕ) (before : Option Entry) (rest : List Entry) (e : Entry) (others : List Entry) (end : Option ℕ) (test : Bool) → AtFront left low limit before rest e others end test true → stays_within end (e.tile_id + e.run_length) ≡ true
end_within left low limit before rest e others end test a =
    (stood_by left before low limit end e (sym a.tested ∙ a.is)).ends

pub order_step : (left low : ℕ) (limit : Option ℕ) (before : Option Entry) (rest : List Entry) (e : Entry) (others : List Entry) (end : Option ℕ) (test : Bool) (mid now : Collected) → AtFront left low limit before rest e others end test true
    → AreOrdered 0 mid.parts (reach before low limit rest) → (AreOrdered 0 mid.parts (Some e.tile_id) → stays_within end (e.tile_id + e.run_length) ≡ true → AreOrdered 0 now.parts end)
    → AreOrdered 0 now.parts (end_before others limit)
order_step left low limit before rest e others end test mid now a o f =
    subst (AreOrdered 0 now.parts) a.end_is (f (front_ordered left low limit before rest e others end test mid a o) (end_within left low limit before rest e others end test a))

pub order_leaf : (left low : ℕ) (limit : Option ℕ) (before : Option Entry) (rest : List Entry) (e : Entry) (others : List Entry) (end : Option ℕ) (test : Bool) (mid read now : Collected) (id : ℕ) → AtFront left low limit before rest e others end test true
    → AreOrdered 0 mid.parts (reach before low limit rest) → read ≡ mid → id ≡ e.tile_id → (AreOrdered 0 read.parts (Some id) → stays_within end id ≡ true → AreOrdered 0 now.parts end)
    → AreOrdered 0 now.parts (end_before others limit)
order_leaf left low limit before rest e others end test mid read now id a o kept same f =
    subst (AreOrdered 0 now.parts) a.end_is
    (f (subst (λ n. AreOrdered 0 read.parts (Some n)) (sym same) (subst (λ m. AreOrdered 0 m.parts (Some e.tile_id)) (sym kept) (front_ordered left low limit before rest e others end test mid a o)))
    (subst (λ n. stays_within end n ≡ true) (sym same) (starts_within end e.tile_id e.run_length (end_within left low limit before rest e others end test a))))

pub order_end : (low : ℕ) (limit : Option ℕ) (before : Option Entry) (rest : List Entry) (now : Collected) → length rest ≡ 0 → stays_within limit low ≡ true → AreOrdered 0 now.parts (reach before low limit rest) → AreOrdered 0 now.parts limit
order_end low limit None rest now none within o = ordered_end 0 now.parts low limit within o
order_end low limit (Some d) rest now none within o = subst (λ l. AreOrdered 0 now.parts (end_before l limit)) (no_items rest none) o
