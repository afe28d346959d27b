-- What a conversion leaves, and what that says where the options are its caller's, whatever the set.
use Rattle.tile_bridge.proofs.Common.{aggregate, BaseLeaves, Bool, ConvertCauses, ConvertError, ConvertLeaves, ConvertOptions, ConvertReport, Coord, Err, HasAggregate, HasPlaces, IfOk, IfSome, inl}
use Rattle.tile_bridge.proofs.Common.{inr, IsBaseOf, IsConverted, IsDue, IsEmpty, IsOfSet, IsUntouched, Leaves, LeavesPart, List, MediumFault, None, Ok, Option, Options, OutOfMemory, ReadBack, refl}
use Rattle.tile_bridge.proofs.Common.{Result, SetCauses, SetLeaves, Some, State, subst, sym, Tables, true, ℕ, ◌≡◌}
use Rattle.tile_bridge.proofs.OutcomeLemmas.{part_same, same_both, set_leaves, untold}

module _ (gives : State → Options → Type 0) (due : Option (Result State ConvertError)) (o : ConvertOptions) (base_tells : Bool) (tells : List Bool) (told : List Tables) (coords : List Coord)
    (r : Result ConvertReport ConvertError) (old mid new : Option (List ℕ)) (base base_now : Tables) where
  -- a set that is at hand, converted to a medium that tells what it told before
  pub of_set : (s : State) (w : Options) (hash : List ℕ) → IsDue due s → gives s w → IsEmpty old → mid ≡ old → SetCauses mid r → SetLeaves w s.tiles coords r mid new → IfOk r (HasPlaces w s.tiles mid) → IfOk r (λ report. report.aggregate ≡ hash)
      → hash ≡ aggregate s.algorithm s.tiles → (base_tells ≡ true → IsBaseOf o tells told s base base_now) → Leaves gives due o base_tells tells told coords r old new base base_now
  of_set s w hash due given empty same ended leaves places has right store = inr (record {
    state = s;
    options = w;
    is_due = due;
    given = given;
    empty = empty;
    ended = subst (λ m. SetCauses m r) same ended;
    medium = subst (λ m. SetLeaves w s.tiles coords r m new) same leaves;
    aggregate_is = subst (λ h. IfOk r (λ (report : ConvertReport). report.aggregate ≡ h)) right has;
    places = subst (λ m. IfOk r (HasPlaces w s.tiles m)) same places;
    store = store;
  })

module _ (o : ConvertOptions) (due : Option (Result State ConvertError)) (base_tells : Bool) (tells : List Bool) (told : List Tables) (coords : List Coord) (old new : Option (List ℕ)) (base base_now : Tables) where
  abbrev LeavesAll : Result ConvertReport ConvertError → Type 0
  LeavesAll r = Leaves (λ s w. w ≡ o.writer) due o base_tells tells told coords r old new base base_now

  untouched : (r : Result ConvertReport ConvertError) → ConvertCauses o.writer due old r → IsUntouched r old new base base_now → ConvertLeaves o.writer due coords r old new
  untouched (Ok r) causes u = absurd u.refused
  untouched (Err MediumFault) causes u = same_both (LeavesPart o.writer due) old new u.medium (part_same o.writer due)
  untouched (Err (ReadBack e)) causes u = untold (λ a b. b ≡ a) _ old new causes.0 (same_both (λ a b. b ≡ a) old new u.medium (λ b. refl))
  untouched (Err OutOfMemory) causes u = same_both (LeavesPart o.writer due) old new u.medium (part_same o.writer due)
  untouched (Err _) causes u = same_both (λ a b. b ≡ a) old new u.medium (λ b. refl)

  -- what the medium holds
  pub stated_leaves : (r : Result ConvertReport ConvertError) → ConvertCauses o.writer due old r → LeavesAll r → ConvertLeaves o.writer due coords r old new
  stated_leaves r causes (inl u) = untouched r causes u
  stated_leaves r causes (inr s) = set_leaves o.writer due s.state s.is_due coords r old new s.empty s.ended (subst (λ w. SetLeaves w s.state.tiles coords r old new) s.given s.medium)

  -- the aggregate hash of the report
  pub stated_aggregate : (r : Result ConvertReport ConvertError) → LeavesAll r → IfOk r (HasAggregate due)
  stated_aggregate (Ok r) (inl u) = absurd u.refused
  stated_aggregate (Ok r) (inr s) = (s.state, s.is_due, s.aggregate_is)
  stated_aggregate (Err e) leaves = tt

  -- what is said of both told contents is said of those that are told now
  archive_now : (s : State) (r : ConvertReport) (old new : Option (List ℕ)) → SetLeaves o.writer s.tiles coords (Ok r) old new → IfSome new (λ b. IsConverted b o.writer s.tiles coords r)
  archive_now s r old None leaves = tt
  archive_now s r None (Some b) leaves = absurd leaves
  archive_now s r (Some a) (Some b) leaves = leaves

  kept : (r : Result ConvertReport ConvertError) → IsUntouched r old new base base_now → BaseLeaves o base_tells tells told coords r new base base_now
  kept (Ok r) u = absurd u.refused
  kept (Err MediumFault) u = inl u.store
  kept (Err (ReadBack e)) u = inl u.store
  kept (Err OutOfMemory) u = inl u.store
  kept (Err _) u = u.store

  patched : (r : Result ConvertReport ConvertError) → IsOfSet (λ s w. w ≡ o.writer) due o base_tells tells told coords r old new base base_now → BaseLeaves o base_tells tells told coords r new base base_now
  patched (Ok r) s = λ t.
      let final_is = sym (s.store t).1 in
      record {
        after = (s.store t).0;
        aggregate_is = subst (λ (f : State). r.aggregate ≡ aggregate f.algorithm f.tiles) final_is s.aggregate_is;
        archive = subst (λ (f : State). IfSome new (λ b. IsConverted b o.writer f.tiles coords r)) final_is (archive_now s.state r old new (subst (λ w. SetLeaves w s.state.tiles coords (Ok r) old new) s.given s.medium));
      }
  patched (Err MediumFault) s = inr (λ t. (s.store t).0)
  patched (Err (ReadBack e)) s = inr (λ t. (s.store t).0)
  patched (Err OutOfMemory) s = inr (λ t. (s.store t).0)
  patched (Err _) s = absurd s.ended

  -- what the base holds
  pub stated_base : (r : Result ConvertReport ConvertError) → LeavesAll r → BaseLeaves o base_tells tells told coords r new base base_now
  stated_base r (inl u) = kept r u
  stated_base r (inr s) = patched r s
