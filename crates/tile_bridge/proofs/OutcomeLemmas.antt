-- What a conversion answers and leaves, by what is due.
use Rattle.tile_bridge.proofs.Common.{ap, ConvertCauses, ConvertError, ConvertLeaves, ConvertReport, Coord, Err, IfSome, IndexEntryOverflow, inl, inr, is_ok, IsDue, IsEmpty, IsErrAnd, IsOk, IsPlain}
use Rattle.tile_bridge.proofs.Common.{IsStoreError, LeavesPart, List, MediumFault, None, Ok, Option, Options, OutOfMemory, ReadBack, refl, Refuses, Result, SetCauses, SetLeaves, ShowsNoPart, Some}
use Rattle.tile_bridge.proofs.Common.{State, Store, StoreFault, subst, sym, ℕ, [], ◌∷◌, ◌≡◌}
use Rattle.pm_contents.specs.Pieces.{BothTold}

-- a fact on bytes of which each is what it was
pub same_both : (P : List ℕ → List ℕ → Type 0) (old new : Option (List ℕ)) → new ≡ old → ((b : List ℕ) → P b b) → BothTold P old new
same_both P old new same h = subst (BothTold P old) (sym same) (itself old)
  where
    itself : (told : Option (List ℕ)) → BothTold P told told
    itself None = tt
    itself (Some b) = h b

-- where nothing was told before, nothing is said of both
pub untold : (P Q : List ℕ → List ℕ → Type 0) (old new : Option (List ℕ)) → old ≡ None → BothTold P old new → BothTold Q old new
untold P Q None None none h = tt
untold P Q None (Some b) none h = h
untold P Q (Some a) new none h = absurd (cc)

module _ (o : Options) (due : Option (Result State ConvertError)) where
  -- nothing was written
  pub part_same : (b : List ℕ) → LeavesPart o due b b
  part_same [] = inl refl
  part_same (byte ∷ bytes) = refl

  -- a set that is refused
  pub refused_causes : (told : Option (List ℕ)) (e : ConvertError) (r : Result ConvertReport ConvertError) → IsEmpty told → IsPlain o → Refuses due e → IsErrAnd r (λ x. x ≡ e) → ConvertCauses o due told r
  refused_causes told e (Ok x) empty plain h is = absurd is
  refused_causes told e (Err x) empty plain h is = subst (λ x. ConvertCauses o due told (Err x)) (sym is) (by_case e h)
    where
      by_case : (e : ConvertError) → Refuses due e → ConvertCauses o due told (Err e)
      by_case (Store place e) h = (empty, plain, h.0, h.1)
      by_case IndexEntryOverflow h = (empty, plain, h)
      by_case (StoreFault place) h = (empty, plain)
      by_case OutOfMemory h = tt
      by_case _ h = absurd h

  -- a set that is converted
  module _ (s : State) (is : IsDue due s) where
    is_final : IfSome due IsOk
    is_final = by due is
      where
        by : (due : Option (Result State ConvertError)) → IsDue due s → IfSome due IsOk
        by None is = tt
        by (Some d) is = ap is_ok is

    pub set_causes : (told : Option (List ℕ)) (r : Result ConvertReport ConvertError) → IsEmpty told → IsPlain o → SetCauses told r → ConvertCauses o due told r
    set_causes told (Ok x) empty plain c = (empty, plain, is_final)
    set_causes told (Err MediumFault) empty plain c = tt
    set_causes told (Err (ReadBack e)) empty plain c = (c.0, plain, is_final, c.1)
    set_causes told (Err OutOfMemory) empty plain c = tt
    set_causes told (Err _) empty plain c = absurd c

    part : (e : ConvertError) (a b : List ℕ) → a ≡ [] → ShowsNoPart o s.tiles b → LeavesPart o due a b
    part e [] b empty (inl hidden) = inl hidden
    part e [] b empty (inr whole) = inr (s, is, whole)
    part e (byte ∷ bytes) b empty h = absurd (cc)

    parts : (e : ConvertError) (coords : List Coord) (old new : Option (List ℕ)) → IsEmpty old → SetLeaves o s.tiles coords (Err e) old new → BothTold (LeavesPart o due) old new
    parts e coords None None empty h = tt
    parts e coords None (Some b) empty h = h
    parts e coords (Some a) None empty h = h
    parts e coords (Some a) (Some b) empty h = part e a b empty h

    pub set_leaves : (coords : List Coord) (r : Result ConvertReport ConvertError) (old new : Option (List ℕ)) → IsEmpty old → SetCauses old r → SetLeaves o s.tiles coords r old new → ConvertLeaves o due coords r old new
    set_leaves coords (Ok r) None None empty c h = tt
    set_leaves coords (Ok r) None (Some b) empty c h = h
    set_leaves coords (Ok r) (Some a) None empty c h = h
    set_leaves coords (Ok r) (Some a) (Some b) empty c h = (s, is, h)
    set_leaves coords (Err MediumFault) old new empty c h = parts MediumFault coords old new empty h
    set_leaves coords (Err (ReadBack e)) old new empty c h = untold _ _ old new c.0 h
    set_leaves coords (Err OutOfMemory) old new empty c h = parts OutOfMemory coords old new empty h
    set_leaves coords (Err _) old new empty c h = absurd c

-- a store's fault, or running out of memory, is no refusal of the set
pub store_refuses : (due : Option (Result State ConvertError)) (e : ConvertError) → IsStoreError e → Refuses due e
store_refuses due (StoreFault place) h = tt
store_refuses due OutOfMemory h = tt
store_refuses due _ h = absurd h
