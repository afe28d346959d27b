-- What collecting the parts of an extraction comes to.
use Rattle.tile_extract.proofs.Common.{CollectCauses, CollectRefuses, Entry, Err, ExtractError, Header, IfSome, IsCollected, List, None, of_walk_error, Ok, one_told, Option, refl, StopCauses, subst}
use Rattle.tile_extract.proofs.Common.{sym, Walked, walked, Within, ℕ, ◌≡◌}
use Rattle.pm_format.specs.declared.error.PmtError.TheVariants as errors
use Rattle.pm_format.specs.declared.error.ReadCause.TheVariants as causes
use Rattle.pm_walk.specs.Gathering.{Gathers}
use Rattle.pm_walk.specs.declared.error.WalkError.{WalkError}
use Rattle.pm_walk.specs.declared.error.WalkError.TheVariants as walk

walk_refused : (w : Walked) (is : List (ℕ × ℕ)) (most before now : ℕ) (x : WalkError) → StopCauses Within before now x → Gathers Within w is most (Err x) → CollectRefuses w is most (of_walk_error most x)
walk_refused w is most before now (walk.Archive errors.OutOfMemory) cause r = tt
walk_refused w is most before now (walk.Archive (errors.Reading causes.Fault)) cause r = tt
walk_refused w is most before now (walk.Archive (errors.UnexpectedNumberOfBytesReturned asked got)) cause r = absurd r
walk_refused w is most before now (walk.Archive e) cause r = r.0
walk_refused w is most before now walk.TooManyTiles cause r = (refl, r.0, r.1)
walk_refused w is most before now x cause r = absurd cause

pub walk_causes : (most before now : ℕ) (x : WalkError) → StopCauses Within before now x → CollectCauses most before now (of_walk_error most x)
walk_causes most before now (walk.Archive errors.OutOfMemory) c = tt
walk_causes most before now (walk.Archive e) c = c
walk_causes most before now walk.TooManyTiles c = refl
walk_causes most before now x c = absurd c

-- the same over told bytes, with the intervals in the words of the code
pub told_collected : (told : Option (List ℕ)) (h : Header) (is found : List (ℕ × ℕ)) (root : List Entry) (most : ℕ) (ps : List Entry) → found ≡ is → IfSome told (λ b. Gathers Within (walked Within 6 h b found 0 None root) found most (Ok ps))
    → IfSome told (λ b. IsCollected (walked Within 6 h b is 0 None root) is most ps)
told_collected told h is found root most ps same gathered =
    one_told (λ b. Gathers Within (walked Within 6 h b found 0 None root) found most (Ok ps)) (λ b. IsCollected (walked Within 6 h b is 0 None root) is most ps) told
    (λ b g. subst (λ l. IsCollected (walked Within 6 h b l 0 None root) l most ps) same (record { fine = g.0; are = g.1; few = g.2 })) gathered

pub told_refused : (told : Option (List ℕ)) (h : Header) (is found : List (ℕ × ℕ)) (root : List Entry) (most before now : ℕ) (x : WalkError) (y : ExtractError) → found ≡ is → y ≡ of_walk_error most x → StopCauses Within before now x
    → IfSome told (λ b. Gathers Within (walked Within 6 h b found 0 None root) found most (Err x)) → IfSome told (λ b. CollectRefuses (walked Within 6 h b is 0 None root) is most y)
told_refused told h is found root most before now x y same word cause refused =
    one_told (λ b. Gathers Within (walked Within 6 h b found 0 None root) found most (Err x)) (λ b. CollectRefuses (walked Within 6 h b is 0 None root) is most y) told
    (λ b r. subst (CollectRefuses (walked Within 6 h b is 0 None root) is most) (sym word)
    (subst (λ l. CollectRefuses (walked Within 6 h b l 0 None root) l most (of_walk_error most x)) same (walk_refused (walked Within 6 h b found 0 None root) found most before now x cause r))) refused
