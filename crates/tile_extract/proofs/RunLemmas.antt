-- Where the words ask for what can be extracted and no count rose, a run is done, or memory ran out.
use Rattle.tile_extract.proofs.Common.{Answers, ArchivePlaces, Asked, asked, CanExtract, Causes, Coord, ExtractError, IfSome, IsDoneOrWanting, List, None, Option, Result, Rose, Some, subst, sym, ℕ}
use Rattle.tile_extract.proofs.Common.{[], ◌≡◌}
use Rattle.tile_extract.proofs.CompleteLemmas.{all_end_well}

-- an answer that ends well, where the medium tells that it is empty
abbrev AskedWell : Asked → Option (List ℕ) → ℕ → ℕ → ℕ → ℕ → Result ArchivePlaces ExtractError → List ℕ → Type 0
AskedWell a held before now old new r b = CanExtract b a.root a.max_zoom a.max_tiles → held ≡ Some [] → (Rose before now → ⊥) → (Rose old new → ⊥) → IsDoneOrWanting r

told_well : (c : Coord) (m most : ℕ) (told held : Option (List ℕ)) (before now old new : ℕ) (r : Result ArchivePlaces ExtractError) → Causes c m most held before now old new r → IfSome told (λ b. Answers held b c m most r)
    → IfSome told (AskedWell (asked c m most) held before now old new r)
told_well c m most None held before now old new r cause is = tt
told_well c m most (Some b) held before now old new r cause is =
    λ can empty calm quiet. all_end_well b c m most r before now old new can (subst (λ h. Causes c m most h before now old new r) empty cause) (subst (λ h. Answers h b c m most r) empty is) calm quiet

pub run_well : (asks : Option Asked) (c : Coord) (m most : ℕ) (told held : Option (List ℕ)) (before now old new : ℕ) (r : Result ArchivePlaces ExtractError) → Causes c m most held before now old new r
    → IfSome told (λ b. Answers held b c m most r) → asks ≡ Some (asked c m most) → IfSome asks (λ a. IfSome told (AskedWell a held before now old new r))
run_well asks c m most told held before now old new r cause is some =
    subst (λ w. IfSome w (λ a. IfSome told (AskedWell a held before now old new r))) (sym some) (told_well c m most told held before now old new r cause is)
