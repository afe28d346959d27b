-- The steps of an extraction over a source that may tell its bytes.
use Rattle.tile_extract.proofs.Common.{PartAnswers, CollectCauses, CollectRefuses, TilePart, Entry, Err, ExtractError, header_of, IfSome, IsCollected, List, None, Ok, one_told, Option, root_of}
use Rattle.tile_extract.proofs.Common.{Some, subst, Walked, walked, Within, ℕ, ◌≡◌}
use Rattle.pm_reader.specs.declared.state.ReaderState.{ReaderState}
use Rattle.tile_extract.specs.Opening.{SourceRead}
use Rattle.tile_extract.proofs.DoneLemmas.{Planned}
use Rattle.tile_extract.proofs.PlanLemmas.{ComesEarly, Found, collect_early, early_answers}

-- the walk of an opened reader
abbrev pub walk_of : TilePart → ReaderState → List ℕ → Walked
walk_of part s b = walked Within 6 (header_of s) b part.intervals 0 None (root_of s)

found_of : (b : List ℕ) (s : ReaderState) (text : List ℕ) → SourceRead b (Ok (s, text)) → Found b (header_of s) (root_of s) text
found_of b s text is = record { opens = is.0; metadata = is.1; utf8 = is.2 }

-- the parts of a source
pub planned : (part : TilePart) (most : ℕ) (s : ReaderState) (text : List ℕ) (ps : List Entry) (told again : Option (List ℕ)) → again ≡ told → IfSome told (λ b. SourceRead b (Ok (s, text))) → IfSome again (λ b. IsCollected (walk_of part s b) part.intervals most ps)
    → IfSome told (Planned part most (header_of s) (root_of s) text ps)
planned part most s text ps None again same read are = tt
planned part most s text ps (Some b) again same read are = record { found = found_of b s text read; collected = subst (λ a. IfSome a (λ b. IsCollected (walk_of part s b) part.intervals most ps)) same are }

-- refusals before the archive is begun
pub uncollected : (part : TilePart) (most before now : ℕ) (s : ReaderState) (text : List ℕ) (x : ExtractError) (told again : Option (List ℕ)) → again ≡ told → IfSome told (λ b. SourceRead b (Ok (s, text))) → CollectCauses most before now x
    → IfSome again (λ b. CollectRefuses (walk_of part s b) part.intervals most x) → IfSome told (λ b. ComesEarly b part most x)
uncollected part most before now s text x None again same read cause refused = tt
uncollected part most before now s text x (Some b) again same read cause refused =
    collect_early b part most before now (header_of s) (root_of s) text x (found_of b s text read) cause (subst (λ a. IfSome a (λ b. CollectRefuses (walk_of part s b) part.intervals most x)) same refused)

pub answered : (part : TilePart) (most : ℕ) (x : ExtractError) (told held : Option (List ℕ)) → IfSome told (λ b. ComesEarly b part most x) → IfSome told (λ b. PartAnswers held b part most (Err x))
answered part most x told held early = one_told (λ b. ComesEarly b part most x) (λ b. PartAnswers held b part most (Err x)) told (λ b is. early_answers held b part most x is) early
