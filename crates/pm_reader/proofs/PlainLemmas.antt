-- Tiles that are to be plain.
use Rattle.pm_reader.proofs.Common.{ap, archive_tile, Compression, Err, GivesUnmodified, IfSome, IsWhole, List, None, Ok, Option, PlainCauses, PmtError, refl, Result, Some, subst, sym}
use Rattle.pm_reader.proofs.Common.{UnmodifiedCauses, ℕ, ◌≡◌}
use Rattle.pm_format.specs.declared.compression.Compression.TheVariants as compression
use Rattle.pm_format.specs.declared.error.PmtError.TheVariants as errors
use Rattle.pm_reader.specs.Versions.{plain}
use Rattle.pm_reader.proofs.FollowingLemmas.{gives_refused}

plain_gives : (label : Compression) (tile : Result (Option (List ℕ)) PmtError) (r : Result (Option (List ℕ)) PmtError) → GivesUnmodified tile tile r → GivesUnmodified tile (plain label tile) (plain label r)
plain_gives compression.None tile r h = h
plain_gives label tile (Ok (Some bytes)) h = ap (plain label) h
plain_gives label tile (Ok None) h = ap (plain label) h
plain_gives label tile (Err (errors.SourceModified a b)) h = h
plain_gives label tile (Err errors.InvalidMetadataUtf8Encoding) h = h
plain_gives label tile (Err errors.BudgetSpent) h = h
plain_gives label tile (Err e) h = gives_refused tile (plain label tile) e (λ q. ap (plain label) q) h

pub plain_answer : (told : Option (List ℕ)) (t : ℕ) (label : Compression) (r given : Result (Option (List ℕ)) PmtError) → given ≡ plain label r → IfSome told (λ b. GivesUnmodified (archive_tile b t) (archive_tile b t) r)
    → IfSome told (λ b. GivesUnmodified (archive_tile b t) (plain label (archive_tile b t)) given)
plain_answer None t label r given same h = tt
plain_answer (Some b) t label r given same h =
    let P : Result (Option (List ℕ)) PmtError → Type 0 = λ x. GivesUnmodified (archive_tile b t) (plain label (archive_tile b t)) x in
    subst P (sym same) (plain_gives label (archive_tile b t) r h)

-- the same under a condition
pub plain_answer_if : (told : Option (List ℕ)) (C : List ℕ → Type 0) (t : ℕ) (label : Compression) (r given : Result (Option (List ℕ)) PmtError) → given ≡ plain label r
    → IfSome told (λ b. C b → GivesUnmodified (archive_tile b t) (archive_tile b t) r) → IfSome told (λ b. C b → GivesUnmodified (archive_tile b t) (plain label (archive_tile b t)) given)
plain_answer_if None C t label r given same h = tt
plain_answer_if (Some b) C t label r given same h = λ able.
    let P : Result (Option (List ℕ)) PmtError → Type 0 = λ x. GivesUnmodified (archive_tile b t) (plain label (archive_tile b t)) x in
    subst P (sym same) (plain_gives label (archive_tile b t) r (h able))

refusal_stays : (label : Compression) (e : PmtError) → plain label (Err e) ≡ Err e
refusal_stays compression.None e = refl
refusal_stays label e = refl

causes_refused : (label : Compression) (before now : ℕ) (e : PmtError) → UnmodifiedCauses {A = Option (List ℕ)} before now (Err e) → PlainCauses {A = Option (List ℕ)} label before now (Err e)
causes_refused label before now (errors.UnsupportedCompression other) h = absurd h
causes_refused label before now e h = h

causes_plain : (label : Compression) (before now : ℕ) (r : Result (Option (List ℕ)) PmtError) → UnmodifiedCauses before now r → PlainCauses label before now (plain label r)
causes_plain compression.None before now (Ok found) h = h
causes_plain label before now (Ok (Some bytes)) h = (refl, λ e. cc)
causes_plain label before now (Ok None) h = h
causes_plain label before now (Err e) h = let P : Result (Option (List ℕ)) PmtError → Type 0 = λ x. PlainCauses label before now x in subst P (sym (refusal_stays label e)) (causes_refused label before now e h)

pub plain_causes : (label : Compression) (before now : ℕ) (r given : Result (Option (List ℕ)) PmtError) → given ≡ plain label r → UnmodifiedCauses before now r → PlainCauses label before now given
plain_causes label before now r given same h = let P : Result (Option (List ℕ)) PmtError → Type 0 = λ x. PlainCauses label before now x in subst P (sym same) (causes_plain label before now r h)

whole_plain : (label : Compression) (r : Result (Option (List ℕ)) PmtError) → IsWhole r → IsWhole (plain label r)
whole_plain compression.None r h = h
whole_plain label (Ok (Some bytes)) h = tt
whole_plain label (Ok None) h = tt
whole_plain label (Err e) h = let P : Result (Option (List ℕ)) PmtError → Type 0 = λ x. IsWhole x in subst P (sym (refusal_stays label e)) h

pub plain_whole : (told : Option (List ℕ)) (label : Compression) (r given : Result (Option (List ℕ)) PmtError) → given ≡ plain label r → IfSome told (λ _. IsWhole r) → IfSome told (λ _. IsWhole given)
plain_whole None label r given same h = tt
plain_whole (Some b) label r given same h = let P : Result (Option (List ℕ)) PmtError → Type 0 = λ x. IsWhole x in subst P (sym same) (whole_plain label r h)
